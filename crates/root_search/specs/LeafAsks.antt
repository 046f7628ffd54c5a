-- What a search asks of each split.
use Rattle.std.specs.Prelude.{◌≡◌, ℕ, ◌+◌, ◌==◌, if◌then◌else◌}
use Rattle.query_ast.specs.Sought.{view}
use Rattle.search_api.specs.Resolved.{Search}
use Rattle.root_search.specs.Answer.{order_of}
use Rattle.root_search.specs.declared.leaf_asks.LeafAsk.{LeafAsk}

-- how many hits of each split: those that are passed over too, but none where none is shown
abbrev pub wanted_of : Search → ℕ
wanted_of search = if search.max_hits == 0 then 0 else search.start_offset + search.max_hits

-- the documents, their order, how many of the first of them, and what is counted
pub record Asks (search : Search) (ask : LeafAsk) : Type 0 where
  pub query : view ask.request.query ≡ search.query
  pub times : ask.request.times ≡ search.times
  pub order : ask.request.order ≡ order_of search.sort
  pub wanted : ask.request.wanted ≡ wanted_of search
  pub aggs : ask.request.aggs ≡ search.aggs
  pub passed : ask.page.passed ≡ search.start_offset
  pub shown : ask.page.shown ≡ search.max_hits
