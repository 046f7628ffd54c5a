-- How many bytes of a split file a step draws.
use Rattle.std.specs.Prelude.{◌≡◌, ℕ, ◌+◌, ◌-◌, ◌≤◌, ◌==◌, Bool, ◌&&◌, List, length, Option, Some, None, Result, Ok, Err, is_some, nat_eq, sum_by, if◌then◌else◌, ⊤}
use Rattle.std.specs.Map.{lookup}
use Rattle.std.specs.Option.{option_map_or}
use Rattle.std.specs.declared.alloc.AllocError.{AllocError}
use Rattle.doc_value.specs.declared.schema.Schema.{Schema}
use Rattle.query_ast.specs.Meaning.{is_unlimited, meaning, within_times}
use Rattle.term_dict.specs.Bounds.{IsBlockOf, block_terms}
use Rattle.term_dict.specs.Terms.{area}
use Rattle.split_bundle.specs.Files.{Parts, file_bytes, footer_bytes}
use Rattle.split_bundle.specs.Lists.{terms_of}
use Rattle.split_bundle.specs.Splits.{IsSplitOf}
use Rattle.split_bundle.specs.declared.placed.Placed.{Placed}
use Rattle.doc_tallies.specs.Near.{shown}
use Rattle.leaf_search.specs.Counts.{one_key}
use Rattle.leaf_search.specs.Numbers.{numbers_of}
use Rattle.leaf_search.specs.Shown.{document_cost}
use Rattle.index_world.specs.Core.{Core, IsStoredIn}
use Rattle.search_api.specs.Resolved.{Search}
use Rattle.root_search.specs.Answer.{order_of}
use Rattle.root_search.specs.Footers.{entries}
use Rattle.root_search.specs.LeafAsks.{wanted_of}
use Rattle.root_search.specs.Steps.{Plan, config_at}
use Rattle.root_search.specs.declared.outcome.SearchStep.{SearchStep}
use Rattle.root_search.specs.declared.outcome.SearchStep.TheVariants.{Fetched, Idle, Planned, Replied}
use Rattle.root_search.specs.declared.searcher.Searcher.{Searcher}

-- the key of which a search counts the documents, where it asks nothing else: it shows no hit, its times have no edge, nothing is
-- aggregated, and its query is one text of one token
abbrev pub counted_key : Schema → Search → Option (List ℕ)
counted_key s search =
    if (search.max_hits == 0) && (is_unlimited search.times.start search.times.end && (length search.aggs == 0)) then one_key s search.query else None

-- whether a searcher keeps the footer of the split with a number
abbrev pub keeps_footer : Searcher → ℕ → Bool
keeps_footer searcher number = is_some (lookup (nat_eq number) (entries searcher.footers))

-- how many bytes a footer has with what stands behind it, where it isn't kept
abbrev pub footer_cost : Bool → Parts → ℕ
footer_cost kept p = if kept then 0 else length (footer_bytes p) + 12

-- how many bytes the block with a number has, if there is one
abbrev pub block_cost : Schema → List Placed → Parts → Option ℕ → ℕ
block_cost s documents p number = option_map_or (λ n. length (area (block_terms (terms_of s documents p.keys) n))) number 0

-- the numbers of the documents of a split that a search may show: of those that match and lie in its times, the ones with fewer than are
-- wanted ahead of them by the value of its order; without an order all of these; and none where it shows no hit
abbrev pub may_show : Schema → Search → List Placed → List ℕ
may_show s search documents = shown (order_of search.sort) (wanted_of search) documents (numbers_of (λ doc. meaning s doc search.query && within_times s search.times doc) documents)

-- So few bytes are drawn of the file of these parts for a search. Where it shows no hit, not more than the file has beside the
-- documents. Where it only counts the documents of one token, the footer and the block in which the token's key would stand. And where
-- of the split's documents at most 256 may be shown, not more than the file has beside the documents, and what these few have with
-- their entries in the table of starts.
pub record DrawsFew (s : Schema) (search : Search) (kept : Bool) (documents : List Placed) (p : Parts) (drawn : ℕ) : Type 0 where
  pub no_documents : search.max_hits ≡ 0 → drawn ≤ length (file_bytes p) - length p.documents
  pub one_block : (key : List ℕ) (number : Option ℕ) → counted_key s search ≡ Some key → IsBlockOf p.index key number → drawn ≤ footer_cost kept p + block_cost s documents p number
  pub page : length (may_show s search documents) ≤ 256 → drawn ≤ length (file_bytes p) - length p.documents + sum_by (document_cost p documents) (may_show s search documents)

-- A step that answers Fetched and the number of a split draws as few of its file. The count of fetched bytes rises by so many.
abbrev pub StepDraws : Searcher → Plan → Result SearchStep AllocError → ℕ → ℕ → Core → Type 0
StepDraws searcher plan result before after core =
    (number : ℕ) (documents : List Placed) (p : Parts) → result ≡ Ok (Fetched number) → IsStoredIn core number (file_bytes p) →
    IsSplitOf (config_at plan.revision core).schema documents p →
    DrawsFew (config_at plan.revision core).schema plan.search (keeps_footer searcher number) documents p (after - before)

-- it answers no Fetched
abbrev pub NeverFetched : Result SearchStep AllocError → Type 0
NeverFetched (Ok Idle) = ⊤
NeverFetched (Ok (Planned revision count)) = ⊤
NeverFetched (Ok (Fetched number)) = ⊥
NeverFetched (Ok (Replied reply)) = ⊤
NeverFetched (Err e) = ⊤
