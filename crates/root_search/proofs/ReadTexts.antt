-- What was read of a text is what it asks.
use Rattle.std.proofs.Common.{◌≡◌, ℕ, List, ap, ap₂, Result, Ok}
use Rattle.doc_value.specs.declared.facts.TimeRange.{TimeRange}
use Rattle.index_config.specs.declared.config.IndexConfig.{IndexConfig}
use Rattle.index_world.specs.declared.tokens.DeleteAsk.{DeleteAsk}
use Rattle.search_api.specs.Kinds.{◌>>=◌}
use Rattle.search_api.specs.Resolved.{resolved}
use Rattle.search_api.specs.declared.request.Request.{Request}
use Rattle.search_api.specs.declared.request_error.RequestError.{RequestError}
use Rattle.search_api.specs.declared.resolved.Deletion.{Deletion}
use Rattle.root_search.specs.Requests.{ask_of, read_or}

-- a text that is a request asks what that asks of the schema
pub asked_as : (config : IndexConfig) (r : Result Request RequestError) (request : Request) → r ≡ Ok request → (read_or r >>= resolved config.schema config.default_fields) ≡ resolved config.schema config.default_fields request
asked_as config r request is = ap (λ (q : Result Request RequestError). read_or q >>= resolved config.schema config.default_fields) is

abbrev asks_for : List ℕ → List (List ℕ) → TimeRange → DeleteAsk
asks_for text fields times = record { text = text; fields = fields; times = times }

-- the same texts ask for the same task
pub ask_is : (deletion : Deletion) (text : List ℕ) (fields : List (List ℕ)) → text ≡ deletion.text → fields ≡ deletion.fields → asks_for text fields deletion.times ≡ ask_of deletion
ask_is deletion text fields t f = ap₂ (λ (x : List ℕ) (y : List (List ℕ)). asks_for x y deletion.times) t f
