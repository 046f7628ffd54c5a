-- The refusals of requests, queries and aggregations as they are replied.
use Rattle.std.specs.Prelude.{◌≡◌, Result, Ok, Err}
use Rattle.agg_model.specs.declared.agg_error.AggError.{AggError}
use Rattle.agg_model.specs.declared.agg_error.AggError.TheVariants as agg_errors
use Rattle.query_reader.specs.declared.refusal.QueryError.{QueryError}
use Rattle.query_reader.specs.declared.refusal.QueryError.TheVariants as query_errors
use Rattle.search_api.specs.declared.request_error.RequestError.{RequestError}
use Rattle.search_api.specs.declared.request_error.RequestError.TheVariants as request_errors
use Rattle.search_api.specs.declared.reply.Refusal.TheVariants as refusals
use Rattle.search_api.specs.declared.unanswered.Unanswered.{Unanswered}
use Rattle.search_api.specs.declared.unanswered.Unanswered.TheVariants.{Refused, Memory}

abbrev pub of_query : QueryError → Unanswered
of_query (query_errors.Syntax place) = Refused (refusals.Syntax place)
of_query (query_errors.UnknownField name) = Refused (refusals.UnknownField name)
of_query (query_errors.BadValue place) = Refused (refusals.BadValue place)
of_query (query_errors.NoDefaultField place) = Refused (refusals.NoDefaultField place)
of_query (query_errors.NoPositions place) = Refused (refusals.NoPositions place)
of_query (query_errors.TooDeep place) = Refused (refusals.TooDeep place)
of_query (query_errors.NotIndexed place) = Refused (refusals.NotIndexed place)
of_query (query_errors.Memory error) = Memory error

abbrev pub of_aggs : AggError → Unanswered
of_aggs (agg_errors.NotFast field) = Refused (refusals.NotFast field)
of_aggs (agg_errors.BadInterval name) = Refused (refusals.BadInterval name)
of_aggs (agg_errors.TooManyBuckets count) = Refused (refusals.TooManyBuckets count)
of_aggs (agg_errors.Memory error) = Memory error

abbrev pub of_request : RequestError → Unanswered
of_request request_errors.NotJson = Refused refusals.NotJson
of_request (request_errors.UnknownKey name) = Refused (refusals.UnknownKey name)
of_request (request_errors.WrongKind name) = Refused (refusals.WrongKind name)
of_request (request_errors.TooManyHits wanted) = Refused (refusals.TooManyHits wanted)
of_request (request_errors.MissingKey name) = Refused (refusals.MissingKey name)
of_request (request_errors.Memory error) = Memory error

-- want of memory says nothing of the request
abbrev pub WantsMemory : Unanswered → Type 0
WantsMemory (Memory error) = Unit {0}
WantsMemory (Refused refusal) = ⊥

-- the answer is what this stands for, unless memory is wanting
abbrev pub Shows : {A B : Type 0} → (B → A) → Result A Unanswered → Result B Unanswered → Type 0
Shows view answer (Ok x) = answer ≡ Ok (view x)
Shows view answer (Err reason) = ¬ WantsMemory reason → answer ≡ Err reason
