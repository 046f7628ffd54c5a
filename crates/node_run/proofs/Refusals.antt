-- What a text is refused for, or what it counts, is of the text.
use Rattle.std.proofs.Common.{ℕ, Bool, true, false, nat_lt, List, Result, Ok, Err, if◌then◌else◌, length, map}
use Rattle.doc_value.specs.declared.schema.Schema.{Schema}
use Rattle.index_config.specs.declared.config.IndexConfig.{IndexConfig}
use Rattle.agg_nested.specs.Answers.{all_buckets, nested_answer, told}
use Rattle.agg_nested.specs.declared.answer.NestedAnswer.{NestedAnswer}
use Rattle.agg_model.specs.Answers.{most_buckets}
use Rattle.split_bundle.specs.declared.placed.Placed.{Placed}
use Rattle.doc_tallies.specs.Picked.{docs_of}
use Rattle.search_api.specs.Requests.{request_of}
use Rattle.search_api.specs.Resolved.{Search, resolved}
use Rattle.search_api.specs.declared.reply.Refusal.{Refusal}
use Rattle.search_api.specs.declared.reply.Refusal.TheVariants as refusals
use Rattle.search_api.specs.declared.reply.Said.TheVariants as said
use Rattle.search_api.specs.declared.request.Request.{Request}
use Rattle.search_api.specs.declared.request_error.RequestError.{RequestError}
use Rattle.search_api.specs.declared.request_error.RequestError.TheVariants as request_errors
use Rattle.root_search.specs.Answer.{answer, matching, printed, shown}
use Rattle.root_search.specs.Requests.{asked_of, read_or}
use Rattle.request_laws.specs.OfText.{IsOfText, OfText}
use Rattle.request_laws.proofs.Refusals.{bind_of, resolved_of}
use Rattle.node_run.specs.Telling.{RefusalMayTell, SaidMayTell}

pub text_may : (refusal : Refusal) → IsOfText refusal → RefusalMayTell refusal
text_may (refusals.StoreFault before after) h = tt
text_may (refusals.Expired planned_at now) h = absurd h
text_may (refusals.TooManyTasks count) h = absurd h
text_may refusals.Full h = absurd h
text_may refusal h = h

-- ---- a request

read_of : (r : Result Request RequestError) → OfText (read_or r)
read_of (Ok request) = tt
read_of (Err request_errors.NotJson) = tt
read_of (Err (request_errors.UnknownKey name)) = tt
read_of (Err (request_errors.WrongKind name)) = tt
read_of (Err (request_errors.TooManyHits wanted)) = tt
read_of (Err (request_errors.MissingKey name)) = tt
read_of (Err (request_errors.Memory e)) = tt

pub asked_of_text : (config : IndexConfig) (text : List ℕ) → OfText (asked_of config text)
asked_of_text config text =
    bind_of (read_or (request_of text)) (resolved config.schema config.default_fields) (read_of (request_of text)) (resolved_of config.schema config.default_fields)

-- ---- an answer

buckets_may : (b : Bool) (many count : ℕ) (lines : List (List ℕ)) (results : List NestedAnswer) → SaidMayTell (if b then said.Refused (refusals.TooManyBuckets count) else said.Found many lines results)
buckets_may true many count lines results = tt
buckets_may false many count lines results = tt

pub answer_may : (s : Schema) (search : Search) (documents : List Placed) → SaidMayTell (answer s search documents)
answer_may s search documents =
    let found = matching s search documents in
    let count = all_buckets search.aggs (docs_of found) in
    buckets_may (nat_lt most_buckets count) (length found) (told count) (printed s (shown search found)) (map (nested_answer (docs_of found)) search.aggs)
