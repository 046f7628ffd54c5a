-- What a text is refused for is of the text.
use Rattle.std.proofs.Common.{ℕ, List, Result, Ok, Err}
use Rattle.index_config.specs.declared.config.IndexConfig.{IndexConfig}
use Rattle.search_api.specs.Requests.{request_of}
use Rattle.search_api.specs.Resolved.{resolved}
use Rattle.search_api.specs.declared.request.Request.{Request}
use Rattle.search_api.specs.declared.request_error.RequestError.{RequestError}
use Rattle.search_api.specs.declared.request_error.RequestError.TheVariants as request_errors
use Rattle.root_search.specs.Requests.{asked_of, read_or}
use Rattle.request_laws.specs.OfText.{OfText}
use Rattle.request_laws.proofs.Refusals.{bind_of, resolved_of}

read_of : (r : Result Request RequestError) → OfText (read_or r)
read_of (Ok request) = tt
read_of (Err request_errors.NotJson) = tt
read_of (Err (request_errors.UnknownKey name)) = tt
read_of (Err (request_errors.WrongKind name)) = tt
read_of (Err (request_errors.TooManyHits wanted)) = tt
read_of (Err (request_errors.MissingKey name)) = tt
read_of (Err (request_errors.Memory e)) = tt

pub asked_of_text : (config : IndexConfig) (text : List ℕ) → OfText (asked_of config text)
asked_of_text config text =
    bind_of (read_or (request_of text)) (resolved config.schema config.default_fields) (read_of (request_of text)) (resolved_of config.schema config.default_fields)
