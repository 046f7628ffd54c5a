-- What a text asks of an index.
use Rattle.std.specs.Prelude.{ℕ, List, Result, Ok, Err}
use Rattle.index_config.specs.declared.config.IndexConfig.{IndexConfig}
use Rattle.index_world.specs.declared.tokens.DeleteAsk.{DeleteAsk}
use Rattle.search_api.specs.Kinds.{◌>>=◌}
use Rattle.search_api.specs.Requests.{request_of}
use Rattle.search_api.specs.Resolved.{Asked, resolved}
use Rattle.search_api.specs.Unanswered.{of_request}
use Rattle.search_api.specs.declared.request.Request.{Request}
use Rattle.search_api.specs.declared.request_error.RequestError.{RequestError}
use Rattle.search_api.specs.declared.resolved.Deletion.{Deletion}
use Rattle.search_api.specs.declared.unanswered.Unanswered.{Unanswered}

abbrev pub read_or : Result Request RequestError → Result Request Unanswered
read_or (Ok request) = Ok request
read_or (Err error) = Err (of_request error)

-- the search or the delete that a text asks under a configuration, or its first refusal
abbrev pub asked_of : IndexConfig → List ℕ → Result Asked Unanswered
asked_of config text = read_or (request_of text) >>= resolved config.schema config.default_fields

-- what the index is asked for, to add the task of a delete
abbrev pub ask_of : Deletion → DeleteAsk
ask_of deletion = record { text = deletion.text; fields = deletion.fields; times = deletion.times }
