-- The text of a delete that a request asks is UTF-8.
use Rattle.std.proofs.Common.{◌≡◌, ℕ, List, Result, Ok, Err, ap, IsUtf8}
use Rattle.index_config.specs.declared.config.IndexConfig.{IndexConfig}
use Rattle.search_api.specs.Requests.{request_of}
use Rattle.search_api.specs.Resolved.{IsDelete, resolved}
use Rattle.search_api.specs.declared.request.Request.{Request}
use Rattle.search_api.specs.declared.request_error.RequestError.{RequestError}
use Rattle.search_api.specs.declared.resolved.Deletion.{Deletion}
use Rattle.search_api.specs.declared.unanswered.Unanswered.{Unanswered}
use Rattle.root_search.specs.Requests.{asked_of, read_or}
use Rattle.request_laws.proofs.AskedTexts.{binds, deleted_utf8, ok_is}

err_ok : {E A : Type 0} (x : E) (a : A) → ◌≡◌ {A = Result A E} (Err x) (Ok a) → ⊥
err_ok x a e = cc

read_is : (r : Result Request RequestError) (request : Request) → read_or r ≡ Ok request → r ≡ Ok request
read_is (Ok one) request e = ap Ok (ok_is {E = Unanswered} one request e)
read_is (Err error) request e = absurd (err_ok _ request e)

pub asked_utf8 : (config : IndexConfig) (text : List ℕ) (deletion : Deletion) → asked_of config text ≡ Ok (IsDelete deletion) → IsUtf8 deletion.text
asked_utf8 config text deletion e =
    let r = binds (read_or (request_of text)) (resolved config.schema config.default_fields) (IsDelete deletion) e in
    deleted_utf8 config.schema config.default_fields text r.0 deletion (read_is (request_of text) r.0 r.1) r.2
