-- One accepted document is light, under a configuration that some text was read as.
use Rattle.std.proofs.Common.{◌≡◌, ℕ, List, Some, Result, Ok, Err, refl, subst}
use Rattle.std.specs.Result.{result_ok}
use Rattle.doc_mapping.specs.Answer.{answer}
use Rattle.doc_mapping.specs.declared.reject.Reject.{Reject}
use Rattle.doc_value.specs.declared.doc.DocField.{DocField}
use Rattle.index_config.specs.Answer.{config_answer}
use Rattle.index_config.specs.declared.config.IndexConfig.{IndexConfig}
use Rattle.index_world.specs.Accepted.{accepted}
use Rattle.document_laws.proofs.Weighed.{record_light}
use Rattle.indexing_run.proofs.Batches.{IsLight}

ok_some : (r : Result (List DocField) Reject) (doc : List DocField) → result_ok r ≡ Some doc → r ≡ Ok doc
ok_some (Ok x) doc e = let same : x ≡ doc = cc e in subst (λ (y : List DocField). ◌≡◌ {A = Result (List DocField) Reject} (Ok x) (Ok y)) same refl
ok_some (Err x) doc e = cc e

-- a document that is accepted is the mapping's answer
pub accepted_as : (config : IndexConfig) (bytes : List ℕ) (doc : List DocField) → accepted config bytes ≡ Some doc → answer config bytes ≡ Ok doc
accepted_as config bytes doc e = ok_some (answer config bytes) doc e

pub light : (text : List ℕ) (config : IndexConfig) → config_answer text ≡ Ok config → IsLight config
light text config read bytes name offset doc e low =
    record_light text bytes config (record { partition = name; offset = offset; doc = doc }) read (accepted_as config bytes doc e) low
