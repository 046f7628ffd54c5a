use Rattle.doc_mapping.proofs.Recorded.{accepted_holds}
use Rattle.doc_mapping.proofs.laws.record_laws.Goals as goal

pub returns : goal.returns
returns c = record { held = λ config bytes doc rise plain e. accepted_holds config rise plain bytes doc e }
