use Rattle.doc_mapping.proofs.Fitting.{accepted-fits, accepted-stamped}
use Rattle.doc_mapping.proofs.laws.document_laws.Goals as goal

pub returns : goal.returns
returns c = record { fits = accepted-fits; stamped = accepted-stamped }
