use Rattle.document_laws.proofs.Fitting.{record_numbers}
use Rattle.document_laws.proofs.weights.number_laws.Goals as goal

pub returns : goal.returns
returns c = record_numbers
