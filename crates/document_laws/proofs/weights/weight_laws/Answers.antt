use Rattle.document_laws.proofs.Weighed.{document_weight, record_weight, record_light}
use Rattle.document_laws.proofs.weights.weight_laws.Goals as goal

pub returns : goal.returns
returns c = record { document = document_weight; record_bytes = record_weight; light = record_light }
