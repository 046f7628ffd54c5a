use Rattle.document_laws.proofs.Beside.{accepted-beside}
use Rattle.document_laws.proofs.Recorded.{record_rises, record_back}
use Rattle.document_laws.proofs.Sized.{record_size, leaves_size}
use Rattle.document_laws.proofs.laws.record_laws.Goals as goal

pub returns : goal.returns
returns c = record { rise = record_rises; back = record_back; size = record_size; leaves = leaves_size; beside = accepted-beside }
