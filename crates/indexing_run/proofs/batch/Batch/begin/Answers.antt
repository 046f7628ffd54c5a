use Rattle.std.proofs.Common.{[]}
use Rattle.indexing_run.proofs.batch.Batch.begin.Goals as goal

pub invariant_of-result : goal.invariant_of-result
invariant_of-result c = record { taken = ∣ ([], c.in_ok-documents.ensures.taken) ∣₁ }
