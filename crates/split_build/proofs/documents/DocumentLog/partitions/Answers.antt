use Rattle.std.proofs.Common.{List, ℕ, sym, subst}
use Rattle.split_build.specs.HeldDocuments.{AreNamesOf}
use Rattle.split_build.proofs.PartitionLemmas.{are_names}
use Rattle.split_build.proofs.documents.DocumentLog.partitions.Goals as goal

pub returns : goal.returns
returns c = λ ds h.
    c.rising_names.ensures ds (subst (λ (l : List (List ℕ)). AreNamesOf ds l) (sym c.deref.ensures.value) (are_names c.args.self.now ds h))
