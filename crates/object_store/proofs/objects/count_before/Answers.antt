use Rattle.std.proofs.Common.{ℕ, take, sym, subst}
use Rattle.object_store.specs.Entries.{AllBelow}
use Rattle.object_store.proofs.Starts.{below_place, below_rank}
use Rattle.object_store.proofs.objects.count_before.Goals as goal

pub returns-in-Ok-clause-before : goal.returns-in-Ok-clause-before
returns-in-Ok-clause-before c = below_place c.args.key.now c.args.objects.now c.in-Ok.at c.requires c.in-Ok.ensures.ok

pub returns-in-Ok-2-clause-before : goal.returns-in-Ok-2-clause-before
returns-in-Ok-2-clause-before c =
    subst (λ (n : ℕ). AllBelow c.args.key.now (take n c.args.objects.now)) (sym c.in-Ok.ensures.err.rank_is) (below_rank c.args.key.now c.args.objects.now)
