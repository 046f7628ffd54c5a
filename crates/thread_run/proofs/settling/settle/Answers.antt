use Rattle.std.proofs.Common.{refl, true, sym, subst}
use Rattle.std.specs.Prelude.{Result}
use Rattle.std.specs.declared.alloc.AllocError.{AllocError}
use Rattle.index_world.specs.World.{Keeping, WorldStands}
use Rattle.thread_run.specs.Settling.{Settles, settled_of}
use Rattle.thread_run.specs.declared.settling.Settled.{Settled}
use Rattle.thread_run.proofs.Frozen.{settles_of}
use Rattle.thread_run.proofs.settling.settle.Goals as goal

pub returns : goal.returns
returns g c = λ core log is s.
    let begun = c.freeze.ensures.stands core log s in
    let ended = c.rest_all-end.ensures (record core { frozen = true }) log is refl (subst (λ (world : Keeping). WorldStands world (record core { frozen = true }) log) (sym c.over-gate.ensures.value) begun) in
    subst (λ (result : Result Settled AllocError). Settles result core log c.into_world.result) (sym c.settled_of.ensures)
    (subst (λ (world : Keeping). Settles (settled_of c.rest_all-end.result) core log world) (sym c.into_world.ensures)
    (settles_of core c.rest_all-end.result log c.rest_all-end.new.gate.world ended))
