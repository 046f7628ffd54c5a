use Rattle.std.proofs.Common.{◌≡◌, [], sym, ap, ◌∙◌, arith}
use Rattle.source_log.specs.Log.{records_of}
use Rattle.source_log.specs.Memory.{place_of}
use Rattle.source_log.proofs.Places.{stands_at, absent}
use Rattle.source_log.proofs.Pushed.{slice_at}
use Rattle.source_log.proofs.memory.MemoryLog.slice.Goals as goal

pub index-requires : goal.index-requires
index-requires c =
    let at = stands_at c.args.partition.now c.self.inside.parts.items c.in-Ok.place (ap (place_of c.args.partition.now) (sym c.deref.ensures.value) ∙ sym c.in-Ok.ensures) in
    omega (arith, at.within)

pub returns-in-Ok-clause-slice : goal.returns-in-Ok-clause-slice
returns-in-Ok-clause-slice c =
    let at = stands_at c.args.partition.now c.self.inside.parts.items c.in-Ok.place (ap (place_of c.args.partition.now) (sym c.deref.ensures.value) ∙ sym c.in-Ok.ensures) in
    let same : records_of c.args.self.now c.args.partition.now ≡ c.as_slice.result.now =
    rw (← c.self.view_is) (at.records c.index.result.now ∙ ap (λ p. p.records) (sym c.index.ensures) ∙ sym c.as_slice.ensures) in
    slice_at (records_of c.args.self.now c.args.partition.now) c.as_slice.result.now c.args.from c.args.max c.slice_of.result same c.slice_of.ensures.slice

pub returns-in-Err-clause-slice : goal.returns-in-Err-clause-slice
returns-in-Err-clause-slice c =
    let none = absent c.args.partition.now c.self.inside.parts.items c.in-Err.field-0 c.self.invariant (ap (place_of c.args.partition.now) (sym c.deref.ensures.value) ∙ sym c.in-Err.ensures) in
    let same : records_of c.args.self.now c.args.partition.now ≡ [] = rw (← c.self.view_is) none in
    slice_at (records_of c.args.self.now c.args.partition.now) [] c.args.from c.args.max c.slice_of-in-Err.result same c.slice_of-in-Err.ensures.slice
