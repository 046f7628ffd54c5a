use Rattle.std.proofs.Common.{ℕ, List, nat_eq, refl, sym, ap, ◌∙◌, arith}
use Rattle.std.specs.List.{starts_with}
use Rattle.real_edge.proofs.Parts.{front_more, all_taken}
use Rattle.real_edge.proofs.shelf_files.has_front.Goals as goal

pub loop-object-init : goal.loop-object-init
loop-object-init c = λ o h begins. absurd (omega (arith, h.1))

pub returns-then-starts_with : goal.returns-then-starts_with
returns-then-starts_with c = λ o h begins. refl

pub loop-object-preserved : goal.loop-object-preserved
loop-object-preserved c =
    front_more c.args.front.now c.args.objects.now c.loop-object.object-index c.object-item.result c.loop-object-test.true c.object-item.is
    (ap (λ (k : List ℕ). starts_with nat_eq k c.args.front.now) (sym c.as_slice.ensures) ∙ sym c.starts_with.ensures.value ∙ c.if-starts_with.false) c.loop-object.invariant

pub returns : goal.returns
returns c = λ o h begins. absurd (c.loop-object.invariant o (all_taken c.args.objects.now c.loop-object.object-index o (omega (arith, c.loop-object-test.false)) h) begins)
