use Rattle.std.proofs.Common.{◌+◌, ◌-◌, ◌/◌, nat_eq, refl, ap, sym, ◌∙◌, arith}
use Rattle.std.specs.List.{starts_with}
use Rattle.doc_mapping.proofs.Starting.{parts_higher, parts_lower, none_left, no_path, first_tells}
use Rattle.doc_mapping.proofs.Mapped.{follows_same, follows_next}
use Rattle.doc_mapping.proofs.faults.is_object_by_halves.Goals as goal

pub loop-low-preserved-then-is_before : goal.loop-low-preserved-then-is_before
loop-low-preserved-then-is_before c =
    parts_higher c.args.schema.now.fields c.args.start.now c.as_slice.result.now c.loop-low.low c.loop-low.high (c.loop-low.low + (c.loop-low.high - c.loop-low.low) / 2) _
    c.at.result.now c.requires c.loop-low.invariant c.at.ensures c.as_slice.ensures (omega arith) refl (sym c.is_before.ensures ∙ c.if-is_before.true)

pub loop-low-preserved : goal.loop-low-preserved
loop-low-preserved c =
    parts_lower c.args.schema.now.fields c.args.start.now c.as_slice.result.now c.loop-low.low c.loop-low.high (c.loop-low.low + (c.loop-low.high - c.loop-low.low) / 2)
    c.at.result.now c.requires c.loop-low.invariant c.at.ensures c.as_slice.ensures (omega arith) (omega arith) (sym c.is_before.ensures ∙ c.if-is_before.false)

pub returns-then-low-len : goal.returns-then-low-len
returns-then-low-len c = none_left c.args.schema.now c.args.start.now c.loop-low.low c.loop-low.high c.loop-low.invariant (omega arith)

pub returns-then-not-is_dynamic : goal.returns-then-not-is_dynamic
returns-then-not-is_dynamic c =
    c.starts_with.ensures.value
    ∙ ap (λ x. starts_with nat_eq x c.args.start.now) c.as_slice-then-not-is_dynamic.ensures
    ∙ first_tells c.args.schema.now c.args.start.now c.loop-low.low c.loop-low.high c.loop-low.low c.loop-low.invariant (omega arith)
    (follows_same c.args.schema.now.dynamic c.loop-low.low (sym c.is_dynamic.ensures ∙ c.if-not-is_dynamic.true)) c.requires
    c.at-then-not-is_dynamic.result.now c.at-then-not-is_dynamic.ensures

pub returns-then-low-len-2 : goal.returns-then-low-len-2
returns-then-low-len-2 c =
    no_path c.args.schema.now c.args.start.now c.loop-low.low c.loop-low.high (c.loop-low.low + 1) c.loop-low.invariant (omega arith)
    (follows_next c.args.schema.now.dynamic c.loop-low.low (sym c.is_dynamic.ensures ∙ c.if-not-is_dynamic.false)) (omega arith)

pub returns : goal.returns
returns c =
    c.starts_with-2.ensures.value
    ∙ ap (λ x. starts_with nat_eq x c.args.start.now) c.as_slice-2.ensures
    ∙ first_tells c.args.schema.now c.args.start.now c.loop-low.low c.loop-low.high (c.loop-low.low + 1) c.loop-low.invariant (omega arith)
    (follows_next c.args.schema.now.dynamic c.loop-low.low (sym c.is_dynamic.ensures ∙ c.if-not-is_dynamic.false)) c.requires c.at-2.result.now c.at-2.ensures
