use Rattle.std.proofs.Common.{◌≡◌, ◌≢◌, ◌-◌, true, false, [], Result, Ok, Err, sym, ◌∙◌, arith}
use Rattle.std.specs.Result.{OnOk}
use Rattle.doc_mapping.proofs.Numbering.{put_at, HasLower, at_start, behind_one, at_end, before_one}
use Rattle.doc_mapping.proofs.parts.put.Goals.{then-loop-place-test+else-index-number, else-loop-place-test}
use Rattle.doc_mapping.proofs.parts.put.Goals as goal

carried : {P Q T E : Type 0} (r : Result T E) → OnOk r P → (P → Q) → OnOk r Q
carried (Ok x) h f = f h
carried (Err e) h f = tt

pub returns : goal.returns
returns c = carried c.enter.result c.enter.ensures (λ made rise none.
    let some : c.args.values ≢ [] = λ e. let wrong : true ≡ false = sym (c.is_empty.ensures.1 e) ∙ c.if-is_empty.false in cc in
    let low : HasLower c.args.number c.args.parts.now.items c.loop-place.place = elim c.loop-place-test.branch [
      | then-loop-place-test+else-index-number w ↦
          behind_one c.args.number c.args.parts.now.items c.loop-place.place (c.loop-place.place - 1) w.index.result.now (omega arith) (omega arith) w.index.ensures
          w.if-index-number.false
      | else-loop-place-test w ↦ at_start c.args.number c.args.parts.now.items c.loop-place.place w.loop-place-test.false
    ] in
    put_at c.args.number c.loop-place.place c.args.values c.args.parts.now.items c.enter.new.parts.items some made c.loop-place.invariant.1 low rise none)

pub loop-place-init : goal.loop-place-init
loop-place-init c = (omega arith, at_end c.args.number c.args.parts.now.items c.len-place.result (omega arith))

pub loop-place-preserved : goal.loop-place-preserved
loop-place-preserved c = (
  omega arith,
  before_one c.args.number c.args.parts.now.items (c.loop-place.place - 1) c.index.result.now (omega arith) c.index.ensures c.if-index-number.true,
)
