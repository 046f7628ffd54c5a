use Rattle.std.proofs.Common.{◌≡◌, ◌+◌, ◌∙◌, List, ℕ, Some, slice_get, take, refl, sym, subst, arith}
use Rattle.std.specs.Borrow.{Bor}
use Rattle.std.specs.BTreeSet.{BTreeSet}
use Rattle.index_config.specs.References.{AreServing}
use Rattle.index_config.proofs.Doubles.{stands_at}
use Rattle.index_config.proofs.References.{put_step, pass_step}
use Rattle.index_config.proofs.whole.serving.Goals.{then-can_serve+in_ok-insert, else-can_serve}
use Rattle.index_config.proofs.whole.serving.Goals as goal

pub loop-raw-preserved : goal.loop-raw-preserved
loop-raw-preserved c =
    let at : slice_get c.args.raws.now c.loop-raw.raw-index ≡ Some c.raw-item.result =
    stands_at c.args.raws.now c.loop-raw.raw-index c.raw-item.result (omega arith) c.raw-item.is in
    let Kept : BTreeSet (Bor (List ℕ)) → Type 0 = AreServing c.args.purpose (take (c.loop-raw.raw-index + 1) c.args.raws.now) in
    elim c.if-can_serve.branch [
      | then-can_serve+in_ok-insert w ↦
          subst Kept (sym w.paths-is) (λ q. put_step c.args.purpose c.args.raws.now c.loop-raw.raw-index _ c.raw-item.result w.as_str.result.now q.now _ _ refl at
          w.as_str.ensures (sym c.can_serve.ensures ∙ w.if-can_serve.true) (c.loop-raw.invariant q) (w.in_ok-insert.ensures.updates.0 q))
      | else-can_serve w ↦
          subst Kept (sym w.paths-is) (λ q. pass_step c.args.purpose c.args.raws.now c.loop-raw.raw-index _ c.raw-item.result q.now _ refl at
          (sym c.can_serve.ensures ∙ w.if-can_serve.false) (c.loop-raw.invariant q))
    ]
