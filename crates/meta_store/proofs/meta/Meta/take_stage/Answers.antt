use Rattle.std.proofs.Common.{◌≡◌, ℕ, List, ◌+◌, refl, ap, sym, subst, arith}
use Rattle.meta_store.specs.Room.{Kept, MergedUpTo}
use Rattle.split_states.specs.declared.rows.Row.{Row}
use Rattle.split_states.specs.Rows.{IsAbove}
use Rattle.meta_store.proofs.Fitting.{merged_push, above_push}
use Rattle.meta_store.proofs.meta.Meta.take_stage.Goals as goal

pub stage-requires-clause-above : goal.stage-requires-clause-above
stage-requires-clause-above c =
    let last : c.self.inside.last_number ≡ c.args.self.now.state.last_number = ap (λ (k : Kept). k.state.last_number) c.self.view_is in
    let next : c.args.number ≡ c.self.inside.last_number + 1 = omega (arith, last, c.requires.next) in
    subst (λ (n : ℕ). IsAbove c.self.inside.rows.list n) (sym next) c.self.invariant.5

pub invariant_of-self : goal.invariant_of-self
invariant_of-self c =
    let now : c.self.inside.revision ≡ c.args.self.now.state.revision = ap (λ (k : Kept). k.state.revision) c.self.view_is in
    let last : c.self.inside.last_number ≡ c.args.self.now.state.last_number = ap (λ (k : Kept). k.state.last_number) c.self.view_is in (
      omega (arith, now, c.requires.few),
      omega (arith, last, c.requires.next, c.max-self-inside.ensures, c.self.invariant.1),
      c.self.invariant.2,
      c.self.invariant.3,
      subst (MergedUpTo (c.self.inside.revision + 1)) (sym c.stage.ensures) (merged_push c.self.inside.revision c.self.inside.rows.list _ refl c.self.invariant.4),
      subst (λ (l : List Row). IsAbove l (c.max-self-inside.result + 1)) (sym c.stage.ensures)
          (above_push (c.self.inside.last_number + 1) (c.max-self-inside.result + 1) c.self.inside.rows.list _ (omega (arith, c.max-self-inside.ensures)) (omega (arith, c.max-self-inside.ensures)) c.self.invariant.5),
    )
