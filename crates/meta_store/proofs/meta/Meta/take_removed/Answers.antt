use Rattle.std.proofs.Common.{◌≡◌, List, ◌+◌, ap, sym, subst, arith}
use Rattle.meta_store.specs.Room.{Kept, MergedUpTo}
use Rattle.split_states.specs.declared.rows.Row.{Row}
use Rattle.split_states.specs.Rows.{IsAbove}
use Rattle.meta_store.proofs.Fitting.{merged_without, above_without}
use Rattle.meta_store.proofs.meta.Meta.take_removed.Goals as goal

pub invariant_of-self : goal.invariant_of-self
invariant_of-self c =
    let now : c.self.inside.revision ≡ c.args.self.now.state.revision = ap (λ (k : Kept). k.state.revision) c.self.view_is in (
      omega (arith, now, c.requires),
      omega (arith, c.self.invariant.1),
      c.self.invariant.2,
      c.self.invariant.3,
      subst (MergedUpTo (c.self.inside.revision + 1)) (sym c.remove.ensures) (merged_without c.self.inside.revision c.args.numbers.now c.self.inside.rows.list c.self.invariant.4),
      subst (λ (l : List Row). IsAbove l (c.self.inside.last_number + 1)) (sym (c.remove.ensures)) (above_without (c.self.inside.last_number + 1) c.args.numbers.now c.self.inside.rows.list c.self.invariant.5),
    )
