use Rattle.std.proofs.Common.{◌≡◌, List, ◌+◌, refl, ap, sym, subst, arith}
use Rattle.meta_store.specs.Room.{Kept, MergedUpTo}
use Rattle.split_states.specs.declared.rows.Row.{Row}
use Rattle.split_states.specs.Rows.{raised_row, IsAbove}
use Rattle.meta_store.proofs.Fitting.{merged_change, above_change}
use Rattle.meta_store.proofs.meta.Meta.take_raise.Goals as goal

pub invariant_of-self : goal.invariant_of-self
invariant_of-self c =
    let now : c.self.inside.revision ≡ c.args.self.now.state.revision = ap (λ (k : Kept). k.state.revision) c.self.view_is in (
      omega (arith, now, c.requires),
      omega (arith, c.self.invariant.1),
      c.self.invariant.2,
      c.self.invariant.3,
      subst (MergedUpTo (c.self.inside.revision + 1)) (sym c.raise.ensures) (merged_change c.self.inside.revision c.args.number (raised_row c.args.upto) c.self.inside.rows.list (λ row. refl) c.self.invariant.4),
      subst (λ (l : List Row). IsAbove l (c.self.inside.last_number + 1)) (sym (c.raise.ensures)) (above_change (c.self.inside.last_number + 1) c.args.number (raised_row c.args.upto) c.self.inside.rows.list (λ row. refl) c.self.invariant.5),
    )
