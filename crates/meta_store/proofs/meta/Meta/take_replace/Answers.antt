use Rattle.std.proofs.Common.{◌≡◌, List, ◌+◌, ◌≤◌, refl, ap, sym, subst, ◌∙◌, arith}
use Rattle.meta_store.specs.Room.{Kept, MergedUpTo}
use Rattle.split_states.specs.declared.rows.Row.{Row}
use Rattle.split_states.specs.Rows.{marked, replacing, change, change_each, joined_spans, IsAbove}
use Rattle.meta_store.proofs.Fitting.{merged_low, merged_replace, above_change, above_each}
use Rattle.meta_store.proofs.meta.Meta.take_replace.Goals as goal

pub merged-merge_ops-requires : goal.merged-merge_ops-requires
merged-merge_ops-requires c = let low = merged_low c.self.inside.revision c.args.old.now c.self.inside.rows.list c.self.invariant.4 in omega (arith, low, c.self.invariant.0)

pub invariant_of-self : goal.invariant_of-self
invariant_of-self c =
    let now : c.self.inside.revision ≡ c.args.self.now.state.revision = ap (λ (k : Kept). k.state.revision) c.self.view_is in (
      omega (arith, now, c.requires.few),
      omega (arith, c.self.invariant.1),
      c.self.invariant.2,
      c.self.invariant.3,
      (let low = merged_low c.self.inside.revision c.args.old.now c.self.inside.rows.list c.self.invariant.4 in
          let ops : c.merged-merge_ops.result ≤ c.self.inside.revision + 1 = omega (arith, low, c.merged-merge_ops.ensures) in
          subst (MergedUpTo (c.self.inside.revision + 1)) (sym (c.replace-2.ensures ∙ ap (λ (rows : List Row). change c.args.new (replacing c.raise.new.self c.merged-merge_ops.result) rows) c.mark.ensures))
          (merged_replace c.self.inside.revision c.args.moment c.args.new c.args.old.now c.raise.new.self c.merged-merge_ops.result c.self.inside.rows.list ops c.self.invariant.4)),
      subst (λ (l : List Row). IsAbove l (c.self.inside.last_number + 1)) (sym (c.replace-2.ensures ∙ ap (λ (rows : List Row). change c.args.new (replacing c.raise.new.self c.merged-merge_ops.result) rows) c.mark.ensures)) (above_change (c.self.inside.last_number + 1) c.args.new (replacing c.raise.new.self c.merged-merge_ops.result) (change_each c.args.old.now (marked c.args.moment) c.self.inside.rows.list) (λ row. refl) (above_each (c.self.inside.last_number + 1) c.args.old.now (marked c.args.moment) c.self.inside.rows.list (λ row. refl) c.self.invariant.5)),
    )

pub returns : goal.returns
returns c = λ reading.
    let room : c.self.inside.spare.items ≡ joined_spans c.self.inside.rows.list c.args.old.now = subst (λ (k : Kept). k.spare ≡ joined_spans k.state.rows c.args.old.now) (sym c.self.view_is) c.requires.room in
    rw (← c.self.view_is, c.max-self-inside.ensures, c.replace-2.ensures, c.mark.ensures, c.merged-merge_ops.ensures, c.raise.ensures, c.from_vec-spans.ensures, c.replace.ensures.value, room) refl
