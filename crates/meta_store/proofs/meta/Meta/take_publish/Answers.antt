use Rattle.std.proofs.Common.{◌≡◌, List, ◌+◌, length, map, refl, ap, sym, subst, ◌∙◌, arith}
use Rattle.meta_store.specs.Room.{Kept, MergedUpTo}
use Rattle.std.specs.Prelude.{Option}
use Rattle.split_states.specs.declared.rows.Row.{Row}
use Rattle.source_checkpoint.specs.Deltas.{range_of}
use Rattle.split_states.specs.Rows.{published, row_at, row_spans, row_ranges, IsAbove}
use Rattle.meta_store.proofs.Fitting.{merged_change, above_change}
use Rattle.meta_store.proofs.meta.Meta.take_publish.Goals as goal

pub invariant_of-self : goal.invariant_of-self
invariant_of-self c =
    let now : c.self.inside.revision ≡ c.args.self.now.state.revision = ap (λ (k : Kept). k.state.revision) c.self.view_is in (
      omega (arith, now, c.requires.few),
      omega (arith, c.self.invariant.1),
      c.self.invariant.2,
      (let count : c.span_count.result ≡ length (row_ranges c.args.self.now.state.rows c.args.number) =
          c.span_count.ensures ∙ ap (λ (o : Option Row). length (map range_of (row_spans o))) (c.get.ensures ∙ ap (λ (k : Kept). row_at k.state.rows c.args.number) c.self.view_is) in
          let spans : c.self.inside.span_count ≡ c.args.self.now.state.span_count = ap (λ (k : Kept). k.state.span_count) c.self.view_is in
          omega (arith, count, spans, c.requires.spans)),
      subst (MergedUpTo (c.self.inside.revision + 1)) (sym c.publish.ensures) (merged_change c.self.inside.revision c.args.number published c.self.inside.rows.list (λ row. refl) c.self.invariant.4),
      subst (λ (l : List Row). IsAbove l (c.self.inside.last_number + 1)) (sym (c.publish.ensures)) (above_change (c.self.inside.last_number + 1) c.args.number published c.self.inside.rows.list (λ row. refl) c.self.invariant.5),
    )
