use Rattle.std.proofs.Common.{◌∙◌, ◌<◌, ◌^◌, ◌++◌, ◌∷◌, [], List, ap, sym, subst, map, length, arith, append_assoc}
use Rattle.std.specs.List.{AllByRecursion}
use Rattle.fast_fields.specs.declared.entries.Entry.{Entry}
use Rattle.split_build.specs.HeldColumns.{renumbered}
use Rattle.split_build.proofs.TakenLemmas.{all_push}
use Rattle.split_build.proofs.column_texts.renumbered_of.Goals as goal

pub bounds-ordinals-entry : goal.bounds-ordinals-entry
bounds-ordinals-entry c =
    (subst (λ (es : List Entry). AllByRecursion (λ (e : Entry). e.number < length c.args.ordinals.now) es) c.in-Some.ensures.cases.0 c.loop-entry.invariant.within).0

pub loop-entry-preserved : goal.loop-entry-preserved
loop-entry-preserved c = record {
  again =
      ap (λ (es : List Entry). es ++ map (renumbered c.args.ordinals.now) c.in-Some.behind.now) c.in_ok-push.ensures.items
      ∙ append_assoc c.loop-entry.again.items (renumbered c.args.ordinals.now c.in-Some.entry.now ∷ []) (map (renumbered c.args.ordinals.now) c.in-Some.behind.now)
      ∙ ap (λ (es : List Entry). c.loop-entry.again.items ++ map (renumbered c.args.ordinals.now) es) (sym c.in-Some.ensures.cases.0) ∙ c.loop-entry.invariant.again;
  small = subst (λ (es : List Entry). AllByRecursion (λ (e : Entry). e.number < 2 ^ 64) es) (sym c.in_ok-push.ensures.items)
      (all_push (λ (e : Entry). e.number < 2 ^ 64) c.loop-entry.again.items (renumbered c.args.ordinals.now c.in-Some.entry.now) c.loop-entry.invariant.small (omega (arith, c.type_inv.ordinals c.in-Some.entry.now.number)));
  within = (subst (λ (es : List Entry). AllByRecursion (λ (e : Entry). e.number < length c.args.ordinals.now) es) c.in-Some.ensures.cases.0 c.loop-entry.invariant.within).1;
}
