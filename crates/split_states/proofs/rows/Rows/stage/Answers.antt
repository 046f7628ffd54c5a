use Rattle.std.proofs.Common.{List, map, ◌++◌, ◌∷◌, [], ◌∙◌, ap, sym, subst}
use Rattle.std.proofs.lemmas.List.{map_push}
use Rattle.split_states.specs.Due.{stamp_of}
use Rattle.split_states.specs.Rows.{Row, RowList, RowsRise, IsAbove}
use Rattle.split_states.specs.declared.stamps.Stamp.{Stamp}
use Rattle.split_states.proofs.Rising.{rise_push}
use Rattle.split_states.proofs.rows.Rows.stage.Goals as goal

pub invariant_of-self : goal.invariant_of-self
invariant_of-self c = (
  subst RowsRise (sym c.push_reserved.ensures.items)
      (rise_push c.self.inside.list.items c.args.row c.self.invariant.0
      (subst (λ (l : List Row). IsAbove l c.args.row.number) (sym (ap (λ (k : RowList). k.list) c.self.view_is)) c.requires.above)),
  c.push_stamp.ensures
      ∙ ap (λ (l : List Stamp). l ++ stamp_of c.args.row ∷ []) c.self.invariant.1
      ∙ sym (map_push stamp_of c.self.inside.list.items c.args.row)
      ∙ ap (λ (l : List Row). map stamp_of l) (sym c.push_reserved.ensures.items),
)
