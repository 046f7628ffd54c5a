use Rattle.std.proofs.Common.{◌≡◌, ◌+◌, List, [], ◌∷◌, length, length-append, refl, ap, sym, subst, ◌∙◌, arith}
use Rattle.std.specs.List.{All}
use Rattle.std.proofs.lemmas.List.Elements.{All-push}
use Rattle.doc_tallies.specs.Tables.{IsTable}
use Rattle.doc_tallies.specs.declared.classes.Class.{Class}
use Rattle.doc_tallies.proofs.Tabling.{table_push}
use Rattle.doc_tallies.proofs.tables.table_of.Goals as goal

pub loop-place-preserved : goal.loop-place-preserved
loop-place-preserved c =
    let old = c.loop-place.cells.items in
    let one : Class = record { mark = c.mark_there-mark.result; count = 0; sample = 0 } in
    let long : c.loop-place.place ≡ length c.loop-place.cells.items = omega arith in
    let grown : length c.push.new.self.items ≡ length c.loop-place.cells.items + 1 = ap (λ (cs : List Class). length cs) c.in_ok-push.ensures.items ∙ length-append c.loop-place.cells.items (one ∷ []) in
    record {
      size = omega arith;
      none = subst (λ (cs : List Class). All (λ x. x.count ≡ 0) cs) (sym c.in_ok-push.ensures.items) (All-push (λ (x : Class). x.count ≡ 0) old one c.loop-place.invariant.none refl);
      table = subst (λ (cs : List Class). IsTable c.args.agg.now c.args.kind c.args.span cs) (sym c.in_ok-push.ensures.items)
          (table_push c.args.agg.now c.args.kind c.args.span old c.loop-place.place one long c.mark_there-mark.ensures c.loop-place.invariant.table);
    }
