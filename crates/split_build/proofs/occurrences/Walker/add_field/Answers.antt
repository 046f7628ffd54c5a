use Rattle.std.proofs.Common.{◌≡◌, ◌∙◌, List, [], ◌∷◌, refl, sym, subst}
use Rattle.std.specs.Prelude.{OnOk}
use Rattle.split_bundle.specs.Keys.{presence_key, of_values}
use Rattle.split_build.specs.Said.{Said, in_document}
use Rattle.split_build.specs.Walks.{Adds}
use Rattle.split_build.proofs.WalkLemmas.{adds_said, adds_behind_ok, field_is}
use Rattle.split_build.proofs.occurrences.Walker.add_field.Goals as goal

pub returns : goal.returns
returns c = λ s kept none.
    let key : c.deref.result.now ≡ presence_key c.args.number = c.deref.ensures.value ∙ c.in_ok-put_presence.ensures in
    let first = adds_said c.args.terms.now c.add.new.self s _ c.deref.result.now (presence_key c.args.number) c.args.document 0 0 key refl (sym none) (c.in_ok-add.ensures s) in
    subst (λ (xs : List Said). OnOk c.add_values.result (Adds c.args.terms.now c.add_values.new.terms s xs))
    (sym (field_is c.args.field.now c.args.number c.args.document c.args.values.now c.if-not-field.false (sym c.is_empty.ensures ∙ c.if-is_empty.false)))
    (adds_behind_ok c.args.terms.now c.add.new.self c.add_values.new.terms s (record { key = presence_key c.args.number; document = c.args.document; place = 0 } ∷ [])
    (in_document c.args.document (of_values c.args.field.now c.args.number 0 c.args.values.now)) c.add_values.result first (c.add_values.ensures s kept))
