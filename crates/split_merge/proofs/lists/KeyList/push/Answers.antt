use Rattle.std.proofs.Common.{◌++◌, ◌∷◌, ◌∙◌, ℕ, Option, [], true, ap, sym, subst}
use Rattle.split_merge.specs.Joining.{Adds, with_number}
use Rattle.split_merge.specs.declared.lists.KeyList.{KeyList}
use Rattle.split_merge.specs.declared.lists.Listed.{Listed}
use Rattle.split_merge.proofs.ListLemmas.{pushed}
use Rattle.split_merge.proofs.lists.KeyList.push.Goals as goal

pub returns-in_ok-push-in-Ok : goal.returns-in_ok-push-in-Ok
returns-in_ok-push-in-Ok c = λ after left stands can.
    let now : KeyList = record { entries = c.push.new.self; places = c.take_places.new.places } in
    let entries = c.in_ok-push-in-Ok.ensures.items ∙ ap (λ (e : Listed). c.args.self.now.entries.items ++ e ∷ []) c.with_positions.ensures.listed in
    let o = c.in-Ok.ensures after left stands can.rising in (
      subst (λ (n : Option ℕ). Adds true c.args.self.now now (with_number n left [])) (sym c.in-Some.is)
          (λ ps h. pushed true c.args.self.now now ps left c.in-Some.document c.in-Ok.positions h entries o.0 o.1 c.with_positions.ensures.fits can),
      ([], o.2),
    )

pub returns-in-Err : goal.returns-in-Err
returns-in-Err c = λ after left stands can. c.in-Err.ensures after left stands can.rising
