use Rattle.std.proofs.Common.{◌≡◌, ℕ, ◌-◌, List, ◌++◌, ◌∷◌, [], drop, length, sym, ap, subst, ◌∙◌, arith}
use Rattle.std.proofs.lemmas.List.{length-drop, take_all}
use Rattle.std.specs.Prelude.{Contains}
use Rattle.std.proofs.lemmas.Result.{on_ok_weaker}
use Rattle.std.proofs.lemmas.List.Elements.{Contains-push, Contains-append_left}
use Rattle.real_edge.specs.Disk.{first_part}
use Rattle.real_edge.proofs.Parts.{not_begun}
use Rattle.real_edge.proofs.shelf_files.add_part.Goals as goal

pub returns-then-not-starts_with-clause-part : goal.returns-then-not-starts_with-clause-part
returns-then-not-starts_with-clause-part c = λ begins. absurd (not_begun c.args.folder.now c.args.key.now (sym c.starts_with.ensures.value ∙ c.if-not-starts_with.true) begins)

pub returns-clause-part : goal.returns-clause-part
returns-clause-part c =
    let part : c.in_ok-part.part ≡ first_part (drop (length c.args.folder.now) c.args.key.now) =
    c.in_ok-part.ensures ∙ c.first_part.ensures ∙ ap first_part (take_all (length c.args.key.now - length c.args.folder.now) (drop (length c.args.folder.now) c.args.key.now) (omega (arith, length-drop (length c.args.folder.now) c.args.key.now))) in
    on_ok_weaker c.push.result (λ e begins. subst (λ (l : List (List ℕ)). Contains l (first_part (drop (length c.args.folder.now) c.args.key.now))) (sym e)
    (subst (λ (x : List ℕ). Contains (c.args.names.now ++ c.in_ok-part.part ∷ []) x) part (Contains-push c.args.names.now c.in_ok-part.part))) c.push.ensures.ok

pub returns-clause-rest : goal.returns-clause-rest
returns-clause-rest c = on_ok_weaker c.push.result (λ e name h. subst (λ (l : List (List ℕ)). Contains l name) (sym e) (Contains-append_left c.args.names.now (c.in_ok-part.part ∷ []) name h)) c.push.ensures.ok
