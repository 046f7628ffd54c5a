use Rattle.std.proofs.Common.{◌≡◌, ◌∙◌, ◌++◌, ℕ, List, OnOk, ap, sym, subst}
use Rattle.doc_value.specs.Terms.{term_bytes}
use Rattle.split_bundle.specs.Keys.{field_key, value_place}
use Rattle.split_build.specs.Said.{Said}
use Rattle.split_build.specs.Walks.{Adds}
use Rattle.split_build.proofs.WalkLemmas.{other_value_is, adds_said_ok}
use Rattle.split_build.proofs.occurrences.Walker.add_term.Goals as goal

pub returns : goal.returns
returns c = λ s f kept.
    let key : c.deref.result.now ≡ field_key c.args.number (term_bytes c.args.value.now) =
    c.deref.ensures.value ∙ c.in_ok-put_term.ensures ∙ ap (λ (k : List ℕ). k ++ term_bytes c.args.value.now) c.in_ok-put_key.ensures in
    subst (λ (xs : List Said). OnOk c.add.result (Adds c.args.terms.now c.add.new.self s xs)) (sym (other_value_is f c.args.number c.args.place c.args.document c.args.value.now c.requires.other))
    (adds_said_ok c.args.terms.now c.add.new.self s c.args.kept c.deref.result.now (field_key c.args.number (term_bytes c.args.value.now)) c.args.document c.place_of.result (value_place c.args.place 0) c.add.result
    key c.place_of.ensures (kept (term_bytes c.args.value.now)) (c.add.ensures s))
