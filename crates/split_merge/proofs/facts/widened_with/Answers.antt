use Rattle.std.proofs.Common.{◌≡◌, ◌∷◌, [], ◌++◌, ℤ, sym, subst, arith, w64, to_z, of_z, SFits, rules}
use Rattle.std.proofs.lemmas.Int.{ints}
use Rattle.split_build.specs.Times.{AreEnds}
use Rattle.split_bundle.specs.Tagged.{second_of}
use Rattle.split_merge.specs.declared.lent.LentValue.{LentValue}
use Rattle.split_merge.specs.Lent.{value_of}
use Rattle.split_merge.proofs.facts.widened_with.Goals as goal

pub returns-in-Datetime : goal.returns-in-Datetime
returns-in-Datetime c = λ seconds h.
    let fits : SFits w64 c.in-Datetime.second = search rules in
    let same : to_z w64 (of_z w64 c.in-Datetime.second) ≡ c.in-Datetime.second = omega (arith, ints) in
    let ends : AreEnds (seconds ++ c.in-Datetime.second ∷ []) c.widened.result = subst (λ (z : ℤ). AreEnds (seconds ++ z ∷ []) c.widened.result) same (c.widened.ensures seconds h) in
    subst (λ (v : LentValue). AreEnds (seconds ++ second_of (value_of v)) c.widened.result) (sym c.in-Datetime.is) ends
