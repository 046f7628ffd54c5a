use Rattle.std.proofs.Common.{◌≡◌, ◌∷◌, [], ◌++◌, ◌∙◌, ℤ, List, ap, sym, subst, arith, w64, to_z, of_z, SFits, rules}
use Rattle.std.proofs.lemmas.Int.{ints}
use Rattle.std.proofs.lemmas.List.{append-nil}
use Rattle.doc_value.specs.declared.doc.Value.{Value}
use Rattle.split_build.specs.Times.{AreEnds, AreTimes}
use Rattle.split_bundle.specs.Tagged.{second_of}
use Rattle.split_build.proofs.TimesLemmas.{no_second}
use Rattle.split_build.proofs.times.widened_with.Goals as goal

pub returns-in_default : goal.returns-in_default
returns-in_default c = λ seconds h.
    subst (λ (zs : List ℤ). AreTimes zs c.args.times) (sym (ap (λ (zs : List ℤ). seconds ++ zs) (no_second c.args.value.now c.in_default.not-Datetime) ∙ append-nil seconds)) h

pub returns-in-Datetime : goal.returns-in-Datetime
returns-in-Datetime c = λ seconds h.
    let fits : SFits w64 c.in-Datetime.second = search rules in
    let same : to_z w64 (of_z w64 c.in-Datetime.second) ≡ c.in-Datetime.second = omega (arith, ints) in
    let ends : AreEnds (seconds ++ c.in-Datetime.second ∷ []) c.widened.result = subst (λ (z : ℤ). AreEnds (seconds ++ z ∷ []) c.widened.result) same (c.widened.ensures seconds h) in
    subst (λ (v : Value). AreEnds (seconds ++ second_of v) c.widened.result) (sym c.in-Datetime.is) ends
