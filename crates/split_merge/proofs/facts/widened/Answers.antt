use Rattle.std.proofs.Common.{◌≡◌, ◌∙◌, ℤ, arith, subst, w64, sym, to_z, of_z, SFits, rules}
use Rattle.std.specs.Prelude.{◌≤ℤ◌, Option}
use Rattle.std.specs.Int.{int_min, int_max}
use Rattle.std.proofs.lemmas.Int.{ints}
use Rattle.split_states.specs.declared.facts.Times.{Times}
use Rattle.split_build.specs.Times.{AreTimes}
use Rattle.split_build.proofs.TimesLemmas.{ends_more}
use Rattle.split_merge.proofs.facts.widened.Goals as goal

pub returns-in-Some : goal.returns-in-Some
returns-in-Some c = λ seconds h.
    let fits_least : SFits w64 c.in-Some.times.least = search rules in
    let fits_greatest : SFits w64 c.in-Some.times.greatest = search rules in
    let fits_second : SFits w64 c.args.second = search rules in
    let fits_low : SFits w64 c.min.result = search rules in
    let fits_high : SFits w64 c.max.result = search rules in
    let least : to_z w64 (of_z w64 c.in-Some.times.least) ≡ c.in-Some.times.least = omega (arith, ints) in
    let greatest : to_z w64 (of_z w64 c.in-Some.times.greatest) ≡ c.in-Some.times.greatest = omega (arith, ints) in
    let second : to_z w64 (of_z w64 c.args.second) ≡ c.args.second = omega (arith, ints) in
    let low : to_z w64 (of_z w64 c.min.result) ≡ c.min.result = omega (arith, ints) in
    let high : to_z w64 (of_z w64 c.max.result) ≡ c.max.result = omega (arith, ints) in
    ends_more seconds c.in-Some.times (record { least = to_z w64 (of_z w64 c.min.result); greatest = to_z w64 (of_z w64 c.max.result) }) c.args.second
    (low ∙ c.min.ensures.value ∙ (λ j. int_min (least j) (second j))) (high ∙ c.max.ensures.value ∙ (λ j. int_max (greatest j) (second j)))
    (subst (λ (z : ℤ). z ≤ℤ c.in-Some.times.least) (sym low) (subst (λ (z : ℤ). c.min.result ≤ℤ z) least c.min.ensures.self_bound))
    (subst (λ (z : ℤ). z ≤ℤ c.args.second) (sym low) (subst (λ (z : ℤ). c.min.result ≤ℤ z) second c.min.ensures.other_bound))
    (subst (λ (z : ℤ). c.in-Some.times.greatest ≤ℤ z) (sym high) (subst (λ (z : ℤ). z ≤ℤ c.max.result) greatest c.max.ensures.self_bound))
    (subst (λ (z : ℤ). c.args.second ≤ℤ z) (sym high) (subst (λ (z : ℤ). z ≤ℤ c.max.result) second c.max.ensures.other_bound))
    (subst (λ (t : Option Times). AreTimes seconds t) c.in-Some.is h)
