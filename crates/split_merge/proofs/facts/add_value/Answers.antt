use Rattle.std.proofs.Common.{◌≡◌, ◌∷◌, [], ◌++◌, ℤ, sym, subst, arith, w64, to_z, of_z, SFits, rules}
use Rattle.std.specs.Prelude.{OnOk}
use Rattle.std.proofs.lemmas.Int.{ints}
use Rattle.doc_value.specs.declared.doc.Value.TheVariants as values
use Rattle.doc_value.specs.Terms.{term_bytes}
use Rattle.split_build.specs.HeldTags.{HasTerms}
use Rattle.split_bundle.specs.Tagged.{value_term}
use Rattle.split_build.proofs.TagLemmas.{terms_past}
use Rattle.split_merge.specs.declared.lent.LentValue.{LentValue}
use Rattle.split_merge.specs.Lent.{value_of}
use Rattle.split_merge.proofs.facts.add_value.Goals as goal

pub returns-then-len-gt-MAX_TAGS-clause-terms : goal.returns-then-len-gt-MAX_TAGS-clause-terms
returns-then-len-gt-MAX_TAGS-clause-terms c = λ terms h.
    terms_past c.args.log.now.terms.items terms (value_term (value_of c.args.value)) (omega (arith, c.len.ensures, c.args.log.now.terms.ok.0, c.if-len-gt-MAX_TAGS.true)) h

pub returns-in-I64-clause-terms : goal.returns-in-I64-clause-terms
returns-in-I64-clause-terms c = λ terms h.
    let fits : SFits w64 c.in-I64.number = search rules in
    let same : to_z w64 (of_z w64 c.in-I64.number) ≡ c.in-I64.number = omega (arith, ints) in
    subst (λ (v : LentValue). OnOk c.add_plain.result (HasTerms c.add_plain.new.log.terms.items (terms ++ value_term (value_of v)))) (sym c.in-I64.is)
    (subst (λ (z : ℤ). OnOk c.add_plain.result (HasTerms c.add_plain.new.log.terms.items (terms ++ term_bytes (values.I64 z) ∷ []))) same (c.add_plain.ensures.terms terms h))

pub returns-in-Datetime-clause-terms : goal.returns-in-Datetime-clause-terms
returns-in-Datetime-clause-terms c = λ terms h.
    let fits : SFits w64 c.in-Datetime.seconds = search rules in
    let same : to_z w64 (of_z w64 c.in-Datetime.seconds) ≡ c.in-Datetime.seconds = omega (arith, ints) in
    subst (λ (v : LentValue). OnOk c.add_plain-in-Datetime.result (HasTerms c.add_plain-in-Datetime.new.log.terms.items (terms ++ value_term (value_of v)))) (sym c.in-Datetime.is)
    (subst (λ (z : ℤ). OnOk c.add_plain-in-Datetime.result (HasTerms c.add_plain-in-Datetime.new.log.terms.items (terms ++ term_bytes (values.Datetime z) ∷ []))) same (c.add_plain-in-Datetime.ensures.terms terms h))
