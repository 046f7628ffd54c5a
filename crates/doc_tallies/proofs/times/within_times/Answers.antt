use Rattle.std.proofs.Common.{◌≡◌, ℕ, true, false, sym, subst, ◌∙◌}
use Rattle.query_ast.specs.Meaning.{is_unlimited}
use Rattle.doc_tallies.specs.Picked.{AllBelow}
use Rattle.doc_tallies.proofs.TimeValues.{none_stay, unlimited_stay}
use Rattle.doc_tallies.proofs.times.within_times.Goals as goal

pub returns-then-is_unlimited-clause-only : goal.returns-then-is_unlimited-clause-only
returns-then-is_unlimited-clause-only c = λ documents p part.
    let free : is_unlimited c.args.times.start c.args.times.end ≡ true = sym c.is_unlimited.ensures ∙ c.if-is_unlimited.true in
    c.in_ok-from_slice.ensures.items
    ∙ unlimited_stay c.args.schema.now c.args.times documents c.args.numbers.now free (subst (λ (n : ℕ). AllBelow n c.args.numbers.now) (part.footer.layout.docs ∙ part.is_split.docs) c.requires)

pub returns-in_ok-times_in-in-Ok-Some-clause-only : goal.returns-in_ok-times_in-in-Ok-Some-clause-only
returns-in_ok-times_in-in-Ok-Some-clause-only c = λ documents p part.
    let limited : is_unlimited c.args.times.start c.args.times.end ≡ false = sym c.is_unlimited.ensures ∙ c.if-is_unlimited.false in
    let is = rw c.in-Ok-Some.field-0-is at (c.in-Ok-Some.ensures.only documents p part) in
    c.in_ok-times_in-in-Ok-Some.ensures c.args.schema.now documents is.0 part.is_split.are_documents is.1 is.2 limited
    (subst (λ (n : ℕ). AllBelow n c.args.numbers.now) (part.footer.layout.docs ∙ part.is_split.docs) c.requires)

pub returns-in-Ok-None-clause-only : goal.returns-in-Ok-None-clause-only
returns-in-Ok-None-clause-only c = λ documents p part.
    let limited : is_unlimited c.args.times.start c.args.times.end ≡ false = sym c.is_unlimited.ensures ∙ c.if-is_unlimited.false in
    let none = rw c.in-Ok-None.field-0-is at (c.in-Ok-None.ensures.only documents p part) in
    c.new.ensures.items ∙ none_stay c.args.schema.now c.args.times documents c.args.numbers.now limited none
