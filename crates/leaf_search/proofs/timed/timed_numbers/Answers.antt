use Rattle.std.proofs.Common.{◌≡◌, ◌<◌, ◌∙◌, ◌&&◌, List, ℕ, sym, subst}
use Rattle.std.specs.List.{All}
use Rattle.query_ast.specs.Meaning.{within_times}
use Rattle.leaf_search.specs.Answers.{AsksTimes}
use Rattle.leaf_search.specs.Numbers.{numbers_of}
use Rattle.doc_tallies.specs.Causes.{AsksField}
use Rattle.leaf_search.proofs.LeafSteps.{faulted, there_memory, unlimited}
use Rattle.leaf_search.proofs.NumberLists.{timed, timed_below}
use Rattle.leaf_search.proofs.timed.timed_numbers.Goals as goal

pub returns-then-is_unlimited-clause-only : goal.returns-then-is_unlimited-clause-only
returns-then-is_unlimited-clause-only c = λ documents p test part same.
    same ∙ unlimited c.args.schema.now c.args.times test documents (sym c.is_unlimited.ensures ∙ c.if-is_unlimited.true)

pub returns-then-is_unlimited-clause-there : goal.returns-then-is_unlimited-clause-there
returns-then-is_unlimited-clause-there c = λ documents p test part all same.
    same ∙ unlimited c.args.schema.now c.args.times test documents (sym c.is_unlimited.ensures ∙ c.if-is_unlimited.true)

pub returns-in_err-numbers-clause-only : goal.returns-in_err-numbers-clause-only
returns-in_err-numbers-clause-only c = λ documents p test part same.
    let v = c.args.view.now in
    let s = c.args.schema.now in
    faulted (λ ns. ns.items ≡ numbers_of (λ d. test d && within_times s c.args.times d) documents) (AsksField v p s.timestamp) (AsksTimes v p s c.args.times) v.pieces c.in_err-numbers.field-0.0 c.from_residual.result c.from_residual.ensures.1
    (λ at len asked. record { limited = sym c.is_unlimited.ensures ∙ c.if-is_unlimited.false; asks = asked }) (c.in_err-numbers.ensures.only documents p part)

pub returns-in_err-numbers-clause-there : goal.returns-in_err-numbers-clause-there
returns-in_err-numbers-clause-there c = λ documents p test part all same.
    there_memory (λ ns. ns.items ≡ numbers_of (λ d. test d && within_times c.args.schema.now c.args.times d) documents) c.in_err-numbers.field-0.0 c.from_residual.result c.from_residual.ensures.1 (c.in_err-numbers.ensures.there documents p part all)

pub returns-then-not-are_below-clause-only : goal.returns-then-not-are_below-clause-only
returns-then-not-are_below-clause-only c = λ documents p test part same.
    let size = c.args.view.now.footer.layout.docs in
    let s = c.args.schema.now in
    let first : All (λ n. n < size) c.as_slice.result.now = subst (λ (ns : List ℕ). All (λ n. n < size) ns) (sym c.as_slice.ensures.value) c.requires in
    let numbers = c.as_slice-2.ensures.value ∙ c.in_ok-numbers.ensures.only documents p part in
    let below : All (λ n. n < size) c.as_slice-2.result.now = subst (λ (ns : List ℕ). All (λ n. n < size) ns) (sym numbers) (timed_below s c.args.times documents size c.as_slice.result.now first) in
    let yes = c.are_below.ensures.1 (subst (λ (m : ℕ). All (λ n. n < m) c.as_slice-2.result.now) (sym c.doc_count.ensures.exact) below) in
    let no = c.if-not-are_below.true in
    absurd (cc (yes, no))

pub returns-then-not-are_below-clause-there : goal.returns-then-not-are_below-clause-there
returns-then-not-are_below-clause-there c = λ documents p test part all same.
    let size = c.args.view.now.footer.layout.docs in
    let s = c.args.schema.now in
    let first : All (λ n. n < size) c.as_slice.result.now = subst (λ (ns : List ℕ). All (λ n. n < size) ns) (sym c.as_slice.ensures.value) c.requires in
    let numbers = c.as_slice-2.ensures.value ∙ c.in_ok-numbers.ensures.only documents p part in
    let below : All (λ n. n < size) c.as_slice-2.result.now = subst (λ (ns : List ℕ). All (λ n. n < size) ns) (sym numbers) (timed_below s c.args.times documents size c.as_slice.result.now first) in
    let yes = c.are_below.ensures.1 (subst (λ (m : ℕ). All (λ n. n < m) c.as_slice-2.result.now) (sym c.doc_count.ensures.exact) below) in
    let no = c.if-not-are_below.true in
    absurd (cc (yes, no))

pub returns-clause-only : goal.returns-clause-only
returns-clause-only c = λ documents p test part same.
    c.in_ok-numbers.ensures.only documents p part ∙ timed c.args.schema.now c.args.times test documents c.as_slice.result.now (c.as_slice.ensures.value ∙ same)

pub returns-clause-there : goal.returns-clause-there
returns-clause-there c = λ documents p test part all same.
    c.in_ok-numbers.ensures.only documents p part ∙ timed c.args.schema.now c.args.times test documents c.as_slice.result.now (c.as_slice.ensures.value ∙ same)
