use Rattle.std.proofs.Common.{◌∙◌, length, inl, inr, List, ℕ, Bool, ap, sym, subst}
use Rattle.doc_value.specs.declared.doc.DocField.{DocField}
use Rattle.query_ast.specs.Meaning.{meaning}
use Rattle.query_ast.specs.Sought.{view}
use Rattle.doc_sets.specs.Faults.{LacksPart, IsMemory}
use Rattle.doc_sets.proofs.Causes.{cause_wider}
use Rattle.doc_tallies.specs.AggColumns.{AsksFields}
use Rattle.doc_tallies.specs.Causes.{AsksHits}
use Rattle.leaf_search.specs.Answers.{AsksTimes, AsksWith, IsAnswerOf}
use Rattle.leaf_search.specs.Asks.{lookups_of}
use Rattle.leaf_search.proofs.Counted.{over_fast}
use Rattle.leaf_search.proofs.LeafSteps.{faulted, handed, is_answer, positive, there_memory}
use Rattle.leaf_search.proofs.leaf_answer.listed.Goals as goal

pub returns-in_err-numbers-clause-only : goal.returns-in_err-numbers-clause-only
returns-in_err-numbers-clause-only c = λ documents p part ask set.
    let s = c.args.schema.now in
    let r = c.args.request.now in
    let v = c.args.view.now in
    let e = c.in_err-numbers.field-0.0 in
    let test : List DocField → Bool = λ d. meaning s d (view r.query) in
    let matched = c.in_ok-matched.ensures.only test documents set in
    handed (IsAnswerOf s r documents) (LacksPart (AsksWith v s documents p r (lookups_of v.footer s (view r.query))) v.pieces) c.from_residual-in_err-numbers.result e c.from_residual-in_err-numbers.ensures.1
    (cause_wider (AsksTimes v p s r.times) (AsksWith v s documents p r (lookups_of v.footer s (view r.query))) v.pieces e (λ at len asked. inr (inr (inl asked))) (c.in_err-numbers.ensures.only documents p test part matched))

pub returns-in_err-numbers-clause-there : goal.returns-in_err-numbers-clause-there
returns-in_err-numbers-clause-there c = λ documents p part all ask set.
    let s = c.args.schema.now in
    let r = c.args.request.now in
    let v = c.args.view.now in
    let e = c.in_err-numbers.field-0.0 in
    let test : List DocField → Bool = λ d. meaning s d (view r.query) in
    let matched = c.in_ok-matched.ensures.only test documents set in
    handed (IsAnswerOf s r documents) IsMemory c.from_residual-in_err-numbers.result e c.from_residual-in_err-numbers.ensures.1 (c.in_err-numbers.ensures.there documents p test part all matched)

pub returns-in_err-partial-clause-only : goal.returns-in_err-partial-clause-only
returns-in_err-partial-clause-only c = λ documents p part ask set.
    let s = c.args.schema.now in
    let r = c.args.request.now in
    let v = c.args.view.now in
    faulted (IsAnswerOf s r documents) (AsksFields v p r.aggs) (AsksWith v s documents p r (lookups_of v.footer s (view r.query))) v.pieces c.in_err-partial.field-0.0 c.from_residual-in_err-partial.result c.from_residual-in_err-partial.ensures.1 (λ at len asked. inr (inr (inr (inl asked))))
    (c.in_err-partial.ensures.only documents p part (over_fast s r.aggs ask.aggs))

pub returns-in_err-partial-clause-there : goal.returns-in_err-partial-clause-there
returns-in_err-partial-clause-there c = λ documents p part all ask set.
    there_memory (IsAnswerOf c.args.schema.now c.args.request.now documents) c.in_err-partial.field-0.0 c.from_residual-in_err-partial.result c.from_residual-in_err-partial.ensures.1 (c.in_err-partial.ensures.there documents p part all)

pub returns-in_err-hits-clause-only : goal.returns-in_err-hits-clause-only
returns-in_err-hits-clause-only c = λ documents p part ask set.
    let s = c.args.schema.now in
    let r = c.args.request.now in
    let v = c.args.view.now in
    let test : List DocField → Bool = λ d. meaning s d (view r.query) in
    let matched = c.in_ok-matched.ensures.only test documents set in
    let numbers = c.as_slice-2.ensures.value ∙ c.in_ok-numbers.ensures.only documents p test part matched in
    faulted (IsAnswerOf s r documents) (AsksHits v p documents r.order r.wanted c.as_slice-2.result.now) (AsksWith v s documents p r (lookups_of v.footer s (view r.query))) v.pieces c.in_err-hits.field-0.0 c.from_residual-in_err-hits.result c.from_residual-in_err-hits.ensures.1
    (λ at len asked. inr (inr (inr (inr (record {
      wanted = positive r.wanted (λ none. let no = c.in_err-hits.ensures.none none in absurd (cc));
      asks = subst (λ (ns : List ℕ). AsksHits v p documents r.order r.wanted ns at len) numbers asked;
    })))))
    (c.in_err-hits.ensures.only documents p part ask.order)

pub returns-in_err-hits-clause-there : goal.returns-in_err-hits-clause-there
returns-in_err-hits-clause-there c = λ documents p part all ask set.
    there_memory (IsAnswerOf c.args.schema.now c.args.request.now documents) c.in_err-hits.field-0.0 c.from_residual-in_err-hits.result c.from_residual-in_err-hits.ensures.1 (c.in_err-hits.ensures.there documents p part all)

pub returns-clause-only : goal.returns-clause-only
returns-clause-only c = λ documents p part ask set.
    let s = c.args.schema.now in
    let r = c.args.request.now in
    let v = c.args.view.now in
    let test : List DocField → Bool = λ d. meaning s d (view r.query) in
    let matched = c.in_ok-matched.ensures.only test documents set in
    let numbers = c.in_ok-numbers.ensures.only documents p test part matched in
    is_answer s r documents (record { count = c.len.result; hits = c.in_ok-hits.hits; partial = c.in_ok-partial.partial }) c.in_ok-numbers.numbers.items c.as_slice.result.now c.as_slice-2.result.now numbers
    c.as_slice.ensures.value c.as_slice-2.ensures.value (c.len.ensures ∙ (sym c.as_slice.ensures.len ∙ ap length c.as_slice.ensures.value)) (c.in_ok-hits.ensures.only documents p part ask.order) (c.in_ok-partial.ensures.only documents p part (over_fast s r.aggs ask.aggs))

pub returns-clause-there : goal.returns-clause-there
returns-clause-there c = λ documents p part all ask set.
    let s = c.args.schema.now in
    let r = c.args.request.now in
    let v = c.args.view.now in
    let test : List DocField → Bool = λ d. meaning s d (view r.query) in
    let matched = c.in_ok-matched.ensures.only test documents set in
    let numbers = c.in_ok-numbers.ensures.only documents p test part matched in
    is_answer s r documents (record { count = c.len.result; hits = c.in_ok-hits.hits; partial = c.in_ok-partial.partial }) c.in_ok-numbers.numbers.items c.as_slice.result.now c.as_slice-2.result.now numbers
    c.as_slice.ensures.value c.as_slice-2.ensures.value (c.len.ensures ∙ (sym c.as_slice.ensures.len ∙ ap length c.as_slice.ensures.value)) (c.in_ok-hits.ensures.only documents p part ask.order) (c.in_ok-partial.ensures.only documents p part (over_fast s r.aggs ask.aggs))
