use Rattle.std.proofs.Common.{rules, ◌≡◌, ℕ, suc, ◌+◌, ◌-◌, List, sym, ap, ◌∙◌, arith, Some, Ok}
use Rattle.split_bundle.specs.Documents.{total_weight, weight}
use Rattle.split_bundle.specs.declared.placed.Placed.{Placed}
use Rattle.split_merge.proofs.KeptLemmas.{drop_at}
use Rattle.upkeep_run.specs.Judging.{weights_of}
use Rattle.upkeep_run.proofs.Weights.{no_fault, past_all, plus, plus_none, same_weight, weights_end, weights_fault, weights_step}
use Rattle.upkeep_run.proofs.judging.weights.Goals as goal

pub loop-doc-init : goal.loop-doc-init
loop-doc-init c = record {
  bound = omega arith;
  exact = ap (weights_of c.args.view.now 0) (omega arith) ∙ sym (plus_none _);
  only = λ s documents p view. omega arith;
}

pub loop-doc-preserved : goal.loop-doc-preserved
loop-doc-preserved c =
    let inside : c.loop-doc.doc + 1 ≡ suc c.loop-doc.doc = omega arith in
    let left : c.args.view.now.layout.docs - c.loop-doc.doc ≡ suc (c.args.view.now.layout.docs - (c.loop-doc.doc + 1)) = omega (arith, c.loop-doc-test.true, c.doc_count-doc-end.ensures.exact) in
    record {
      bound = first_of (omega (arith, c.loop-doc.invariant.bound, c.from-weights.ensures), search rules);
      exact = c.loop-doc.invariant.exact ∙ weights_step c.args.view.now c.loop-doc.doc _ _ c.loop-doc.weights c.from-weights.result left (sym c.in-Ok.ensures.exact ∙ ap (λ (w : ℕ). Ok w) (sym c.from-weights.ensures))
          ∙ ap (λ (n : ℕ). plus (c.loop-doc.weights + c.from-weights.result) (weights_of c.args.view.now n (c.args.view.now.layout.docs - (c.loop-doc.doc + 1)))) (sym inside);
      only = λ s documents p view.
          let at = drop_at documents c.loop-doc.doc (omega (arith, c.loop-doc-test.true, c.doc_count-doc-end.ensures.only s documents p view)) in
          let same = same_weight c.in-Ok.weight (weight at.0) (c.in-Ok.ensures.only s documents p at.0 view at.1) in
          let rest = ap (λ (l : List Placed). total_weight l) at.2 in
          let before = c.loop-doc.invariant.only s documents p view in
          let made = c.from-weights.ensures in
          omega (arith, same, rest, before, made);
    }

pub returns-in-Err-clause-exact : goal.returns-in-Err-clause-exact
returns-in-Err-clause-exact c =
    let left : c.args.view.now.layout.docs - c.loop-doc.doc ≡ suc (c.args.view.now.layout.docs - (c.loop-doc.doc + 1)) = omega (arith, c.loop-doc-test.true, c.doc_count-doc-end.ensures.exact) in
    sym (c.loop-doc.invariant.exact ∙ weights_fault c.args.view.now c.loop-doc.doc _ _ c.loop-doc.weights c.in-Err.field-0 left (sym c.in-Err.ensures.exact))

pub returns-in-Err-clause-only : goal.returns-in-Err-clause-only
returns-in-Err-clause-only c = λ s documents p view.
    let at = drop_at documents c.loop-doc.doc (omega (arith, c.loop-doc-test.true, c.doc_count-doc-end.ensures.only s documents p view)) in
    absurd (no_fault c.in-Err.field-0 (weight at.0) (c.in-Err.ensures.only s documents p at.0 view at.1))

pub returns-clause-exact : goal.returns-clause-exact
returns-clause-exact c =
    let none : c.args.view.now.layout.docs - c.loop-doc.doc ≡ 0 = omega (arith, c.loop-doc-test.false, c.doc_count-doc-end.ensures.exact) in
    sym (c.loop-doc.invariant.exact ∙ weights_end c.args.view.now c.loop-doc.doc _ c.loop-doc.weights none)

pub returns-clause-only : goal.returns-clause-only
returns-clause-only c = λ s documents p view.
    let all = c.loop-doc.invariant.only s documents p view in
    let past = past_all documents c.loop-doc.doc (omega (arith, c.loop-doc-test.false, c.doc_count-doc-end.ensures.only s documents p view)) in
    ap Some (omega (arith, all, past))
