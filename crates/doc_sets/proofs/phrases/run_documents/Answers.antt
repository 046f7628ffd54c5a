use Rattle.std.proofs.Common.{◌≡◌, inl, inr, ◌∙◌, ◌<◌, true, false, length, ap, sym, arith}
use Rattle.std.proofs.lemmas.Bool.{cases_eq, cases_lt}
use Rattle.split_bundle.specs.Keys.{keys_of}
use Rattle.doc_sets.specs.Asked.{has_each, has_run}
use Rattle.doc_sets.specs.Faults.{IsMemory}
use Rattle.doc_sets.specs.Sets.{holds_at, IsSetOf}
use Rattle.doc_sets.proofs.Causes.{handed_on}
use Rattle.doc_sets.proofs.Runs.{there, holds_here, not_run, put_last, put_here}
use Rattle.doc_sets.proofs.SeekLaws.{passing_later}
use Rattle.doc_sets.proofs.phrases.run_documents.Goals as goal

pub returns-in_err-runs-clause-only : goal.returns-in_err-runs-clause-only
returns-in_err-runs-clause-only c = λ s documents number passing keeps set.
    let phrase = c.args.phrase.now in
    let document = c.in-Some.document in
    let lt : document < length documents = omega (arith, set.size, c.in-Some.ensures.1) in
    let d = there documents document lt in
    let each : has_each number phrase (keys_of s d.0.doc) ≡ true =
    sym (holds_here (λ x. has_each number phrase (keys_of s x)) documents document d.0 d.1) ∙ (sym (set.each document lt) ∙ c.in-Some.ensures.2) in
    let i = c.loop-document.invariant.only s documents number passing keeps set in
    handed_on (IsSetOf (λ x. has_run number phrase (keys_of s x)) documents) IsMemory c.from_residual-in_err-runs.result c.in_err-runs.field-0.0 c.from_residual-in_err-runs.ensures.1
    (c.in_err-runs.ensures s documents number d.0 (passing_later s documents number phrase c.loop-document.cursors c.loop-document.from document c.in-Some.ensures.0 i.0) keeps d.1 each)

pub loop-document-preserved : goal.loop-document-preserved
loop-document-preserved c = record {
  within = omega (arith, c.in-Some.ensures.1);
  size = c.put_if.ensures.size ∙ c.loop-document.invariant.size;
  rest = λ k le. put_last c.in-Some.document k _ _ _ false (λ e. absurd (omega arith)) (c.put_if.ensures.has k) (c.loop-document.invariant.rest k (let low = c.in-Some.ensures.0 in omega (arith, low, le)));
  only = λ s documents number passing keeps set.
      let phrase = c.args.phrase.now in
      let document = c.in-Some.document in
      let low = c.in-Some.ensures.0 in
      let lt : document < length documents = omega (arith, set.size, c.in-Some.ensures.1) in
      let d = there documents document lt in
      let each : has_each number phrase (keys_of s d.0.doc) ≡ true =
      sym (holds_here (λ x. has_each number phrase (keys_of s x)) documents document d.0 d.1) ∙ (sym (set.each document lt) ∙ c.in-Some.ensures.2) in
      let i = c.loop-document.invariant.only s documents number passing keeps set in
      let h = c.in_ok-runs.ensures s documents number d.0 (passing_later s documents number phrase c.loop-document.cursors c.loop-document.from document low i.0) keeps d.1 each in (
        h.1,
        λ k below. elim (cases_eq document k) [
          | inl e ↦ put_here document k _ _ _ _ e (c.put_if.ensures.has k) (c.loop-document.invariant.rest k (omega (arith, low, e)))
              (h.0 ∙ (sym (holds_here (λ x. has_run number phrase (keys_of s x)) documents document d.0 d.1) ∙ ap (λ j. holds_at (λ x. has_run number phrase (keys_of s x)) documents j) e))
          | inr ne ↦ put_last document k _ _ _ _ ne (c.put_if.ensures.has k)
              (elim (cases_lt k c.loop-document.from) [
                | inl before ↦ i.1 k before
                | inr behind ↦ c.loop-document.invariant.rest k behind
                    ∙ sym (not_run s number phrase documents k (omega (arith, lt, below, ne)) (sym (set.each k (omega (arith, lt, below, ne))) ∙ c.in-Some.ensures.3 k behind (omega (arith, below, ne))))
              ])
        ],
      );
}

pub returns-clause-only : goal.returns-clause-only
returns-clause-only c = λ s documents number passing keeps set.
    let phrase = c.args.phrase.now in
    let i = c.loop-document.invariant.only s documents number passing keeps set in
    record {
      size = c.loop-document.invariant.size ∙ set.size;
      each = λ k lt. elim (cases_lt k c.loop-document.from) [
        | inl before ↦ i.1 k before
        | inr behind ↦ c.loop-document.invariant.rest k behind ∙ sym (not_run s number phrase documents k lt (sym (set.each k lt) ∙ c.in_default.ensures k behind))
      ];
    }
