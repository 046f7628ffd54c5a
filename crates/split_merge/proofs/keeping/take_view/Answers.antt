use Rattle.std.proofs.Common.{◌≡◌, ℕ, suc, ◌+◌, ◌-◌, List, Ok, sym, ap, subst, ◌∙◌, arith, refl}
use Rattle.std.specs.Prelude.{⊤}
use Rattle.std.specs.Borrow.{Bor}
use Rattle.split_merge.specs.declared.places.KnownPlace.{KnownPlace}
use Rattle.split_merge.specs.Places.{ArePlaces}
use Rattle.split_merge.specs.Reading.{behind, documents_of}
use Rattle.split_merge.proofs.KeepLemmas.{keeps_more}
use Rattle.split_merge.proofs.ReadLemmas.{behind_end, documents_fault, documents_step}
use Rattle.split_merge.proofs.keeping.take_view.Goals as goal

pub loop-doc-init : goal.loop-doc-init
loop-doc-init c = record {
  place = omega arith;
  rise = c.requires.rise;
  same = λ m lt. refl;
  exact = λ before h.
      let all : c.args.view.now.layout.docs - 0 ≡ c.args.view.now.layout.docs = omega arith in (
        before,
        h,
        subst (λ (ks : List KnownPlace). ArePlaces c.args.view.now ks) (sym c.new-known.ensures.items) tt,
        ap (λ (n : ℕ). behind (Ok before) (documents_of c.args.schema.now c.args.places.now c.args.view.now c.args.first 0 n)) all,
      );
}

pub returns-in-Err-clause-exact : goal.returns-in-Err-clause-exact
returns-in-Err-clause-exact c = λ before h.
    let so_far = c.loop-doc.invariant.exact before h in
    let left : c.args.view.now.layout.docs - c.loop-doc.doc ≡ suc (c.args.view.now.layout.docs - (c.loop-doc.doc + 1)) = omega (arith, c.loop-doc-test.true, c.doc_count-doc-end.ensures.exact) in
    keeps_more ⊤ (Bor (List ℕ)) c.take_next.new.documents c.take_next.new.documents c.args.schema.now c.in-Err.fault _ _
    (documents_fault c.args.schema.now c.args.view.now c.loop-doc.rest.now c.passed-dropped.result.0 so_far.0 c.loop-doc.place c.loop-doc.doc _ _ _ c.passed-dropped.ensures.named left so_far.3)
    (c.in-Err.ensures.exact so_far.0 so_far.1 so_far.2)

pub loop-doc-preserved : goal.loop-doc-preserved
loop-doc-preserved c = record {
  place = omega (arith, c.loop-doc.invariant.place);
  rise = c.passed-dropped.ensures.rise;
  same = λ m lt. c.passed-dropped.ensures.same m (omega (arith, lt)) ∙ c.loop-doc.invariant.same m (omega (arith, lt));
  exact = λ before h.
      let so_far = c.loop-doc.invariant.exact before h in
      let taken = c.in-Ok.ensures.exact so_far.0 so_far.1 so_far.2 in
      let left : c.args.view.now.layout.docs - c.loop-doc.doc ≡ suc (c.args.view.now.layout.docs - (c.loop-doc.doc + 1)) = omega (arith, c.loop-doc-test.true, c.doc_count-doc-end.ensures.exact) in (
        taken.0,
        taken.2,
        c.in-Ok.ensures.places so_far.0 so_far.1 so_far.2,
        documents_step c.args.schema.now c.args.view.now c.loop-doc.rest.now c.passed-dropped.result.1.now c.passed-dropped.result.0 so_far.0 taken.0 c.loop-doc.place c.loop-doc.doc _ _ _ c.passed-dropped.ensures.named c.passed-dropped.ensures.same left
            taken.1 so_far.3,
      );
}

pub returns-clause-exact : goal.returns-clause-exact
returns-clause-exact c = λ before h.
    let so_far = c.loop-doc.invariant.exact before h in
    let none : c.args.view.now.layout.docs - c.loop-doc.doc ≡ 0 = omega (arith, c.loop-doc-test.false, c.doc_count-doc-end.ensures.exact) in
    (so_far.0, behind_end so_far.0 _ (ap (λ (n : ℕ). behind (Ok so_far.0) (documents_of c.args.schema.now c.loop-doc.rest.now c.args.view.now c.loop-doc.place c.loop-doc.doc n)) (sym none) ∙ so_far.3), so_far.1)
