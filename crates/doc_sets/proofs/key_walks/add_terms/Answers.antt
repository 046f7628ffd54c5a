use Rattle.std.proofs.Common.{◌≡◌, ◌∙◌, ◌||◌, ◌&&◌, ◌+◌, ◌-◌, ◌++◌, suc, List, [], ap, sym, subst, drop, refl, arith}
use Rattle.term_dict.specs.Readers.{Lends}
use Rattle.term_dict.specs.declared.term.Term.{Term}
use Rattle.split_bundle.specs.Keys.{keys_of}
use Rattle.split_bundle.specs.Lists.{has_key}
use Rattle.doc_sets.specs.Bits.{has}
use Rattle.doc_sets.specs.Faults.{LacksPart}
use Rattle.doc_sets.specs.Reads.{in_front_of, numbers_if}
use Rattle.doc_sets.specs.Sets.{IsSetOf}
use Rattle.doc_sets.specs.Walks.{AsksIf, AsksTerms, IsListed, has_some_of, takes}
use Rattle.doc_sets.proofs.Causes.{handed_on}
use Rattle.doc_sets.specs.declared.leaf_error.LeafError.TheVariants as faults
use Rattle.doc_sets.proofs.ReadLists.{front_none, nothing_put, put_behind, put_fault}
use Rattle.doc_sets.proofs.ReadWalks.{ends, fails, goes_on, range_read, stops, term_goes, terms_end, terms_fault, too_many_terms}
use Rattle.doc_sets.proofs.TermWalks.{term_step}
use Rattle.doc_sets.proofs.WalkSteps.{drop_next, drop_twice, first_listed, given, listed_as, none_given, none_more, set_alike, term_lacks}
use Rattle.doc_sets.proofs.key_walks.add_terms.Goals as goal

pub returns-in_err-add_if_wanted-in-Ok-Some-clause-only : goal.returns-in_err-add_if_wanted-in-Ok-Some-clause-only
returns-in_err-add_if_wanted-in-Ok-Some-clause-only c = λ s documents p lent test is lends few listed set.
    let v = c.args.part.now in
    let w = c.args.wanted in
    let rest = drop c.loop-taken.taken lent in
    let g = given rest c.in-Ok-Some.field-0 (c.in-Ok-Some.key, c.in-Ok-Some.info) c.in-Ok-Some.field-0-is (c.in-Ok-Some.ensures.only rest (c.loop-taken.invariant.lends lent lends).0).0 in
    let i = c.loop-taken.invariant.only s documents p lent test is lends listed set in
    let known = listed_as s documents p c.args.positions g.first c.in-Ok-Some.key.now c.in-Ok-Some.info g.key_is g.info_is (first_listed (IsListed s documents p c.args.positions) lent c.loop-taken.taken g.first g.rest g.lent_is listed) in
    let e = c.in_err-add_if_wanted-in-Ok-Some.field-0.0 in
    let cause = c.in_err-add_if_wanted-in-Ok-Some.ensures.only s documents p i.0 is known.0 known.1 i.1 in
    handed_on (λ u. IsSetOf (λ d. test d || has_some_of w lent (keys_of s d)) documents c.add_if_wanted.new.bits) (LacksPart (AsksTerms v s documents p w lent) v.pieces) c.from_residual.result e c.from_residual.ensures.1
    (term_lacks v s documents p w lent c.loop-taken.taken g.first g.rest e g.lent_is (subst (λ k. LacksPart (AsksIf v s documents p w k) v.pieces e) g.key_is cause))

pub returns-in-Ok-None-clause-only : goal.returns-in-Ok-None-clause-only
returns-in-Ok-None-clause-only c = λ s documents p lent test is lends few listed set.
    let w = c.args.wanted in
    let rest = drop c.loop-taken.taken lent in
    let none = none_given rest c.in-Ok-None.field-0 c.in-Ok-None.field-0-is (c.in-Ok-None.ensures.only rest (c.loop-taken.invariant.lends lent lends).0).0 in
    let i = c.loop-taken.invariant.only s documents p lent test is lends listed set in
    set_alike i.0 (λ d. test d || has_some_of w lent (keys_of s d)) documents c.loop-taken.bits (λ d. none_more w (i.0 d) rest (keys_of s d) none ∙ i.2 d) i.1

pub loop-taken-preserved : goal.loop-taken-preserved
loop-taken-preserved c = record {
  size = c.add_if_wanted.ensures.size ∙ c.loop-taken.invariant.size;
  lends = λ lent lends.
      let rest = drop c.loop-taken.taken lent in
      let step = c.in-Ok-Some.ensures.only rest (c.loop-taken.invariant.lends lent lends).0 in
      let g = given rest c.in-Ok-Some.field-0 (c.in-Ok-Some.key, c.in-Ok-Some.info) c.in-Ok-Some.field-0-is step.0 in
      let next = drop_next lent c.loop-taken.taken g.first g.rest g.lent_is in
      (subst (λ (ts : List Term). Lends c.next.new.self ts) (drop_twice lent c.loop-taken.taken) step.1, next.1);
  only = λ s documents p lent test is lends listed set.
      let w = c.args.wanted in
      let rest = drop c.loop-taken.taken lent in
      let g = given rest c.in-Ok-Some.field-0 (c.in-Ok-Some.key, c.in-Ok-Some.info) c.in-Ok-Some.field-0-is (c.in-Ok-Some.ensures.only rest (c.loop-taken.invariant.lends lent lends).0).0 in
      let i = c.loop-taken.invariant.only s documents p lent test is lends listed set in
      let known = listed_as s documents p c.args.positions g.first c.in-Ok-Some.key.now c.in-Ok-Some.info g.key_is g.info_is (first_listed (IsListed s documents p c.args.positions) lent c.loop-taken.taken g.first g.rest g.lent_is listed) in
      let added = c.in_ok-add_if_wanted-in-Ok-Some.ensures.only s documents p i.0 is known.0 known.1 i.1 in
      let key = c.in-Ok-Some.key.now in (
        λ d. i.0 d || (takes w key && has_key key (keys_of s d)),
        added,
        λ d. ap (λ k. (i.0 d || (takes w k && has_key k (keys_of s d))) || has_some_of w (drop (c.loop-taken.taken + 1) lent) (keys_of s d)) g.key_is
            ∙ (ap (λ ts. (i.0 d || (takes w g.first.key && has_key g.first.key (keys_of s d))) || has_some_of w ts (keys_of s d)) (drop_next lent c.loop-taken.taken g.first g.rest g.lent_is).0
            ∙ (term_step w (i.0 d) g.first g.rest (keys_of s d) ∙ (ap (λ ts. i.0 d || has_some_of w ts (keys_of s d)) (sym g.lent_is) ∙ i.2 d))),
      );
  exact = λ size.
      let i = c.loop-taken.invariant.exact size in
      let reads = numbers_if c.args.part.now c.args.positions c.args.wanted in
      let put = c.in_ok-add_if_wanted-in-Ok-Some.ensures.exact (c.loop-taken.invariant.size ∙ size) in
      let more : i.0 ≡ suc (i.0 - 1) = omega (arith, i.1, c.loop-taken-test.true) in
      let goes = term_goes reads (i.0 - 1) c.loop-taken.terms c.next.new.self c.in-Ok-Some.field-0 (c.in-Ok-Some.key, c.in-Ok-Some.info) c.in-Ok-Some.field-0-is c.in-Ok-Some.ensures.exact in (
        i.0 - 1,
        omega (arith, i.1, c.loop-taken-test.true),
        (
          i.2.0 ++ put.0,
          goes_on (range_read reads 65 c.args.terms) _ (range_read reads (i.0 - 1) c.next.new.self) i.2.0 put.0
              (subst (λ n. range_read reads 65 c.args.terms ≡ in_front_of i.2.0 (range_read reads n c.loop-taken.terms)) more i.2.1 ∙ ap (in_front_of i.2.0) goes) put.1,
          λ k. put_behind k i.2.0 put.0 _ _ _ (i.2.2 k) (put.2 k),
        ),
      );
}

pub loop-taken-init : goal.loop-taken-init
loop-taken-init c = record {
  size = refl;
  lends = λ lent lends. (lends, omega arith);
  only = λ s documents p lent test is lends listed set. (test, set, λ d. refl);
  exact = λ size. (65, refl, ([], front_none (range_read (numbers_if c.args.part.now c.args.positions c.args.wanted) 65 c.args.terms), λ k. nothing_put k (has c.args.bits.now k) (has c.args.bits.now k) refl));
}

pub returns-in_err-add_if_wanted-in-Ok-Some-clause-exact : goal.returns-in_err-add_if_wanted-in-Ok-Some-clause-exact
returns-in_err-add_if_wanted-in-Ok-Some-clause-exact c = λ size.
    let i = c.loop-taken.invariant.exact size in
    let reads = numbers_if c.args.part.now c.args.positions c.args.wanted in
    let e = c.in_err-add_if_wanted-in-Ok-Some.field-0.0 in
    let put = c.in_err-add_if_wanted-in-Ok-Some.ensures.exact (c.loop-taken.invariant.size ∙ size) in
    let more : i.0 ≡ suc (i.0 - 1) = omega (arith, i.1, c.loop-taken-test.true) in
    let goes = term_goes reads (i.0 - 1) c.loop-taken.terms c.next.new.self c.in-Ok-Some.field-0 (c.in-Ok-Some.key, c.in-Ok-Some.info) c.in-Ok-Some.field-0-is c.in-Ok-Some.ensures.exact in
    put_fault c.args.bits.now c.add_if_wanted.new.bits c.from_residual.result e (range_read reads 65 c.args.terms) c.from_residual.ensures.1
    (stops (range_read reads 65 c.args.terms) _ (range_read reads (i.0 - 1) c.next.new.self) i.2.0 e
    (subst (λ n. range_read reads 65 c.args.terms ≡ in_front_of i.2.0 (range_read reads n c.loop-taken.terms)) more i.2.1 ∙ ap (in_front_of i.2.0) goes) put)

pub returns-in-Ok-None-clause-exact : goal.returns-in-Ok-None-clause-exact
returns-in-Ok-None-clause-exact c = λ size.
    let i = c.loop-taken.invariant.exact size in
    let reads = numbers_if c.args.part.now c.args.positions c.args.wanted in
    let more : i.0 ≡ suc (i.0 - 1) = omega (arith, i.1, c.loop-taken-test.true) in (
      i.2.0,
      ends (range_read reads 65 c.args.terms) (range_read reads (suc (i.0 - 1)) c.loop-taken.terms) i.2.0
          (subst (λ n. range_read reads 65 c.args.terms ≡ in_front_of i.2.0 (range_read reads n c.loop-taken.terms)) more i.2.1)
          (terms_end reads (i.0 - 1) c.loop-taken.terms c.next.new.self c.in-Ok-None.field-0 c.in-Ok-None.field-0-is c.in-Ok-None.ensures.exact),
      i.2.2,
    )

pub returns-in-Err-clause-exact : goal.returns-in-Err-clause-exact
returns-in-Err-clause-exact c = λ size.
    let i = c.loop-taken.invariant.exact size in
    let reads = numbers_if c.args.part.now c.args.positions c.args.wanted in
    let more : i.0 ≡ suc (i.0 - 1) = omega (arith, i.1, c.loop-taken-test.true) in
    fails (range_read reads 65 c.args.terms) (range_read reads (suc (i.0 - 1)) c.loop-taken.terms) i.2.0 (faults.Corrupt 2)
    (subst (λ n. range_read reads 65 c.args.terms ≡ in_front_of i.2.0 (range_read reads n c.loop-taken.terms)) more i.2.1)
    (terms_fault reads (i.0 - 1) c.loop-taken.terms c.next.new.self _ c.in-Err.ensures.exact)

pub returns-clause-exact : goal.returns-clause-exact
returns-clause-exact c = λ size.
    let i = c.loop-taken.invariant.exact size in
    let reads = numbers_if c.args.part.now c.args.positions c.args.wanted in
    let none : i.0 ≡ 0 = omega (arith, i.1, c.loop-taken-test.false) in
    fails (range_read reads 65 c.args.terms) (range_read reads i.0 c.loop-taken.terms) i.2.0 (faults.Corrupt 2) i.2.1 (too_many_terms reads i.0 c.loop-taken.terms none)
