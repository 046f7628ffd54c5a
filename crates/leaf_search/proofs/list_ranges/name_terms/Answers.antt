use Rattle.std.proofs.Common.{◌≡◌, ◌∙◌, ◌-◌, suc, List, [], Ok, ap, arith, drop, refl, subst, sym}
use Rattle.term_dict.specs.Readers.{Lends}
use Rattle.term_dict.specs.declared.term.Term.{Term}
use Rattle.doc_sets.proofs.ReadLists.{front_none}
use Rattle.doc_sets.proofs.ReadWalks.{range_read, term_goes, terms_end}
use Rattle.doc_sets.proofs.WalkSteps.{drop_next, drop_twice, given, none_given}
use Rattle.leaf_search.proofs.ListParts.{no_terms, term_found, term_named}
use Rattle.leaf_search.proofs.list_ranges.name_terms.Goals as goal

pub loop-taken-preserved : goal.loop-taken-preserved
loop-taken-preserved c = record {
  lends = λ lent lends.
      let rest = drop c.loop-taken.taken lent in
      let step = c.in-Ok-Some.ensures.only rest (c.loop-taken.invariant.lends lent lends).0 in
      let g = given rest c.in-Ok-Some.field-0 (c.in-Ok-Some.key, c.in-Ok-Some.info) c.in-Ok-Some.field-0-is step.0 in
      let next = drop_next lent c.loop-taken.taken g.first g.rest g.lent_is in
      (subst (λ (ts : List Term). Lends c.next.new.self ts) (drop_twice lent c.loop-taken.taken) step.1, next.1);
  only = λ s documents p lent new is lends listed adds.
      let v = c.args.part.now in
      let w = c.args.wanted in
      let rest = drop c.loop-taken.taken lent in
      let g = given rest c.in-Ok-Some.field-0 (c.in-Ok-Some.key, c.in-Ok-Some.info) c.in-Ok-Some.field-0-is (c.in-Ok-Some.ensures.only rest (c.loop-taken.invariant.lends lent lends).0).0 in
      let next = drop_next lent c.loop-taken.taken g.first g.rest g.lent_is in
      let known = term_found v s documents p lent c.loop-taken.taken g.first g.rest c.in-Ok-Some.key.now c.in-Ok-Some.info g.lent_is g.key_is g.info_is listed in
      c.loop-taken.invariant.only s documents p lent new is lends listed
      (term_named v s documents p w lent c.loop-taken.taken g.first g.rest c.in-Ok-Some.key.now c.loop-taken.ranges c.name_if_wanted.new.ranges new g.lent_is next.0 g.key_is
      (c.in_ok-name_if_wanted-in-Ok-Some.ensures s documents p is known) adds);
  found = let i = c.loop-taken.invariant.found in
      let more : i.0 ≡ suc (i.0 - 1) = omega (arith, i.1, c.loop-taken-test.true) in
      let goes = term_goes (λ t. Ok []) (i.0 - 1) c.loop-taken.terms c.next.new.self c.in-Ok-Some.field-0 (c.in-Ok-Some.key, c.in-Ok-Some.info) c.in-Ok-Some.field-0-is c.in-Ok-Some.ensures.exact in (
        i.0 - 1,
        omega (arith, i.1, c.loop-taken-test.true),
        i.2 ∙ (ap (λ n. range_read (λ t. Ok []) n c.loop-taken.terms) more ∙ (goes ∙ sym (front_none (range_read (λ t. Ok []) (i.0 - 1) c.next.new.self)))),
      );
}

pub loop-taken-init : goal.loop-taken-init
loop-taken-init c = record {
  lends = λ lent lends. (lends, omega arith);
  only = λ s documents p lent new is lends listed adds. adds;
  found = (65, refl, refl);
}

pub returns-in-Ok-None-clause-read : goal.returns-in-Ok-None-clause-read
returns-in-Ok-None-clause-read c =
    let i = c.loop-taken.invariant.found in
    let more : i.0 ≡ suc (i.0 - 1) = omega (arith, i.1, c.loop-taken-test.true) in
    i.2 ∙ (ap (λ n. range_read (λ t. Ok []) n c.loop-taken.terms) more ∙ terms_end (λ t. Ok []) (i.0 - 1) c.loop-taken.terms c.next.new.self c.in-Ok-None.field-0 c.in-Ok-None.field-0-is c.in-Ok-None.ensures.exact)

pub returns-in-Ok-None-clause-only : goal.returns-in-Ok-None-clause-only
returns-in-Ok-None-clause-only c = λ s documents p lent is lends few listed.
    let rest = drop c.loop-taken.taken lent in
    let none = none_given rest c.in-Ok-None.field-0 c.in-Ok-None.field-0-is (c.in-Ok-None.ensures.only rest (c.loop-taken.invariant.lends lent lends).0).0 in
    c.loop-taken.invariant.only s documents p lent c.loop-taken.ranges is lends listed (no_terms c.args.part.now s documents p c.args.wanted rest c.loop-taken.ranges none)
