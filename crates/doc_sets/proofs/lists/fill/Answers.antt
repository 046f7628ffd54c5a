use Rattle.std.proofs.Common.{◌≡◌, ℕ, suc, ◌+◌, ◌-◌, ◌<◌, ◌++◌, true, false, List, [], length, drop, take, refl, ap, sym, subst, ◌∙◌, arith, Err}
use Rattle.term_postings.specs.Reading.{walk}
use Rattle.doc_sets.specs.Bits.{has}
use Rattle.doc_sets.specs.Reads.{are_below, in_front_of, numbers_in}
use Rattle.doc_sets.proofs.ReadLists.{above_read, block_read, end_read, fault_read, front_none, last_read, nothing_put, put_behind, put_fault}
use Rattle.std.specs.List.{AllByRecursion}
use Rattle.std.proofs.lemmas.List.{drop-drop, length-take-le}
use Rattle.term_postings.specs.Cursors.{StandsBefore, last_positions}
use Rattle.doc_sets.proofs.Fills.{block_in, dropped_below, none_in, taken_below}
use Rattle.doc_sets.proofs.lists.fill.Goals as goal

pub returns-then-count-eq0-clause-only : goal.returns-then-count-eq0-clause-only
returns-then-count-eq0-clause-only c = λ list stands docs below.
    let i = c.loop-passed.invariant.only list stands docs below in
    let g = c.in-Ok.ensures.only false (drop i.0 list) i.2.0 i.2.1 in
    let none : drop i.0 list ≡ [] = g.some (ap (λ (n : ℕ). length (take n c.next_block.new.found)) c.if-count-eq0.true) in
    (refl, λ k. none_in k (drop i.0 list) _ _ none (i.3 k))

pub returns-in_err-put_each-in-Ok-clause-only : goal.returns-in_err-put_each-in-Ok-clause-only
returns-in_err-put_each-in-Ok-clause-only c = λ list stands docs below.
    let i = c.loop-passed.invariant.only list stands docs below in
    let g = c.in-Ok.ensures.only false (drop i.0 list) i.2.0 i.2.1 in
    let given = take c.in-Ok.count c.next_block.new.found in
    let few : AllByRecursion (λ n. n < c.loop-passed.bits.size) given =
    subst (λ (l : List ℕ). AllByRecursion (λ n. n < c.loop-passed.bits.size) l) (sym g.passes.given_are)
    (taken_below c.loop-passed.bits.size (length given) (drop i.0 list) (dropped_below c.loop-passed.bits.size i.0 list (subst (λ (m : ℕ). AllByRecursion (λ p. p.document < m) list) (sym c.loop-passed.invariant.size) below))) in
    let bad = (c.in_err-put_each-in-Ok.ensures.only few).0 in
    absurd (cc)

pub returns-in-Err-clause-only : goal.returns-in-Err-clause-only
returns-in-Err-clause-only c = λ list stands docs below.
    let i = c.loop-passed.invariant.only list stands docs below in
    absurd (c.in-Err.ensures.only false (drop i.0 list) i.2.0 i.2.1)

pub loop-passed-preserved : goal.loop-passed-preserved
loop-passed-preserved c = record {
  size = c.put_each.ensures.size ∙ c.loop-passed.invariant.size;
  only = λ list stands docs below.
      let i = c.loop-passed.invariant.only list stands docs below in
      let g = c.in-Ok.ensures.only false (drop i.0 list) i.2.0 i.2.1 in
      let given = take c.in-Ok.count c.next_block.new.found in
      let few : AllByRecursion (λ n. n < c.loop-passed.bits.size) given =
      subst (λ (l : List ℕ). AllByRecursion (λ n. n < c.loop-passed.bits.size) l) (sym g.passes.given_are)
      (taken_below c.loop-passed.bits.size (length given) (drop i.0 list) (dropped_below c.loop-passed.bits.size i.0 list (subst (λ (m : ℕ). AllByRecursion (λ p. p.document < m) list) (sym c.loop-passed.invariant.size) below))) in
      let put = (c.in_ok-put_each-in-Ok.ensures.only few).1 in
      let room : length given ≡ c.in-Ok.count = length-take-le c.in-Ok.count c.next_block.new.found (let e = c.in-Ok.ensures.exact in e.3) in (
        i.0 + length given,
        omega (arith, i.1, room, c.if-count-eq0.false),
        (last_positions (take (length given) (drop i.0 list)) i.2.0, subst (λ ps. StandsBefore false c.next_block.new.self ps (last_positions (take (length given) (drop i.0 list)) i.2.0)) (drop-drop (length given) i.0 list) g.passes.stands),
        λ k. block_in k i.0 (length given) list given _ _ _ g.passes.given_are (put k) (i.3 k),
      );
  exact = let i = c.loop-passed.invariant.exact in
      let read = c.in-Ok.ensures.exact in
      let given = take c.in-Ok.count c.next_block.new.found in
      let room : length given ≡ c.in-Ok.count = length-take-le c.in-Ok.count c.next_block.new.found read.3 in
      let put = c.in_ok-put_each-in-Ok.ensures.exact in
      let below = subst (λ n. are_below n given ≡ true) c.loop-passed.invariant.size put.0 in
      let some : given ≡ [] → ⊥ = λ none. let zero : length given ≡ 0 = ap (λ (l : List ℕ). length l) none in omega (arith, zero, room, c.if-count-eq0.false) in
      let more : i.0 ≡ suc (i.0 - 1) = omega (arith, i.1, c.loop-passed-test.true) in (
        i.0 - 1,
        omega (arith, i.1, c.loop-passed-test.true),
        (
          i.2.0 ++ given,
          block_read (i.0 - 1) c.args.bits.now.size (walk c.loop-passed.cursor) (walk c.next_block.new.self) i.2.0 given (numbers_in c.args.docs c.args.bits.now.size (walk c.args.cursor)) read.0 some below
              (subst (λ n. numbers_in c.args.docs c.args.bits.now.size (walk c.args.cursor) ≡ in_front_of i.2.0 (numbers_in n c.args.bits.now.size (walk c.loop-passed.cursor))) more i.2.1),
          λ k. put_behind k i.2.0 given _ _ _ (i.2.2 k) (put.1 k),
        ),
      );
}

pub loop-passed-init : goal.loop-passed-init
loop-passed-init c = record {
  size = refl;
  only = λ list stands docs below. (0, omega arith, ([], stands), λ k. refl);
  exact = (c.args.docs, omega arith, ([], front_none (numbers_in c.args.docs c.args.bits.now.size (walk c.args.cursor)), λ k. nothing_put k (has c.args.bits.now k) (has c.args.bits.now k) refl));
}

pub returns-then-count-eq0-clause-exact : goal.returns-then-count-eq0-clause-exact
returns-then-count-eq0-clause-exact c =
    let i = c.loop-passed.invariant.exact in
    let read = c.in-Ok.ensures.exact in
    let given = take c.in-Ok.count c.next_block.new.found in
    let more : i.0 ≡ suc (i.0 - 1) = omega (arith, i.1, c.loop-passed-test.true) in
    let none : given ≡ [] = ap (λ (n : ℕ). take n c.next_block.new.found) c.if-count-eq0.true in (
      i.2.0,
      end_read (i.0 - 1) c.args.bits.now.size (walk c.loop-passed.cursor) (walk c.next_block.new.self) i.2.0 given (numbers_in c.args.docs c.args.bits.now.size (walk c.args.cursor)) read.0 none
          (subst (λ n. numbers_in c.args.docs c.args.bits.now.size (walk c.args.cursor) ≡ in_front_of i.2.0 (numbers_in n c.args.bits.now.size (walk c.loop-passed.cursor))) more i.2.1),
      i.2.2,
    )

pub returns-in_err-put_each-in-Ok-clause-exact : goal.returns-in_err-put_each-in-Ok-clause-exact
returns-in_err-put_each-in-Ok-clause-exact c =
    let i = c.loop-passed.invariant.exact in
    let read = c.in-Ok.ensures.exact in
    let given = take c.in-Ok.count c.next_block.new.found in
    let put = c.in_err-put_each-in-Ok.ensures.exact in
    let above = subst (λ n. are_below n given ≡ false) c.loop-passed.invariant.size put.0 in
    let more : i.0 ≡ suc (i.0 - 1) = omega (arith, i.1, c.loop-passed-test.true) in
    let met = above_read (i.0 - 1) c.args.bits.now.size (walk c.loop-passed.cursor) (walk c.next_block.new.self) i.2.0 given (numbers_in c.args.docs c.args.bits.now.size (walk c.args.cursor)) read.0 above
    (subst (λ n. numbers_in c.args.docs c.args.bits.now.size (walk c.args.cursor) ≡ in_front_of i.2.0 (numbers_in n c.args.bits.now.size (walk c.loop-passed.cursor))) more i.2.1) in
    put_fault c.args.bits.now c.put_each.new.bits c.from_residual.result _ (numbers_in c.args.docs c.args.bits.now.size (walk c.args.cursor)) c.from_residual.ensures.1 (met ∙ ap (λ e. Err e) (sym put.1))

pub returns-in-Err-clause-exact : goal.returns-in-Err-clause-exact
returns-in-Err-clause-exact c =
    let i = c.loop-passed.invariant.exact in
    let more : i.0 ≡ suc (i.0 - 1) = omega (arith, i.1, c.loop-passed-test.true) in
    fault_read (i.0 - 1) c.args.bits.now.size (walk c.loop-passed.cursor) i.2.0 _ (numbers_in c.args.docs c.args.bits.now.size (walk c.args.cursor)) c.in-Err.ensures.exact
    (subst (λ n. numbers_in c.args.docs c.args.bits.now.size (walk c.args.cursor) ≡ in_front_of i.2.0 (numbers_in n c.args.bits.now.size (walk c.loop-passed.cursor))) more i.2.1)

pub returns-clause-exact : goal.returns-clause-exact
returns-clause-exact c =
    let i = c.loop-passed.invariant.exact in (
      i.2.0,
      last_read i.0 c.args.bits.now.size (walk c.loop-passed.cursor) i.2.0 (numbers_in c.args.docs c.args.bits.now.size (walk c.args.cursor)) (omega (arith, i.1, c.loop-passed-test.false)) i.2.1,
      i.2.2,
    )
