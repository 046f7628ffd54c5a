use Rattle.std.proofs.Common.{◌+◌, ◌++◌, ◌∙◌, drop, length, refl, sym, arith, rules}
use Rattle.std.proofs.lemmas.Bool.{le-ltb}
use Rattle.term_postings.specs.Postings.{varints}
use Rattle.term_postings.specs.Reading.{numbers_behind}
use Rattle.term_postings.proofs.Numbers.{not_failed, number_read, numbers_front}
use Rattle.term_postings.proofs.Exact.{numbers_done, numbers_next}
use Rattle.term_postings.proofs.moves.behind_numbers.Goals as goal

pub returns-in_err-at-clause-only : goal.returns-in_err-at-clause-only
returns-in_err-at-clause-only c numbers rest count fits within e =
    let f = numbers_front c.args.bytes.now rest c.loop-number.at numbers c.loop-number._number (omega arith) (c.loop-number.invariant.1 numbers rest count fits e) fits in
    absurd (not_failed _ _ (c.in_err-at.ensures.only f.0 (varints (drop (c.loop-number._number + 1) numbers) ++ rest) f.1 f.2))

pub loop-number-preserved : goal.loop-number-preserved
loop-number-preserved c = (
  c.in_ok-at.ensures.found.within,
  λ numbers rest count fits e.
      let f = numbers_front c.args.bytes.now rest c.loop-number.at numbers c.loop-number._number (omega arith) (c.loop-number.invariant.1 numbers rest count fits e) fits in
      (number_read c.args.bytes.now (varints (drop (c.loop-number._number + 1) numbers) ++ rest) c.loop-number.at f.0 c.in_ok-at.field-0.0 c.in_ok-at.field-0.1 f.2
      (c.in_ok-at.ensures.only f.0 (varints (drop (c.loop-number._number + 1) numbers) ++ rest) f.1 f.2)).1,
  sym (
      numbers_next c.args.bytes.now c.args.count c.loop-number._number c.loop-number.at (numbers_behind c.args.count c.args.bytes.now c.args.from) c.loop-number.invariant.2 (omega arith)
      ∙ rw (sym c.in_ok-at.ensures.exact) refl
      ),
)

pub returns-in_err-at-clause-exact : goal.returns-in_err-at-clause-exact
returns-in_err-at-clause-exact c =
    rw (
      le-ltb (length c.args.bytes.now) c.args.from (omega arith),
      numbers_next c.args.bytes.now c.args.count c.loop-number._number c.loop-number.at (numbers_behind c.args.count c.args.bytes.now c.args.from) c.loop-number.invariant.2 (omega arith),
      sym c.in_err-at.ensures.exact,
    ) (search rules)

pub returns-clause-exact : goal.returns-clause-exact
returns-clause-exact c =
    rw (le-ltb (length c.args.bytes.now) c.args.from (omega arith)) (
    sym (numbers_done c.args.bytes.now c.args.count c.loop-number._number c.loop-number.at (numbers_behind c.args.count c.args.bytes.now c.args.from) c.loop-number.invariant.2 (omega arith))
    )
