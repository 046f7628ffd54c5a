use Rattle.std.proofs.Common.{◌≡◌, ◌+◌, ◌-◌, List, ℕ, suc, take, length, refl, arith, subst, sym, ap, ◌∙◌}
use Rattle.std.proofs.lemmas.List.{take_more_set, take_all}
use Rattle.term_postings.specs.Cursors.{PassesMany}
use Rattle.term_postings.specs.Reading.{walk, last_of}
use Rattle.term_postings.proofs.Many.{one_read, one_given, pass_refused, last_one}
use Rattle.term_postings.proofs.cursor.Cursor.pass_all.Goals as goal

pub returns-in_err-found-clause-only : goal.returns-in_err-found-clause-only
returns-in_err-found-clause-only c told after left s =
    absurd (pass_refused told c.loop-number.cursor c.pass.new.self c.pass.result _ after left _ (c.loop-number.invariant.2 told after left s) (omega (arith, c.requires.some)) (c.pass.ensures.only told) c.in_err-found.was)

pub loop-number-preserved : goal.loop-number-preserved
loop-number-preserved c =
    let n = c.loop-number.number in
    let more = take_more_set c.loop-number.found n c.in_ok-found.field-0 (omega (arith, c.loop-number.auto.found)) in
    let count : length c.args.found.now - n ≡ suc (length c.args.found.now - (n + 1)) = omega arith in (
      omega (arith, c.in_ok-found.ensures.moves.0),
      omega (arith, c.in_ok-found.ensures.moves.1),
      λ told after left s. one_given told c.loop-number.cursor c.pass.new.self c.pass.result after left _ _ c.in_ok-found.field-0 (c.loop-number.invariant.2 told after left s) (omega (arith, c.requires.some)) (c.pass.ensures.only told) c.in_ok-found.was more,
      one_read (length c.args.found.now - n) (length c.args.found.now - (n + 1)) (walk c.loop-number.cursor) (walk c.pass.new.self) c.in_ok-found.field-0 _ _ _ count c.in_ok-found.ensures.exact more c.loop-number.invariant.3,
      c.in_ok-found.ensures.given ∙ sym (ap (λ (l : List ℕ). last_of l c.args.self.now.given) more ∙ last_one (take n c.loop-number.found) c.in_ok-found.field-0 c.args.self.now.given),
    )

pub returns-clause-only : goal.returns-clause-only
returns-clause-only c told after left s =
    (refl, subst (λ (l : List ℕ). PassesMany told c.loop-number.cursor after left l) (take_all c.loop-number.number c.loop-number.found (omega (arith, c.loop-number.auto.found))) (c.loop-number.invariant.2 told after left s))

pub returns-clause-given : goal.returns-clause-given
returns-clause-given c = c.loop-number.invariant.4 ∙ ap (λ (l : List ℕ). last_of l c.args.self.now.given) (take_all c.loop-number.number c.loop-number.found (omega (arith, c.loop-number.auto.found)))
