use Rattle.std.proofs.Common.{◌≡◌, ◌∙◌, refl, ap, sym, subst, Option, Some, None, Result, Ok, Err, ℕ, List, drop, arith, rules}
use Rattle.byte_fields.specs.declared.corrupt.Corrupt.{Corrupt}
use Rattle.std.proofs.lemmas.Bool.{false≢true}
use Rattle.term_postings.specs.Cursors.{StandsBefore, StandsAt, from_document, first_document, first_positions}
use Rattle.term_postings.specs.Reading.{walk, Passes}
use Rattle.term_postings.specs.declared.list.Posting.{Posting}
use Rattle.term_postings.proofs.Walks.{found_here, found_later, same_positions, none_left, back_at_end}
use Rattle.term_postings.proofs.Exact.{is_sound, none_next, next_fault, next_found, sought}
use Rattle.term_postings.proofs.cursor.Cursor.seek_on.Goals as goal

abbrev given : Option ℕ → Result (Option ℕ) Corrupt
given o = Ok o

pub returns-in_err-skip_blocks-clause-only : goal.returns-in_err-skip_blocks-clause-only
returns-in_err-skip_blocks-clause-only c told after left s =
    absurd (false≢true (c.in_err-skip_blocks.ensures.only told after left s).0)

pub loop-self-init : goal.loop-self-init
loop-self-init c =
    let sound = is_sound c.args.self.now.fault c.in_default.not-Some in (
      c.in_ok-skip_blocks.ensures.same,
      refl,
      λ told after left s. (c.in_ok-skip_blocks.ensures.only told after left s).1,
      c.in_ok-skip_blocks.ensures.fault ∙ sound,
      sound,
      (walk c.skip_blocks.new.self, c.in_ok-skip_blocks.ensures.exact, λ end h. h),
      refl,
    )

pub returns-in_err-found-clause-only : goal.returns-in_err-found-clause-only
returns-in_err-found-clause-only c told after left s =
    let f = c.loop-self.invariant.2 told after left s in
    absurd (c.in_err-found.ensures.only told f.0 f.1 f.2).0

pub returns-then-found-document-clause-only : goal.returns-then-found-document-clause-only
returns-then-found-document-clause-only c told after left s =
    let f = c.loop-self.invariant.2 told after left s in
    let step = c.in_ok-found.ensures.only told f.0 f.1 f.2 in
    let whole = f.3 ∙ found_here c.args.document c.in_ok-found.found f.0 step.0 (omega arith) in
    let here = subst (λ (l : List ℕ). StandsBefore told c.step.new.self (drop 1 f.0) l) (same_positions f.0 c.in_ok-found.found f.1 left step.0) step.1 in
    (ap given (sym step.0 ∙ ap (λ (l : List Posting). first_document l) (sym whole)), rw whole here)

pub loop-self-preserved : goal.loop-self-preserved
loop-self-preserved c = (
  c.in_ok-found.ensures.same ∙ c.loop-self.invariant.0,
  c.loop-self.invariant.1,
  λ told after left s.
      let f = c.loop-self.invariant.2 told after left s in
      let step = c.in_ok-found.ensures.only told f.0 f.1 f.2 in
      (drop 1 f.0, first_positions f.0 f.1, step.1, f.3 ∙ found_later c.args.document c.in_ok-found.found f.0 step.0 (omega arith)),
  c.in_ok-found.ensures.fault ∙ c.loop-self.invariant.3,
  c.loop-self.invariant.4,
  (
    c.loop-self.invariant.5.0,
    c.loop-self.invariant.5.1,
    λ end h.
        let me = walk c.loop-self.self in
        let next = walk c.step.new.self in
        c.loop-self.invariant.5.2 end (Passes.passes me next c.in_ok-found.found end (next_found me c.loop-self.invariant.3 (omega arith) c.in_ok-found.found next c.in_ok-found.ensures.exact) (omega arith) h),
  ),
  c.loop-self.invariant.6,
)

pub returns-clause-only : goal.returns-clause-only
returns-clause-only c told after left s =
    let f = c.loop-self.invariant.2 told after left s in
    let none = none_left told c.loop-self.self f.0 f.1 f.2 (omega arith) in
    let whole = f.3 ∙ ap (λ (l : List Posting). from_document c.args.document l) none in
    let end = subst (λ (l : List Posting). StandsAt told c.loop-self.self f.2.0 l f.1) none f.2.1 in
    let back = back_at_end told c.args.self.now c.loop-self.self _ _ _ _ s.0 f.2.0 after left f.1 s.1 end c.loop-self.invariant.0 in
    (ap given (sym (ap (λ (l : List Posting). first_document l) whole)), rw whole (f.2.0, back))

pub returns-in_err-found-clause-exact : goal.returns-in_err-found-clause-exact
returns-in_err-found-clause-exact c =
    let me = walk c.loop-self.self in
    let fault = c.in_err-found.field-0.0 in
    let is : c.from_residual-in_err-found.result ≡ Err c.in_err-found.field-0.0 = search rules in
    let end = Passes.breaks me fault (next_fault me c.loop-self.invariant.3 (omega arith) fault c.in_err-found.ensures.exact) in
    rw is (sought c.args.document (walk c.args.self.now) c.loop-self.invariant.5.0 (Err fault) c.loop-self.invariant.4 c.loop-self.invariant.5.1 (c.loop-self.invariant.5.2 (Err fault) end))

pub returns-then-found-document-clause-exact : goal.returns-then-found-document-clause-exact
returns-then-found-document-clause-exact c =
    let me = walk c.loop-self.self in
    let next = walk c.step.new.self in
    let found = c.in_ok-found.found in
    let end = Passes.finds me next found (next_found me c.loop-self.invariant.3 (omega arith) found next c.in_ok-found.ensures.exact) (omega arith) in
    sought c.args.document (walk c.args.self.now) c.loop-self.invariant.5.0 (Ok (Some found, next)) c.loop-self.invariant.4 c.loop-self.invariant.5.1 (c.loop-self.invariant.5.2 (Ok (Some found, next)) end)

pub returns-clause-exact : goal.returns-clause-exact
returns-clause-exact c =
    let me = walk c.loop-self.self in
    let end = Passes.ends me me (none_next me c.loop-self.invariant.3 (omega arith)) in
    let got = sought c.args.document (walk c.args.self.now) c.loop-self.invariant.5.0 (Ok (None, me)) c.loop-self.invariant.4 c.loop-self.invariant.5.1 (c.loop-self.invariant.5.2 (Ok (None, me)) end) in
    rw (c.loop-self.invariant.1, c.loop-self.invariant.6) got
