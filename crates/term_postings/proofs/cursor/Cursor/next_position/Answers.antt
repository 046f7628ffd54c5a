use Rattle.std.proofs.Common.{◌≡◌, ◌∙◌, ap, sym, Option, Some, Result, Ok, ℕ, List, arith, drop}
use Rattle.byte_fields.specs.declared.corrupt.Corrupt.{Corrupt}
use Rattle.term_postings.specs.Cursors.{first_number}
use Rattle.term_postings.proofs.Walks.{given_position, new_place}
use Rattle.term_postings.proofs.cursor.Cursor.next_position.Goals as goal

abbrev given : Option ℕ → Result (Option ℕ) Corrupt
given o = Ok o

pub returns-in_err-position-clause-only : goal.returns-in_err-position-clause-only
returns-in_err-position-clause-only c after left s =
    let g = given_position c.args.self.now s.0 after left s.1 c.if-self-eq0.false in
    absurd (c.in_err-position.ensures.only g.0 g.1 after g.3)

pub returns-clause-only : goal.returns-clause-only
returns-clause-only c after left s =
    let g = given_position c.args.self.now s.0 after left s.1 c.if-self-eq0.false in
    let got = c.in_ok-position.ensures.only g.0 g.1 after g.3 in
    let rest : drop 1 left ≡ g.1 = ap (λ (l : List ℕ). drop 1 l) g.2 in
    let here = new_place c.args.self.now c.in_ok-position.place _ _ _ _ s.0 after left g.1 s.1 (omega (arith, c.in_ok-position.ensures.moves)) got.1 in
    (ap (λ (n : ℕ). given (Some n)) got.0 ∙ sym (ap (λ (l : List ℕ). given (first_number l)) g.2), (s.0, rw rest here))
