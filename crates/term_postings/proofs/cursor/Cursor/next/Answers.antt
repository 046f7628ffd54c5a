use Rattle.std.proofs.Common.{ap, sym, Option, Result, Ok, ℕ}
use Rattle.byte_fields.specs.declared.corrupt.Corrupt.{Corrupt}
use Rattle.term_postings.proofs.cursor.Cursor.next.Goals as goal

abbrev given : Option ℕ → Result (Option ℕ) Corrupt
given o = Ok o

pub returns-in_err-document-clause-only : goal.returns-in_err-document-clause-only
returns-in_err-document-clause-only c told after left s = absurd (c.in_err-document.ensures.only told after left s).0

pub returns-clause-only : goal.returns-clause-only
returns-clause-only c told after left s =
    let step = c.in_ok-document.ensures.only told after left s in
    (sym (ap given step.0), step.1)
