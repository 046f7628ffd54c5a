use Rattle.std.proofs.Common.{◌≡◌, ℕ, ◌+◌, ◌-◌, ◌++◌, Bool, List, Ok, take, length}
use Rattle.term_postings.specs.Cursors.{StandsBefore, PassesMany}
use Rattle.byte_fields.specs.Steps.{◌>>=◌}
use Rattle.term_postings.specs.Reading.{walk, passed_many, last_of}
use Rattle.term_postings.specs.declared.list.Posting.{Posting}
use Rattle.term_postings.proofs.cursor.Cursor.pass_all.Given as goal

abbrev pub invariant-loop-number : goal.invariant-loop-number
invariant-loop-number l = (l.cursor.left + l.number ≡ l.fn.self.left) × (l.cursor.passed ≡ l.fn.self.passed + l.number)
    × ((told : Bool) (after : List Posting) (left : List ℕ) → StandsBefore told l.fn.self after left → PassesMany told l.cursor after left (take l.number l.found))
    × (passed_many (length l.fn.found) (walk l.fn.self) ≡ (passed_many (length l.fn.found - l.number) (walk l.cursor) >>= λ more. Ok (take l.number l.found ++ more.0, more.1)))
    × (l.cursor.given ≡ last_of (take l.number l.found) l.fn.self.given)
