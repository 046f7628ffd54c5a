use Rattle.std.proofs.Common.{◌≡◌, ℕ, Bool, List, Option, None, Result, Ok}
use Rattle.byte_fields.specs.declared.corrupt.Corrupt.{Corrupt}
use Rattle.term_postings.specs.Cursors.{StandsBefore, StandsFrom}
use Rattle.term_postings.specs.Reading.{Walk, walk, LeavesBlocks, Passes}
use Rattle.term_postings.specs.declared.list.Posting.{Posting}
use Rattle.term_postings.proofs.cursor.Cursor.seek_on.Given as goal

abbrev pub invariant-loop-self : goal.invariant-loop-self
invariant-loop-self l = (l.self.positions.now ≡ l.fn.self.positions.now) × (l.place ≡ l.fn.self.place)
    × ((told : Bool) (after : List Posting) (left : List ℕ) → StandsBefore told l.fn.self after left → StandsFrom told l.document after l.self)
    × (l.self.fault ≡ None) × (l.fn.self.fault ≡ None)
    × ((start : Walk) × LeavesBlocks l.document (walk l.fn.self) (Ok start) × ((end : Result (Option ℕ × Walk) Corrupt) → Passes l.document (walk l.self) end → Passes l.document start end)) × (l.given ≡ l.fn.self.given)

abbrev pub decreases-loop-self : goal.decreases-loop-self
decreases-loop-self l = l.self.left
