use Rattle.std.proofs.Common.{◌≡◌, ◌+◌, ℕ, Bool, List, Result}
use Rattle.byte_fields.specs.declared.corrupt.Corrupt.{Corrupt}
use Rattle.term_postings.specs.Cursors.{StandsBefore, StandsFrom}
use Rattle.term_postings.specs.Reading.{Walk, walk, LeavesBlocks}
use Rattle.term_postings.specs.declared.list.Posting.{Posting}
use Rattle.term_postings.proofs.cursor.Cursor.skip_blocks.Given as goal

abbrev pub invariant-loop-document : goal.invariant-loop-document
invariant-loop-document l = (l.self.positions.now ≡ l.initial.self.positions.now)
    × ((told : Bool) (after : List Posting) (left : List ℕ) → StandsBefore told l.initial.self after left → StandsFrom told l.document after l.self)
    × (l.self.fault ≡ l.initial.self.fault)
    × ((end : Result Walk Corrupt) → LeavesBlocks l.document (walk l.self) end → LeavesBlocks l.document (walk l.initial.self) end)

abbrev pub decreases-loop-document : goal.decreases-loop-document
decreases-loop-document l = l.self.left + l.self.passed
