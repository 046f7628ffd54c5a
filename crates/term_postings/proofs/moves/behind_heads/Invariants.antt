use Rattle.std.proofs.Common.{◌≡◌, ◌≤◌, ◌-◌, ◌/◌, ◌++◌, ℕ, Bool, List, length}
use Rattle.term_postings.specs.Postings.{head_list}
use Rattle.term_postings.specs.Cursors.{AreBehind}
use Rattle.term_postings.specs.Reading.{heads_behind}
use Rattle.term_postings.specs.declared.list.Posting.{Posting}
use Rattle.term_postings.proofs.Heads.{HeadsAt}
use Rattle.term_postings.proofs.moves.behind_heads.Given as goal

abbrev pub invariant-loop-number : goal.invariant-loop-number
invariant-loop-number l = (l.at ≤ length l.postings) × ((counted : Bool) (before : ℕ) (ps : List Posting) (rest : List ℕ) → AreBehind counted before ps → l.count ≡ (length ps - 1) / 128
    → l.postings ≡ head_list l.count counted before ps ++ rest → HeadsAt l.postings l.at (l.count - l._number) counted rest)
    × (heads_behind (l.count - l._number) l.postings l.at ≡ heads_behind l.count l.postings 0)
