use Rattle.std.proofs.Common.{◌≡◌, ◌≤◌, ◌++◌, ℕ, Bool, List, length, drop, map}
use Rattle.std.specs.List.{AllByRecursion}
use Rattle.term_postings.specs.Postings.{Fits, position_bytes}
use Rattle.term_postings.specs.declared.list.Posting.{Posting}
use Rattle.split_merge.specs.Joining.{listed}
use Rattle.split_merge.proofs.spelling.behind_places.Given as goal

abbrev pub invariant-loop-entry : goal.invariant-loop-entry
invariant-loop-entry l = (l.at ≤ length l.places)
    × ((kept : Bool) (ps : List Posting) (rest : List ℕ) → l.entries ≡ map listed ps → AllByRecursion (Fits kept) ps → drop l.from l.places ≡ position_bytes ps ++ rest
    → drop l.at l.places ≡ position_bytes (drop l.entry-index ps) ++ rest)
