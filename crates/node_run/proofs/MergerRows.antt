-- Schedules with a merger computed whole: what is printed for each line.
use Rattle.std.proofs.Common.{◌≡◌, ℕ, List, [], ◌∷◌, ◌++◌, refl}
use Rattle.std.specs.Prelude.{codes}
use Rattle.source_log.specs.Log.{Log}
use Rattle.node_run.proofs.OnLiterals.{path_on_literals}
use Rattle.node_run.proofs.Rows.{a, ask_all, calm_lines, fails_for_good, fails_once, first_lands, i0, i1, lines_said, log_pairs, new_node, two, two_hits, with_luck}
use Rattle.node_run.specs.Node.{Line, At, Assign, RestartNode, StepMerger, RestartMerger, StepCollector}
use Rattle.node_run.specs.Turns.{turns, turns_with}

abbrev pub log_fox_hen : Log
log_fox_hen = log_pairs (codes "{\"body\":\"red fox\"}") (codes "{\"body\":\"red hen\"}")

abbrev pub m : Line
m = StepMerger

-- two splits of one record each, at revision 5
abbrev pub two_splits : List Line
two_splits = At 1000 ∷ Assign 0 (codes "p0" ∷ []) ∷ Assign 1 (codes "p1" ∷ []) ∷ i0 ∷ i0 ∷ i0 ∷ i0 ∷ i0 ∷ i1 ∷ i1 ∷ i1 ∷ i1 ∷ i1 ∷ []

abbrev pub two_splits_said : List (List ℕ)
two_splits_said =
    codes "at 1000" ∷ codes "indexer 0 assigned 1" ∷ codes "indexer 1 assigned 1"
    ∷ codes "indexer 0 checkpoint" ∷ codes "indexer 0 read 1" ∷ codes "indexer 0 staged 1" ∷ codes "indexer 0 uploaded 1" ∷ codes "indexer 0 published 1"
    ∷ codes "indexer 1 checkpoint" ∷ codes "indexer 1 read 1" ∷ codes "indexer 1 staged 2" ∷ codes "indexer 1 uploaded 2" ∷ codes "indexer 1 published 2" ∷ []

-- they are merged; the old ones are removed when their grace is over
pub splits_merged : lines_said (turns (new_node log_fox_hen two) (two_splits ++ m ∷ m ∷ m ∷ m ∷ m ∷ m ∷ m ∷ ask_all ∷ a ∷ a ∷ a ∷ At 1099 ∷ StepCollector ∷ At 1100 ∷ StepCollector ∷ StepCollector ∷ StepCollector ∷ []))
    ≡ two_splits_said ++ codes "merger planned 2" ∷ codes "merger fetched 1" ∷ codes "merger fetched 2" ∷ codes "merger staged 3" ∷ codes "merger uploaded 3" ∷ codes "merger replaced 3" ∷ codes "merger nothing"
    ∷ codes "a opened" ∷ codes "a planned 7 1" ∷ codes "a fetched 3" ∷ two_hits 7
    ∷ codes "at 1099" ∷ codes "collector nothing" ∷ codes "at 1100" ∷ codes "collector doomed 1" ∷ codes "collector doomed 2" ∷ codes "collector removed 2" ∷ []
unfolding path_on_literals
splits_merged = refl

-- a restart drops what it holds, and a plan comes too late
pub merger_begins_again : lines_said (turns (new_node log_fox_hen two) (two_splits ++ m ∷ m ∷ RestartMerger ∷ m ∷ At 1100 ∷ m ∷ m ∷ RestartNode ∷ m ∷ []))
    ≡ two_splits_said ++ codes "merger planned 2" ∷ codes "merger fetched 1" ∷ codes "merger restarted" ∷ codes "merger planned 2" ∷ codes "at 1100" ∷ codes "merger expired 1000 1100"
    ∷ codes "merger planned 2" ∷ codes "node restarted 5" ∷ codes "merger planned 2" ∷ []
unfolding path_on_literals
merger_begins_again = refl

-- its own row is marked while it works
pub merger_lost : lines_said (turns (new_node log_fox_hen two) (two_splits ++ m ∷ m ∷ m ∷ m ∷ At 1200 ∷ StepCollector ∷ m ∷ m ∷ m ∷ []))
    ≡ two_splits_said ++ codes "merger planned 2" ∷ codes "merger fetched 1" ∷ codes "merger fetched 2" ∷ codes "merger staged 3" ∷ codes "at 1200" ∷ codes "collector marked 1"
    ∷ codes "merger uploaded 3" ∷ codes "merger lost 3 notstaged 3" ∷ codes "merger planned 2" ∷ []
unfolding path_on_literals
merger_lost = refl

-- the create of the Replace fails, and lands as the next call begins
pub replace_lands_next : lines_said (turns_with (new_node log_fox_hen two)
    (calm_lines (two_splits ++ m ∷ m ∷ m ∷ m ∷ m ∷ []) ++ with_luck fails_once m ∷ with_luck first_lands m ∷ calm_lines (ask_all ∷ a ∷ a ∷ a ∷ [])))
    ≡ two_splits_said ++ codes "merger planned 2" ∷ codes "merger fetched 1" ∷ codes "merger fetched 2" ∷ codes "merger staged 3" ∷ codes "merger uploaded 3"
    ∷ codes "merger storefault 0 1" ∷ codes "merger nothing" ∷ codes "a opened" ∷ codes "a planned 7 1" ∷ codes "a fetched 3" ∷ two_hits 7 ∷ []
unfolding path_on_literals
replace_lands_next = refl

-- a node that is down merges nothing
pub merger_is_down : lines_said (turns_with (new_node log_fox_hen two) (with_luck fails_for_good RestartNode ∷ calm_lines (m ∷ RestartMerger ∷ RestartNode ∷ m ∷ [])))
    ≡ codes "node storefault 0 1" ∷ codes "merger down" ∷ codes "merger restarted" ∷ codes "node restarted 1" ∷ codes "merger nothing" ∷ []
unfolding path_on_literals
merger_is_down = refl
