-- Schedules with a delete worker computed whole: what is printed for each line.
use Rattle.std.proofs.Common.{◌≡◌, ℕ, List, [], ◌∷◌, ◌++◌, refl}
use Rattle.std.specs.Prelude.{codes, None}
use Rattle.std.specs.Str.Lossy.{utf8_lossy, utf8_valid_len}
use Rattle.doc_value.specs.declared.facts.TimeRange.{TimeRange}
use Rattle.source_checkpoint.specs.declared.delta.Part.{Part}
use Rattle.source_log.specs.Log.{Log}
use Rattle.meta_journal.specs.Places.{split_key}
use Rattle.meta_journal.specs.declared.entry.Act.TheVariants.{Stage, Publish, Task as AddTask}
use Rattle.meta_journal.specs.declared.entry.Entry.{Entry}
use Rattle.index_world.specs.Seen.{accepted_in}
use Rattle.index_world.specs.SplitFile.{file_of, facts_of}
use Rattle.split_bundle.specs.declared.placed.Placed.{Placed}
use Rattle.node_run.proofs.OnLiterals.{path_on_literals}
use Rattle.node_run.proofs.Rows.{a, ask_all, calm_lines, fails_for_good, lines_said, log_pairs, logs_index, new_index, new_node, with_luck}
use Rattle.node_run.specs.Node.{Node, Line, At, RestartNode, Open, StepClient, StepMerger, StepDeleter, RestartDeleter}
use Rattle.node_run.specs.Turns.{opened_node, turns, turns_with}

-- ---- a published split of three records, and a task behind it

abbrev pub log_levels : Log
log_levels = record { partition = codes "p0"; records = codes "{\"body\":\"red fox\",\"level\":\"err\"}" ∷ codes "oops" ∷ codes "{\"body\":\"red hen\",\"level\":\"info\"}" ∷ [] } ∷ []

abbrev pub delta_levels : List Part
delta_levels = record { partition = codes "p0"; from = 0; to = 3 } ∷ []

abbrev pub docs_levels : List Placed
docs_levels = accepted_in logs_index log_levels delta_levels

abbrev pub always : TimeRange
always = record { start = None; end = None }

abbrev pub published : List Entry
published =
    new_index ++ record { moment = 1000; act = Stage 1 delta_levels (facts_of logs_index docs_levels 1) } ∷ record { moment = 1000; act = Publish 1 } ∷ []

abbrev pub with_task : List ℕ → List Entry
with_task text = published ++ record { moment = 1000; act = AddTask 1 text [] always } ∷ []

abbrev pub node_of : List Entry → Node
node_of history =
    opened_node (record {
      log = log_levels;
      log_faults = 0 ∷ [];
      history = history;
      store_faults = 0;
      files = record { key = split_key 1; bytes = file_of logs_index docs_levels } ∷ [];
      late = [];
    })

abbrev pub d : Line
d = StepDeleter

-- the document that the task asks for is gone, and the other one stays
pub split_deleted_of : lines_said (turns (node_of (with_task (codes "level:err"))) (At 1000 ∷ d ∷ d ∷ d ∷ d ∷ d ∷ d ∷ ask_all ∷ a ∷ a ∷ a ∷ []))
    ≡ codes "at 1000" ∷ codes "deleter planned 1" ∷ codes "deleter fetched 1" ∷ codes "deleter staged 2" ∷ codes "deleter uploaded 2" ∷ codes "deleter replaced 2" ∷ codes "deleter nothing"
    ∷ codes "a opened" ∷ codes "a planned 6 1" ∷ codes "a fetched 2"
    ∷ codes "{\"aggregations\":{},\"client\":\"a\",\"hits\":[{\"body\":\"red hen\",\"level\":\"info\"}],\"num_hits\":1,\"revision\":6}" ∷ []
unfolding path_on_literals utf8_lossy utf8_valid_len
split_deleted_of = refl

-- a task that asks for none of its documents raises it
pub split_raised : lines_said (turns (node_of (with_task (codes "level:warn"))) (At 1000 ∷ d ∷ d ∷ d ∷ d ∷ []))
    ≡ codes "at 1000" ∷ codes "deleter planned 1" ∷ codes "deleter fetched 1" ∷ codes "deleter raised 1" ∷ codes "deleter nothing" ∷ []
unfolding path_on_literals utf8_lossy utf8_valid_len
split_raised = refl

-- a restart drops what it holds, and a plan comes too late
pub deleter_begins_again : lines_said (turns (node_of (with_task (codes "level:err"))) (At 1000 ∷ d ∷ d ∷ RestartDeleter ∷ d ∷ At 1100 ∷ d ∷ d ∷ RestartNode ∷ d ∷ []))
    ≡ codes "at 1000" ∷ codes "deleter planned 1" ∷ codes "deleter fetched 1" ∷ codes "deleter restarted" ∷ codes "deleter planned 1" ∷ codes "at 1100" ∷ codes "deleter expired 1000 1100"
    ∷ codes "deleter planned 1" ∷ codes "node restarted 4" ∷ codes "deleter planned 1" ∷ []
unfolding path_on_literals utf8_lossy utf8_valid_len
deleter_begins_again = refl

-- without a task there is nothing to do
pub nothing_deleted : lines_said (turns (node_of published) (At 1000 ∷ d ∷ []))
    ≡ codes "at 1000" ∷ codes "deleter nothing" ∷ []
unfolding path_on_literals
nothing_deleted = refl

-- a node that is down deletes nothing
pub deleter_is_down : lines_said (turns_with (new_node log_levels (0 ∷ [])) (with_luck fails_for_good RestartNode ∷ calm_lines (d ∷ RestartDeleter ∷ RestartNode ∷ d ∷ [])))
    ≡ codes "node storefault 0 1" ∷ codes "deleter down" ∷ codes "deleter restarted" ∷ codes "node restarted 1" ∷ codes "deleter nothing" ∷ []
unfolding path_on_literals
deleter_is_down = refl

-- ---- behind the deletes of clients

abbrev pub b : Line
b = StepClient (codes "b")

abbrev pub delete_errors : List ℕ
delete_errors = codes "{\"delete\":{\"query\":\"level:err\"}}"

-- each delete is a task of its own, and both are applied in one go
pub clients_delete : lines_said (turns (node_of published)
    (At 1000 ∷ Open (codes "a") delete_errors ∷ Open (codes "b") delete_errors ∷ a ∷ b ∷ d ∷ d ∷ d ∷ d ∷ d ∷ d ∷ ask_all ∷ a ∷ a ∷ a ∷ []))
    ≡ codes "at 1000" ∷ codes "a opened" ∷ codes "b opened" ∷ codes "{\"client\":\"a\",\"opstamp\":1,\"revision\":4}" ∷ codes "{\"client\":\"b\",\"opstamp\":2,\"revision\":5}"
    ∷ codes "deleter planned 1" ∷ codes "deleter fetched 1" ∷ codes "deleter staged 2" ∷ codes "deleter uploaded 2" ∷ codes "deleter replaced 2" ∷ codes "deleter nothing"
    ∷ codes "a opened" ∷ codes "a planned 7 1" ∷ codes "a fetched 2"
    ∷ codes "{\"aggregations\":{},\"client\":\"a\",\"hits\":[{\"body\":\"red hen\",\"level\":\"info\"}],\"num_hits\":1,\"revision\":7}" ∷ []
unfolding path_on_literals utf8_lossy utf8_valid_len
clients_delete = refl

-- ---- beside a merger

abbrev pub log_two : Log
log_two = log_pairs (codes "{\"body\":\"red fox\",\"level\":\"err\"}") (codes "{\"body\":\"red hen\"}")

abbrev pub part_of : List ℕ → List Part
part_of partition = record { partition = partition; from = 0; to = 1 } ∷ []

abbrev pub docs_of : List ℕ → List Placed
docs_of partition = accepted_in logs_index log_two (part_of partition)

abbrev pub staged_and_published : (number : ℕ) → (partition : List ℕ) → List Entry
staged_and_published number partition =
    record { moment = 1000; act = Stage number (part_of partition) (facts_of logs_index (docs_of partition) 0) } ∷ record { moment = 1000; act = Publish number } ∷ []

-- two splits of one document each, and a task that asks for the first one's
abbrev pub node_of_two : Node
node_of_two =
    opened_node (record {
      log = log_two;
      log_faults = 0 ∷ [];
      history = new_index ++ staged_and_published 1 (codes "p0") ++ staged_and_published 2 (codes "p1") ++ record { moment = 1000; act = AddTask 1 (codes "level:err") [] always } ∷ [];
      store_faults = 0;
      files = record { key = split_key 1; bytes = file_of logs_index (docs_of (codes "p0")) } ∷ record { key = split_key 2; bytes = file_of logs_index (docs_of (codes "p1")) } ∷ [];
      late = [];
    })

abbrev pub m : Line
m = StepMerger

-- both plan one row, and the second entry is lost; each goes on
pub merge_lost_to_a_delete : lines_said (turns node_of_two (At 1000 ∷ m ∷ d ∷ d ∷ d ∷ d ∷ m ∷ m ∷ m ∷ m ∷ d ∷ m ∷ d ∷ d ∷ d ∷ d ∷ m ∷ []))
    ≡ codes "at 1000" ∷ codes "merger planned 2" ∷ codes "deleter planned 1" ∷ codes "deleter fetched 1" ∷ codes "deleter staged 3" ∷ codes "deleter uploaded 3"
    ∷ codes "merger fetched 1" ∷ codes "merger fetched 2" ∷ codes "merger staged 4" ∷ codes "merger uploaded 4" ∷ codes "deleter replaced 3" ∷ codes "merger lost 4 notpublished 1"
    ∷ codes "deleter planned 1" ∷ codes "deleter fetched 2" ∷ codes "deleter raised 2" ∷ codes "deleter nothing" ∷ codes "merger planned 2" ∷ []
unfolding path_on_literals utf8_lossy utf8_valid_len
merge_lost_to_a_delete = refl
