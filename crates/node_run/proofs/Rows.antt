-- Schedules computed whole: what is printed for each line.
use Rattle.std.proofs.Common.{◌≡◌, ℕ, ◌+◌, List, [], ◌∷◌, refl, true, false, ◌++◌}
use Rattle.std.specs.Prelude.{codes, map, None, Ok}
use Rattle.source_checkpoint.specs.declared.delta.Part.{Part}
use Rattle.source_log.specs.Log.{Log}
use Rattle.meta_journal.specs.Places.{split_key}
use Rattle.meta_journal.specs.Spelling.{spelling}
use Rattle.meta_journal.specs.declared.entry.Act.TheVariants.{Create, Stage, Publish}
use Rattle.meta_journal.specs.declared.entry.Entry.{Entry}
use Rattle.index_world.specs.Calls.{Effect, done_late, done_never, calm_call, calm_fate}
use Rattle.doc_value.specs.declared.schema.Kind.TheVariants as kinds
use Rattle.doc_value.specs.declared.schema.Tokenizer.TheVariants as tokenizers
use Rattle.index_config.specs.Answer.{config_answer}
use Rattle.index_config.specs.declared.config.IndexConfig.{IndexConfig}
use Rattle.index_config.specs.declared.config.Mode.TheVariants.{Strict}
use Rattle.index_config.specs.declared.config.Policy.TheVariants.{StableLog}
use Rattle.index_world.specs.Core.{late_entry}
use Rattle.index_world.specs.Seen.{accepted_in}
use Rattle.index_world.specs.SplitFile.{file_of, facts_of}
use Rattle.split_bundle.specs.Documents.{total_weight}
use Rattle.split_bundle.specs.declared.placed.Placed.{Placed}
use Rattle.node_run.proofs.OnLiterals.{path_on_literals}
use Rattle.node_run.specs.Lines.{outcome_text}
use Rattle.node_run.specs.Node.{Node, Line, At, Assign, StepIndexer, RestartIndexer, StepCollector, RestartCollector, RestartNode, Open, StepClient}
use Rattle.node_run.specs.Turns.{turns, turns_with, opened_node, Fated, LineLuck, Ran, calm}

-- ---- a configuration

abbrev pub logs_config : List ℕ
logs_config = codes "version = \"0.9\"\nindex_id = \"logs\"\n[doc_mapping]\nmode = \"strict\"\n[[doc_mapping.field_mappings]]\nname = \"body\"\ntype = \"text\"\nrecord = \"position\"\n[[doc_mapping.field_mappings]]\nname = \"level\"\ntype = \"text\"\ntokenizer = \"raw\"\nfast = true\n[indexing_settings.merge_policy]\ntype = \"stable_log\"\nmin_level_num_docs = 100\nmerge_factor = 2\nmax_merge_factor = 4\n[search_settings]\ndefault_search_fields = [\"body\"]\n[upkeep]\nstaged_grace_secs = 200\ndeletion_grace_secs = 100\n"

abbrev pub logs_index : IndexConfig
logs_index =
    record {
      schema = record {
        fields =
            record { path = codes "body"; kind = kinds.Text; fast = false; indexed = true; tag = false; tokenizer = tokenizers.Default; positions = true }
            ∷ record { path = codes "level"; kind = kinds.Text; fast = true; indexed = true; tag = false; tokenizer = tokenizers.Raw; positions = false } ∷ [];
        timestamp = None;
        dynamic = None;
      };
      mode = Strict;
      timestamp_field = None;
      formats = record { rfc3339 = true; unix = true } ∷ record { rfc3339 = true; unix = true } ∷ [];
      default_fields = 0 ∷ [];
      commit_timeout = 60;
      docs_target = 10000000;
      policy = StableLog 100 2 4 172800;
      staged_grace = 200;
      deletion_grace = 100;
      retention = None;
    }

pub config_read : config_answer logs_config ≡ Ok logs_index
unfolding path_on_literals
config_read = refl

-- ---- a log

abbrev pub log_a : Log
log_a = record { partition = codes "p0"; records = codes "{\"body\":\"red fox\"}" ∷ codes "oops" ∷ codes "{\"body\":\"red hen\"}" ∷ [] } ∷ []

abbrev pub delta_a : List Part
delta_a = record { partition = codes "p0"; from = 0; to = 3 } ∷ []

abbrev pub docs_a : List Placed
docs_a = accepted_in logs_index log_a delta_a

pub file_weight : total_weight docs_a ≡ 538
unfolding path_on_literals
file_weight = refl

abbrev pub lines_said : Ran → List (List ℕ)
lines_said ran = map outcome_text ran.outcomes

abbrev pub new_index : List Entry
new_index = record { moment = 0; act = Create logs_config } ∷ []

abbrev pub new_node : Log → List ℕ → Node
new_node log readers =
    opened_node (record { log = log; log_faults = readers; history = new_index; store_faults = 0; files = []; late = [] })

abbrev pub i0 : Line
i0 = StepIndexer 0

-- what a text's tokens are needs the tables of characters, so that these schedules ask for all documents
abbrev pub search_all : List ℕ
search_all = codes "{\"search\":{\"query\":\"*\"}}"

abbrev pub ask_all : Line
ask_all = Open (codes "a") search_all

abbrev pub a : Line
a = StepClient (codes "a")

pub stored_run : lines_said (turns (new_node log_a (0 ∷ [])) (At 1000 ∷ i0 ∷ i0 ∷ i0 ∷ i0 ∷ i0 ∷ i0 ∷ i0 ∷ i0 ∷ ask_all ∷ a ∷ a ∷ a ∷ []))
    ≡ codes "at 1000" ∷ codes "indexer 0 checkpoint" ∷ codes "indexer 0 read 3" ∷ codes "indexer 0 staged 1" ∷ codes "indexer 0 uploaded 1" ∷ codes "indexer 0 published 1"
    ∷ codes "indexer 0 checkpoint" ∷ codes "indexer 0 read 0" ∷ codes "indexer 0 caughtup"
    ∷ codes "a opened" ∷ codes "a planned 3 1" ∷ codes "a fetched 1"
    ∷ codes "{\"aggregations\":{},\"client\":\"a\",\"hits\":[{\"body\":\"red fox\"},{\"body\":\"red hen\"}],\"num_hits\":2,\"revision\":3}" ∷ []
unfolding path_on_literals
stored_run = refl

abbrev pub two : List ℕ
two = 0 ∷ 0 ∷ []

abbrev pub i1 : Line
i1 = StepIndexer 1

abbrev pub two_hits : ℕ → List ℕ
two_hits revision = codes "{\"aggregations\":{},\"client\":\"a\",\"hits\":[{\"body\":\"red fox\"},{\"body\":\"red hen\"}],\"num_hits\":2,\"revision\":" ++ (48 + revision) ∷ 125 ∷ []

-- two readers of one partition
pub two_readers : lines_said (turns (new_node log_a two) (At 1000 ∷ i0 ∷ i1 ∷ i0 ∷ i1 ∷ i0 ∷ i1 ∷ i0 ∷ i1 ∷ i0 ∷ i1 ∷ ask_all ∷ a ∷ a ∷ a ∷ []))
    ≡ codes "at 1000" ∷ codes "indexer 0 checkpoint" ∷ codes "indexer 1 checkpoint" ∷ codes "indexer 0 read 3" ∷ codes "indexer 1 read 3"
    ∷ codes "indexer 0 staged 1" ∷ codes "indexer 1 staged 2" ∷ codes "indexer 0 uploaded 1" ∷ codes "indexer 1 uploaded 2"
    ∷ codes "indexer 0 published 1" ∷ codes "indexer 1 stale p0 3 0"
    ∷ codes "a opened" ∷ codes "a planned 4 1" ∷ codes "a fetched 1" ∷ two_hits 4 ∷ []
unfolding path_on_literals
two_readers = refl

abbrev pub log_pairs : List ℕ → List ℕ → Log
log_pairs first second = record { partition = codes "p0"; records = first ∷ [] } ∷ record { partition = codes "p1"; records = second ∷ [] } ∷ []

abbrev pub red_record : List ℕ
red_record = codes "{\"body\":\"red\"}"

-- two partitions, of which one is assigned to a second reader
pub late_reader : lines_said (turns (new_node (log_pairs red_record red_record) two)
    (At 1000 ∷ Assign 1 (codes "p1" ∷ []) ∷ i0 ∷ i0 ∷ i0 ∷ i1 ∷ i1 ∷ i1 ∷ i1 ∷ i1 ∷ i0 ∷ i0 ∷ i0 ∷ ask_all ∷ a ∷ a ∷ a ∷ []))
    ≡ codes "at 1000" ∷ codes "indexer 1 assigned 1" ∷ codes "indexer 0 checkpoint" ∷ codes "indexer 0 read 1" ∷ codes "indexer 0 read 1"
    ∷ codes "indexer 1 checkpoint" ∷ codes "indexer 1 read 1" ∷ codes "indexer 1 staged 1" ∷ codes "indexer 1 uploaded 1" ∷ codes "indexer 1 published 1"
    ∷ codes "indexer 0 staged 2" ∷ codes "indexer 0 uploaded 2" ∷ codes "indexer 0 stale p1 1 0"
    ∷ codes "a opened" ∷ codes "a planned 4 1" ∷ codes "a fetched 1"
    ∷ codes "{\"aggregations\":{},\"client\":\"a\",\"hits\":[{\"body\":\"red\"}],\"num_hits\":1,\"revision\":4}" ∷ []
unfolding path_on_literals
late_reader = refl

-- a call fails, and its create is late or over
abbrev pub fails_with : Effect → LineLuck
fails_with effect = record calm { world = record calm_fate { first = record calm_call { fails = true; effect = effect; rises = 1 } } }

abbrev pub fails_once : LineLuck
fails_once = fails_with done_late

abbrev pub fails_for_good : LineLuck
fails_for_good = fails_with done_never

-- the first late entry lands as the next call begins
abbrev pub first_lands : LineLuck
first_lands = record calm { world = record calm_fate { first = record calm_call { lands = 0 ∷ [] } } }

abbrev pub calm_lines : List Line → List Fated
calm_lines lines = map (λ line. record { line = line; luck = calm }) lines

abbrev pub with_luck : LineLuck → Line → Fated
with_luck luck line = record { line = line; luck = luck }

-- the create of the Publish fails, and lands as the next call begins
pub create_lands_next : lines_said (turns_with (new_node log_a (0 ∷ []))
    (calm_lines (At 1000 ∷ i0 ∷ i0 ∷ i0 ∷ i0 ∷ []) ++ with_luck fails_once i0 ∷ with_luck first_lands i0 ∷ calm_lines (i0 ∷ i0 ∷ ask_all ∷ a ∷ a ∷ a ∷ [])))
    ≡ codes "at 1000" ∷ codes "indexer 0 checkpoint" ∷ codes "indexer 0 read 3" ∷ codes "indexer 0 staged 1" ∷ codes "indexer 0 uploaded 1"
    ∷ codes "indexer 0 storefault 0 1" ∷ codes "indexer 0 checkpoint" ∷ codes "indexer 0 read 0" ∷ codes "indexer 0 caughtup"
    ∷ codes "a opened" ∷ codes "a planned 3 1" ∷ codes "a fetched 1" ∷ two_hits 3 ∷ []
unfolding path_on_literals
create_lands_next = refl

-- the same, and it never lands: it is over
pub create_never_lands : lines_said (turns_with (new_node log_a (0 ∷ []))
    (calm_lines (At 1000 ∷ i0 ∷ i0 ∷ i0 ∷ i0 ∷ []) ++ with_luck fails_for_good i0 ∷ calm_lines (i0 ∷ i0 ∷ i0 ∷ i0 ∷ i0 ∷ ask_all ∷ a ∷ a ∷ a ∷ [])))
    ≡ codes "at 1000" ∷ codes "indexer 0 checkpoint" ∷ codes "indexer 0 read 3" ∷ codes "indexer 0 staged 1" ∷ codes "indexer 0 uploaded 1"
    ∷ codes "indexer 0 storefault 0 1" ∷ codes "indexer 0 checkpoint" ∷ codes "indexer 0 read 3" ∷ codes "indexer 0 staged 2" ∷ codes "indexer 0 uploaded 2" ∷ codes "indexer 0 published 2"
    ∷ codes "a opened" ∷ codes "a planned 5 1" ∷ codes "a fetched 2" ∷ two_hits 5 ∷ []
unfolding path_on_literals
create_never_lands = refl

-- a restart of the indexer between upload and publish
pub indexer_restarted_before_publish : lines_said (turns (new_node log_a (0 ∷ [])) (At 1000 ∷ i0 ∷ i0 ∷ i0 ∷ i0 ∷ RestartIndexer 0 ∷ i0 ∷ i0 ∷ i0 ∷ i0 ∷ i0 ∷ []))
    ≡ codes "at 1000" ∷ codes "indexer 0 checkpoint" ∷ codes "indexer 0 read 3" ∷ codes "indexer 0 staged 1" ∷ codes "indexer 0 uploaded 1"
    ∷ codes "indexer 0 restarted" ∷ codes "indexer 0 checkpoint" ∷ codes "indexer 0 read 3" ∷ codes "indexer 0 staged 2" ∷ codes "indexer 0 uploaded 2" ∷ codes "indexer 0 published 2" ∷ []
unfolding path_on_literals
indexer_restarted_before_publish = refl

-- the same with a restart of the node
pub node_restarted_before_publish : lines_said (turns (new_node log_a (0 ∷ [])) (At 1000 ∷ i0 ∷ i0 ∷ i0 ∷ i0 ∷ RestartNode ∷ i0 ∷ i0 ∷ i0 ∷ i0 ∷ i0 ∷ ask_all ∷ a ∷ a ∷ a ∷ []))
    ≡ codes "at 1000" ∷ codes "indexer 0 checkpoint" ∷ codes "indexer 0 read 3" ∷ codes "indexer 0 staged 1" ∷ codes "indexer 0 uploaded 1"
    ∷ codes "node restarted 2" ∷ codes "indexer 0 checkpoint" ∷ codes "indexer 0 read 3" ∷ codes "indexer 0 staged 2" ∷ codes "indexer 0 uploaded 2" ∷ codes "indexer 0 published 2"
    ∷ codes "a opened" ∷ codes "a planned 4 1" ∷ codes "a fetched 2" ∷ two_hits 4 ∷ []
unfolding path_on_literals
node_restarted_before_publish = refl

-- the upload fails and never lands; a get fails
pub upload_fails : lines_said (turns_with (new_node log_a (0 ∷ []))
    (calm_lines (At 1000 ∷ i0 ∷ i0 ∷ i0 ∷ []) ++ with_luck fails_once i0 ∷ calm_lines (i0 ∷ i0 ∷ i0 ∷ [])))
    ≡ codes "at 1000" ∷ codes "indexer 0 checkpoint" ∷ codes "indexer 0 read 3" ∷ codes "indexer 0 staged 1"
    ∷ codes "indexer 0 storefault 0 1" ∷ codes "indexer 0 checkpoint" ∷ codes "indexer 0 read 3" ∷ codes "indexer 0 staged 2" ∷ []
unfolding path_on_literals
upload_fails = refl

pub get_fails : lines_said (turns_with (new_node log_a (0 ∷ []))
    (calm_lines (At 1000 ∷ i0 ∷ i0 ∷ i0 ∷ i0 ∷ i0 ∷ ask_all ∷ a ∷ []) ++ with_luck fails_once a ∷ calm_lines (ask_all ∷ a ∷ a ∷ a ∷ [])))
    ≡ codes "at 1000" ∷ codes "indexer 0 checkpoint" ∷ codes "indexer 0 read 3" ∷ codes "indexer 0 staged 1" ∷ codes "indexer 0 uploaded 1" ∷ codes "indexer 0 published 1"
    ∷ codes "a opened" ∷ codes "a planned 3 1" ∷ codes "{\"client\":\"a\",\"error\":{\"after\":1,\"before\":0,\"kind\":\"StoreFault\"},\"revision\":3}"
    ∷ codes "a opened" ∷ codes "a planned 3 1" ∷ codes "a fetched 1" ∷ two_hits 3 ∷ []
unfolding path_on_literals
get_fails = refl

-- three partitions, of which the last has the one record; the timeout passes while nothing was read
pub timeout_passes_an_empty_batch : lines_said (turns (new_node (record { partition = codes "p2"; records = red_record ∷ [] } ∷ []) (0 ∷ []))
    (At 1000 ∷ Assign 0 (codes "p0" ∷ codes "p1" ∷ codes "p2" ∷ []) ∷ i0 ∷ i0 ∷ At 1060 ∷ i0 ∷ i0 ∷ i0 ∷ i0 ∷ i0 ∷ []))
    ≡ codes "at 1000" ∷ codes "indexer 0 assigned 3" ∷ codes "indexer 0 checkpoint" ∷ codes "indexer 0 read 0" ∷ codes "at 1060" ∷ codes "indexer 0 read 0" ∷ codes "indexer 0 read 1"
    ∷ codes "indexer 0 staged 1" ∷ codes "indexer 0 uploaded 1" ∷ codes "indexer 0 published 1" ∷ []
unfolding path_on_literals
timeout_passes_an_empty_batch = refl

-- requests that are refused: a delete and a search of which the query breaks off
pub delete_refused : lines_said (turns (new_node [] (0 ∷ [])) (Open (codes "a") (codes "{\"delete\":{\"query\":\"size:[1 TO\"}}") ∷ a ∷ []))
    ≡ codes "a opened" ∷ codes "{\"client\":\"a\",\"error\":{\"at\":10,\"kind\":\"Syntax\"},\"revision\":1}" ∷ []
unfolding path_on_literals
delete_refused = refl

pub query_refused : lines_said (turns (new_node [] (0 ∷ [])) (Open (codes "a") (codes "{\"search\":{\"query\":\"size:[1 TO\"}}") ∷ a ∷ []))
    ≡ codes "a opened" ∷ codes "{\"client\":\"a\",\"error\":{\"at\":10,\"kind\":\"Syntax\"},\"revision\":1}" ∷ []
unfolding path_on_literals
query_refused = refl

-- over no documents
pub none_found : lines_said (turns (new_node [] (0 ∷ [])) (ask_all ∷ a ∷ a ∷ []))
    ≡ codes "a opened" ∷ codes "a planned 1 0" ∷ codes "{\"aggregations\":{},\"client\":\"a\",\"hits\":[],\"num_hits\":0,\"revision\":1}" ∷ []
unfolding path_on_literals
none_found = refl

-- a restart of the node that fails leaves it down
pub restart_fails : lines_said (turns_with (new_node log_a (0 ∷ [])) (with_luck fails_once RestartNode ∷ calm_lines (i0 ∷ RestartNode ∷ [])))
    ≡ codes "node storefault 0 1" ∷ codes "indexer 0 down" ∷ codes "node restarted 1" ∷ []
unfolding path_on_literals
restart_fails = refl

abbrev pub staged_entry : Entry
staged_entry = record { moment = 1000; act = Stage 1 delta_a (facts_of logs_index docs_a 1) }

abbrev pub published_entry : Entry
published_entry = record { moment = 1000; act = Publish 1 }

-- the create of a Publish lands only in a second drive, as that life's first append
abbrev pub second_life : Node
second_life =
    opened_node (record {
      log = log_a;
      log_faults = 0 ∷ [];
      history = new_index ++ staged_entry ∷ [];
      store_faults = 0;
      files = record { key = split_key 1; bytes = file_of logs_index docs_a } ∷ [];
      late = late_entry 2 published_entry (spelling published_entry) ∷ [];
    })

pub lands_in_a_second_life : lines_said (turns_with second_life
    (calm_lines (At 1000 ∷ i0 ∷ i0 ∷ []) ++ with_luck first_lands i0 ∷ calm_lines (i0 ∷ i0 ∷ ask_all ∷ a ∷ a ∷ a ∷ [])))
    ≡ codes "at 1000" ∷ codes "indexer 0 checkpoint" ∷ codes "indexer 0 read 3" ∷ codes "indexer 0 staged 2"
    ∷ codes "indexer 0 uploaded 2" ∷ codes "indexer 0 stale p0 3 0"
    ∷ codes "a opened" ∷ codes "a planned 4 1" ∷ codes "a fetched 1" ∷ two_hits 4 ∷ []
unfolding path_on_literals
lands_in_a_second_life = refl

-- ---- the collector

-- a row that nobody publishes is marked, its file is deleted, and it is removed
pub row_collected : lines_said (turns (new_node log_a (0 ∷ []))
    (At 1000 ∷ i0 ∷ i0 ∷ i0 ∷ i0 ∷ RestartIndexer 0 ∷ StepCollector ∷ At 1200 ∷ StepCollector ∷ StepCollector ∷ At 1300 ∷ StepCollector ∷ StepCollector ∷ StepCollector ∷ RestartCollector ∷ []))
    ≡ codes "at 1000" ∷ codes "indexer 0 checkpoint" ∷ codes "indexer 0 read 3" ∷ codes "indexer 0 staged 1" ∷ codes "indexer 0 uploaded 1" ∷ codes "indexer 0 restarted"
    ∷ codes "collector nothing" ∷ codes "at 1200" ∷ codes "collector marked 1" ∷ codes "collector nothing"
    ∷ codes "at 1300" ∷ codes "collector doomed 1" ∷ codes "collector removed 1" ∷ codes "collector nothing" ∷ codes "collector restarted" ∷ []
unfolding path_on_literals
row_collected = refl

-- the first late create lands as the collector lists
abbrev pub lands_in_a_sweep : LineLuck
lands_in_a_sweep = record calm { more = calm_fate ∷ calm_fate ∷ record calm_fate { first = record calm_call { lands = 0 ∷ [] } } ∷ [] }

-- an upload fails, and lands when its row is gone
pub file_swept : lines_said (turns_with (new_node log_a (0 ∷ []))
    (calm_lines (At 1000 ∷ i0 ∷ i0 ∷ i0 ∷ [])
    ++ (with_luck fails_once i0
    ∷ (calm_lines (At 1200 ∷ StepCollector ∷ At 1300 ∷ StepCollector ∷ StepCollector ∷ []) ++ (with_luck lands_in_a_sweep StepCollector ∷ calm_lines (StepCollector ∷ []))))))
    ≡ codes "at 1000" ∷ codes "indexer 0 checkpoint" ∷ codes "indexer 0 read 3" ∷ codes "indexer 0 staged 1" ∷ codes "indexer 0 storefault 0 1"
    ∷ codes "at 1200" ∷ codes "collector marked 1" ∷ codes "at 1300" ∷ codes "collector doomed 1" ∷ codes "collector removed 1" ∷ codes "collector swept 1" ∷ codes "collector nothing" ∷ []
unfolding path_on_literals
file_swept = refl

-- a node that is down collects nothing
pub collector_is_down : lines_said (turns_with (new_node log_a (0 ∷ [])) (with_luck fails_once RestartNode ∷ calm_lines (StepCollector ∷ RestartCollector ∷ RestartNode ∷ StepCollector ∷ [])))
    ≡ codes "node storefault 0 1" ∷ codes "collector down" ∷ codes "collector restarted" ∷ codes "node restarted 1" ∷ codes "collector nothing" ∷ []
unfolding path_on_literals
collector_is_down = refl
