-- A history with every kind of entry, which is legal. It shows that the conditions can be met.
use Rattle.std.proofs.Common.{ℕ, true, List, [], ◌∷◌, Some, None, Ok, refl, inl, arith}
use Rattle.source_checkpoint.specs.declared.delta.Part.{Part}
use Rattle.split_states.specs.declared.facts.RowFacts.{RowFacts}
use Rattle.meta_journal.specs.declared.entry.Entry.{Entry}
use Rattle.meta_journal.specs.declared.entry.Act.TheVariants.{Fence, Create, Stage, Publish, Replace, Raise, MarkStaged, Remove, Retire, Task as AddTask}
use Rattle.query_ast.specs.Sought.Sought.{All}
use Rattle.index_config.specs.declared.config.IndexConfig.{IndexConfig}
use Rattle.index_config.specs.declared.config.Mode.TheVariants.{Strict}
use Rattle.index_config.specs.declared.config.Policy.TheVariants.{NoMerge}
use Rattle.meta_store.specs.History.{history, at}
use Rattle.meta_store.specs.Readings.{Reads}
use Rattle.meta_store.specs.State.{Legal}

config : IndexConfig
config =
    record {
      schema = record { fields = []; timestamp = None; dynamic = None };
      mode = Strict;
      timestamp_field = None;
      formats = [];
      default_fields = [];
      commit_timeout = 60;
      docs_target = 100;
      policy = NoMerge;
      staged_grace = 10;
      deletion_grace = 20;
      retention = None;
    }

reads : Reads
reads = record { config = λ text. Ok (record { index = config; period = Some 100 }); query = λ config text fields. Ok All }

part : ℕ → ℕ → Part
part from to = record { partition = 112 ∷ []; from = from; to = to }

facts : RowFacts
facts = record { docs = 0; rejected = 0; weight = 9; size = 9; digest = []; times = None; tags = [] }

entries : List Entry
entries =
    at 100 (Create []) ∷ at 100 (Stage 1 (part 0 2 ∷ []) facts) ∷ at 101 (Publish 1) ∷ at 101 Fence
    ∷ at 104 (AddTask 1 [] [] (record { start = None; end = None }))
    ∷ at 105 (Stage 2 (part 2 5 ∷ []) facts) ∷ at 105 (Publish 2)
    ∷ at 106 (Stage 3 [] facts) ∷ at 107 (Replace 3 (1 ∷ 2 ∷ []) 0) ∷ at 108 (Raise 3 1)
    ∷ at 130 (Remove (2 ∷ [])) ∷ at 131 (Stage 4 (part 5 6 ∷ []) facts) ∷ at 141 (MarkStaged (4 ∷ [])) ∷ at 170 (Retire (3 ∷ [])) ∷ []

legal : Legal reads (history entries)
unfolding config reads part facts entries
legal = ((((((((((((((tt, (omega arith, refl)), (omega arith, (refl, (omega arith, refl, tt), omega arith))), (omega arith, ((refl, (λ e. cc e)), ((omega arith, refl, tt), (refl, tt)), omega arith))), (omega arith, tt)), (omega arith, (refl, refl, omega arith))), (omega arith, (refl, (omega arith, refl, tt), omega arith))), (omega arith, ((refl, (λ e. cc e)), ((omega arith, refl, tt), (refl, tt)), omega arith))), (omega arith, (refl, tt, omega arith))), (omega arith, (((refl, refl), ((λ e. cc e), (refl, (refl, tt)), ((refl, tt), ((refl, tt), tt)))), omega arith))), (omega arith, ((refl, tt), omega arith))), (omega arith, ((refl, omega arith), tt))), (omega arith, (refl, (omega arith, refl, tt), omega arith))), (omega arith, ((refl, omega arith), tt))), (omega arith, ((λ e. cc e), tt, ((refl, inl refl), tt))))
