-- Why a call ends with its status. This holds over all objects, also where they tell nothing.
use Rattle.std.specs.Prelude.{◌≡◌, ◌⊎◌, ℕ, ◌≤◌, List, [], ◌∷◌, ⊤}
use Rattle.byte_fields.specs.Causes.{Rose}
use Rattle.quick_node.specs.Running.{Counts}
use Rattle.quick_node.specs.Creating.{IsCreate}
use Rattle.quick_node.specs.Reporting.{IsSplits, IsDescribe, AsksFor}
use Rattle.quick_node.specs.Runs.{AsksRun}
use Rattle.quick_node.specs.Serve.{IsDrive}
use Rattle.quick_node.specs.declared.error_line.End.{End as Ended}
use Rattle.quick_node.specs.declared.error_line.End.TheVariants as ended
use Rattle.quick_node.specs.declared.reporting.Report.{Report}

-- ---- statuses

-- the counts of faults of a store, an input and an output
pub record Faults : Type 0 where
  pub store : ℕ
  pub input : ℕ
  pub output : ℕ

abbrev pub faults_of : ℕ → ℕ → ℕ → Faults
faults_of store input output = record { store = store; input = input; output = output }

-- A status that names an object comes only where that object's count of faults rose in the call, or stands at its end.
pub record HasCauses (before after : Faults) (status : ℕ) : Type 0 where
  pub store : status ≡ 4 → Rose before.store after.store
  pub input : status ≡ 5 → Rose before.input after.input
  pub output : status ≡ 6 → Rose before.output after.output
  pub read_on : before.input ≤ after.input
  pub written_on : before.output ≤ after.output

abbrev pub IsOneOf : ℕ → List ℕ → Type 0
IsOneOf status [] = ⊥
IsOneOf status (s ∷ more) = (status ≡ s) ⊎ IsOneOf status more

-- the statuses of a schedule, and of a run
abbrev pub drive_statuses : List ℕ
drive_statuses = 0 ∷ 3 ∷ 4 ∷ 5 ∷ 6 ∷ 7 ∷ 8 ∷ 10 ∷ 11 ∷ []

-- those of the making of an index
abbrev pub create_statuses : List ℕ
create_statuses = 0 ∷ 2 ∷ 4 ∷ 5 ∷ 6 ∷ 7 ∷ 9 ∷ 10 ∷ 11 ∷ []

-- those of a report
abbrev pub report_statuses : List ℕ
report_statuses = 0 ∷ 4 ∷ 6 ∷ 7 ∷ 8 ∷ 11 ∷ []

-- the statuses of words that are no command
abbrev pub other_statuses : List ℕ
other_statuses = 1 ∷ 11 ∷ []

-- Each command has its own statuses: words that are none end with 1, or without memory with 11, and no command ends with 1. A run of more
-- indexers than there are readers of the logs is none.
pub record IsStatusOf (readers : ℕ) (given : List (List ℕ)) (status : ℕ) : Type 0 where
  pub drive : IsDrive given → IsOneOf status drive_statuses
  pub run : AsksRun readers given → IsOneOf status drive_statuses
  pub create : IsCreate given → IsOneOf status create_statuses
  pub report : (asked : Report) → AsksFor asked given → IsOneOf status report_statuses
  pub other : (IsDrive given → ⊥) → (AsksRun readers given → ⊥) → (IsCreate given → ⊥) → (IsSplits given → ⊥) → (IsDescribe given → ⊥) → IsOneOf status other_statuses

-- a schedule ended with this status, or a run
pub record DriveCauses (before after : Faults) (status : ℕ) : Type 0 where
  pub causes : HasCauses before after status
  pub known : IsOneOf status drive_statuses

-- the making of an index ended with this status
pub record CreateCauses (before after : Faults) (status : ℕ) : Type 0 where
  pub causes : HasCauses before after status
  pub known : IsOneOf status create_statuses

-- a report ended with this status
pub record ReportCauses (before after : Faults) (status : ℕ) : Type 0 where
  pub causes : HasCauses before after status
  pub known : IsOneOf status report_statuses

-- ---- ends

-- how one line may end a run: as none, past the clients, or by a fault of the output, whose count rose
abbrev pub EndsLineBy : ℕ → ℕ → Ended → Type 0
EndsLineBy before after ended.Done = ⊥
EndsLineBy before after ended.BadWords = ⊥
EndsLineBy before after (ended.BadLine number) = ⊤
EndsLineBy before after ended.ClientsOver = ⊤
EndsLineBy before after ended.LineOver = ⊥
EndsLineBy before after ended.InputOver = ⊥
EndsLineBy before after ended.RequestsOver = ⊥
EndsLineBy before after ended.ConfigOver = ⊥
EndsLineBy before after (ended.NotOpened error) = ⊥
EndsLineBy before after (ended.NotMade error) = ⊥
EndsLineBy before after ended.ReadFault = ⊥
EndsLineBy before after ended.WriteFault = Rose before after
EndsLineBy before after ended.Memory = ⊥

-- how a run over lines may end
abbrev pub EndsRunBy : Counts → Ended → Type 0
EndsRunBy counts ended.Done = ⊤
EndsRunBy counts ended.BadWords = ⊥
EndsRunBy counts (ended.BadLine number) = ⊤
EndsRunBy counts ended.ClientsOver = ⊤
EndsRunBy counts ended.LineOver = ⊤
EndsRunBy counts ended.InputOver = ⊤
EndsRunBy counts ended.RequestsOver = ⊥
EndsRunBy counts ended.ConfigOver = ⊥
EndsRunBy counts (ended.NotOpened error) = ⊥
EndsRunBy counts (ended.NotMade error) = ⊥
EndsRunBy counts ended.ReadFault = Rose counts.read_before counts.read_after
EndsRunBy counts ended.WriteFault = Rose counts.write_before counts.write_after
EndsRunBy counts ended.Memory = ⊤
