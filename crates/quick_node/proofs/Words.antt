-- The command that the words of a command line name.
use Rattle.std.proofs.Common.{◌≡◌, ℕ, List, [], ◌∷◌, Option, Some, None, sym, ap, ◌∙◌, subst}
use Rattle.command_words.specs.Words.{name_of, command_of}
use Rattle.command_words.specs.declared.command.Command.{Command}
use Rattle.command_words.specs.declared.command.Command.TheVariants as commands
use Rattle.command_words.specs.declared.run.RunOptions.{RunOptions}
use Rattle.command_words.proofs.Naming.{IsNamed, name_names}
use Rattle.quick_node.specs.Reporting.{AsksFor}
use Rattle.quick_node.specs.Runs.{IsRun}
use Rattle.quick_node.specs.declared.reporting.Report.{Report}
use Rattle.quick_node.specs.declared.reporting.Report.TheVariants as kinds

-- words that are a command's name alone name it and no other
pub named_so : (given : List (List ℕ)) (named x : Option Command) (command : Command) → named ≡ command_of given → named ≡ x → given ≡ name_of command ∷ [] → IsNamed command x
named_so given named x command are is alone = subst (IsNamed command) (sym (ap command_of alone) ∙ sym are ∙ is) (name_names command)

-- so do the words of a run
pub named_run : (given : List (List ℕ)) (named x : Option Command) (options : RunOptions) → named ≡ command_of given → named ≡ x → IsRun options given → x ≡ Some (commands.Run options)
named_run given named x options are is run = sym is ∙ are ∙ run

-- the report that a command writes
abbrev pub report_of : Option Command → Option Report
report_of None = None
report_of (Some commands.Create) = None
report_of (Some commands.Drive) = None
report_of (Some (commands.Run options)) = None
report_of (Some commands.Splits) = Some kinds.Splits
report_of (Some commands.Describe) = Some kinds.Describe

-- words that ask for a report name its command and no other
pub asked_so : (given : List (List ℕ)) (named x : Option Command) (asked : Report) → named ≡ command_of given → named ≡ x → AsksFor asked given → report_of x ≡ Some asked
asked_so given named x kinds.Splits are is asks = ap report_of (named_so given named x commands.Splits are is asks)
asked_so given named x kinds.Describe are is asks = ap report_of (named_so given named x commands.Describe are is asks)

-- ---- what is told apart

pub unnamed : {A : Type 0} {x : A} → ◌≡◌ {A = Option A} None (Some x) → ⊥
unnamed e = cc e

pub same_of : {A : Type 0} {x y : A} → ◌≡◌ {A = Option A} (Some x) (Some y) → x ≡ y
same_of e = cc e

pub create_or_drive : ◌≡◌ {A = Option Command} (Some commands.Create) (Some commands.Drive) → ⊥
create_or_drive e = cc e

pub drive_or_create : ◌≡◌ {A = Option Command} (Some commands.Drive) (Some commands.Create) → ⊥
drive_or_create e = cc e

pub splits_or_drive : ◌≡◌ {A = Option Command} (Some commands.Splits) (Some commands.Drive) → ⊥
splits_or_drive e = cc e

pub splits_or_create : ◌≡◌ {A = Option Command} (Some commands.Splits) (Some commands.Create) → ⊥
splits_or_create e = cc e

pub describe_or_drive : ◌≡◌ {A = Option Command} (Some commands.Describe) (Some commands.Drive) → ⊥
describe_or_drive e = cc e

pub describe_or_create : ◌≡◌ {A = Option Command} (Some commands.Describe) (Some commands.Create) → ⊥
describe_or_create e = cc e

pub create_or_run : {options : RunOptions} → ◌≡◌ {A = Option Command} (Some commands.Create) (Some (commands.Run options)) → ⊥
create_or_run e = cc e

pub drive_or_run : {options : RunOptions} → ◌≡◌ {A = Option Command} (Some commands.Drive) (Some (commands.Run options)) → ⊥
drive_or_run e = cc e

pub splits_or_run : {options : RunOptions} → ◌≡◌ {A = Option Command} (Some commands.Splits) (Some (commands.Run options)) → ⊥
splits_or_run e = cc e

pub describe_or_run : {options : RunOptions} → ◌≡◌ {A = Option Command} (Some commands.Describe) (Some (commands.Run options)) → ⊥
describe_or_run e = cc e

pub run_or_create : {options : RunOptions} → ◌≡◌ {A = Option Command} (Some (commands.Run options)) (Some commands.Create) → ⊥
run_or_create e = cc e

pub run_or_drive : {options : RunOptions} → ◌≡◌ {A = Option Command} (Some (commands.Run options)) (Some commands.Drive) → ⊥
run_or_drive e = cc e

pub same_run : {one other : RunOptions} → ◌≡◌ {A = Option Command} (Some (commands.Run one)) (Some (commands.Run other)) → one ≡ other
same_run e = cc e
