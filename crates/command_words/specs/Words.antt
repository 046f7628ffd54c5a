-- The words of the command line.
use Rattle.std.specs.Prelude.{◌≤◌, ℕ, Bool, List, [], ◌∷◌, Option, Some, None, bytes_eq, codes, if◌then◌else◌, option_map, option_and_then}
use Rattle.command_words.specs.Options.{Form, Given, given_by, is_given, nothing, number, number_given, value}
use Rattle.command_words.specs.declared.command.Command.{Command}
use Rattle.command_words.specs.declared.command.Command.TheVariants.{Create, Drive, Run, Splits, Describe}
use Rattle.command_words.specs.declared.run.RunOptions.{RunOptions}

abbrev pub name_of : Command → List ℕ
name_of Create = codes "create"
name_of Drive = codes "drive"
name_of (Run options) = codes "run"
name_of Splits = codes "splits"
name_of Describe = codes "describe"

-- ---- `run`

-- `--indexers N --searchers N --turns N`, and maybe `--settle` and `--progress`
abbrev pub run_form : Form
run_form = record {
  options = (codes "indexers", value (number 1 64)) ∷ (codes "searchers", value (number 1 64))
      ∷ (codes "turns", value (number 0 1000000)) ∷ (codes "settle", nothing) ∷ (codes "progress", nothing) ∷ [];
  places = [];
}

-- all three numbers have to be given
abbrev pub run_with : Option ℕ → Option ℕ → Option ℕ → Bool → Bool → Option RunOptions
run_with (Some indexers) (Some searchers) (Some turns) settle progress = Some (record {
  indexers = indexers;
  searchers = searchers;
  turns = turns;
  settle = settle;
  progress = progress;
})
run_with _ _ _ settle progress = None

abbrev pub run_given : List Given → Option RunOptions
run_given given = run_with (number_given (codes "indexers") given) (number_given (codes "searchers") given) (number_given (codes "turns") given)
    (is_given (codes "settle") given) (is_given (codes "progress") given)

-- what the words behind the name ask for
abbrev pub run_of : List (List ℕ) → Option RunOptions
run_of words = option_and_then run_given (given_by run_form words)

-- ---- the command

-- the command of this name that has no options
abbrev pub command_named : List ℕ → Option Command
command_named word = if bytes_eq word (codes "create") then Some Create
    else if bytes_eq word (codes "drive") then Some Drive
    else if bytes_eq word (codes "splits") then Some Splits
    else if bytes_eq word (codes "describe") then Some Describe
    else None

-- one word that is such a command's name is that command
abbrev pub alone_of : List ℕ → List (List ℕ) → Option Command
alone_of name [] = command_named name
alone_of name _ = None

-- `run` with its options, or the name alone of a command that has none; all else is none
abbrev pub command_of : List (List ℕ) → Option Command
command_of [] = None
command_of (name ∷ rest) = if bytes_eq name (codes "run") then option_map Run (run_of rest) else alone_of name rest

-- ---- the bounds of a run

pub record IsWithin (options : RunOptions) : Type 0 where
  pub indexers : (1 ≤ options.indexers) × (options.indexers ≤ 64)
  pub searchers : (1 ≤ options.searchers) × (options.searchers ≤ 64)
  pub turns : options.turns ≤ 1000000
