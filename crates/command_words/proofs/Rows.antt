-- Worked command lines.
use Rattle.std.proofs.Common.{◌≡◌, ℕ, true, false, List, [], ◌∷◌, Option, Some, None, refl, codes}
use Rattle.command_words.specs.Words.{command_of}
use Rattle.command_words.specs.declared.command.Command.{Command}
use Rattle.command_words.specs.declared.command.Command.TheVariants.{Drive, Run}

abbrev run : List (List ℕ) → Option Command
run behind = command_of (codes "run" ∷ behind)

-- options in any order, with and without `=`; a number may have a plus sign and zeros before it
in_any_order : run (codes "--turns=5" ∷ codes "--searchers" ∷ codes "1" ∷ codes "--indexers" ∷ codes "+1" ∷ [])
    ≡ Some (Run (record { indexers = 1; searchers = 1; turns = 5; settle = false; progress = false }))
in_any_order = refl

with_flags : run (codes "--settle" ∷ codes "--indexers" ∷ codes "64" ∷ codes "--progress" ∷ codes "--searchers=064" ∷ codes "--turns" ∷ codes "1000000" ∷ [])
    ≡ Some (Run (record { indexers = 64; searchers = 64; turns = 1000000; settle = true; progress = true }))
with_flags = refl

no_turns : run (codes "--indexers=1" ∷ codes "--searchers=1" ∷ codes "--turns=0" ∷ [])
    ≡ Some (Run (record { indexers = 1; searchers = 1; turns = 0; settle = false; progress = false }))
no_turns = refl

-- below and above the bounds
none_to_index : run (codes "--indexers" ∷ codes "0" ∷ codes "--searchers" ∷ codes "1" ∷ codes "--turns" ∷ codes "0" ∷ []) ≡ None
none_to_index = refl

too_many_turns : run (codes "--indexers=1" ∷ codes "--searchers=1" ∷ codes "--turns=1000001" ∷ []) ≡ None
too_many_turns = refl

-- a name twice, a name that is missing, a value that is missing, and one that a flag doesn't take
twice : run (codes "--turns=1" ∷ codes "--indexers=1" ∷ codes "--searchers=1" ∷ codes "--turns=1" ∷ []) ≡ None
twice = refl

flag_twice : run (codes "--settle" ∷ codes "--indexers=1" ∷ codes "--searchers=1" ∷ codes "--turns=1" ∷ codes "--settle" ∷ []) ≡ None
flag_twice = refl

missing : run (codes "--indexers=1" ∷ codes "--searchers=1" ∷ []) ≡ None
missing = refl

no_value : run (codes "--indexers=1" ∷ codes "--searchers=1" ∷ codes "--turns" ∷ []) ≡ None
no_value = refl

flag_with_value : run (codes "--settle=true" ∷ codes "--indexers=1" ∷ codes "--searchers=1" ∷ codes "--turns=1" ∷ []) ≡ None
flag_with_value = refl

-- a value that begins with a hyphen, an empty one, and a name cut short
minus_one : run (codes "--indexers=1" ∷ codes "--searchers=1" ∷ codes "--turns" ∷ codes "-1" ∷ []) ≡ None
minus_one = refl

empty_value : run (codes "--indexers=" ∷ codes "--searchers=1" ∷ codes "--turns=1" ∷ []) ≡ None
empty_value = refl

cut_short : run (codes "--index=1" ∷ codes "--searchers=1" ∷ codes "--turns=1" ∷ []) ≡ None
cut_short = refl

-- help in its forms, `--`, and words that stand alone
help_asked : run (codes "--help" ∷ []) ≡ None
help_asked = refl

help_by_letter : run (codes "-h" ∷ codes "--indexers=1" ∷ codes "--searchers=1" ∷ codes "--turns=1" ∷ []) ≡ None
help_by_letter = refl

dashes : run (codes "--indexers=1" ∷ codes "--searchers=1" ∷ codes "--turns=1" ∷ codes "--" ∷ []) ≡ None
dashes = refl

stray : run (codes "now" ∷ codes "--indexers=1" ∷ codes "--searchers=1" ∷ codes "--turns=1" ∷ []) ≡ None
stray = refl

run_alone : run [] ≡ None
run_alone = refl

-- a command without options
drive_alone : command_of (codes "drive" ∷ []) ≡ Some Drive
drive_alone = refl

drive_dashes : command_of (codes "drive" ∷ codes "--" ∷ []) ≡ None
drive_dashes = refl

unknown : command_of (codes "frobnicate" ∷ []) ≡ None
unknown = refl

no_words : command_of [] ≡ None
no_words = refl
