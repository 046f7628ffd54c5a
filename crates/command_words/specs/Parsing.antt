-- What a command of clap makes of words.
use Rattle.std.specs.Prelude.{◌≡◌, ◌⊎◌, Bool, true, false, String, List, [], ◌++◌, ℕ, Option, Some, None, bytes_eq, codes, drop, find, map, option_and_then, string_bytes}
use Rattle.std.specs.Global.{Global}
use Rattle.std.specs.List.{list_any}
use Rattle.clap.specs.Faults.{fault_of, is_simple_and_free}
use Rattle.clap.specs.Matches.{found_of}
use Rattle.clap.specs.Simple.{App, matches_of, new_rule, new_shape}
use Rattle.clap.specs.Walk.{Row, Rule, one_of, rows_of}
use Rattle.clap.specs.declared.builder.action.ArgAction.TheVariants.{SetTrue}
use Rattle.clap.specs.declared.builder.value_parser.ValueParser.{ValueParser}
use Rattle.clap.specs.declared.builder.value_parser.ValueParser.TheVariants as vp
use Rattle.clap.specs.declared.parser.matches.ArgMatches.{ArgMatches}
use Rattle.clap.specs.declared.parser.matches.ValueSource.{ValueSource}
use Rattle.clap.specs.declared.parser.matches.ValueSource.TheVariants.{CommandLine}
use Rattle.command_words.specs.Options.{Form, Takes, Text, Value, nothing, number, number_of, text, value}

-- ---- the command of a form

abbrev pub parser_of : Value → Option ValueParser
parser_of (number least most) = Some (vp.Unsigned least most)
parser_of text = None

abbrev pub option_rule : Text × Takes → Rule
option_rule o = taking o.0 o.1
  where
    taking : Text → Takes → Rule
    taking name nothing = record (new_rule name) { long = Some name; action = Some SetTrue }
    taking name (value taken) = record (new_rule name) { long = Some name; parser = parser_of taken }

abbrev pub place_rule : Text × Value → Rule
place_rule place = record (new_rule place.0) { parser = parser_of place.1 }

abbrev pub app_for : Text → Form → App
app_for name form = record { top = record (new_shape name) { rules = map option_rule form.options ++ map place_rule form.places }; subs = [] }

-- ---- its parse

-- a word behind the first is `--`
abbrev pub has_dashes : List (String Global) → Bool
has_dashes words = list_any (λ word. bytes_eq (string_bytes word) (codes "--")) (drop 1 words)

-- Words are refused where one behind the first is `--`, or where the parse has a fault. Else it has none, and gives the
-- matches that the command has.
abbrev pub IsParse : App → List (String Global) → Option ArgMatches → Type 0
IsParse app words None = is_simple_and_free app ≡ true
    → (has_dashes words ≡ true) ⊎ (fault_of app (map string_bytes words) ≡ [] → ⊥)
IsParse app words (Some matches) = is_simple_and_free app ≡ true
    → (has_dashes words ≡ false) × (fault_of app (map string_bytes words) ≡ [])
    × (rows_of (found_of matches) ≡ matches_of app (map string_bytes words))

-- ---- what its matches tell

-- the number that is told for a name
abbrev pub number_told : Text → List Row → Option ℕ
number_told name told = option_and_then number_of (one_of name told)

abbrev pub is_from_words : Option ValueSource → Bool
is_from_words (Some CommandLine) = true
is_from_words _ = false

-- the name stands among the words
abbrev pub is_told : Text → List Row → Bool
is_told name told = is_from_words (option_and_then (λ r. r.source) (find (λ r. bytes_eq r.id name) told))
