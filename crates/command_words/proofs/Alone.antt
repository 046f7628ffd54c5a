-- The words of a command that takes nothing: its name alone.
use Rattle.std.proofs.Common.{String, Global, string_bytes, ◌≡◌, ◌≤◌, Bool, true, false, List, [], ◌∷◌, map, drop, length, Option, Some, None, refl, ap, arith, bytes_eq, codes, option_and_then, if◌then◌else◌, is_some}
use Rattle.clap.specs.Faults.{is_simple_and_free}
use Rattle.clap.specs.Lexer.{is_short_word, long_of}
use Rattle.clap.specs.Simple.{built}
use Rattle.clap.specs.declared.parser.matches.ArgMatches.{ArgMatches}
use Rattle.command_words.specs.Options.{Form, State, Text, free_read, given_by, words_read}
use Rattle.command_words.specs.Parsing.{IsParse, app_for}
use Rattle.command_words.proofs.Forms.{help_defaults, help_required, long_help, short_help}
use Rattle.command_words.proofs.Parse.{Sees, sees}
use Rattle.command_words.proofs.Values.{help}
use Rattle.command_words.proofs.Walk.{app}

-- a form that takes nothing
abbrev pub bare : Form
bare = record { options = []; places = [] }

abbrev start : State
start = record { given = []; waiting = None; places = [] }

word_refused : (long : Option (Text × Option Text)) (short : Bool) (word : Text) → free_read bare long word start ≡ None
word_refused (Some p) short word = refl
word_refused None short word = go (is_short_word word)
  where
    go : (b : Bool) → ◌≡◌ {A = Option State} (if b then None else None) None
    go true = refl
    go false = refl

behind_refused : (word : Text) (words : List Text) → given_by bare (word ∷ words) ≡ None
behind_refused word words = go (bytes_eq word (codes "--")) (free_read bare (long_of word) word start) (word_refused (long_of word) true word)
  where
    go : (b : Bool) (r : Option State) → r ≡ None → option_and_then (words_read bare words) (if b then None else r) ≡ None
    go true r none = refl
    go false r none = ap (option_and_then (words_read bare words)) none

module _ (name : Text) where
  bare_built : built (app_for name bare) ≡ app name bare (help ∷ []) long_help short_help
  bare_built = refl

  bare_simple : is_simple_and_free (app_for name bare) ≡ true
  bare_simple = refl

  pub alone_is_taken : (words : List (String Global)) (found : Option ArgMatches) → IsParse (app_for name bare) words found → length words ≤ 1 → is_some found ≡ true
  alone_is_taken words found parse few =
      go words few found (sees name bare (help ∷ []) long_help short_help help_defaults help_required refl bare_built bare_simple words found parse)
    where
      go : (words : List (String Global)) → length words ≤ 1 → (found : Option ArgMatches)
          → Sees name bare (help ∷ []) long_help short_help help_defaults help_required refl bare_built bare_simple (given_by bare (drop 1 (map string_bytes words))) found → is_some found ≡ true
      go [] few None seen = absurd seen
      go [] few (Some matches) seen = refl
      go (first ∷ []) few None seen = absurd seen
      go (first ∷ []) few (Some matches) seen = refl
      go (first ∷ word ∷ rest) few found seen = absurd (omega arith)

  pub taken_is_alone : (words : List (String Global)) (matches : ArgMatches) → IsParse (app_for name bare) words (Some matches) → length words ≤ 1
  taken_is_alone words matches parse =
      go words (sees name bare (help ∷ []) long_help short_help help_defaults help_required refl bare_built bare_simple words (Some matches) parse)
    where
      go : (words : List (String Global)) → Sees name bare (help ∷ []) long_help short_help help_defaults help_required refl bare_built bare_simple (given_by bare (drop 1 (map string_bytes words))) (Some matches)
          → length words ≤ 1
      go [] seen = omega arith
      go (first ∷ []) seen = omega arith
      go (first ∷ word ∷ rest) seen =
          let none = behind_refused (string_bytes word) (map string_bytes rest) in
          absurd (rw none at seen)

-- a command of this name alone takes the words exactly where they are one or none
pub is_alone : (name : Text) (words : List (String Global)) (found : Option ArgMatches) → IsParse (app_for name bare) words found
    → (is_some found ≡ true → length words ≤ 1) × (length words ≤ 1 → is_some found ≡ true)
is_alone name words None parse = (λ some. cc, λ few. alone_is_taken name words None parse few)
is_alone name words (Some matches) parse = (λ some. taken_is_alone name words matches parse, λ few. refl)
