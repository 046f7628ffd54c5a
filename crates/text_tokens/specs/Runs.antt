-- The maximal runs of a text's characters, each with its bytes and with the places in bytes where it begins and ends.
use Rattle.std.specs.Prelude.{◌≡◌, ◌≢◌, ℕ, ◌+◌, ◌==◌, ◌||◌, Bool, true, false, not, List, [], ◌∷◌, ◌++◌, length, if◌then◌else◌, encode_utf8, encode_utf8_all}
use Rattle.std.specs.Char.{is_whitespace}
use Rattle.unicode.specs.Binary.{is_alphabetic}
use Rattle.ucd_category.specs.GeneralCategory.{general_category}
use Rattle.ucd_category.specs.declared.GeneralCategory.{GeneralCategory}
use Rattle.ucd_category.specs.declared.GeneralCategory.TheVariants as category
use Rattle.text_tokens.specs.declared.runs.Cut.{Cut}
use Rattle.text_tokens.specs.declared.runs.Cut.TheVariants.{Blanks, Words}
use Rattle.text_tokens.specs.declared.runs.Run.{Run}

-- the general categories of digits, of letters that stand for numbers and of other numbers
abbrev pub is_number : GeneralCategory → Bool
is_number category.DecimalNumber = true
is_number category.LetterNumber = true
is_number category.OtherNumber = true
is_number _ = false

-- whether a character belongs to a run: no white space, or a letter or number
abbrev pub is_inside : Cut → ℕ → Bool
is_inside Blanks c = not (is_whitespace c)
is_inside Words c = is_alphabetic c || is_number (general_category c)

-- a run of one character
abbrev pub single : ℕ → ℕ → Run
single at c = record { text = encode_utf8 c; from = at; to = at + length (encode_utf8 c) }

-- a run before others: where the first of them begins at its end, the two are one run
abbrev pub joined_to : Run → List Run → List Run
joined_to run [] = run ∷ []
joined_to run (next ∷ runs) =
    if run.to == next.from then record { text = run.text ++ next.text; from = run.from; to = next.to } ∷ runs
    else run ∷ next ∷ runs

-- what is kept of a run that ends: nothing, if it has no characters
abbrev pub closed_by : List ℕ → Run → List Run
closed_by [] run = []
closed_by (b ∷ bs) run = run ∷ []

abbrev pub closed : Run → List Run
closed run = closed_by run.text run

-- the runs of these characters, of which the first stands at that byte
abbrev pub runs_from : Cut → ℕ → List ℕ → List Run
runs_from cut at [] = []
runs_from cut at (c ∷ cs) =
    if is_inside cut c then joined_to (single at c) (runs_from cut (at + length (encode_utf8 c)) cs)
    else runs_from cut (at + length (encode_utf8 c)) cs

-- no character belongs to a run, or all do
abbrev pub AllOutside : Cut → List ℕ → Type 0
AllOutside cut [] = Unit {0}
AllOutside cut (c ∷ cs) = (is_inside cut c ≡ false) × AllOutside cut cs

abbrev pub AllInside : Cut → List ℕ → Type 0
AllInside cut [] = Unit {0}
AllInside cut (c ∷ cs) = (is_inside cut c ≡ true) × AllInside cut cs

-- a run stops here: the text ends, or the next character belongs to no run
abbrev pub Stops : Cut → List ℕ → Type 0
Stops cut [] = Unit {0}
Stops cut (c ∷ cs) = is_inside cut c ≡ false

-- the text begins with characters of no run, and then comes this run, as long as can be, and then the rest
pub record IsFirstRun (cut : Cut) (at : ℕ) (text gap word rest : List ℕ) (run : Run) : Type 0 where
  pub whole : text ≡ gap ++ (word ++ rest)
  pub outside : AllOutside cut gap
  pub inside : AllInside cut word
  pub begins : word ≢ []
  pub stops : Stops cut rest
  pub bytes : run.text ≡ encode_utf8_all word
  pub from : run.from ≡ at + length (encode_utf8_all gap)
  pub to : run.to ≡ run.from + length run.text

-- these are all maximal runs of the characters, in their order
abbrev pub AreMaximalRuns : Cut → ℕ → List ℕ → List Run → Type 0
AreMaximalRuns cut at text [] = AllOutside cut text
AreMaximalRuns cut at text (run ∷ runs) =
    (gap : List ℕ) × (word : List ℕ) × (rest : List ℕ)
    × IsFirstRun cut at text gap word rest run × AreMaximalRuns cut run.to rest runs
