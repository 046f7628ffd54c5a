-- The tokens of a text.
use Rattle.std.specs.Prelude.{ℕ, suc, ◌+◌, List, [], ◌∷◌, ◌++◌, length, nat_le, if◌then◌else◌, Option, Some, None, option_to_list, encode_utf8_all}
use Rattle.std.specs.Str.{chars}
use Rattle.caseless.specs.Caseless.{default_case_fold}
use Rattle.text_tokens.specs.declared.runs.Cut.{Cut}
use Rattle.text_tokens.specs.declared.runs.Cut.TheVariants.{Blanks, Words}
use Rattle.text_tokens.specs.declared.runs.Run.{Run}
use Rattle.text_tokens.specs.declared.tokens.Token.{Token}
use Rattle.text_tokens.specs.Runs.{runs_from}

-- raw and default tokens come of at most so many bytes
abbrev pub max_token : ℕ
max_token = 255

-- the full case folding of a text
abbrev pub folded : List ℕ → List ℕ
folded text = encode_utf8_all (default_case_fold (chars text))

-- the token of a run, if it has one: a run between blanks as it stands; a word folded, if it isn't too long
abbrev pub token_of : Cut → ℕ → Run → Option Token
token_of Blanks n run = Some (record { text = run.text; from = run.from; to = run.to; position = n })
token_of Words n run =
    if nat_le (length run.text) max_token
    then Some (record { text = folded run.text; from = run.from; to = run.to; position = n })
    else None

-- the tokens of runs, of which the first has that number; a run without a token is counted too
abbrev pub numbered : Cut → ℕ → List Run → List Token
numbered cut n [] = []
numbered cut n (run ∷ runs) = option_to_list (token_of cut n run) ++ numbered cut (suc n) runs

-- the whole text is one token, the empty text too, if it isn't too long
abbrev pub raw_tokens : List ℕ → List Token
raw_tokens text =
    if nat_le (length text) max_token
    then record { text = text; from = 0; to = length text; position = 0 } ∷ []
    else []

-- the maximal runs of characters that aren't white space
abbrev pub whitespace_tokens : List ℕ → List Token
whitespace_tokens text = numbered Blanks 0 (runs_from Blanks 0 (chars text))

-- the maximal runs of letters and numbers, with case folded, without those that are too long
abbrev pub default_tokens : List ℕ → List Token
default_tokens text = numbered Words 0 (runs_from Words 0 (chars text))
