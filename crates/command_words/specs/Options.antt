-- What may stand behind a command's name, and what the words there give.
use Rattle.std.specs.Prelude.{◌^◌, ◌&&◌, ◌||◌, ℕ, Bool, true, false, List, [], ◌∷◌, ◌++◌, length, Option, Some, None, is_some, option_map, option_and_then, find, bytes_eq, codes, nat_le, nat_lt, if◌then◌else◌}
use Rattle.std.specs.List.{list_all, list_any}
use Rattle.std.specs.Option.{option_map_or}
use Rattle.std.specs.Char.{digit_value}
use Rattle.std.specs.Str.Parse.{digits_value, without_leading_plus}
use Rattle.clap.specs.Lexer.{long_of, is_long_word, is_short_word}

abbrev pub Text : Type 0
Text = List ℕ

-- ---- a command's form

-- a number from the least to the most, or any text
pub data Value : Type 0 where
  number : ℕ → ℕ → Value
  text : Value

-- a flag takes nothing, an option a value
pub data Takes : Type 0 where
  nothing : Takes
  value : Value → Takes

-- the flags and options that a command has, in any order, and the values that it takes by their place
pub record Form : Type 0 where
  pub options : List (Text × Takes)
  pub places : List (Text × Value)

abbrev pub taken_by : List (Text × Takes) → Text → Option Takes
taken_by options name = option_map (λ o. o.1) (find (λ o. bytes_eq o.0 name) options)

-- ---- values

abbrev pub is_numeral : Text → Bool
is_numeral digits = nat_lt 0 (length digits) && list_all (λ d. nat_lt (digit_value d) 10) digits

-- the number that the text spells in digits, maybe behind a plus sign, where 64 bits hold it
abbrev pub number_of : Text → Option ℕ
number_of spelled =
    let digits = without_leading_plus spelled in
    if is_numeral digits && nat_lt (digits_value 10 digits) (2 ^ 64) then Some (digits_value 10 digits) else None

abbrev pub fits : Value → Text → Bool
fits (number least most) spelled = option_map_or (λ n. nat_le least n && nat_le n most) (number_of spelled) false
fits text spelled = true

-- ---- the words, one by one

-- a name and its value; that of a flag is `true`
abbrev pub Given : Type 0
Given = Text × Text

abbrev pub is_given : Text → List Given → Bool
is_given name given = list_any (λ g. bytes_eq g.0 name) given

abbrev pub value_of : Text → List Given → Option Text
value_of name given = option_map (λ g. g.1) (find (λ g. bytes_eq g.0 name) given)

-- what was given, the option whose value the next word has to be, and the places to come
pub record State : Type 0 where
  pub given : List Given
  pub waiting : Option (Text × Value)
  pub places : List (Text × Value)

-- each name is given once
abbrev pub once_given : Text → Text → State → Option State
once_given name spelled s =
    if is_given name s.given then None else Some (record s { given = s.given ++ (name, spelled) ∷ []; waiting = None })

abbrev pub value_given : Text → Value → Text → State → Option State
value_given name taken spelled s = if fits taken spelled then once_given name spelled s else None

-- `--name` of a flag, `--name` of an option, whose value is the next word, or `--name=value`
abbrev pub option_read : Option Takes → Text → Option Text → State → Option State
option_read None name attached s = None
option_read (Some nothing) name None s = once_given name (codes "true") s
option_read (Some nothing) name (Some spelled) s = None
option_read (Some (value taken)) name None s = Some (record s { waiting = Some (name, taken) })
option_read (Some (value taken)) name (Some spelled) s = value_given name taken spelled s

abbrev pub place_read : List (Text × Value) → Text → State → Option State
place_read [] word s = None
place_read (place ∷ rest) word s = value_given place.0 place.1 word (record s { places = rest })

-- a word where no option waits for its value
abbrev pub free_read : Form → Option (Text × Option Text) → Text → State → Option State
free_read form (Some p) word s = option_read (taken_by form.options p.0) p.0 p.1 s
free_read form None word s = if is_short_word word then None else place_read s.places word s

-- a word that begins with a hyphen and goes on is no value of an option that stands before it
abbrev pub waited_read : Form → Option (Text × Value) → Text → State → Option State
waited_read form None word s = free_read form (long_of word) word s
waited_read form (Some p) word s = if is_long_word word || is_short_word word then None else value_given p.0 p.1 word s

abbrev pub word_read : Form → Text → State → Option State
word_read form word s = if bytes_eq word (codes "--") then None else waited_read form s.waiting word s

abbrev pub ended : State → Option (List Given)
ended s = if is_some s.waiting then None else Some s.given

abbrev pub words_read : Form → List Text → State → Option (List Given)
words_read form [] s = ended s
words_read form (word ∷ rest) s = option_and_then (words_read form rest) (word_read form word s)

-- what the words behind a command's name give, if they are of its form
abbrev pub given_by : Form → List Text → Option (List Given)
given_by form words = words_read form words (record { given = []; waiting = None; places = form.places })

abbrev pub number_given : Text → List Given → Option ℕ
number_given name given = option_and_then number_of (value_of name given)
