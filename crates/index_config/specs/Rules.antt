-- What a value of the configuration has to be, and what is wrong with it otherwise.
use Rattle.std.specs.Prelude.{ℕ, suc, ◌+◌, ◌-◌, ◌*◌, ◌==◌, ◌&&◌, ◌||◌, nat_le, Bool, true, false, List, [], ◌∷◌, ◌++◌, length, Option, Some, None, is_some, ℤ, pos, negsuc, codes, if◌then◌else◌}
use Rattle.std.specs.Fmt.{decimal}
use Rattle.std.specs.List.{list_all}
use Rattle.std.specs.Str.{bytes_eq}
use Rattle.toml.specs.Data.{Data, Items, no_items, item, as_str, as_integer, as_bool, as_array, as_table}
use Rattle.index_config.specs.declared.rule.Rule.{Rule}
use Rattle.index_config.specs.declared.rule.Rule.TheVariants as rules
use Rattle.index_config.specs.declared.config_error.ConfigError.{ConfigError}
use Rattle.index_config.specs.declared.config_error.ConfigError.TheVariants.{WrongKind, BadNumber}

-- the path of a key in a table with this path; the whole configuration has the empty path
abbrev pub under : List ℕ → List ℕ → List ℕ
under [] key = key
under (c ∷ cs) key = (c ∷ cs) ++ 46 ∷ key

abbrev pub is_letter : ℕ → Bool
is_letter c = (nat_le 65 c && nat_le c 90) || (nat_le 97 c && nat_le c 122)

abbrev pub is_digit : ℕ → Bool
is_digit c = nat_le 48 c && nat_le c 57

-- the name of an index: a letter, then letters, digits, `-` and `_`; 3 to 255
abbrev pub is_id_byte : ℕ → Bool
is_id_byte c = is_letter c || is_digit c || (c == 45) || (c == 95)

abbrev pub begins_with_letter : List ℕ → Bool
begins_with_letter [] = false
begins_with_letter (c ∷ cs) = is_letter c

abbrev pub is_index_id : List ℕ → Bool
is_index_id text = begins_with_letter text && list_all is_id_byte text && nat_le 3 (length text) && nat_le (length text) 255

-- the name of a field: a letter, `_`, `@` or `$`, then these, digits and `-`; 1 to 255
abbrev pub is_name_start : ℕ → Bool
is_name_start c = is_letter c || (c == 95) || (c == 64) || (c == 36)

abbrev pub is_name_byte : ℕ → Bool
is_name_byte c = is_name_start c || is_digit c || (c == 45)

abbrev pub begins_as_name : List ℕ → Bool
begins_as_name [] = false
begins_as_name (c ∷ cs) = is_name_start c

abbrev pub is_field_name : List ℕ → Bool
is_field_name text = begins_as_name text && list_all is_name_byte text && nat_le (length text) 255

abbrev pub max_seconds : ℕ
max_seconds = 2147483647

-- a number that is too large anyway stays at one above the greatest
abbrev pub capped : ℕ → ℕ
capped n = if nat_le n max_seconds then n else suc max_seconds

-- the number that the digits at the front make
abbrev pub leading_number : ℕ → List ℕ → ℕ
leading_number n [] = n
leading_number n (c ∷ cs) = if is_digit c then leading_number (capped (n * 10 + (c - 48))) cs else n

abbrev pub after_digits : List ℕ → List ℕ
after_digits [] = []
after_digits (c ∷ cs) = if is_digit c then after_digits cs else c ∷ cs

abbrev pub after_blanks : List ℕ → List ℕ
after_blanks [] = []
after_blanks (c ∷ cs) = if c == 32 then after_blanks cs else c ∷ cs

abbrev pub begins_with_digit : List ℕ → Bool
begins_with_digit [] = false
begins_with_digit (c ∷ cs) = is_digit c

abbrev pub is_second : List ℕ → Bool
is_second u = bytes_eq u (codes "s") || bytes_eq u (codes "sec") || bytes_eq u (codes "secs") || bytes_eq u (codes "second") || bytes_eq u (codes "seconds")

abbrev pub is_minute : List ℕ → Bool
is_minute u = bytes_eq u (codes "m") || bytes_eq u (codes "min") || bytes_eq u (codes "mins") || bytes_eq u (codes "minute") || bytes_eq u (codes "minutes")

abbrev pub is_hour : List ℕ → Bool
is_hour u = bytes_eq u (codes "h") || bytes_eq u (codes "hr") || bytes_eq u (codes "hrs") || bytes_eq u (codes "hour") || bytes_eq u (codes "hours")

abbrev pub is_day : List ℕ → Bool
is_day u = bytes_eq u (codes "d") || bytes_eq u (codes "day") || bytes_eq u (codes "days")

abbrev pub is_week : List ℕ → Bool
is_week u = bytes_eq u (codes "w") || bytes_eq u (codes "week") || bytes_eq u (codes "weeks")

-- the seconds of a unit
abbrev pub unit_seconds : List ℕ → Option ℕ
unit_seconds u =
    if is_second u then Some 1
    else (if is_minute u then Some 60
    else (if is_hour u then Some 3600
    else (if is_day u then Some 86400
    else (if is_week u then Some 604800
    else None))))

-- digits, blanks and a unit, in seconds
abbrev pub timed : ℕ → Option ℕ → Option ℕ
timed n None = None
timed n (Some unit) = Some (n * unit)

abbrev pub duration_of : List ℕ → Option ℕ
duration_of text =
    if begins_with_digit text then timed (leading_number 0 text) (unit_seconds (after_blanks (after_digits text))) else None

-- the words that stand for modes, tokenizers, records, formats, types of fields and of policies
abbrev pub is_mode : List ℕ → Bool
is_mode w = bytes_eq w (codes "strict") || bytes_eq w (codes "lenient") || bytes_eq w (codes "dynamic")

abbrev pub is_tokenizer : List ℕ → Bool
is_tokenizer w = bytes_eq w (codes "raw") || bytes_eq w (codes "whitespace") || bytes_eq w (codes "default")

abbrev pub is_record : List ℕ → Bool
is_record w = bytes_eq w (codes "basic") || bytes_eq w (codes "freq") || bytes_eq w (codes "position")

abbrev pub is_format : List ℕ → Bool
is_format w = bytes_eq w (codes "rfc3339") || bytes_eq w (codes "unix_timestamp")

abbrev pub is_policy : List ℕ → Bool
is_policy w = bytes_eq w (codes "stable_log") || bytes_eq w (codes "limit_merge") || bytes_eq w (codes "no_merge")

abbrev pub is_field_type : List ℕ → Bool
is_field_type w =
    bytes_eq w (codes "text") || bytes_eq w (codes "i64") || bytes_eq w (codes "u64") || bytes_eq w (codes "bool")
    || bytes_eq w (codes "datetime") || bytes_eq w (codes "object") || bytes_eq w (codes "array<text>")

-- a value is of the wrong kind unless a test passes
abbrev pub wrong_unless : Bool → List ℕ → List ConfigError
wrong_unless true path = []
wrong_unless false path = WrongKind path ∷ []

-- whether a text has the form that a rule asks; rules that ask for no text pass none
abbrev pub has_form : Rule → List ℕ → Bool
has_form rules.IndexId text = is_index_id text
has_form rules.FieldName text = is_field_name text
has_form rules.ModeName text = is_mode text
has_form rules.TypeName text = is_field_type text
has_form rules.TokenizerName text = is_tokenizer text
has_form rules.RecordName text = is_record text
has_form rules.FormatName text = is_format text
has_form rules.PolicyName text = is_policy text
has_form rules.AnyText text = true
has_form rules.Truth text = false
has_form rules.AnyTable text = false
has_form (rules.Whole least most) text = false
has_form (rules.Duration least) text = false

-- a text that has to have the form of its rule
abbrev pub text_faults : Rule → List ℕ → Option (List ℕ) → List ConfigError
text_faults rule path None = WrongKind path ∷ []
text_faults rule path (Some text) = wrong_unless (has_form rule text) path

-- a whole number within a range
abbrev pub is_in : ℕ → ℕ → ℤ → Bool
is_in least most (pos n) = nat_le least n && nat_le n most
is_in least most (negsuc n) = false

abbrev pub range_faults : Bool → List ℕ → List ConfigError
range_faults true path = []
range_faults false path = BadNumber path ∷ []

abbrev pub whole_faults : ℕ → ℕ → List ℕ → Option ℤ → List ConfigError
whole_faults least most path None = WrongKind path ∷ []
whole_faults least most path (Some z) = range_faults (is_in least most z) path

-- a duration of at least so many seconds
abbrev pub seconds_faults : ℕ → List ℕ → Option ℕ → List ConfigError
seconds_faults least path None = WrongKind path ∷ []
seconds_faults least path (Some n) = range_faults (nat_le least n && nat_le n max_seconds) path

abbrev pub duration_faults : ℕ → List ℕ → Option (List ℕ) → List ConfigError
duration_faults least path None = WrongKind path ∷ []
duration_faults least path (Some text) = seconds_faults least path (duration_of text)

-- a member of a list: its path has its place
abbrev pub member_path : List ℕ → ℕ → List ℕ
member_path path n = path ++ 46 ∷ decimal n

-- a value that is no list
abbrev pub scalar_faults : Rule → List ℕ → Data → List ConfigError
scalar_faults rules.Truth path d = wrong_unless (is_some (as_bool d)) path
scalar_faults rules.AnyTable path d = wrong_unless (is_some (as_table d)) path
scalar_faults (rules.Whole least most) path d = whole_faults least most path (as_integer d)
scalar_faults (rules.Duration least) path d = duration_faults least path (as_str d)
scalar_faults rules.AnyText path d = text_faults rules.AnyText path (as_str d)
scalar_faults rules.IndexId path d = text_faults rules.IndexId path (as_str d)
scalar_faults rules.FieldName path d = text_faults rules.FieldName path (as_str d)
scalar_faults rules.ModeName path d = text_faults rules.ModeName path (as_str d)
scalar_faults rules.TypeName path d = text_faults rules.TypeName path (as_str d)
scalar_faults rules.TokenizerName path d = text_faults rules.TokenizerName path (as_str d)
scalar_faults rules.RecordName path d = text_faults rules.RecordName path (as_str d)
scalar_faults rules.FormatName path d = text_faults rules.FormatName path (as_str d)
scalar_faults rules.PolicyName path d = text_faults rules.PolicyName path (as_str d)

-- the members of a list from place n on
abbrev pub items_faults : Rule → List ℕ → ℕ → Items → List ConfigError
items_faults rule path n no_items = []
items_faults rule path n (item d ds) = scalar_faults rule (member_path path n) d ++ items_faults rule path (suc n) ds

abbrev pub list_faults : Rule → List ℕ → Option Items → List ConfigError
list_faults rule path None = WrongKind path ∷ []
list_faults rule path (Some items) = items_faults rule path 0 items

-- one value, or a list of such values
abbrev pub value_faults : Bool → Rule → List ℕ → Data → List ConfigError
value_faults true rule path d = list_faults rule path (as_array d)
value_faults false rule path d = scalar_faults rule path d
