-- The compact JSON of a document: its values at their paths, as nested objects with their keys in byte order.
use Rattle.std.specs.Prelude.{ℕ, ◌+◌, ◌/◌, ◌%◌, ◌==◌, nat_lt, Bool, true, false, List, [], ◌∷◌, ◌++◌, flat_map, slice_get, Option, Some, None, codes, if◌then◌else◌}
use Rattle.std.specs.Fmt.{decimal, signed_decimal}
use Rattle.std.specs.Ordering.{nat_cmp}
use Rattle.std.specs.Str.{bytes_eq}
use Rattle.std.specs.Cmp.Lexicographic.{slice_cmp}
use Rattle.std.specs.declared.cmp.Ordering.{Ordering}
use Rattle.std.specs.declared.cmp.Ordering.TheVariants.{Less, Equal, Greater}
use Rattle.doc_value.specs.declared.schema.Field.{Field}
use Rattle.doc_value.specs.declared.schema.Kind.{Kind}
use Rattle.doc_value.specs.declared.schema.Kind.TheVariants as kinds
use Rattle.doc_value.specs.declared.schema.Schema.{Schema}
use Rattle.doc_value.specs.declared.doc.Value.{Value}
use Rattle.doc_value.specs.declared.doc.Value.TheVariants as values
use Rattle.doc_value.specs.declared.doc.DocField.{DocField}
use Rattle.doc_value.specs.declared.rows.Row.{Row}

-- a hexadecimal digit in lower case
abbrev pub hex_digit : ℕ → ℕ
hex_digit d = if nat_lt d 10 then 48 + d else 87 + d

-- a byte of a string: quotes, backslashes and characters below 32 are escaped
abbrev pub escaped : ℕ → List ℕ
escaped c =
    if c == 34 then codes "\\\""
    else (if c == 92 then codes "\\\\"
    else (if c == 8 then codes "\\b"
    else (if c == 9 then codes "\\t"
    else (if c == 10 then codes "\\n"
    else (if c == 12 then codes "\\f"
    else (if c == 13 then codes "\\r"
    else (if nat_lt c 32 then codes "\\u00" ++ hex_digit (c / 16) ∷ hex_digit (c % 16) ∷ []
    else c ∷ [])))))))

-- a string between its quotes
abbrev pub quoted : List ℕ → List ℕ
quoted text = 34 ∷ flat_map escaped text ++ 34 ∷ []

abbrev pub truth_text : Bool → List ℕ
truth_text true = codes "true"
truth_text false = codes "false"

-- a value; a datetime is its whole seconds
abbrev pub value_text : Value → List ℕ
value_text (values.Text t) = quoted t
value_text (values.I64 n) = signed_decimal n
value_text (values.U64 n) = decimal n
value_text (values.Bool b) = truth_text b
value_text (values.Datetime s) = signed_decimal s

-- a comma before all but the first
abbrev pub comma : Bool → List ℕ
comma true = []
comma false = 44 ∷ []

-- values with commas between
abbrev pub items_text : Bool → List Value → List ℕ
items_text first [] = []
items_text first (v ∷ vs) = comma first ++ (value_text v ++ items_text false vs)

-- a field's values: a list of texts as an array, else the value
abbrev pub field_text : Kind → List Value → List ℕ
field_text kinds.TextList vs = 91 ∷ items_text true vs ++ 93 ∷ []
field_text kinds.Text vs = items_text true vs
field_text kinds.I64 vs = items_text true vs
field_text kinds.U64 vs = items_text true vs
field_text kinds.Bool vs = items_text true vs
field_text kinds.Datetime vs = items_text true vs

-- a byte before the first name
abbrev pub onto_first : ℕ → List (List ℕ) → List (List ℕ)
onto_first c [] = (c ∷ []) ∷ []
onto_first c (name ∷ names) = (c ∷ name) ∷ names

-- the names of a path, which has dots between them
abbrev pub names_of : List ℕ → List (List ℕ)
names_of [] = [] ∷ []
names_of (c ∷ cs) = if c == 46 then [] ∷ names_of cs else onto_first c (names_of cs)

-- what a document has of a field: the names on the way to it, and the text of its values
abbrev pub row_of : Option Field → DocField → List Row
row_of None part = []
row_of (Some field) part = record { names = names_of field.path; text = field_text field.kind part.values } ∷ []

abbrev pub rows_of : List Field → List DocField → List Row
rows_of fields [] = []
rows_of fields (part ∷ parts) = row_of (slice_get fields part.number) part ++ rows_of fields parts

-- what the order of two names says of the names behind them
abbrev pub before_by : Ordering → Bool → Bool
before_by Less rest = true
before_by Equal rest = rest
before_by Greater rest = false

-- by the first names that differ, in byte order; an object's own name comes before what lies in it
abbrev pub names_before : List (List ℕ) → List (List ℕ) → Bool
names_before names [] = false
names_before [] (m ∷ ms) = true
names_before (n ∷ ns) (m ∷ ms) = before_by (slice_cmp nat_cmp n m) (names_before ns ms)

-- a row at its place among rows in order
abbrev pub placed : Row → List Row → List Row
placed row [] = row ∷ []
placed row (r ∷ rows) = if names_before r.names row.names then r ∷ placed row rows else row ∷ r ∷ rows

abbrev pub in_order : List Row → List Row
in_order [] = []
in_order (row ∷ rows) = placed row (in_order rows)

-- an object's members: values and objects with their names
pub data Members : Type 0 where
  none : Members
  value : List ℕ → List ℕ → Members → Members
  object : List ℕ → Members → Members → Members

-- the members of the first object, if it has that name
abbrev pub inside : List ℕ → Members → Members
inside n none = none
inside n (value k t more) = none
inside n (object k inner more) = if bytes_eq n k then inner else none

-- and what comes behind it
abbrev pub behind : List ℕ → Members → Members
behind n none = none
behind n (value k t more) = value k t more
behind n (object k inner more) = if bytes_eq n k then more else object k inner more

-- the members with a text at a path before all others
abbrev pub with_path : List (List ℕ) → List ℕ → Members → Members
with_path [] t ms = ms
with_path (n ∷ []) t ms = value n t ms
with_path (n ∷ m ∷ ns) t ms = object n (with_path (m ∷ ns) t (inside n ms)) (behind n ms)

-- the members that rows in order make: rows whose names begin alike lie in one object
abbrev pub members_of : List Row → Members
members_of [] = none
members_of (row ∷ rows) = with_path row.names row.text (members_of rows)

abbrev pub members_text : Bool → Members → List ℕ
members_text first none = []
members_text first (value n t more) = comma first ++ (quoted n ++ 58 ∷ (t ++ members_text false more))
members_text first (object n inner more) =
    comma first ++ (quoted n ++ 58 ∷ 123 ∷ (members_text true inner ++ 125 ∷ members_text false more))

-- the compact JSON of a document
abbrev pub printed_doc : Schema → List DocField → List ℕ
printed_doc schema doc = 123 ∷ members_text true (members_of (in_order (rows_of schema.fields doc))) ++ 125 ∷ []
