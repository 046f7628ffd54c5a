-- The document of a record: for each path of the schema the values that stand there, and the leaves that no path is of.
use Rattle.std.specs.Prelude.{ℕ, suc, ◌==◌, ◌||◌, Bool, false, List, [], ◌∷◌, ◌++◌, Option, Some, None, map, option_and_then, ℤ, if◌then◌else◌}
use Rattle.serde_json.specs.Data.{Data, Items, no_items, item}
use Rattle.serde_json.specs.Find.{get, as_bool, as_str, as_array}
use Rattle.clock_time.specs.Datetimes.{rfc3339_seconds, unix_seconds}
use Rattle.doc_value.specs.declared.schema.Field.{Field}
use Rattle.doc_value.specs.declared.schema.Schema.{Schema}
use Rattle.doc_value.specs.declared.schema.Kind.{Kind}
use Rattle.doc_value.specs.declared.schema.Kind.TheVariants as kinds
use Rattle.doc_value.specs.declared.doc.Value.{Value}
use Rattle.doc_value.specs.declared.doc.Value.TheVariants as values
use Rattle.doc_value.specs.declared.doc.DocField.{DocField}
use Rattle.doc_value.specs.Printed.{names_of}
use Rattle.dynamic_paths.specs.LeafTexts.{fitting_texts}
use Rattle.dynamic_paths.specs.Leaves.{is_number, leaf_list}
use Rattle.doc_mapping.specs.Faults.{i64_of, u64_of}

-- what stands in a value behind these names
abbrev pub value_at : List (List ℕ) → Data → Option Data
value_at [] d = Some d
value_at (name ∷ names) d = option_and_then (value_at names) (get name d)

abbrev pub text_values : Option (List ℕ) → List Value
text_values None = []
text_values (Some text) = values.Text text ∷ []

abbrev pub i64_values : Option ℤ → List Value
i64_values None = []
i64_values (Some n) = values.I64 n ∷ []

abbrev pub u64_values : Option ℕ → List Value
u64_values None = []
u64_values (Some n) = values.U64 n ∷ []

abbrev pub truth_values : Option Bool → List Value
truth_values None = []
truth_values (Some b) = values.Bool b ∷ []

-- the second of a text or of a whole number
abbrev pub second_of : Option (List ℕ) → Option ℤ → Option ℤ
second_of (Some text) number = rfc3339_seconds text
second_of None number = option_and_then unix_seconds number

abbrev pub date_values : Option ℤ → List Value
date_values None = []
date_values (Some second) = values.Datetime second ∷ []

abbrev pub texts_in : Items → List Value
texts_in no_items = []
texts_in (item d ds) = text_values (as_str d) ++ texts_in ds

-- one text is a list of one
abbrev pub list_values : Option (List ℕ) → Option Items → List Value
list_values (Some text) items = text_values (Some text)
list_values None None = []
list_values None (Some items) = texts_in items

-- the values of a field of each kind
abbrev pub values_of : Kind → Data → List Value
values_of kinds.Text d = text_values (as_str d)
values_of kinds.I64 d = i64_values (i64_of d)
values_of kinds.U64 d = u64_values (u64_of d)
values_of kinds.Bool d = truth_values (as_bool d)
values_of kinds.Datetime d = date_values (second_of (as_str d) (i64_of d))
values_of kinds.TextList d = list_values (as_str d) (as_array d)

abbrev pub found_values : Kind → Option Data → List Value
found_values kind None = []
found_values kind (Some d) = values_of kind d

-- a field without values is absent
abbrev pub part_of : ℕ → List Value → List DocField
part_of n [] = []
part_of n (v ∷ vs) = record { number = n; values = v ∷ vs } ∷ []

-- the texts of a record's leaves, of those that are kept
abbrev pub leaf_values : Schema → Data → List Value
leaf_values schema d = map values.Text (fitting_texts (leaf_list schema d))

-- a list of texts takes them, and no other field does
abbrev pub leaves_for : Kind → List Value → List Value
leaves_for kinds.TextList leaves = leaves
leaves_for _ leaves = []

-- the values of the field of a number: those that stand at its path, or these leaves where it holds what is not mapped
abbrev pub values_from : Option ℕ → List Value → ℕ → Field → Data → List Value
values_from dynamic leaves n field d =
    if is_number dynamic n then leaves_for field.kind leaves else found_values field.kind (value_at (names_of field.path) d)

-- the fields from number n on, each with its values
abbrev pub doc_from : Option ℕ → List Value → ℕ → List Field → Data → List DocField
doc_from dynamic leaves n [] d = []
doc_from dynamic leaves n (field ∷ fields) d =
    part_of n (values_from dynamic leaves n field d) ++ doc_from dynamic leaves (suc n) fields d

-- the document of a record
abbrev pub doc_of : Schema → Data → List DocField
doc_of schema d = doc_from schema.dynamic (leaf_values schema d) 0 schema.fields d

-- the document has values of a field
abbrev pub has_number : List DocField → ℕ → Bool
has_number [] n = false
has_number (part ∷ parts) n = (part.number == n) || has_number parts n
