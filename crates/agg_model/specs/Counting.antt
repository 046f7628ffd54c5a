-- Which documents count for a value or for a step of a histogram.
use Rattle.std.specs.Prelude.{ℕ, ◌==◌, Bool, true, false, List, [], ◌∷◌, Option, Some, None, slice_get, if◌then◌else◌, ℤ, pos, ◌-ℤ◌, count_by}
use Rattle.std.specs.Int.{int_div_euclid}
use Rattle.std.specs.List.{list_any}
use Rattle.std.specs.Option.{option_map_or, option_and_then}
use Rattle.std.specs.Ordering.{int_eq}
use Rattle.std.specs.Str.{bytes_eq}
use Rattle.doc_value.specs.Documents.{values_in}
use Rattle.doc_value.specs.declared.doc.Value.{Value}
use Rattle.doc_value.specs.declared.doc.Value.TheVariants as values
use Rattle.doc_value.specs.declared.doc.DocField.{DocField}

-- 0 is false and 1 is true
abbrev pub truth_number : Bool → ℤ
truth_number false = pos 0
truth_number true = pos 1

-- where a value is counted: its kind, and its text or whole number
pub data Slot : Type 0 where
  text : List ℕ → Slot
  signed : ℤ → Slot
  unsigned : ℤ → Slot
  truth : ℤ → Slot
  datetime : ℤ → Slot

abbrev pub slot_of : Value → Slot
slot_of (values.Text t) = text t
slot_of (values.I64 z) = signed z
slot_of (values.U64 n) = unsigned (pos n)
slot_of (values.Bool b) = truth (truth_number b)
slot_of (values.Datetime s) = datetime s

abbrev pub same_slot : Slot → Slot → Bool
same_slot (text a) (text b) = bytes_eq a b
same_slot (signed a) (signed b) = int_eq a b
same_slot (unsigned a) (unsigned b) = int_eq a b
same_slot (truth a) (truth b) = int_eq a b
same_slot (datetime a) (datetime b) = int_eq a b
same_slot _ _ = false

-- two values are of one kind and the same
abbrev pub is_same : Value → Value → Bool
is_same a b = same_slot (slot_of a) (slot_of b)

-- the document has the value among those of the field
abbrev pub has_value : ℕ → Value → List DocField → Bool
has_value field value doc = list_any (λ v. is_same v value) (values_in doc field)

-- a number, or a datetime's whole seconds
abbrev pub whole : Value → Option ℤ
whole (values.I64 z) = Some z
whole (values.U64 n) = Some (pos n)
whole (values.Datetime s) = Some s
whole _ = None

-- floor((z - offset) / interval), the number of the step in which z lies; step s begins at s * interval + offset
abbrev pub step_of : ℤ → ℤ → ℤ → ℤ
step_of interval offset z = int_div_euclid (z -ℤ offset) interval

-- the whole number of the first value of the field
abbrev pub first_whole : ℕ → List DocField → Option ℤ
first_whole field doc = option_and_then whole (slice_get (values_in doc field) 0)

-- the document's first value lies in the step
abbrev pub lies_in : ℕ → ℤ → ℤ → ℤ → List DocField → Bool
lies_in field interval offset step doc =
    option_map_or (λ z. int_eq (step_of interval offset z) step) (first_whole field doc) false

-- how many documents have the value
abbrev pub value_count : ℕ → List (List DocField) → Value → ℕ
value_count field documents value = count_by (has_value field value) documents

-- how many documents lie in the step
abbrev pub step_count : ℕ → ℤ → ℤ → List (List DocField) → ℤ → ℕ
step_count field interval offset documents step = count_by (lies_in field interval offset step) documents
