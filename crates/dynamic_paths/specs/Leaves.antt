-- The leaves of a record: the texts, truth values and whole numbers in it that no field takes, with their paths.
use Rattle.std.specs.Prelude.{ℕ, ◌-◌, ◌^◌, ◌||◌, nat_eq, nat_lt, min, Bool, false, List, [], ◌∷◌, ◌++◌, length, Option, Some, None, ℤ, decimal, Result, Ok, Err, if◌then◌else◌}
use Rattle.std.specs.Fmt.{signed_decimal}
use Rattle.std.specs.List.{starts_with}
use Rattle.std.specs.Str.{bytes_eq}
use Rattle.serde_json.specs.Data.{Num, Data, null, boolean, number, string, array, object, Items, no_items, item, Members, no_members, member}
use Rattle.serde_json.specs.Find.{as_i64, as_u64, as_object}
use Rattle.doc_value.specs.declared.schema.Field.{Field}
use Rattle.doc_value.specs.declared.schema.Schema.{Schema}
use Rattle.doc_value.specs.Documents.{mapped_fields}
use Rattle.doc_value.specs.Printed as printed
use Rattle.dynamic_paths.specs.LeafTexts.{Leaf, fitting_texts}
use Rattle.dynamic_paths.specs.declared.fault.LeafFault.{LeafFault}
use Rattle.dynamic_paths.specs.declared.fault.LeafFault.TheVariants.{TooManyLeaves, Memory}

-- a number is this one, if there is one
abbrev pub is_number : Option ℕ → ℕ → Bool
is_number None n = false
is_number (Some m) n = nat_eq m n

-- some field has this path
abbrev pub is_field : List Field → List ℕ → Bool
is_field [] path = false
is_field (field ∷ fields) path = bytes_eq field.path path || is_field fields path

-- some field lies in the object whose path and dot these bytes are
abbrev pub is_object : List Field → List ℕ → Bool
is_object [] start = false
is_object (field ∷ fields) start = starts_with nat_eq field.path start || is_object fields start

abbrev pub truth_text : Bool → List ℕ
truth_text = printed.truth_text

-- a whole number in 64 bits, with a sign or without
abbrev pub digits_of : Option ℤ → Option ℕ → Option (List ℕ)
digits_of (Some z) unsigned = Some (signed_decimal z)
digits_of None (Some n) = Some (decimal n)
digits_of None None = None

abbrev pub number_text : Num → Option (List ℕ)
number_text n = digits_of (as_i64 n) (as_u64 n)

-- a value with this text at a path is a leaf, unless fields lie in an object there
abbrev pub leaf_at : List Field → List ℕ → Option (List ℕ) → List Leaf
leaf_at fields path None = []
leaf_at fields path (Some text) = if is_object fields (path ++ 46 ∷ []) then [] else (path, text) ∷ []

-- the leaves of a value at a path, of an array's values, and of an object's, whose keys stand behind `start`
abbrev mutual
  pub value_leaves : List Field → List ℕ → Data → List Leaf
  value_leaves fields path null = []
  value_leaves fields path (boolean b) = leaf_at fields path (Some (truth_text b))
  value_leaves fields path (number n) = leaf_at fields path (number_text n)
  value_leaves fields path (string s) = leaf_at fields path (Some s)
  value_leaves fields path (array ds) = items_leaves fields path ds
  value_leaves fields path (object ms) = members_leaves fields (path ++ 46 ∷ []) ms

  pub items_leaves : List Field → List ℕ → Items → List Leaf
  items_leaves fields path no_items = []
  items_leaves fields path (item d ds) = value_leaves fields path d ++ items_leaves fields path ds

  pub members_leaves : List Field → List ℕ → Members → List Leaf
  members_leaves fields start no_members = []
  members_leaves fields start (member key d more) =
      (if is_field fields (start ++ key) then [] else value_leaves fields (start ++ key) d) ++ members_leaves fields start more

abbrev pub object_leaves : List Field → Option Members → List Leaf
object_leaves fields None = []
object_leaves fields (Some members) = members_leaves fields [] members

-- the leaves of a record, in byte order of the keys at each object
abbrev pub leaf_list : Schema → Data → List Leaf
leaf_list schema d = object_leaves (mapped_fields schema) (as_object d)

-- a record has at most so many leaves
abbrev pub max_leaves : ℕ
max_leaves = 65536

-- how many leaves there are, as 64 bits hold it
abbrev pub counted : List Leaf → ℕ
counted leaves = min (length leaves) (2 ^ 64 - 1)

-- the leaf texts that are kept, or that there are too many leaves
abbrev pub answer_of : List Leaf → Result (List (List ℕ)) LeafFault
answer_of leaves = if nat_lt max_leaves (length leaves) then Err (TooManyLeaves (counted leaves)) else Ok (fitting_texts leaves)

abbrev pub answer : Schema → Data → Result (List (List ℕ)) LeafFault
answer schema d = answer_of (leaf_list schema d)

-- a refusal for want of memory, which says nothing of the record
abbrev pub IsMemory : LeafFault → Type 0
IsMemory (Memory e) = Unit {0}
IsMemory (TooManyLeaves count) = ⊥
