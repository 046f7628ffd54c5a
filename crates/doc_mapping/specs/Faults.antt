-- The first thing in a record that doesn't fit the schema, key by key in byte order, an object's keys where it stands.
use Rattle.std.specs.Prelude.{ℕ, ◌==◌, ◌&&◌, ◌||◌, Bool, true, false, List, [], ◌∷◌, ◌++◌, slice_get, Option, Some, None, is_some, unwrap_or, option_and_then, ℤ, if◌then◌else◌}
use Rattle.std.specs.List.{list_any}
use Rattle.serde_json.specs.Data.{Data, null, boolean, number, string, array, object, Items, no_items, item, Members, no_members, member}
use Rattle.serde_json.specs.Find.{as_null, as_bool, as_number, as_str, as_array, as_i64, as_u64}
use Rattle.clock_time.specs.Datetimes.{rfc3339_seconds, unix_seconds}
use Rattle.doc_value.specs.declared.schema.Field.{Field}
use Rattle.doc_value.specs.declared.schema.Kind.{Kind}
use Rattle.doc_value.specs.declared.schema.Kind.TheVariants as kinds
use Rattle.doc_value.specs.declared.schema.Schema.{Schema}
use Rattle.doc_value.specs.Documents.{mapped_fields, but_number, number_of}
use Rattle.dynamic_paths.specs.Leaves.{is_number, is_object}
use Rattle.index_config.specs.declared.config.Mode.{Mode}
use Rattle.index_config.specs.declared.config.Mode.TheVariants.{Strict, Lenient, Dynamic}
use Rattle.index_config.specs.declared.config.Formats.{Formats}
use Rattle.index_config.specs.declared.config.IndexConfig.{IndexConfig}
use Rattle.doc_mapping.specs.declared.reject.Reject.{Reject}
use Rattle.doc_mapping.specs.declared.reject.Reject.TheVariants.{Unmapped, WrongType, BadDate}

-- a refusal unless a test passes
abbrev pub unless : Bool → Reject → Option Reject
unless true refusal = None
unless false refusal = Some refusal

-- the first of two refusals
abbrev pub first_of : Option Reject → Option Reject → Option Reject
first_of None later = later
first_of (Some refusal) later = Some refusal

-- the path of a key in an object with this path; the record itself has the empty path
abbrev pub under : List ℕ → List ℕ → List ℕ
under [] key = key
under (c ∷ cs) key = (c ∷ cs) ++ 46 ∷ key

-- numbers as `serde_json` gives them
abbrev pub i64_of : Data → Option ℤ
i64_of d = option_and_then as_i64 (as_number d)

abbrev pub u64_of : Data → Option ℕ
u64_of d = option_and_then as_u64 (as_number d)

abbrev pub all_texts : Items → Bool
all_texts no_items = true
all_texts (item d ds) = is_some (as_str d) && all_texts ds

abbrev pub texts_only : Option Items → Bool
texts_only None = false
texts_only (Some items) = all_texts items

-- a whole number where a datetime is asked: past i64 it is no date
abbrev pub number_fault : List ℕ → Option ℤ → Option Reject
number_fault path (Some z) = unless (is_some (unix_seconds z)) (BadDate path)
number_fault path None = Some (BadDate path)

-- a text or number where a datetime is asked: of the wrong type where the formats don't take it, a bad date where it doesn't read
abbrev pub date_fault : Formats → List ℕ → Option (List ℕ) → Option ℤ → Option ℕ → Option Reject
date_fault formats path (Some text) signed unsigned =
    if formats.rfc3339 then unless (is_some (rfc3339_seconds text)) (BadDate path) else Some (WrongType path)
date_fault formats path None signed unsigned =
    if formats.unix && (is_some signed || is_some unsigned) then number_fault path signed else Some (WrongType path)

-- what a field of each kind takes, null aside
abbrev pub kind_fault : Kind → Formats → List ℕ → Data → Option Reject
kind_fault kinds.Text formats path d = unless (is_some (as_str d)) (WrongType path)
kind_fault kinds.I64 formats path d = unless (is_some (i64_of d)) (WrongType path)
kind_fault kinds.U64 formats path d = unless (is_some (u64_of d)) (WrongType path)
kind_fault kinds.Bool formats path d = unless (is_some (as_bool d)) (WrongType path)
kind_fault kinds.Datetime formats path d = date_fault formats path (as_str d) (i64_of d) (u64_of d)
kind_fault kinds.TextList formats path d = unless (is_some (as_str d) || texts_only (as_array d)) (WrongType path)

-- a null is an absent value, which fits everywhere
abbrev pub value_fault : Kind → Formats → List ℕ → Data → Option Reject
value_fault kind formats path d = if is_some (as_null d) then None else kind_fault kind formats path d

abbrev pub both_formats : Formats
both_formats = record { rfc3339 = true; unix = true }

-- the spellings that a field takes
abbrev pub formats_at : List Formats → ℕ → Formats
formats_at formats n = unwrap_or (slice_get formats n) both_formats

-- a key that the schema doesn't have is refused in strict mode
abbrev pub unmapped : Mode → List ℕ → Option Reject
unmapped Strict path = Some (Unmapped path)
unmapped Lenient path = None
unmapped Dynamic path = None

-- the mapped field of a number, and the number of the mapped field with a path: the field that holds what is not mapped has neither
abbrev pub mapped_at : Schema → ℕ → Option Field
mapped_at schema n = if is_number schema.dynamic n then None else slice_get schema.fields n

abbrev pub number_of_mapped : Schema → List ℕ → Option ℕ
number_of_mapped schema path = but_number schema.dynamic (number_of schema.fields path)

-- a dot in a key is none between names, so such a key names no field
abbrev pub has_dot : List ℕ → Bool
has_dot key = list_any (λ c. c == 46) key

-- the value of a key that has the path of that field
abbrev pub field_fault : IndexConfig → List ℕ → Data → ℕ → Option Field → Option Reject
field_fault config path d n None = unmapped config.mode path
field_fault config path d n (Some field) = value_fault field.kind (formats_at config.formats n) path d

-- a key by what its path is in the schema: a field, an object, or nothing; `inner` is the first refusal within
abbrev pub path_fault : IndexConfig → List ℕ → Data → Option Reject → Option ℕ → Option Reject
path_fault config path d inner (Some n) = field_fault config path d n (slice_get config.schema.fields n)
path_fault config path d inner None =
    if is_object (mapped_fields config.schema) (path ++ 46 ∷ []) then inner else unmapped config.mode path

abbrev pub key_fault : IndexConfig → List ℕ → List ℕ → Data → Option Reject → Option Reject
key_fault config path key d inner =
    if has_dot key then unmapped config.mode path else path_fault config path d inner (number_of_mapped config.schema path)

-- the first refusal among the keys of an object with this path, and that of a value where an object is asked
abbrev mutual
  pub members_fault : IndexConfig → List ℕ → Members → Option Reject
  members_fault config prefix no_members = None
  members_fault config prefix (member key d more) =
      first_of (key_fault config (under prefix key) key d (inner_fault config (under prefix key) d)) (members_fault config prefix more)

  pub inner_fault : IndexConfig → List ℕ → Data → Option Reject
  inner_fault config path null = None
  inner_fault config path (boolean b) = Some (WrongType path)
  inner_fault config path (number n) = Some (WrongType path)
  inner_fault config path (string s) = Some (WrongType path)
  inner_fault config path (array ds) = Some (WrongType path)
  inner_fault config path (object ms) = members_fault config path ms
