-- The document of a record, or why it has none.
use Rattle.std.specs.Prelude.{ℕ, List, [], length, nat_lt, nat_le, Bool, true, false, Option, Some, None, Result, Ok, Err, if◌then◌else◌}
use Rattle.std.specs.Result.{result_ok}
use Rattle.std.specs.Str.{is_utf8}
use Rattle.serde_json.specs.Data.{Data, Members, depth}
use Rattle.serde_json.specs.Find.{as_object}
use Rattle.serde_json.specs.Read.{read}
use Rattle.doc_value.specs.declared.doc.DocField.{DocField}
use Rattle.doc_value.specs.declared.schema.Schema.{Schema}
use Rattle.dynamic_paths.specs.LeafTexts.{Leaf}
use Rattle.dynamic_paths.specs.Leaves.{leaf_list, max_leaves, counted}
use Rattle.index_config.specs.declared.config.IndexConfig.{IndexConfig}
use Rattle.doc_mapping.specs.declared.reject.Reject.{Reject}
use Rattle.doc_mapping.specs.declared.reject.Reject.TheVariants.{NotJson, NotObject, Unmapped, WrongType, BadDate, MissingTimestamp, TooLong, TooDeep, TooManyLeaves, Memory}
use Rattle.doc_mapping.specs.Faults.{members_fault}
use Rattle.doc_mapping.specs.Documents.{doc_of, has_number}

abbrev pub max_record : ℕ
max_record = 1048576

abbrev pub max_levels : ℕ
max_levels = 32

-- a refusal for want of memory, which says nothing of the record
abbrev pub IsMemory : Reject → Type 0
IsMemory (Memory e) = Unit {0}
IsMemory NotJson = ⊥
IsMemory NotObject = ⊥
IsMemory (Unmapped path) = ⊥
IsMemory (WrongType path) = ⊥
IsMemory (BadDate path) = ⊥
IsMemory MissingTimestamp = ⊥
IsMemory (TooLong size) = ⊥
IsMemory TooDeep = ⊥
IsMemory (TooManyLeaves count) = ⊥

abbrev pub lacks_timestamp : Option ℕ → List DocField → Bool
lacks_timestamp None doc = false
lacks_timestamp (Some n) doc = if has_number doc n then false else true

abbrev pub timed_answer : Option ℕ → List DocField → Result (List DocField) Reject
timed_answer timestamp doc = if lacks_timestamp timestamp doc then Err MissingTimestamp else Ok doc

-- too many leaves, where the schema has a field for them; also those are counted whose text is not kept
abbrev pub leaf_fault_by : Option ℕ → List Leaf → Option Reject
leaf_fault_by None leaves = None
leaf_fault_by (Some n) leaves = if nat_lt max_leaves (length leaves) then Some (TooManyLeaves (counted leaves)) else None

abbrev pub leaf_fault : Schema → Data → Option Reject
leaf_fault schema d = leaf_fault_by schema.dynamic (leaf_list schema d)

abbrev pub counted_answer : IndexConfig → Data → Option Reject → Result (List DocField) Reject
counted_answer config d (Some refusal) = Err refusal
counted_answer config d None = timed_answer config.timestamp_field (doc_of config.schema d)

abbrev pub fitting_answer : IndexConfig → Data → Option Reject → Result (List DocField) Reject
fitting_answer config d (Some refusal) = Err refusal
fitting_answer config d None = counted_answer config d (leaf_fault config.schema d)

abbrev pub object_answer : IndexConfig → Data → Option Members → Result (List DocField) Reject
object_answer config d None = Err NotObject
object_answer config d (Some members) =
    if nat_le (depth d) max_levels then fitting_answer config d (members_fault config [] members) else Err TooDeep

abbrev pub read_answer : IndexConfig → Option Data → Result (List DocField) Reject
read_answer config None = Err NotJson
read_answer config (Some d) = object_answer config d (as_object d)

-- the JSON value of bytes
abbrev pub value_of : List ℕ → Option Data
value_of bytes = if is_utf8 bytes then read bytes else None

-- the document of a record with these bytes, or the first refusal
abbrev pub answer : IndexConfig → List ℕ → Result (List DocField) Reject
answer config bytes =
    if nat_lt max_record (length bytes) then Err (TooLong (length bytes)) else read_answer config (value_of bytes)

-- the document of a record with these bytes, or none
abbrev pub accepted : IndexConfig → List ℕ → Option (List DocField)
accepted config bytes = result_ok (answer config bytes)
