-- Ranges by the column of a field: where a range is asked of the column, and which documents the column gives.
use Rattle.std.specs.Prelude.{ℕ, zero, suc, ◌+◌, ◌*◌, Bool, false, ◌&&◌, ◌||◌, List, [], ◌∷◌, ◌++◌, nat_eq, nat_le, nat_lt, if◌then◌else◌}
use Rattle.std.specs.List.{starts_with}
use Rattle.doc_value.specs.declared.schema.Field.{Field}
use Rattle.query_ast.specs.declared.query.Edge.{Edge}
use Rattle.query_ast.specs.Queries.{has_order}
use Rattle.term_dict.specs.declared.index.BlockStart.{BlockStart}
use Rattle.fast_fields.specs.Lookups.{document_of, value_of}
use Rattle.fast_fields.specs.declared.column.Column.{Column}
use Rattle.fast_fields.specs.declared.entries.Entry.{Entry}
use Rattle.split_bundle.specs.Keys.{field_key}
use Rattle.split_bundle.specs.declared.footer.Footer.{Footer}
use Rattle.doc_sets.specs.Walks.{range_of}
use Rattle.doc_sets.specs.declared.dictionary_lookup.Lookup.{Lookup}
use Rattle.doc_sets.specs.declared.dictionary_lookup.Lookup.TheVariants.{Values, Walk}
use Rattle.doc_sets.specs.declared.wanted.NumberRange.{NumberRange}
use Rattle.doc_sets.specs.declared.wanted.Wanted.TheVariants.{Within}

-- how many blocks of the dictionary begin with a key that begins so
abbrev pub begun_blocks : List ℕ → List BlockStart → ℕ
begun_blocks prefix [] = 0
begun_blocks prefix (b ∷ bs) = (if starts_with nat_eq b.first prefix then 1 else 0) + begun_blocks prefix bs

-- A range is asked of the column where the field is a fast one of an ordered kind and has many keys: for each 4,096 documents one
-- block of the dictionary begins with a key of the field. A block has 64 keys.
abbrev pub by_column : Footer → ℕ → Field → Bool
by_column footer n f = f.fast && (has_order f.kind && nat_le footer.layout.docs (4096 * begun_blocks (field_key n []) footer.index))

-- what is looked up for a range: the column's values, or the keys of the field
abbrev pub range_lookup : Footer → ℕ → Field → Edge → Edge → Lookup
range_lookup footer n f low high =
    if by_column footer n f then Values n (range_of f.kind low high) else Walk (field_key n []) (Within (range_of f.kind low high))

-- whether a number is in a range
abbrev pub lies_in : NumberRange → ℕ → Bool
lies_in r n = nat_le r.from n && nat_lt n r.until

-- an entry of a column is this document's and has a number in a range
abbrev pub is_of : NumberRange → ℕ → Entry → Bool
is_of r k e = lies_in r e.number && nat_eq k e.document

-- some entry is
abbrev pub some_is_of : NumberRange → ℕ → List Entry → Bool
some_is_of r k [] = false
some_is_of r k (e ∷ es) = is_of r k e || some_is_of r k es

-- the document of the value at a place of a column, if that value is in a range
abbrev pub document_if : NumberRange → Column → ℕ → List ℕ
document_if r c place = if lies_in r (value_of c place) then document_of c place ∷ [] else []

-- the documents of so many values from a place on that are in a range
abbrev pub documents_from : NumberRange → Column → ℕ → ℕ → List ℕ
documents_from r c zero place = []
documents_from r c (suc left) place = document_if r c place ++ documents_from r c left (place + 1)
