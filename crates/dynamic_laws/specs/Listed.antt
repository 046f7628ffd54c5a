-- What a document lists of the leaves of a record, and what a clause means over it.
use Rattle.std.specs.Prelude.{◌≡◌, ◌<◌, ◌^◌, ◌&&◌, ℕ, nat_eq, Bool, List, length, map, Some, None, Ok}
use Rattle.std.specs.List.{AllByRecursion, list_any, starts_with}
use Rattle.std.specs.Str.{bytes_eq}
use Rattle.doc_value.specs.Documents.{IsDynamic, values_in}
use Rattle.doc_value.specs.declared.doc.DocField.{DocField}
use Rattle.doc_value.specs.declared.doc.Value.TheVariants as values
use Rattle.doc_value.specs.declared.schema.Schema.{Schema}
use Rattle.dynamic_paths.specs.LeafTexts.{Leaf, leaf_text, fits, fitting_texts}
use Rattle.query_ast.specs.Meaning.{meaning}
use Rattle.query_ast.specs.Sought.{Sought}
use Rattle.query_reader.specs.Asking.{Asking}
use Rattle.query_reader.specs.Resolve.{number_of, resolve_clause}
use Rattle.query_reader.specs.declared.tree.Span.{Span}

-- the leaf of this path and text is among them, and its leaf text is kept
abbrev pub has_kept : List Leaf → List ℕ → List ℕ → Bool
has_kept leaves path text = fits (leaf_text path text) && list_any (λ (leaf : Leaf). bytes_eq path leaf.0 && bytes_eq text leaf.1) leaves

-- some leaf of this path is kept whose text begins so
abbrev pub has_front : List Leaf → List ℕ → List ℕ → Bool
has_front leaves path front =
    list_any (λ (leaf : Leaf). fits (leaf_text leaf.0 leaf.1) && (bytes_eq path leaf.0 && starts_with nat_eq leaf.1 front)) leaves

-- some leaf of this path is kept
abbrev pub has_path : List Leaf → List ℕ → Bool
has_path leaves path = list_any (λ (leaf : Leaf). fits (leaf_text leaf.0 leaf.1) && bytes_eq path leaf.0) leaves

-- a path is shorter than 2^64 bytes, as each in memory is
abbrev pub IsShort : List ℕ → Type 0
IsShort path = length path < 2 ^ 64

-- the document's values of the schema's field for what is not mapped are the leaf texts of these leaves that are kept
pub record Lists (schema : Schema) (doc : List DocField) (leaves : List Leaf) : Type 0 where
  pub number : ℕ
  pub dynamic : schema.dynamic ≡ Some number
  pub field : IsDynamic schema.fields number
  pub listed : values_in doc number ≡ map values.Text (fitting_texts leaves)
  pub short : AllByRecursion (λ (leaf : Leaf). IsShort leaf.0) leaves

-- no field has this path
abbrev pub IsUnmapped : Schema → List ℕ → Type 0
IsUnmapped schema path = (number_of schema.fields path 0 ≡ None) × IsShort path

-- a clause on a path is a query that means this over the document
pub record Means (schema : Schema) (doc : List DocField) (defaults text : List ℕ) (path : Span) (ask : Asking) (holds : Bool) : Type 0 where
  pub query : Sought
  pub read : resolve_clause schema defaults text (Some path) ask ≡ Ok query
  pub means : meaning schema doc query ≡ holds
