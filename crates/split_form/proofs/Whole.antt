-- A split of documents is the file of these documents.
use Rattle.std.proofs.Common.{◌≡◌, ℕ, ◌+◌, ◌<◌, List, [], ◌∷◌, ◌++◌, length, refl, ◌∙◌, ap, ap₂, subst}
use Rattle.std.specs.List.{AllByRecursion, flat_map}
use Rattle.doc_value.specs.declared.schema.Schema.{Schema}
use Rattle.term_dict.specs.Terms.{area}
use Rattle.split_bundle.specs.declared.placed.Placed.{Placed}
use Rattle.split_bundle.specs.declared.layout.ColumnStart.{ColumnStart}
use Rattle.split_bundle.specs.Columns.{AreColumns, FastField, column_rows, fast_fields}
use Rattle.split_bundle.specs.Documents.{documents_section}
use Rattle.split_bundle.specs.Files.{Parts, file_bytes, footer_bytes, head, sections_bytes, ending}
use Rattle.split_bundle.specs.Lists.{list_of, places_in, terms_of}
use Rattle.split_bundle.specs.Splits.{IsSplit, IsSplitOf}
use Rattle.split_form.specs.Blocks.{index_of}
use Rattle.split_form.specs.Form.{column_of, columns_of, starts_of, parts_of, file_of}
use Rattle.split_form.proofs.Blocks.{index_one}
use Rattle.split_form.proofs.Keys.{keys_one, partitions_one}
use Rattle.split_form.proofs.Spelled.{all_front, all_back, column_one}

abbrev AreBytes : List ℕ → Type 0
AreBytes bytes = AllByRecursion (λ b. b < 256) bytes

-- ---- the columns

abbrev start_at : ℕ → ℕ → ColumnStart
start_at number start = record { number = number; start = start }

columns_one : (ds : List Placed) (fs : List FastField) (start : ℕ) (cs : List ColumnStart) (bytes : List ℕ) → AreColumns ds start fs cs bytes → AreBytes bytes → (cs ≡ starts_of ds start fs) × (bytes ≡ columns_of ds fs)
columns_one ds [] start [] bytes h small = (refl, h)
columns_one ds [] start (c ∷ cs) bytes h small = absurd h
columns_one ds (f ∷ fs) start [] bytes h small = absurd h
columns_one ds (f ∷ fs) start (c ∷ cs) bytes h small =
    let has = h.0 in
    let all : AreBytes (has.column ++ has.behind) = subst AreBytes has.parts small in
    let this : has.column ≡ column_of ds f = column_one f.field.kind has.column (column_rows f.number ds) has.is_column (all_front (λ b. b < 256) has.column has.behind all) in
    let rest = columns_one ds fs (start + length has.column) cs has.behind h.2 (all_back (λ b. b < 256) has.column has.behind all) in (
      ap₂ (λ (x : ColumnStart) (xs : List ColumnStart). x ∷ xs) h.1 rest.0 ∙ ap (λ (l : List ℕ). start_at f.number start ∷ starts_of ds (start + length l) fs) this,
      has.parts ∙ ap₂ (λ (l m : List ℕ). l ++ m) this rest.1,
    )

-- ---- the parts

small_columns : (p : Parts) → AreBytes (file_bytes p) → AreBytes p.columns
unfolding file_bytes
small_columns p h =
    let behind = all_front (λ b. b < 256) (sections_bytes p) (ending (footer_bytes p)) (all_back (λ b. b < 256) head (sections_bytes p ++ ending (footer_bytes p)) h) in
    all_back (λ b. b < 256) p.positions p.columns
    (all_back (λ b. b < 256) p.postings (p.positions ++ p.columns)
    (all_back (λ b. b < 256) p.dictionary (p.postings ++ (p.positions ++ p.columns))
    (all_back (λ b. b < 256) p.documents (p.dictionary ++ (p.postings ++ (p.positions ++ p.columns))) behind)))

-- two splits' parts, one by one
record AreSame (p q : Parts) : Type 0 where
  docs : p.docs ≡ q.docs
  documents : p.documents ≡ q.documents
  dictionary : p.dictionary ≡ q.dictionary
  postings : p.postings ≡ q.postings
  positions : p.positions ≡ q.positions
  columns : p.columns ≡ q.columns
  partitions : p.partitions ≡ q.partitions
  keys : p.keys ≡ q.keys
  index : p.index ≡ q.index
  column_starts : p.column_starts ≡ q.column_starts

same_parts : (p q : Parts) → AreSame p q → p ≡ q
same_parts p q e = λ i. record {
  docs = e.docs i;
  documents = e.documents i;
  dictionary = e.dictionary i;
  postings = e.postings i;
  positions = e.positions i;
  columns = e.columns i;
  partitions = e.partitions i;
  keys = e.keys i;
  index = e.index i;
  column_starts = e.column_starts i;
}

parts_one : (s : Schema) (ds : List Placed) (p : Parts) → IsSplitOf s ds p → AreBytes p.columns → p ≡ parts_of s ds
unfolding parts_of
parts_one s ds p h small =
    let partitions = partitions_one ds p.partitions h.partitions in
    let keys = keys_one s ds p.keys h.keys in
    let columns = columns_one ds (fast_fields s) 0 p.column_starts p.columns h.columns small in
    same_parts p (parts_of s ds) (record {
      docs = h.docs;
      documents = h.documents_are ∙ ap (λ (l : List (List ℕ)). documents_section l ds) partitions;
      dictionary = h.dictionary.area_is ∙ ap (λ (l : List (List ℕ)). area (terms_of s ds l)) keys;
      postings = h.postings ∙ ap (λ (l : List (List ℕ)). flat_map (list_of s ds) l) keys;
      positions = h.positions ∙ ap (λ (l : List (List ℕ)). flat_map (places_in s ds) l) keys;
      columns = columns.1;
      partitions = partitions;
      keys = keys;
      index = index_one p.index (terms_of s ds p.keys) h.dictionary.index_is ∙ ap (λ (l : List (List ℕ)). index_of (terms_of s ds l)) keys;
      column_starts = columns.0;
    })

pub file_one : (s : Schema) (bytes : List ℕ) (ds : List Placed) → IsSplit s bytes ds → AreBytes bytes → bytes ≡ file_of s ds
unfolding file_of
file_one s bytes ds h small =
    h.bytes_are ∙ ap (λ (p : Parts). file_bytes p) (parts_one s ds h.parts h.is_split (small_columns h.parts (subst AreBytes h.bytes_are small)))
