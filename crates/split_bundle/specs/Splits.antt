-- The bytes are a split of these documents.
use Rattle.std.specs.Prelude.{◌≡◌, ℕ, ◌^◌, ◌<◌, ◌≤◌, ◌↔◌, IsTrue, true, List, [], ◌∷◌, length, map, Contains, ⊤}
use Rattle.std.specs.List.{flat_map, AllByRecursion}
use Rattle.doc_value.specs.declared.schema.Schema.{Schema}
use Rattle.doc_value.specs.Documents.{IsSchema, IsOfSchema}
use Rattle.source_checkpoint.specs.Names.{IsPartition}
use Rattle.term_dict.specs.Keys.{is_below}
use Rattle.term_dict.specs.Terms.{IsDict}
use Rattle.term_postings.specs.Postings.{AreDocuments}
use Rattle.split_bundle.specs.declared.placed.Placed.{Placed}
use Rattle.split_bundle.specs.Documents.{documents_section, total_weight}
use Rattle.split_bundle.specs.Held.{IsHeld}
use Rattle.split_bundle.specs.Lists.{keeps_places, posting_list, stands_in, list_of, places_in, terms_of}
use Rattle.split_bundle.specs.Columns.{AreColumns, fast_fields}
use Rattle.split_bundle.specs.Files.{Parts, NumbersFit, file_bytes}

-- each text stands before those behind it
abbrev pub AreRising : List (List ℕ) → Type 0
AreRising [] = ⊤
AreRising (t ∷ ts) = AllByRecursion (λ u. is_below t u ≡ true) ts × AreRising ts

-- the partitions of documents
abbrev pub names_of : List Placed → List (List ℕ)
names_of documents = map (λ d. d.partition) documents

-- the partitions that have a document, rising
pub record ArePartitions (documents : List Placed) (partitions : List (List ℕ)) : Type 0 where
  pub rising : AreRising partitions
  pub names : AllByRecursion IsPartition partitions
  pub exact : (name : List ℕ) → Contains partitions name ↔ Contains (names_of documents) name

-- the keys that some document says, rising
pub record AreKeys (s : Schema) (documents : List Placed) (keys : List (List ℕ)) : Type 0 where
  pub rising : AreRising keys
  pub exact : (key : List ℕ) → Contains keys key ↔ IsTrue (stands_in s key documents)

-- the documents of a split weigh at most so much together
abbrev pub max_weight : ℕ
max_weight = 268435456

-- documents that a split can hold: of the schema, as programs hold them, and not too heavy together
pub record AreDocumentsOf (s : Schema) (documents : List Placed) : Type 0 where
  pub schema : IsSchema s
  pub of_schema : AllByRecursion (λ d. IsOfSchema s d.doc) documents
  pub held : AllByRecursion IsHeld documents
  pub light : total_weight documents ≤ max_weight

-- A split is made of these parts: its documents, and exactly the dictionary, the postings, the positions and the columns of
-- their tokens and values.
pub record IsSplitOf (s : Schema) (documents : List Placed) (p : Parts) : Type 0 where
  pub are_documents : AreDocumentsOf s documents
  pub docs : p.docs ≡ length documents
  pub partitions : ArePartitions documents p.partitions
  pub documents_are : p.documents ≡ documents_section p.partitions documents
  pub keys : AreKeys s documents p.keys
  pub dictionary : IsDict p.dictionary p.index (terms_of s documents p.keys)
  pub lists : AllByRecursion (λ key. AreDocuments (keeps_places s key) (posting_list s documents key)) p.keys
  pub postings : p.postings ≡ flat_map (list_of s documents) p.keys
  pub positions : p.positions ≡ flat_map (places_in s documents) p.keys
  pub columns : AreColumns documents 0 (fast_fields s) p.column_starts p.columns
  pub numbers : NumbersFit p
  pub size : length (file_bytes p) < 2 ^ 64

-- the bytes are a split of these documents under this schema
pub record IsSplit (s : Schema) (bytes : List ℕ) (documents : List Placed) : Type 0 where
  pub parts : Parts
  pub is_split : IsSplitOf s documents parts
  pub bytes_are : bytes ≡ file_bytes parts
