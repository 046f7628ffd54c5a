-- A split file in bytes, by what it is made of.
use Rattle.std.specs.Prelude.{ℕ, ◌^◌, ◌<◌, List, [], ◌∷◌, ◌++◌, length}
use Rattle.std.specs.List.{flat_map, AllByRecursion}
use Rattle.byte_fields.specs.Spelling.{varint, byte_string, eight}
use Rattle.term_dict.specs.declared.index.BlockStart.{BlockStart}
use Rattle.split_bundle.specs.declared.layout.ColumnStart.{ColumnStart}

-- what a split file is made of: the five sections, and what the footer says beside their lengths
pub record Parts : Type 0 where
  pub docs : ℕ
  pub documents : List ℕ
  pub dictionary : List ℕ
  pub postings : List ℕ
  pub positions : List ℕ
  pub columns : List ℕ
  pub partitions : List (List ℕ)
  pub keys : List (List ℕ)
  pub index : List BlockStart
  pub column_starts : List ColumnStart

-- QWS and the format's number
abbrev pub head : List ℕ
head = 0x51 ∷ 0x57 ∷ 0x53 ∷ 2 ∷ []

-- QWF and the format's number
abbrev pub foot : List ℕ
foot = 0x51 ∷ 0x57 ∷ 0x46 ∷ 2 ∷ []

-- the sections one behind the other
abbrev pub sections_bytes : Parts → List ℕ
sections_bytes p = p.documents ++ (p.dictionary ++ (p.postings ++ (p.positions ++ p.columns)))

-- their lengths
abbrev pub lengths_bytes : Parts → List ℕ
lengths_bytes p =
    varint (length p.documents) ++ (varint (length p.dictionary) ++ (varint (length p.postings) ++ (varint (length p.positions) ++ varint (length p.columns))))

-- a count, and so many texts
abbrev pub partitions_bytes : List (List ℕ) → List ℕ
partitions_bytes names = varint (length names) ++ flat_map byte_string names

-- a count, and of each block the first key and the start
abbrev pub block_bytes : BlockStart → List ℕ
block_bytes b = byte_string b.first ++ varint b.start

abbrev pub index_bytes : List BlockStart → List ℕ
index_bytes index = varint (length index) ++ flat_map block_bytes index

-- a count, and of each fast field the number and the start
abbrev pub start_bytes : ColumnStart → List ℕ
start_bytes c = varint c.number ++ varint c.start

abbrev pub starts_bytes : List ColumnStart → List ℕ
starts_bytes cs = varint (length cs) ++ flat_map start_bytes cs

-- the count of documents, the lengths of the sections, the partitions, the count of terms, the blocks, the fast fields
unfoldable pub footer_bytes : Parts → List ℕ
footer_bytes p =
    varint p.docs ++ (lengths_bytes p ++ (partitions_bytes p.partitions ++ (varint (length p.keys) ++ (index_bytes p.index ++ starts_bytes p.column_starts))))

-- the footer, its length in eight bytes, and the foot
abbrev pub ending : List ℕ → List ℕ
ending footer = footer ++ (eight (length footer) ++ foot)

-- the head, the sections and the ending
unfoldable pub file_bytes : Parts → List ℕ
file_bytes p = head ++ (sections_bytes p ++ ending (footer_bytes p))

-- each number that the footer spells is within its type
pub record NumbersFit (p : Parts) : Type 0 where
  pub docs : p.docs < 2 ^ 32
  pub documents : length p.documents < 2 ^ 64
  pub dictionary : length p.dictionary < 2 ^ 64
  pub postings : length p.postings < 2 ^ 64
  pub positions : length p.positions < 2 ^ 64
  pub columns : length p.columns < 2 ^ 64
  pub partitions : length p.partitions < 2 ^ 64
  pub keys : length p.keys < 2 ^ 64
  pub blocks : length p.index < 2 ^ 64
  pub fields : length p.column_starts < 2 ^ 64
  pub block_starts : AllByRecursion (λ b. b.start < 2 ^ 64) p.index
  pub column_starts : AllByRecursion (λ c. (c.number < 2 ^ 64) × (c.start < 2 ^ 64)) p.column_starts
