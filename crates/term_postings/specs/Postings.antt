-- What the bytes of a list of documents stand for.
use Rattle.std.specs.Prelude.{◌≡◌, ℕ, zero, suc, ◌-◌, ◌/◌, ◌^◌, ◌<◌, Bool, true, false, List, [], ◌∷◌, ◌++◌, length, take, drop, map, ⊤}
use Rattle.std.specs.List.{flat_map, AllByRecursion}
use Rattle.byte_fields.specs.Spelling.{varint}
use Rattle.term_postings.specs.declared.list.Posting.{Posting}

-- each number less the one before it, and the first less a number that stands before
abbrev pub gaps : ℕ → List ℕ → List ℕ
gaps before [] = []
gaps before (n ∷ ns) = (n - before) ∷ gaps n ns

abbrev pub varints : List ℕ → List ℕ
varints ns = flat_map varint ns

-- where the field has positions, their count
abbrev pub count_bytes : Bool → List ℕ → List ℕ
count_bytes true positions = varint (length positions)
count_bytes false positions = []

-- the documents behind a document, each by its difference to the one before
abbrev pub document_bytes : Bool → ℕ → List Posting → List ℕ
document_bytes counted before [] = []
document_bytes counted before (p ∷ ps) = varint (p.document - before) ++ (count_bytes counted p.positions ++ document_bytes counted p.document ps)

-- the positions of these documents, each by its difference to the one before in its document
abbrev pub position_bytes : List Posting → List ℕ
position_bytes ps = flat_map (λ p. varints (gaps 0 p.positions)) ps

-- the last of these documents, or the one before them where there are none
abbrev pub last_document : ℕ → List Posting → ℕ
last_document before [] = before
last_document before (p ∷ ps) = last_document p.document ps

-- the head of a block: its last document, its length and its positions' length
abbrev pub head_bytes : Bool → ℕ → List Posting → List ℕ
head_bytes counted before block =
    varint (last_document before block - before) ++ (varint (length (document_bytes counted before block)) ++ varint (length (position_bytes block)))

-- so many heads, of blocks of 128 documents
abbrev pub head_list : ℕ → Bool → ℕ → List Posting → List ℕ
head_list zero counted before ps = []
head_list (suc n) counted before ps = head_bytes counted before (take 128 ps) ++ head_list n counted (last_document before (take 128 ps)) (drop 128 ps)

-- how many blocks of 128 documents there are but the last one, which has 1 to 128
abbrev pub later_blocks : List Posting → ℕ
later_blocks ps = (length ps - 1) / 128

-- the heads of all blocks but the last, and then the blocks
abbrev pub list_bytes : Bool → List Posting → List ℕ
list_bytes counted ps = head_list (later_blocks ps) counted 0 ps ++ document_bytes counted 0 ps

-- each number is below those behind it
abbrev pub AreRising : List ℕ → Type 0
AreRising [] = ⊤
AreRising (n ∷ ns) = AllByRecursion (λ m. n < m) ns × AreRising ns

abbrev pub documents : List Posting → List ℕ
documents ps = map (λ p. p.document) ps

-- where the field has no positions, a document has none
abbrev pub MayHave : Bool → List ℕ → Type 0
MayHave true positions = ⊤
MayHave false positions = positions ≡ []

-- a document's number and its positions are within their types, and the positions rise
pub record Fits (counted : Bool) (p : Posting) : Type 0 where
  pub document : p.document < 2 ^ 32
  pub numbers : AllByRecursion (λ n. n < 2 ^ 64) p.positions
  pub rising : AreRising p.positions
  pub may_have : MayHave counted p.positions

-- a list of documents that can be spelled
pub record AreDocuments (counted : Bool) (ps : List Posting) : Type 0 where
  pub rising : AreRising (documents ps)
  pub fits : AllByRecursion (Fits counted) ps
  pub size : length (document_bytes counted 0 ps) < 2 ^ 64
  pub positions_size : length (position_bytes ps) < 2 ^ 64

-- the bytes stand for these documents
pub record IsList (postings positions : List ℕ) (counted : Bool) (ps : List Posting) : Type 0 where
  pub are_documents : AreDocuments counted ps
  pub postings_are : postings ≡ list_bytes counted ps
  pub positions_are : positions ≡ position_bytes ps
