-- What the bytes of a dictionary stand for.
use Rattle.std.specs.Prelude.{◌≡◌, ℕ, ◌+◌, ◌*◌, ◌/◌, ◌^◌, ◌<◌, true, List, [], ◌∷◌, ◌++◌, length, take, Option, Some, None, slice_get, ⊤, if◌then◌else◌}
use Rattle.std.specs.List.{flat_map, AllByRecursion}
use Rattle.std.specs.Ordering.{is_eq}
use Rattle.byte_fields.specs.Spelling.{varint, byte_string}
use Rattle.term_dict.specs.Keys.{order, is_below}
use Rattle.term_dict.specs.declared.term.TermInfo.{TermInfo}
use Rattle.term_dict.specs.declared.term.Term.{Term}
use Rattle.term_dict.specs.declared.index.BlockStart.{BlockStart}

-- the numbers of a term
abbrev pub info_bytes : TermInfo → List ℕ
info_bytes i = varint i.docs ++ varint i.postings ++ varint i.postings_len ++ varint i.positions ++ varint i.positions_len

-- a term: its key with the key's length in front, and its numbers
abbrev pub term_bytes : Term → List ℕ
term_bytes t = byte_string t.key ++ info_bytes t.info

-- the terms one behind the other
abbrev pub area : List Term → List ℕ
area terms = flat_map term_bytes terms

-- the numbers of a term are within their types
pub record Fits (t : Term) : Type 0 where
  pub docs : t.info.docs < 2 ^ 32
  pub postings : t.info.postings < 2 ^ 64
  pub postings_len : t.info.postings_len < 2 ^ 64
  pub positions : t.info.positions < 2 ^ 64
  pub positions_len : t.info.positions_len < 2 ^ 64

-- each key stands before the keys behind it
abbrev pub IsRising : List Term → Type 0
IsRising [] = ⊤
IsRising (t ∷ ts) = AllByRecursion (λ u. is_below t.key u.key ≡ true) ts × IsRising ts

-- a finite map from keys to numbers, by rising keys
pub record AreTerms (terms : List Term) : Type 0 where
  pub fits : AllByRecursion Fits terms
  pub rising : IsRising terms

-- 64 terms have a block, and so have the last 1 to 64; the block with number b begins with the term with number 64 b
pub record IsIndex (index : List BlockStart) (terms : List Term) : Type 0 where
  pub count : length index ≡ (length terms + 63) / 64
  pub each : (b : ℕ) (t : Term) → slice_get terms (64 * b) ≡ Some t
      → slice_get index b ≡ Some (record { first = t.key; start = length (area (take (64 * b) terms)) })

-- the area of blocks and its index stand for these terms
pub record IsDict (bytes : List ℕ) (index : List BlockStart) (terms : List Term) : Type 0 where
  pub are_terms : AreTerms terms
  pub area_is : bytes ≡ area terms
  pub index_is : IsIndex index terms

-- what the map has at a key
abbrev pub lookup : List ℕ → List Term → Option TermInfo
lookup key [] = None
lookup key (t ∷ ts) = if is_eq (order t.key key) then Some t.info else lookup key ts

-- the terms from the first one on whose key is not below a key
abbrev pub from_key : List ℕ → List Term → List Term
from_key low [] = []
from_key low (t ∷ ts) = if is_below t.key low then from_key low ts else t ∷ ts
