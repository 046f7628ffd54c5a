-- Lists of documents under new numbers, and the list of a key that is gathered of several splits.
use Rattle.std.specs.Prelude.{◌≡◌, ℕ, ◌^◌, ◌<◌, Bool, true, List, [], ◌∷◌, ◌++◌, length, map, Option, Some, None, nat_lt, ⊤}
use Rattle.std.specs.List.{AllByRecursion}
use Rattle.doc_value.specs.declared.schema.Schema.{Schema}
use Rattle.term_postings.specs.Postings.{AreRising, Fits, MayHave, documents, position_bytes}
use Rattle.term_postings.specs.declared.list.Posting.{Posting}
use Rattle.split_bundle.specs.declared.placed.Placed.{Placed}
use Rattle.split_bundle.specs.Lists.{posting_list}
use Rattle.split_merge.specs.Numbering.{number_in}
use Rattle.split_merge.specs.declared.lists.KeyList.{KeyList}
use Rattle.split_merge.specs.declared.lists.Listed.{Listed}

-- whether a number is above the last one, if there is one
abbrev pub is_above : Option ℕ → ℕ → Bool
is_above None n = true
is_above (Some last) n = nat_lt last n

-- rising numbers, of which the first is above the last one
abbrev pub AreAbove : Option ℕ → List ℕ → Type 0
AreAbove last [] = ⊤
AreAbove last (n ∷ ns) = (is_above last n ≡ true) × AreAbove (Some n) ns

-- documents without positions
abbrev pub bare : List ℕ → List Posting
bare ns = map (λ (n : ℕ). record { document = n; positions = [] }) ns

-- a document with its new number before others, if it has one
abbrev pub with_number : Option ℕ → List ℕ → List Posting → List Posting
with_number None positions ps = ps
with_number (Some n) positions ps = record { document = n; positions = positions } ∷ ps

-- the documents of a list with their new numbers, without those that have none
abbrev pub renumbered : (ℕ → Option ℕ) → List Posting → List Posting
renumbered number [] = []
renumbered number (p ∷ ps) = with_number (number p.document) p.positions (renumbered number ps)

-- a document as it is listed: its number, and how many positions it has
abbrev pub listed : Posting → Listed
listed p = record { document = p.document; positions = length p.positions }

-- positions that a document of a list can have
pub record CanHave (kept : Bool) (positions : List ℕ) : Type 0 where
  pub rising : AreRising positions
  pub may : MayHave kept positions
  pub numbers : AllByRecursion (λ n. n < 2 ^ 64) positions

-- a list that can be spelled
pub record CanSpell (kept : Bool) (ps : List Posting) : Type 0 where
  pub rising : AreRising (documents ps)
  pub each : AllByRecursion (λ p. CanHave kept p.positions) ps

-- the lists of a key in splits of some documents one behind another, each under its numbers
abbrev pub joined_list : Schema → List ℕ → List (List Placed) → List (List ℕ) → List Posting
joined_list s key [] tables = []
joined_list s key (ds ∷ dss) [] = []
joined_list s key (ds ∷ dss) (t ∷ ts) = renumbered (number_in t) (posting_list s ds key) ++ joined_list s key dss ts

-- a gathered list holds these documents, and their positions in bytes
pub record Holds (kept : Bool) (l : KeyList) (ps : List Posting) : Type 0 where
  pub entries : l.entries.items ≡ map listed ps
  pub places : l.places.items ≡ position_bytes ps
  pub each : AllByRecursion (Fits kept) ps

-- the documents of a list with positions are listed behind others, each under its number: none has no number, so that the bytes of
-- their positions are those of the list
pub record Lists (number : ℕ → Option ℕ) (old now : List Listed) (ps : List Posting) : Type 0 where
  pub entries : now ≡ old ++ map listed (renumbered number ps)
  pub places : position_bytes (renumbered number ps) ≡ position_bytes ps
  pub each : AllByRecursion (Fits true) (renumbered number ps)

-- these documents stand behind those that were held, whichever these are
abbrev pub Adds : Bool → KeyList → KeyList → List Posting → Type 0
Adds kept old new more = (ps : List Posting) → Holds kept old ps → Holds kept new (ps ++ more)

-- the last of numbers, or 0
abbrev pub last_or_zero : Option ℕ → ℕ
last_or_zero None = 0
last_or_zero (Some n) = n
