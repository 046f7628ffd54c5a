-- Where a cursor stands.
use Rattle.std.specs.Prelude.{◌≡◌, ℕ, ◌+◌, ◌-◌, ◌^◌, ◌<◌, ◌≤◌, Bool, true, List, [], ◌∷◌, ◌++◌, length, take, drop, Option, Some, None, nat_lt, if◌then◌else◌}
use Rattle.std.specs.List.{flat_map, AllByRecursion}
use Rattle.term_postings.specs.Postings.{AreRising, Fits, documents, document_bytes, position_bytes, head_list, later_blocks, last_document, varints, gaps}
use Rattle.term_postings.specs.declared.list.Posting.{Posting}
use Rattle.term_postings.specs.declared.cursor.Cursor.{Cursor}
use Rattle.term_postings.specs.declared.cursor.Place.{Place}
use Rattle.term_postings.specs.declared.moves.Head.{Head}

-- how many positions these documents have
abbrev pub position_count : List Posting → ℕ
position_count ps = length (flat_map (λ p. p.positions) ps)

-- documents that can stand behind a document
pub record AreBehind (counted : Bool) (before : ℕ) (ps : List Posting) : Type 0 where
  pub rising : AreRising (documents ps)
  pub fits : AllByRecursion (Fits counted) ps
  pub not_below : AllByRecursion (λ p. before ≤ p.document) ps
  pub size : length (document_bytes counted before ps) < 2 ^ 64
  pub positions_size : length (position_bytes ps) < 2 ^ 64

-- documents of a block, of which some were passed and the others are to come, and of the blocks behind it
pub record StandsIn (c : Cursor) (passed after : List Posting) : Type 0 where
  pub sound : c.fault ≡ None
  pub are_behind : AreBehind c.counted c.block_before (passed ++ after)
  pub passed_are : c.passed ≡ length passed
  pub left_are : c.left ≡ length after
  pub before_is : c.before ≡ last_document c.block_before passed
  pub behind_heads : List ℕ
  pub heads : drop c.head c.postings.now ≡ head_list (later_blocks (passed ++ after)) c.counted c.block_before (passed ++ after) ++ behind_heads
  pub behind_block : List ℕ
  pub block : drop c.block c.postings.now ≡ document_bytes c.counted c.block_before (passed ++ after) ++ behind_block
  pub here : drop c.at c.postings.now ≡ document_bytes c.counted c.before after ++ behind_block
  pub counts : c.place.skipped + c.place.count + position_count after < 2 ^ 64
  pub place_size : c.positions_block + length (position_bytes (passed ++ after)) < 2 ^ 64

-- the positions of the document given last that are to come, and behind them those of the documents to come
pub record PositionsAt (positions : List ℕ) (place : Place) (left : List ℕ) (after : List Posting) : Type 0 where
  pub skipped : List ℕ
  pub skipped_are : place.skipped ≡ length skipped
  pub skipped_fit : AllByRecursion (λ n. n < 2 ^ 64) skipped
  pub count_is : place.count ≡ length left
  pub rising : AreRising left
  pub fits : AllByRecursion (λ n. n < 2 ^ 64) left
  pub not_below : AllByRecursion (λ n. place.last ≤ n) left
  pub behind : List ℕ
  pub here : drop place.at positions ≡ varints skipped ++ (varints (gaps place.last left) ++ (position_bytes after ++ behind))

pub record HasPositions (c : Cursor) (passed after : List Posting) (left : List ℕ) : Type 0 where
  pub at : PositionsAt c.positions.now c.place left after
  pub behind_block : List ℕ
  pub block : drop c.positions_block c.positions.now ≡ position_bytes (passed ++ after) ++ behind_block

-- A cursor stands in a block, with documents passed and to come, and these positions of the document given last to come.
-- The first says whether the bytes of the positions are there.
pub record StandsAt (told : Bool) (c : Cursor) (passed after : List Posting) (left : List ℕ) : Type 0 where
  pub stands : StandsIn c passed after
  pub positions : told ≡ true → HasPositions c passed after left

-- a cursor stands before these documents, wherever its block begins
abbrev pub StandsBefore : Bool → Cursor → List Posting → List ℕ → Type 0
StandsBefore told c after left = (passed : List Posting) × StandsAt told c passed after left

-- the positions of the first of these documents, or else those that were left
abbrev pub first_positions : List Posting → List ℕ → List ℕ
first_positions [] left = left
first_positions (p ∷ ps) left = p.positions

-- the positions of the last of these documents, or else those that were left
abbrev pub last_positions : List Posting → List ℕ → List ℕ
last_positions [] left = left
last_positions (p ∷ ps) left = last_positions ps p.positions

-- of the documents that were to come these were given, and the cursor stands before the others
pub record PassesMany (told : Bool) (now : Cursor) (after : List Posting) (left given : List ℕ) : Type 0 where
  pub within : length given ≤ length after
  pub given_are : given ≡ documents (take (length given) after)
  pub stands : StandsBefore told now (drop (length given) after) (last_positions (take (length given) after) left)

-- the same, and of some documents at least one
pub record GivesMany (told : Bool) (now : Cursor) (after : List Posting) (left given : List ℕ) : Type 0 where
  pub passes : PassesMany told now after left given
  pub some : length given ≡ 0 → after ≡ []

-- the first of these documents, or none
abbrev pub first_document : List Posting → Option ℕ
first_document [] = None
first_document (p ∷ ps) = Some p.document

-- the documents from the first one on that is not below a document
abbrev pub from_document : ℕ → List Posting → List Posting
from_document document [] = []
from_document document (p ∷ ps) = if nat_lt p.document document then from_document document ps else p ∷ ps

-- the first of these numbers, or none
abbrev pub first_number : List ℕ → Option ℕ
first_number [] = None
first_number (n ∷ ns) = Some n

-- a head as it was read
pub record IsHead (counted : Bool) (before : ℕ) (block : List Posting) (gap len positions_len : ℕ) : Type 0 where
  pub gap_is : gap ≡ last_document before block - before
  pub len_is : len ≡ length (document_bytes counted before block)
  pub positions_len_is : positions_len ≡ length (position_bytes block)

-- a head was read of the block in which a cursor stands, and behind it stand the heads of the blocks behind
pub record IsHeadOf (c : Cursor) (passed after : List Posting) (h : Head) (rest : List ℕ) : Type 0 where
  pub more : 128 < length (passed ++ after)
  pub head : IsHead c.counted c.block_before (take 128 (passed ++ after)) h.gap h.len h.positions_len
  pub next : drop h.next c.postings.now
      ≡ head_list (later_blocks (drop 128 (passed ++ after))) c.counted (last_document c.block_before (take 128 (passed ++ after))) (drop 128 (passed ++ after)) ++ rest

-- a cursor that stands before documents which begin at a document as these do
abbrev pub StandsFrom : Bool → ℕ → List Posting → Cursor → Type 0
StandsFrom told document after c =
    (now : List Posting) × (left : List ℕ) × StandsBefore told c now left × (from_document document after ≡ from_document document now)
