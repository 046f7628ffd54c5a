-- What is read of any bytes, one step behind the other, up to the first fault that is met.
use Rattle.std.specs.Prelude.{◌≡◌, ℕ, zero, suc, ◌+◌, ◌-◌, ◌/◌, ◌^◌, ◌<◌, ◌≤◌, Bool, true, false, ◌&&◌, List, [], ◌∷◌, length, take, drop, min, Option, Some, None, Result, Ok, Err, nat_lt, nat_le, ◌==◌, if◌then◌else◌}
use Rattle.byte_fields.specs.Steps.{◌>>=◌, corrupt_at, number_at}
use Rattle.byte_fields.specs.declared.corrupt.Corrupt.{Corrupt}
use Rattle.term_postings.specs.declared.cursor.Cursor.{Cursor}
use Rattle.term_postings.specs.declared.cursor.Place.{Place}
use Rattle.term_postings.specs.declared.moves.Head.{Head}

-- the place behind so many numbers
unfoldable pub numbers_behind : ℕ → List ℕ → ℕ → Result ℕ Corrupt
numbers_behind zero bytes at = Ok at
numbers_behind (suc n) bytes at = number_at bytes at >>= λ number. numbers_behind n bytes number.1

-- the head at a place
unfoldable pub head_at : List ℕ → ℕ → Result Head Corrupt
head_at postings at = do
  gap ← number_at postings at
  len ← number_at postings gap.1
  positions_len ← number_at postings len.1
  Ok (record { gap = gap.0; len = len.0; positions_len = positions_len.0; next = positions_len.1 })

-- the place behind so many heads
unfoldable pub heads_behind : ℕ → List ℕ → ℕ → Result ℕ Corrupt
heads_behind zero postings at = Ok at
heads_behind (suc n) postings at = head_at postings at >>= λ head. heads_behind n postings head.next

-- where the field has positions, their count in a document
abbrev pub count_at : Bool → List ℕ → ℕ → Result (ℕ × ℕ) Corrupt
count_at true postings at = number_at postings at
count_at false postings at = Ok (0, at)

-- the document at a place: its difference to the one before, the count of its positions, and the place behind it
abbrev pub document_at : Bool → List ℕ → ℕ → Result (ℕ × (ℕ × ℕ)) Corrupt
document_at counted postings at = number_at postings at >>= λ gap. count_at counted postings gap.1 >>= λ count. Ok (gap.0, count)

-- ---- where a cursor stands

-- what a cursor reads, which stays the same
pub record Source : Type 0 where
  pub postings : List ℕ
  pub positions : List ℕ
  pub counted : Bool
  pub fault : Option Corrupt

-- a cursor's fields, as `Cursor` has them
pub record Walk : Type 0 where
  pub source : Source
  pub left : ℕ
  pub passed : ℕ
  pub head : ℕ
  pub block : ℕ
  pub at : ℕ
  pub block_before : ℕ
  pub before : ℕ
  pub given : Option ℕ
  pub positions_block : ℕ
  pub place : Place

abbrev pub walk : Cursor → Walk
walk c = record {
  source = record { postings = c.postings.now; positions = c.positions.now; counted = c.counted; fault = c.fault };
  left = c.left;
  passed = c.passed;
  head = c.head;
  block = c.block;
  at = c.at;
  block_before = c.block_before;
  before = c.before;
  given = c.given;
  positions_block = c.positions_block;
  place = c.place;
}

-- what a call returned, with where the cursor stands then; nothing is said of where it stands after an Err
abbrev pub answered : {A : Type 0} → Result A Corrupt → Walk → Result (A × Walk) Corrupt
answered (Ok x) now = Ok (x, now)
answered (Err e) now = Err e

-- the same of a call that returns nothing else
abbrev pub reached : {A : Type 0} → Result A Corrupt → Walk → Result Walk Corrupt
reached (Ok x) now = Ok now
reached (Err e) now = Err e

-- the fault of the list, or else what is read
abbrev pub unless : {A : Type 0} → Option Corrupt → Result A Corrupt → Result A Corrupt
unless None read = read
unless (Some fault) read = Err fault

-- before the first of so many documents, whose blocks begin at a place
abbrev pub starting : List ℕ → List ℕ → ℕ → Bool → ℕ → Option Corrupt → Walk
starting postings positions docs counted block fault = record {
  source = record { postings = postings; positions = positions; counted = counted; fault = fault };
  left = docs;
  passed = 0;
  head = 0;
  block = block;
  at = block;
  block_before = 0;
  before = 0;
  given = None;
  positions_block = 0;
  place = record { at = 0; skipped = 0; count = 0; last = 0 };
}

abbrev pub begun : List ℕ → List ℕ → ℕ → Bool → Result ℕ Corrupt → Walk
begun postings positions docs counted (Ok block) = starting postings positions docs counted block None
begun postings positions docs counted (Err fault) = starting postings positions docs counted 0 (Some fault)

-- over so many documents: the blocks begin behind the heads of all of them but the last
abbrev pub over_of : List ℕ → List ℕ → ℕ → Bool → Walk
over_of postings positions docs counted = begun postings positions docs counted (heads_behind ((docs - 1) / 128) postings 0)

-- the document given last, after a call that gave one or none
abbrev pub last_given : Option ℕ → Option ℕ → Option ℕ
last_given (Some found) before = Some found
last_given None before = before

-- the last of these documents, or else the one given before them
abbrev pub last_of : List ℕ → Option ℕ → Option ℕ
last_of [] before = before
last_of (found ∷ more) before = last_of more (Some found)

-- ---- the next document

-- the document that is passed next in the block, and the walk behind it
unfoldable pub passed_one : Walk → Result (ℕ × Walk) Corrupt
passed_one w = document_at w.source.counted w.source.postings w.at >>= λ d.
    if nat_lt (w.before + d.0) (2 ^ 32) && nat_lt (w.place.skipped + w.place.count) (2 ^ 64) then Ok (
      w.before + d.0,
      record {
        source = w.source;
        left = w.left - 1;
        passed = w.passed + 1;
        head = w.head;
        block = w.block;
        at = d.1.1;
        block_before = w.block_before;
        before = w.before + d.0;
        given = Some (w.before + d.0);
        positions_block = w.positions_block;
        place = record { at = w.place.at; skipped = w.place.skipped + w.place.count; count = d.1.0; last = 0 };
      },
    ) else corrupt_at w.at

-- the walk at the block behind, by the head of the one it stands in
unfoldable pub left_by : Head → Walk → Result Walk Corrupt
left_by head w =
    if nat_lt (w.positions_block + head.positions_len) (2 ^ 64) && (nat_lt (w.block_before + head.gap) (2 ^ 32) && nat_le (w.block + head.len) (length w.source.postings)) then Ok (
    record {
      source = w.source;
      left = w.left - (128 - w.passed);
      passed = 0;
      head = head.next;
      block = w.block + head.len;
      at = w.block + head.len;
      block_before = w.block_before + head.gap;
      before = w.block_before + head.gap;
      given = w.given;
      positions_block = w.positions_block + head.positions_len;
      place = record { at = w.positions_block + head.positions_len; skipped = 0; count = 0; last = 0 };
    }
    ) else corrupt_at w.head

abbrev pub next_block : Walk → Result Walk Corrupt
next_block w = head_at w.source.postings w.head >>= λ head. left_by head w

-- at the block of the next document
abbrev pub in_block : Walk → Result Walk Corrupt
in_block w = if nat_lt w.passed 128 then Ok w else next_block w

-- the next of the documents that are to come
abbrev pub step_of : Walk → Result (ℕ × Walk) Corrupt
step_of w = in_block w >>= passed_one

-- the next document, if there is one
abbrev pub next_of : Walk → Result (Option ℕ × Walk) Corrupt
next_of w = unless w.source.fault (if w.left == 0 then Ok (None, w) else (step_of w >>= λ d. Ok (Some d.0, d.1)))

-- ---- the documents of a block

-- so many documents of a block, one behind the other
abbrev pub passed_many : ℕ → Walk → Result (List ℕ × Walk) Corrupt
passed_many zero w = Ok ([], w)
passed_many (suc n) w = passed_one w >>= λ d. (passed_many n d.1 >>= λ more. Ok (d.0 ∷ more.0, more.1))

-- what was given, with where the cursor stands then
abbrev pub passed_all : {A : Type 0} → Result A Corrupt → List ℕ → Walk → Result (List ℕ × Walk) Corrupt
passed_all (Ok u) given now = Ok (given, now)
passed_all (Err fault) given now = Err fault

-- how many documents are to come of the block where a walk stands
abbrev pub left_in_block : Walk → ℕ
left_in_block w = min w.left (128 - w.passed)

-- the documents to come of the block of the next one, if there is one
abbrev pub next_block_of : Walk → Result (List ℕ × Walk) Corrupt
next_block_of w = unless w.source.fault (if w.left == 0 then Ok ([], w) else (in_block w >>= λ v. passed_many (left_in_block v) v))

-- what was put in front of a list that is as it was behind
abbrev pub PutsInFront : List ℕ → List ℕ → Result ℕ Corrupt → Walk → Result (List ℕ × Walk) Corrupt → Type 0
PutsInFront old new (Ok count) now read = (read ≡ Ok (take count new, now)) × (drop count new ≡ drop count old) × (length new ≡ length old) × (count ≤ length new)
PutsInFront old new (Err fault) now read = read ≡ Err fault

-- ---- a document that is sought

-- the block behind, where the last document of this one is below the one sought
abbrev pub block_below : ℕ → Walk → Result (Option Walk) Corrupt
block_below document w =
    if nat_le (w.left + w.passed) 128 then Ok None
    else (head_at w.source.postings w.head >>= λ head.
    if nat_le document (w.block_before + head.gap) then Ok None else (left_by head w >>= λ next. Ok (Some next)))

-- blocks are left while they are below the document
pub data LeavesBlocks (document : ℕ) : Walk → Result Walk Corrupt → Type 0 where
  stays : (w : Walk) → block_below document w ≡ Ok None → LeavesBlocks document w (Ok w)
  breaks : (w : Walk) (fault : Corrupt) → block_below document w ≡ Err fault → LeavesBlocks document w (Err fault)
  leaves : (w next : Walk) (end : Result Walk Corrupt) → block_below document w ≡ Ok (Some next) → LeavesBlocks document next end → LeavesBlocks document w end

-- the next documents are given until one is not below the document
pub data Passes (document : ℕ) : Walk → Result (Option ℕ × Walk) Corrupt → Type 0 where
  ends : (w next : Walk) → next_of w ≡ Ok (None, next) → Passes document w (Ok (None, next))
  breaks : (w : Walk) (fault : Corrupt) → next_of w ≡ Err fault → Passes document w (Err fault)
  finds : (w next : Walk) (found : ℕ) → next_of w ≡ Ok (Some found, next) → document ≤ found → Passes document w (Ok (Some found, next))
  passes : (w next : Walk) (found : ℕ) (end : Result (Option ℕ × Walk) Corrupt) → next_of w ≡ Ok (Some found, next) → found < document → Passes document next end → Passes document w end

-- the walk with a document given last and a place in its positions
abbrev pub standing : Walk → Option ℕ → Place → Walk
standing w given place = record {
  source = w.source;
  left = w.left;
  passed = w.passed;
  head = w.head;
  block = w.block;
  at = w.at;
  block_before = w.block_before;
  before = w.before;
  given = given;
  positions_block = w.positions_block;
  place = place;
}

-- where no document was found, the one given last stays, and its positions are still to come
abbrev pub kept : Walk → Result (Option ℕ × Walk) Corrupt → Result (Option ℕ × Walk) Corrupt
kept start (Ok (None, w)) = Ok (None, standing w start.given start.place)
kept start (Ok (Some found, w)) = Ok (Some found, w)
kept start (Err fault) = Err fault

abbrev pub PassesFrom : ℕ → Walk → Result Walk Corrupt → Result (Option ℕ × Walk) Corrupt → Type 0
PassesFrom document start (Err fault) answer = answer ≡ Err fault
PassesFrom document start (Ok w) answer = (end : Result (Option ℕ × Walk) Corrupt) × Passes document w end × (answer ≡ kept start end)

abbrev pub Sought : ℕ → Option Corrupt → Walk → Result (Option ℕ × Walk) Corrupt → Type 0
Sought document (Some fault) w answer = answer ≡ Err fault
Sought document None w answer = (blocks : Result Walk Corrupt) × LeavesBlocks document w blocks × PassesFrom document w blocks answer

-- what is answered where a document is sought among those to come, and where the cursor stands then
abbrev pub IsSought : ℕ → Walk → Result (Option ℕ × Walk) Corrupt → Type 0
IsSought document w answer = Sought document w.source.fault w answer

-- whether the document given last, if there is one, is below a document
abbrev pub IsPast : ℕ → Option ℕ → Type 0
IsPast document None = Unit {0}
IsPast document (Some given) = given < document

-- ---- the next position

-- the place behind so many numbers, where the first of them may be past the end
abbrev pub skipped_behind : ℕ → List ℕ → ℕ → Result ℕ Corrupt
skipped_behind count positions at = if nat_lt (length positions) at then corrupt_at (length positions) else numbers_behind count positions at

-- the bytes of positions behind those that were passed over, which may be past the end
abbrev pub bytes_behind : Place → List ℕ → Result (List ℕ) Corrupt
bytes_behind place positions = numbers_behind place.skipped positions (min place.at (length positions)) >>= λ at. Ok (drop at positions)

abbrev pub bytes_left : Walk → Result (List ℕ) Corrupt
bytes_left w = unless w.source.fault (bytes_behind w.place w.source.positions)

-- the next position, and where the one behind it is found
unfoldable pub position_at : List ℕ → Place → Result (ℕ × Place) Corrupt
position_at positions place = do
  at ← skipped_behind place.skipped positions place.at
  gap ← number_at positions at
  if nat_lt (place.last + gap.0) (2 ^ 64) then Ok (place.last + gap.0, record { at = gap.1; skipped = 0; count = place.count - 1; last = place.last + gap.0 }) else corrupt_at at

-- the next position of the document given last, if there is one
abbrev pub next_position_of : Walk → Result (Option ℕ × Walk) Corrupt
next_position_of w = unless w.source.fault (if w.place.count == 0 then Ok (None, w) else (position_at w.source.positions w.place >>= λ p. Ok (Some p.0, standing w w.given p.1)))
