-- Passing documents and blocks.
use Rattle.std.proofs.Common.{◌≡◌, ℕ, ◌+◌, ◌-◌, ◌^◌, ◌<◌, ◌≤◌, Bool, List, [], ◌∷◌, ◌++◌, length, take, drop, Option, Some, None, refl, sym, ◌∙◌, ap, subst, arith, append_assoc, length-append, length-drop, length-take}
use Rattle.std.specs.Prelude.{SomeIff}
use Rattle.std.specs.List.{AllByRecursion, flat_map}
use Rattle.std.proofs.lemmas.List.{take-append-drop}
use Rattle.std.proofs.lemmas.List.Concat.{flat_map-append}
use Rattle.byte_fields.specs.Spelling.{varint}
use Rattle.term_postings.specs.Postings.{gaps, varints, count_bytes, document_bytes, position_bytes, last_document, head_bytes, head_list, later_blocks, AreRising, Fits}
use Rattle.term_postings.specs.Cursors.{AreBehind, StandsIn, PositionsAt, position_count, IsHeadOf}
use Rattle.term_postings.specs.declared.list.Posting.{Posting}
use Rattle.term_postings.specs.declared.cursor.Cursor.{Cursor}
use Rattle.term_postings.specs.declared.cursor.Place.{Place}
use Rattle.term_postings.proofs.Lists.{head_step, document-append, position-append, last-append, block_behind, rest_behind, right_behind, gaps_fit, length_of_gaps, all_both, counts_within, last_above, last_some}
use Rattle.term_postings.proofs.Numbers.{drop_behind}
use Rattle.term_postings.proofs.Heads.{ReadsHead}
use Rattle.term_postings.specs.declared.moves.Head.{Head}

-- what stands before a document that is to be passed
pub record HasFront (c : Cursor) (p : Posting) (after : List Posting) (behind : List ℕ) : Type 0 where
  pub fits : Fits c.counted p
  pub not_below : c.before ≤ p.document
  pub few : c.place.skipped + c.place.count < 2 ^ 64
  pub few_positions : length p.positions < 2 ^ 64
  pub here : drop c.at c.postings.now ≡ varint (p.document - c.before) ++ (count_bytes c.counted p.positions ++ (document_bytes c.counted p.document after ++ behind))

pub has_front : (c : Cursor) (passed after : List Posting) (p : Posting) (s : StandsIn c passed (p ∷ after)) → HasFront c p after s.behind_block
has_front c passed after p s =
    let right = right_behind c.counted c.block_before passed (p ∷ after) s.are_behind in
    record {
      fits = right.fits.0;
      not_below = subst (λ (n : ℕ). n ≤ p.document) (sym s.before_is) right.not_below.0;
      few = omega (arith, s.counts);
      few_positions = omega (arith, s.counts, length-append p.positions (flat_map (λ (q : Posting). q.positions) after));
      here = s.here ∙ simp append_assoc;
    }

-- a cursor of which some numbers were changed
abbrev pub moved : (c : Cursor) (left passed head block at block_before before : ℕ) (given : Option ℕ) (positions_block : ℕ) (place : Place)
    → head ≤ length c.postings.now → block ≤ length c.postings.now → at ≤ length c.postings.now → passed ≤ 128 → Cursor
moved c left passed head block at block_before before given positions_block place h i j k = record {
  postings = c.postings;
  positions = c.positions;
  counted = c.counted;
  fault = c.fault;
  left = left;
  passed = passed;
  head = head;
  block = block;
  at = at;
  block_before = block_before;
  before = before;
  given = given;
  positions_block = positions_block;
  place = place;
  head_within = h;
  block_within = i;
  at_within = j;
  passed_within = k;
}

-- ---- a document is passed

pub pass_stands : (c : Cursor) (left passed at before : ℕ) (given : Option ℕ) (place : Place) (h : c.head ≤ length c.postings.now) (i : c.block ≤ length c.postings.now) (j : at ≤ length c.postings.now) (k : passed ≤ 128)
    (gone after : List Posting) (p : Posting) (s : StandsIn c gone (p ∷ after)) → left + 1 ≡ c.left → passed ≡ c.passed + 1 → before ≡ p.document
    → place.skipped ≡ c.place.skipped + c.place.count → place.count ≡ length p.positions → drop at c.postings.now ≡ document_bytes c.counted p.document after ++ s.behind_block
    → StandsIn (moved c left passed c.head c.block at c.block_before before given c.positions_block place h i j k) (gone ++ p ∷ []) after
pass_stands c left passed at before given place h i j k gone after p s left_is passed_is before_is skipped_is count_is here =
    let same : gone ++ (p ∷ after) ≡ (gone ++ p ∷ []) ++ after = sym (append_assoc gone (p ∷ []) after) in
    let count : position_count (p ∷ after) ≡ length p.positions + position_count after = length-append p.positions (flat_map (λ (q : Posting). q.positions) after) in
    record {
      sound = s.sound;
      are_behind = subst (λ (l : List Posting). AreBehind c.counted c.block_before l) same s.are_behind;
      passed_are = omega (arith, s.passed_are, length-append gone (p ∷ []));
      left_are = omega (arith, s.left_are);
      before_is = before_is ∙ sym (last-append c.block_before gone (p ∷ []));
      behind_heads = s.behind_heads;
      heads = s.heads ∙ ap (λ (l : List Posting). head_list (later_blocks l) c.counted c.block_before l ++ s.behind_heads) same;
      behind_block = s.behind_block;
      block = s.block ∙ ap (λ (l : List Posting). document_bytes c.counted c.block_before l ++ s.behind_block) same;
      here = here ∙ ap (λ (n : ℕ). document_bytes c.counted n after ++ s.behind_block) (sym before_is);
      counts = omega (arith, s.counts);
      place_size = subst (λ (l : List Posting). c.positions_block + length (position_bytes l) < 2 ^ 64) same s.place_size;
    }

regroup : (a b c d e : List ℕ) → a ++ (b ++ ((c ++ d) ++ e)) ≡ (a ++ b) ++ (c ++ (d ++ e))
regroup a b c d e = simp append_assoc

all_above_zero : (ns : List ℕ) → AllByRecursion (λ n. 0 ≤ n) ns
all_above_zero [] = tt
all_above_zero (n ∷ ns) = (omega arith, all_above_zero ns)

pub pass_place : (positions : List ℕ) (old new : Place) (left : List ℕ) (after : List Posting) (p : Posting) → PositionsAt positions old left (p ∷ after) → AllByRecursion (λ n. n < 2 ^ 64) p.positions → AreRising p.positions
    → new.at ≡ old.at → new.skipped ≡ old.skipped + old.count → new.count ≡ length p.positions → new.last ≡ 0 → PositionsAt positions new p.positions after
pass_place positions old new left after p h numbers rising at_is skipped_is count_is last_is =
    let joined : varints (h.skipped ++ gaps old.last left) ≡ varints h.skipped ++ varints (gaps old.last left) = flat_map-append varint h.skipped (gaps old.last left) in
    record {
      skipped = h.skipped ++ gaps old.last left;
      skipped_are = omega (arith, h.skipped_are, h.count_is, skipped_is, length-append h.skipped (gaps old.last left), length_of_gaps old.last left);
      skipped_fit = all_both (λ (n : ℕ). n < 2 ^ 64) h.skipped (gaps old.last left) h.skipped_fit (gaps_fit old.last left h.fits);
      count_is = count_is;
      rising = rising;
      fits = numbers;
      not_below = subst (λ (m : ℕ). AllByRecursion (λ n. m ≤ n) p.positions) (sym last_is) (all_above_zero p.positions);
      behind = h.behind;
      here = ap (λ (i : ℕ). drop i positions) at_is ∙ h.here
          ∙ regroup (varints h.skipped) (varints (gaps old.last left)) (varints (gaps 0 p.positions)) (position_bytes after) h.behind
          ∙ ap (λ (l : List ℕ). l ++ (varints (gaps 0 p.positions) ++ (position_bytes after ++ h.behind))) (sym joined)
          ∙ ap (λ (m : ℕ). varints (h.skipped ++ gaps old.last left) ++ (varints (gaps m p.positions) ++ (position_bytes after ++ h.behind))) (sym last_is);
    }

pub block_positions : (positions : List ℕ) (at : ℕ) (gone after : List Posting) (p : Posting) (behind : List ℕ) → drop at positions ≡ position_bytes (gone ++ (p ∷ after)) ++ behind
    → drop at positions ≡ position_bytes ((gone ++ p ∷ []) ++ after) ++ behind
block_positions positions at gone after p behind e = e ∙ ap (λ (l : List Posting). position_bytes l ++ behind) (sym (append_assoc gone (p ∷ []) after))

-- ---- a block is left

-- what the head of a block says of the numbers behind it
pub record Leaves (c : Cursor) (passed after : List Posting) (h : Head) : Type 0 where
  pub last_is : c.block_before + h.gap ≡ last_document c.block_before (take 128 (passed ++ after))
  pub last_small : c.block_before + h.gap < 2 ^ 32
  pub len_within : h.len + c.block ≤ length c.postings.now
  pub positions_within : c.positions_block + h.positions_len < 2 ^ 64

document_parts : (counted : Bool) (before : ℕ) (ps : List Posting) (behind : List ℕ)
    → document_bytes counted before ps ++ behind ≡ document_bytes counted before (take 128 ps) ++ (document_bytes counted (last_document before (take 128 ps)) (drop 128 ps) ++ behind)
document_parts counted before ps behind =
    ap (λ (l : List Posting). document_bytes counted before l ++ behind) (sym (take-append-drop 128 ps))
    ∙ ap (λ (l : List ℕ). l ++ behind) (document-append counted before (take 128 ps) (drop 128 ps))
    ∙ append_assoc (document_bytes counted before (take 128 ps)) (document_bytes counted (last_document before (take 128 ps)) (drop 128 ps)) behind

position_parts : (ps : List Posting) (behind : List ℕ) → position_bytes ps ++ behind ≡ position_bytes (take 128 ps) ++ (position_bytes (drop 128 ps) ++ behind)
position_parts ps behind =
    ap (λ (l : List Posting). position_bytes l ++ behind) (sym (take-append-drop 128 ps))
    ∙ ap (λ (l : List ℕ). l ++ behind) (position-append (take 128 ps) (drop 128 ps))
    ∙ append_assoc (position_bytes (take 128 ps)) (position_bytes (drop 128 ps)) behind

position_sizes : (ps : List Posting) → length (position_bytes ps) ≡ length (position_bytes (take 128 ps)) + length (position_bytes (drop 128 ps))
position_sizes ps =
    ap (λ (l : List Posting). length (position_bytes l)) (sym (take-append-drop 128 ps)) ∙ ap (λ (l : List ℕ). length l) (position-append (take 128 ps) (drop 128 ps))
    ∙ length-append (position_bytes (take 128 ps)) (position_bytes (drop 128 ps))

pub leaves : (c : Cursor) (passed after : List Posting) (h : Head) (rest : List ℕ) → StandsIn c passed after → IsHeadOf c passed after h rest → Leaves c passed after h
leaves c passed after h rest s head =
    let ps = passed ++ after in
    let front = block_behind c.counted c.block_before (passed ++ after) s.are_behind in
    let above = last_above c.block_before (take 128 (passed ++ after)) front.not_below front.rising in
    let some : 0 < length (take 128 (passed ++ after)) = omega (arith, head.more, length-take 128 (passed ++ after)) in
    let small = last_some c.counted c.block_before (take 128 (passed ++ after)) front.fits some in
    let size = ap (λ (l : List ℕ). length l) (s.block ∙ document_parts c.counted c.block_before (passed ++ after) s.behind_block) in
    record {
      last_is = omega (arith, head.head.gap_is, above);
      last_small = omega (arith, head.head.gap_is, above, small);
      len_within = omega (
        arith,
        head.head.len_is,
        c.block_within,
        size,
        length-drop c.block c.postings.now,
        length-append (document_bytes c.counted c.block_before (take 128 (passed ++ after))) (document_bytes c.counted (last_document c.block_before (take 128 (passed ++ after))) (drop 128 (passed ++ after)) ++ s.behind_block),
      );
      positions_within = omega (arith, head.head.positions_len_is, s.place_size, position_sizes (passed ++ after));
    }

pub leave_stands : (c : Cursor) (left block last positions_block : ℕ) (head : Head) (place : Place) (h : head.next ≤ length c.postings.now) (i : block ≤ length c.postings.now) (j : block ≤ length c.postings.now) (k : 0 ≤ 128)
    (passed after : List Posting) (rest : List ℕ) (s : StandsIn c passed after) (w : IsHeadOf c passed after head rest) → left + 128 ≡ c.left + c.passed → block ≡ c.block + head.len
    → last ≡ last_document c.block_before (take 128 (passed ++ after)) → positions_block ≡ c.positions_block + head.positions_len → place.skipped ≡ 0 → place.count ≡ 0
    → StandsIn (moved c left 0 head.next block block last last c.given positions_block place h i j k) [] (drop 128 (passed ++ after))
leave_stands c left block last positions_block head place h i j k passed after rest s w left_is block_is last_is positions_is skipped_is count_is =
    let ps = passed ++ after in
    let behind = rest_behind c.counted c.block_before (passed ++ after) s.are_behind in
    let at_block : drop block c.postings.now ≡ document_bytes c.counted last (drop 128 (passed ++ after)) ++ s.behind_block =
    ap (λ (n : ℕ). drop n c.postings.now) (block_is ∙ ap (λ (n : ℕ). c.block + n) w.head.len_is)
    ∙ drop_behind c.postings.now (document_bytes c.counted c.block_before (take 128 (passed ++ after)))
    (document_bytes c.counted (last_document c.block_before (take 128 (passed ++ after))) (drop 128 (passed ++ after)) ++ s.behind_block) c.block
    (s.block ∙ document_parts c.counted c.block_before (passed ++ after) s.behind_block)
    ∙ ap (λ (n : ℕ). document_bytes c.counted n (drop 128 (passed ++ after)) ++ s.behind_block) (sym last_is) in
    record {
      sound = s.sound;
      are_behind = subst (λ (n : ℕ). AreBehind c.counted n (drop 128 (passed ++ after))) (sym last_is) behind;
      passed_are = refl;
      left_are = omega (arith, s.passed_are, s.left_are, length-drop 128 (passed ++ after), length-append passed after);
      before_is = refl;
      behind_heads = rest;
      heads = w.next ∙ ap (λ (n : ℕ). head_list (later_blocks (drop 128 (passed ++ after))) c.counted n (drop 128 (passed ++ after)) ++ rest) (sym last_is);
      behind_block = s.behind_block;
      block = at_block;
      here = at_block;
      counts = omega (arith, counts_within (drop 128 (passed ++ after)), behind.positions_size);
      place_size = omega (arith, positions_is, w.head.positions_len_is, s.place_size, position_sizes (passed ++ after));
    }

-- the positions behind a block
pub leave_block_positions : (positions : List ℕ) (at next : ℕ) (ps : List Posting) (behind : List ℕ) → drop at positions ≡ position_bytes ps ++ behind → next ≡ at + length (position_bytes (take 128 ps))
    → drop next positions ≡ position_bytes (drop 128 ps) ++ behind
leave_block_positions positions at next ps behind e next_is =
    ap (λ (n : ℕ). drop n positions) next_is ∙ drop_behind positions (position_bytes (take 128 ps)) (position_bytes (drop 128 ps) ++ behind) at (e ∙ position_parts ps behind)

pub leave_place : (positions : List ℕ) (place : Place) (after : List Posting) (behind : List ℕ) → drop place.at positions ≡ position_bytes after ++ behind → place.skipped ≡ 0 → place.count ≡ 0 → PositionsAt positions place [] after
leave_place positions place after behind e skipped_is count_is = record {
  skipped = [];
  skipped_are = skipped_is;
  skipped_fit = tt;
  count_is = count_is;
  rising = tt;
  fits = tt;
  not_below = tt;
  behind = behind;
  here = e;
}

-- a sum that fits is not refused
pub sum_refused : (o : Option ℕ) (P : Type 0) (v : ℕ) → SomeIff o P v → P → ((x : ℕ) → o ≡ Some x → ⊥) → ⊥
sum_refused None P v h p none = h p
sum_refused (Some x) P v h p none = none x refl

-- ---- the head of the block in which a cursor stands

head_there : (c : Cursor) (passed after : List Posting) (s : StandsIn c passed after) → 128 < length (passed ++ after)
    → drop c.head c.postings.now ≡ head_bytes c.counted c.block_before (take 128 (passed ++ after))
    ++ (head_list (later_blocks (drop 128 (passed ++ after))) c.counted (last_document c.block_before (take 128 (passed ++ after))) (drop 128 (passed ++ after)) ++ s.behind_heads)
head_there c passed after s more =
    s.heads ∙ ap (λ (l : List ℕ). l ++ s.behind_heads) (head_step c.counted c.block_before (passed ++ after) more)
    ∙ append_assoc (head_bytes c.counted c.block_before (take 128 (passed ++ after)))
    (head_list (later_blocks (drop 128 (passed ++ after))) c.counted (last_document c.block_before (take 128 (passed ++ after))) (drop 128 (passed ++ after))) s.behind_heads

pub head_of : (c : Cursor) (passed after : List Posting) (h : Head) (s : StandsIn c passed after) → 128 < length (passed ++ after) → ReadsHead c.postings.now c.head h → IsHeadOf c passed after h s.behind_heads
head_of c passed after h s more reads =
    let got = reads c.counted c.block_before (take 128 (passed ++ after))
    (head_list (later_blocks (drop 128 (passed ++ after))) c.counted (last_document c.block_before (take 128 (passed ++ after))) (drop 128 (passed ++ after)) ++ s.behind_heads)
    (block_behind c.counted c.block_before (passed ++ after) s.are_behind) (head_there c passed after s more) in
    record { more = more; head = got.0; next = got.1 }

pub head_refused : (c : Cursor) (passed after : List Posting) (s : StandsIn c passed after) → 128 < length (passed ++ after)
    → ((counted : Bool) (before : ℕ) (block : List Posting) (rest : List ℕ) → AreBehind counted before block → drop c.head c.postings.now ≡ head_bytes counted before block ++ rest → ⊥) → ⊥
head_refused c passed after s more refused =
    refused c.counted c.block_before (take 128 (passed ++ after))
    (head_list (later_blocks (drop 128 (passed ++ after))) c.counted (last_document c.block_before (take 128 (passed ++ after))) (drop 128 (passed ++ after)) ++ s.behind_heads)
    (block_behind c.counted c.block_before (passed ++ after) s.are_behind) (head_there c passed after s more)
