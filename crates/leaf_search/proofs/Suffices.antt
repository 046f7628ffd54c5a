-- The ranges that a request needs suffice.
use Rattle.std.proofs.Common.{◌≡◌, ◌≢◌, ℕ, zero, suc, ◌+◌, ◌-◌, ◌*◌, ◌<◌, ◌≤◌, ◌⊎◌, inl, inr, Bool, true, false, cond, List, [], ◌∷◌, ◌++◌, length, take, drop, get_or, slice_get, nat_lt, Option, Some, None, Result, Ok, Err, MatchResult, refl, ap, sym, ◌∙◌, arith, length-append}
use Rattle.std.specs.List.{flat_map}
use Rattle.byte_fields.specs.Spelling.{eight}
use Rattle.std.proofs.lemmas.Bool.{ltb-false, le-ltb}
use Rattle.doc_value.specs.declared.schema.Schema.{Schema}
use Rattle.split_bundle.specs.declared.layout.Sections.{Sections}
use Rattle.split_bundle.specs.declared.part_view.PartView.{PartView}
use Rattle.split_bundle.specs.declared.pieces.FilePiece.{FilePiece}
use Rattle.split_bundle.specs.declared.placed.Placed.{Placed}
use Rattle.split_bundle.specs.Documents.{each_in_bytes, joined, placed_bytes, starts}
use Rattle.split_bundle.specs.Files.{Parts}
use Rattle.split_bundle.specs.Lending.{IsPartOf}
use Rattle.split_bundle.specs.Pieces.{held_in, or_else, part_in}
use Rattle.split_bundle.proofs.DocStands.{each_at, length-each, length-starts}
use Rattle.doc_sets.specs.declared.leaf_error.LeafError.{LeafError}
use Rattle.doc_sets.specs.declared.leaf_error.LeafError.TheVariants as faults
use Rattle.doc_sets.specs.Faults.{LacksPart, IsMemory}
use Rattle.doc_tallies.specs.Causes.{AsksDocument, AsksHits}
use Rattle.leaf_search.specs.Answers.{AsksLeaf, passes}
use Rattle.leaf_search.specs.FileRanges.{AreRangesOf, HasPart, SomeRange}
use Rattle.leaf_search.specs.Needs.{AreHeld, NeedsBlocks, NeedsLists}
use Rattle.leaf_search.specs.Numbers.{numbers_of}
use Rattle.leaf_search.specs.declared.file_ranges.FileRange.{FileRange}
use Rattle.leaf_search.specs.declared.request.LeafRequest.{LeafRequest}
use Rattle.leaf_search.proofs.ShownParts.{shown_below}

-- ---- a piece that holds a range holds its parts

abbrev pub none : Option (List ℕ)
none = None

pub record IsInside (piece : FilePiece) (start len : ℕ) : Type 0 where
  pub behind : piece.start ≤ start
  pub before : start - piece.start ≤ length piece.bytes.now
  pub room : len ≤ length piece.bytes.now - (start - piece.start)

is_inside : (piece : FilePiece) (start len : ℕ) → part_in piece start len ≢ none → IsInside piece start len
is_inside piece start len there = go (nat_lt start piece.start) (nat_lt (length piece.bytes.now) (start - piece.start)) (nat_lt (length piece.bytes.now - (start - piece.start)) len) refl refl refl there
  where
    go : (a b c : Bool) → nat_lt start piece.start ≡ a → nat_lt (length piece.bytes.now) (start - piece.start) ≡ b → nat_lt (length piece.bytes.now - (start - piece.start)) len ≡ c
        → cond a none (cond b none (cond c none (Some (take len (drop (start - piece.start) piece.bytes.now))))) ≢ none → IsInside piece start len
    go true b c x y z h = absurd (h refl)
    go false true c x y z h = absurd (h refl)
    go false false true x y z h = absurd (h refl)
    go false false false x y z h = record { behind = ltb-false start piece.start x; before = ltb-false (length piece.bytes.now) (start - piece.start) y; room = ltb-false (length piece.bytes.now - (start - piece.start)) len z }

pub inside_there : (piece : FilePiece) (start len : ℕ) → IsInside piece start len → part_in piece start len ≢ none
inside_there piece start len is e =
    let found : Option (List ℕ) = Some (take len (drop (start - piece.start) piece.bytes.now)) in
    let a = ap (λ b. cond b none (cond (nat_lt (length piece.bytes.now) (start - piece.start)) none (cond (nat_lt (length piece.bytes.now - (start - piece.start)) len) none found))) (le-ltb start piece.start is.behind) in
    let b = ap (λ b. cond b none (cond (nat_lt (length piece.bytes.now - (start - piece.start)) len) none found)) (le-ltb (length piece.bytes.now) (start - piece.start) is.before) in
    let c = ap (λ b. cond b none found) (le-ltb (length piece.bytes.now - (start - piece.start)) len is.room) in
    let bad : found ≡ none = sym (a ∙ (b ∙ c)) ∙ e in
    cc

part_there : (piece : FilePiece) (start len at n : ℕ) → start ≤ at → at + n ≤ start + len → part_in piece start len ≢ none → part_in piece at n ≢ none
part_there piece start len at n from until there =
    let is = is_inside piece start len there in
    inside_there piece at n (record { behind = omega (arith, is.behind, from); before = omega (arith, is.behind, is.before, is.room, from, until); room = omega (arith, is.behind, is.before, is.room, from, until) })

pub else_there : (a b : Option (List ℕ)) → a ≢ none → or_else a b ≢ none
else_there None b there e = there refl
else_there (Some x) b there e = there e

pub behind_there : (a b : Option (List ℕ)) → b ≢ none → or_else a b ≢ none
behind_there None b there e = there e
behind_there (Some x) b there e = cc

held_there : (pieces : List FilePiece) (start len at n : ℕ) → start ≤ at → at + n ≤ start + len → held_in pieces start len ≢ none → held_in pieces at n ≢ none
held_there [] start len at n from until there = there
held_there (piece ∷ pieces) start len at n from until there = go (part_in piece start len) refl there (λ h. held_there pieces start len at n from until h)
  where
    go : (o : Option (List ℕ)) → part_in piece start len ≡ o → or_else o (held_in pieces start len) ≢ none → (held_in pieces start len ≢ none → held_in pieces at n ≢ none) → or_else (part_in piece at n) (held_in pieces at n) ≢ none
    go None e h behind = behind_there (part_in piece at n) (held_in pieces at n) (behind h)
    go (Some x) e h behind = else_there (part_in piece at n) (held_in pieces at n) (part_there piece start len at n from until (λ no. let bad : Some x ≡ none = sym e ∙ no in cc))

-- a part of a range that a piece holds
pub range_there : (pieces : List FilePiece) (rs : List FileRange) (at n : ℕ) → AreHeld pieces rs → SomeRange (HasPart at n) rs → held_in pieces at n ≢ none
range_there pieces [] at n held h = absurd h
range_there pieces (r ∷ rs) at n held (inl h) = held_there pieces r.start r.len at n h.0 h.1 held.0
range_there pieces (r ∷ rs) at n held (inr h) = range_there pieces rs at n held.1 h

-- where each part that is asked for is held, want of memory is the one cause
pub held_memory : (A : ℕ → ℕ → Type 0) (pieces : List FilePiece) (e : LeafError) → ((at len : ℕ) → A at len → held_in pieces at len ≢ none) → LacksPart A pieces e → IsMemory e
held_memory A pieces (faults.Memory a) there cause = tt
held_memory A pieces (faults.Missing at) there cause = absurd (there at cause.0 cause.1 cause.2)
held_memory A pieces (faults.Corrupt section) there cause = absurd cause

pub wider_part : (rs : List FileRange) (start len at n : ℕ) → start ≤ at → at + n ≤ start + len → SomeRange (HasPart start len) rs → SomeRange (HasPart at n) rs
wider_part [] start len at n from until h = absurd h
wider_part (r ∷ rs) start len at n from until (inl h) = inl (omega (arith, from, h.0), omega (arith, until, h.1))
wider_part (r ∷ rs) start len at n from until (inr h) = inr (wider_part rs start len at n from until h)

-- ---- the parts of documents lie in their section

joined_within : (xs : List (List ℕ)) (i : ℕ) (x : List ℕ) → slice_get xs i ≡ Some x → length (joined (take i xs)) + length x ≤ length (joined xs)
joined_within [] i x got = absurd (cc)
joined_within (y ∷ ys) zero x got = let same : y ≡ x = cc in omega (arith, ap length same, length-append y (joined ys))
joined_within (y ∷ ys) (suc i) x got = let h = joined_within ys i x got in omega (arith, h, length-append y (joined (take i ys)), length-append y (joined ys))

module _ (v : PartView) (s : Schema) (ds : List Placed) (p : Parts) (part : IsPartOf v s ds p) where
  documents_long : v.footer.layout.sections.documents ≡ 8 * (length ds + 1) + length (joined (each_in_bytes p.partitions ds))
  documents_long =
      let xs = each_in_bytes p.partitions ds in
      let same : v.footer.layout.sections.documents ≡ length p.documents = ap (λ (l : Sections). l.documents) part.footer.layout.sections in
      let whole : length p.documents ≡ length (flat_map eight (starts 0 xs) ++ joined xs) = ap length part.is_split.documents_are in
      let many = length-each p.partitions ds in
      omega (arith, same, whole, length-append (flat_map eight (starts 0 xs)) (joined xs), length-starts 0 xs, many)

  pub document_within : (number at len : ℕ) → number < length ds → AsksDocument p ds number at len → (4 ≤ at) × (at + len ≤ 4 + v.footer.layout.sections.documents)
  document_within number at len lt (inl h) = (omega (arith, h.0), omega (arith, h.0, h.1, lt, documents_long))
  document_within number at len lt (inr h) =
      let inside = joined_within (each_in_bytes p.partitions ds) number (placed_bytes p.partitions h.0) (each_at p.partitions ds number h.0 h.1) in
      (omega (arith, h.2), omega (arith, h.2, h.3, inside, documents_long))

  -- each part that a request asks for lies in a range that it needs
  pub part_needed : (r : LeafRequest) (blocks lists : List FileRange) → AreRangesOf (NeedsBlocks v s ds p r) blocks → AreRangesOf (NeedsLists v s ds p r) lists → (at len : ℕ) → AsksLeaf v s ds p r at len
      → SomeRange (HasPart at len) blocks ⊎ SomeRange (HasPart at len) lists
  part_needed r blocks lists b l at len (inl h) = inl (b.cover at len h)
  part_needed r blocks lists b l at len (inr (inl h)) = inr (l.cover at len (inl h))
  part_needed r blocks lists b l at len (inr (inr (inl h))) = inr (l.cover at len (inr (inl (inl h))))
  part_needed r blocks lists b l at len (inr (inr (inr (inl h)))) = inr (l.cover at len (inr (inl (inr (inl h)))))
  part_needed r blocks lists b l at len (inr (inr (inr (inr h)))) = hits h.wanted h.asks
    where
      hits : 0 < r.wanted → AsksHits v p ds r.order r.wanted (numbers_of (passes s r) ds) at len → SomeRange (HasPart at len) blocks ⊎ SomeRange (HasPart at len) lists
      hits wanted (inl f) = inr (l.cover at len (inr (inl (inr (inr (wanted, f))))))
      hits wanted (inr d) =
          let within = document_within d.number at len (shown_below s r ds d.number d.among) d.document in
          inr (wider_part lists 4 v.footer.layout.sections.documents at len within.0 within.1 (l.cover 4 v.footer.layout.sections.documents (inr (inr (wanted, refl, refl)))))

  pub needed_memory : (r : LeafRequest) (blocks lists : List FileRange) (e : LeafError) → AreRangesOf (NeedsBlocks v s ds p r) blocks → AreRangesOf (NeedsLists v s ds p r) lists → AreHeld v.pieces blocks → AreHeld v.pieces lists
      → LacksPart (AsksLeaf v s ds p r) v.pieces e → IsMemory e
  needed_memory r blocks lists e b l held_blocks held_lists cause =
      held_memory (AsksLeaf v s ds p r) v.pieces e
      (λ at len asked. elim (part_needed r blocks lists b l at len asked) [ inl x ↦ range_there v.pieces blocks at len held_blocks x | inr y ↦ range_there v.pieces lists at len held_lists y ]) cause

  -- an answer whose fault is one of a part that is asked for is one, or want of memory, where the ranges that are needed are held
  pub needed_result : {X : Type 0} (good : X → Type 0) (result : Result X LeafError) (r : LeafRequest) (blocks lists : List FileRange) → AreRangesOf (NeedsBlocks v s ds p r) blocks → AreRangesOf (NeedsLists v s ds p r) lists
      → AreHeld v.pieces blocks → AreHeld v.pieces lists → MatchResult result good (LacksPart (AsksLeaf v s ds p r) v.pieces) → MatchResult result good IsMemory
  needed_result good (Ok x) r blocks lists b l held_blocks held_lists h = h
  needed_result good (Err e) r blocks lists b l held_blocks held_lists h = needed_memory r blocks lists e b l held_blocks held_lists h
