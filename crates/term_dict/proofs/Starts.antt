-- The blocks of a dictionary and where they start.
use Rattle.std.proofs.Common.{◌≡◌, ℕ, zero, suc, ◌*◌, ◌<◌, ◌≤◌, true, false, List, [], ◌∷◌, ◌++◌, length, take, drop, Some, refl, sym, ◌∙◌, ap, subst, arith, inl, inr, append_assoc, length-append, length-drop, length-take}
use Rattle.std.specs.Prelude.{slice_get}
use Rattle.std.specs.List.{AllByRecursion}
use Rattle.std.proofs.lemmas.Bool.{cases_lt}
use Rattle.std.proofs.lemmas.List.{take_all, take_at, drop_at, take-take, take-append-drop, drop_all, nil_from_length}
use Rattle.std.proofs.lemmas.List.Concat.{flat_map-append}
use Rattle.std.proofs.lemmas.Option.{slice_get_within}
use Rattle.term_dict.specs.Keys.{is_below}
use Rattle.term_dict.specs.Terms.{AreTerms, Fits, IsDict, area, term_bytes}
use Rattle.term_dict.specs.Blocks.{IsAround}
use Rattle.term_dict.specs.declared.term.Term.{Term}
use Rattle.term_dict.specs.declared.index.BlockStart.{BlockStart}
use Rattle.term_dict.proofs.Areas.{area_nil, term_some}
use Rattle.term_dict.proofs.Runs.{AreBelow, AreAbove, take_below, drop_above, take_rising, drop_rising}

pub get_some : {X : Type 0} (xs : List X) (i : ℕ) → i < length xs → (x : X) × (slice_get xs i ≡ Some x)
get_some [] i lt = absurd (omega arith)
get_some (x ∷ xs) zero lt = (x, refl)
get_some (x ∷ xs) (suc i) lt = get_some xs i (omega arith)

pub area-append : (xs ys : List Term) → area (xs ++ ys) ≡ area xs ++ area ys
area-append xs ys = flat_map-append term_bytes xs ys

-- a dictionary without blocks has no bytes, and the other way round
pub no_bytes : (bytes : List ℕ) (index : List BlockStart) (terms : List Term) → IsDict bytes index terms → index ≡ [] → bytes ≡ []
no_bytes bytes index terms d e =
    let none : length terms ≡ 0 = omega (arith, d.index_is.count, ap (λ (l : List BlockStart). length l) e) in
    d.area_is ∙ ap (λ (l : List Term). area l) (nil_from_length terms none)

pub no_blocks : (bytes : List ℕ) (index : List BlockStart) (terms : List Term) → IsDict bytes index terms → length bytes ≡ 0 → index ≡ []
no_blocks bytes index terms d e =
    let none : terms ≡ [] = area_nil terms (sym (ap (λ (l : List ℕ). length l) d.area_is) ∙ e) in
    nil_from_length index (omega (arith, d.index_is.count, ap (λ (l : List Term). length l) none))

-- ---- where a block starts

pub start_last : (bytes : List ℕ) (index : List BlockStart) (terms : List Term) (n : ℕ) → IsDict bytes index terms → n ≡ length index → length bytes ≡ length (area (take (64 * n) terms))
start_last bytes index terms n d e =
    ap (λ (l : List ℕ). length l) (d.area_is ∙ sym (ap (λ (l : List Term). area l) (take_all (64 * n) terms (omega (arith, d.index_is.count)))))

block_is : (x y : BlockStart) → Some x ≡ Some y → x ≡ y
block_is x y e = cc

-- the block with a number, by the index
pub block_at : (bytes : List ℕ) (index : List BlockStart) (terms : List Term) (n : ℕ) (block : BlockStart) → IsDict bytes index terms → slice_get index n ≡ Some block
    → (t : Term) × (slice_get terms (64 * n) ≡ Some t) × (block.first ≡ t.key) × (block.start ≡ length (area (take (64 * n) terms)))
block_at bytes index terms n block d e =
    let within = slice_get_within index n block e in
    let t = get_some terms (64 * n) (omega (arith, d.index_is.count, within)) in
    let same = block_is block (record { first = t.0.key; start = length (area (take (64 * n) terms)) }) (sym e ∙ d.index_is.each n t.0 t.1) in
    (t.0, t.1, ap (λ (b : BlockStart). b.first) same, ap (λ (b : BlockStart). b.start) same)

-- ---- what stands before, in and behind a block

take_fits : (n : ℕ) (ts : List Term) → AllByRecursion Fits ts → AllByRecursion Fits (take n ts)
take_fits zero ts h = tt
take_fits (suc n) [] h = tt
take_fits (suc n) (t ∷ ts) h = (h.0, take_fits n ts h.1)

drop_fits : (n : ℕ) (ts : List Term) → AllByRecursion Fits ts → AllByRecursion Fits (drop n ts)
drop_fits zero ts h = h
drop_fits (suc n) [] h = tt
drop_fits (suc n) (t ∷ ts) h = drop_fits n ts h.1

pub take_terms : (n : ℕ) (ts : List Term) → AreTerms ts → AreTerms (take n ts)
take_terms n ts h = record { fits = take_fits n ts h.fits; rising = take_rising n ts h.rising }

pub drop_terms : (n : ℕ) (ts : List Term) → AreTerms ts → AreTerms (drop n ts)
drop_terms n ts h = record { fits = drop_fits n ts h.fits; rising = drop_rising n ts h.rising }

-- the bytes of the terms up to a place
pub take_bytes_of : (n : ℕ) (ts : List Term) → take (length (area (take n ts))) (area ts) ≡ area (take n ts)
take_bytes_of n ts =
    ap (λ (l : List ℕ). take (length (area (take n ts))) l) (ap (λ (l : List Term). area l) (sym (take-append-drop n ts)) ∙ area-append (take n ts) (drop n ts))
    ∙ take_at (area (take n ts)) (area (drop n ts)) (length (area (take n ts))) refl

pub drop_bytes_of : (n : ℕ) (ts : List Term) → drop (length (area (take n ts))) (area ts) ≡ area (drop n ts)
drop_bytes_of n ts =
    ap (λ (l : List ℕ). drop (length (area (take n ts))) l) (ap (λ (l : List Term). area l) (sym (take-append-drop n ts)) ∙ area-append (take n ts) (drop n ts))
    ∙ drop_at (area (take n ts)) (area (drop n ts)) (length (area (take n ts))) refl

-- each place is within the area
pub starts_within : (m : ℕ) (ts : List Term) → length (area (take m ts)) ≤ length (area ts)
starts_within m ts =
    let parts : area ts ≡ area (take m ts) ++ area (drop m ts) = ap (λ (l : List Term). area l) (sym (take-append-drop m ts)) ∙ area-append (take m ts) (drop m ts) in
    omega (arith, ap (λ (l : List ℕ). length l) parts, length-append (area (take m ts)) (area (drop m ts)))

-- the terms from the number m up to the number n, and around them those below a key and those above it
pub around : (bytes : List ℕ) (terms : List Term) (key : List ℕ) (m n : ℕ) → AreTerms terms → bytes ≡ area terms → m ≤ n → AreBelow key (take m terms) → AreAbove key (drop n terms)
    → IsAround bytes terms key (length (area (take m terms))) (length (area (take n terms)))
around bytes terms key m n are e le below above =
    let front : take n terms ≡ take m terms ++ drop m (take n terms) =
    sym (take-append-drop m (take n terms)) ∙ ap (λ (l : List Term). l ++ drop m (take n terms)) (take-take m n terms le) in
    let start : length (area (take m (take n terms))) ≡ length (area (take m terms)) = ap (λ (l : List Term). length (area l)) (take-take m n terms le) in
    record {
      before = take m terms;
      inside = drop m (take n terms);
      behind = drop n terms;
      parts = sym (take-append-drop n terms) ∙ ap (λ (l : List Term). l ++ drop n terms) front ∙ append_assoc (take m terms) (drop m (take n terms)) (drop n terms);
      inside_terms = drop_terms m (take n terms) (take_terms n terms are);
      inside_bytes = ap (λ (l : List ℕ). drop (length (area (take m terms))) (take (length (area (take n terms))) l)) e
          ∙ ap (λ (l : List ℕ). drop (length (area (take m terms))) l) (take_bytes_of n terms)
          ∙ ap (λ (i : ℕ). drop i (area (take n terms))) (sym start)
          ∙ drop_bytes_of m (take n terms);
      behind_bytes = ap (λ (l : List ℕ). drop (length (area (take n terms))) l) e ∙ drop_bytes_of n terms;
      below = below;
      above = above;
    }

-- the blocks up to the one that can have a key
pub below_block : (bytes : List ℕ) (index : List BlockStart) (terms : List Term) (key : List ℕ) (n : ℕ) → IsDict bytes index terms → n < length index
    → ((block : BlockStart) → slice_get index n ≡ Some block → is_below key block.first ≡ false) → AreBelow key (take (64 * n) terms)
below_block bytes index terms key n d lt up_to =
    let b = get_some index n lt in
    let at = block_at bytes index terms n b.0 d b.1 in
    let not_above : is_below key at.0.key ≡ false = subst (λ (k : List ℕ). is_below key k ≡ false) at.2 (up_to b.0 b.1) in
    take_below key terms (64 * n) at.0 d.are_terms.rising at.1 not_above

above_nil : (key : List ℕ) (ts : List Term) → ts ≡ [] → AreAbove key ts
above_nil key [] e = tt
above_nil key (t ∷ ts) e = absurd cc

pub above_block : (bytes : List ℕ) (index : List BlockStart) (terms : List Term) (key : List ℕ) (n : ℕ) → IsDict bytes index terms
    → ((block : BlockStart) → slice_get index n ≡ Some block → is_below key block.first ≡ true) → AreAbove key (drop (64 * n) terms)
above_block bytes index terms key n d behind =
    elim (cases_lt n (length index)) [
      | inl lt ↦
          let b = get_some index n lt in
          let at = block_at bytes index terms n b.0 d b.1 in
          let above : is_below key at.0.key ≡ true = subst (λ (k : List ℕ). is_below key k ≡ true) at.2 (behind b.0 b.1) in
          drop_above key terms (64 * n) at.0 d.are_terms.rising at.1 above
      | inr le ↦ above_nil key (drop (64 * n) terms) (drop_all (64 * n) terms (omega (arith, d.index_is.count)))
    ]

-- terms take bytes
area_some : (ts : List Term) → 0 < length ts → 0 < length (area ts)
area_some [] lt = lt
area_some (t ∷ ts) lt = omega (arith, term_some t, length-append (term_bytes t) (area ts))

-- a block has bytes
pub blocks_rise : (m n : ℕ) (ts : List Term) → m < n → m < length ts → length (area (take m ts)) < length (area (take n ts))
blocks_rise m n ts lt within =
    let parts : area (take n ts) ≡ area (take m ts) ++ area (drop m (take n ts)) =
    ap (λ (l : List Term). area l) (sym (take-append-drop m (take n ts))) ∙ area-append (take m (take n ts)) (drop m (take n ts))
    ∙ ap (λ (l : List Term). area l ++ area (drop m (take n ts))) (take-take m n ts (omega arith)) in
    let some : 0 < length (drop m (take n ts)) = omega (arith, length-drop m (take n ts), length-take n ts) in
    omega (arith, ap (λ (l : List ℕ). length l) parts, length-append (area (take m ts)) (area (drop m (take n ts))), area_some (drop m (take n ts)) some)
