-- The blocks that an index gives, and what they have.
use Rattle.std.proofs.Common.{◌≡◌, ◌≢◌, ℕ, zero, suc, ◌+◌, ◌-◌, ◌*◌, ◌<◌, ◌≤◌, Bool, true, false, not, ◌&&◌, List, [], ◌∷◌, ◌++◌, length, take, drop, Some, None, refl, sym, ◌∙◌, ap, subst, arith, inl, inr, append_assoc, length-drop, length-take}
use Rattle.std.specs.Prelude.{◌||◌, slice_get, filter, nat_eq}
use Rattle.std.specs.List.{AllByRecursion, starts_with}
use Rattle.std.proofs.lemmas.Bool.{cases_lt, ne_eqb}
use Rattle.std.proofs.lemmas.List.{append-nil, take-append-drop, take-take, drop-drop, drop-take, drop_all}
use Rattle.std.proofs.lemmas.List.Elements.{filter-append}
use Rattle.term_dict.specs.Keys.{is_below}
use Rattle.term_dict.specs.Terms.{IsDict, IsRising, area, lookup}
use Rattle.term_dict.specs.Blocks.{IsAround}
use Rattle.term_dict.specs.Chosen.{AreUpTo, last_block}
use Rattle.term_dict.specs.Bounds.{AreInFront, last_number, block_terms, joined, IsBlockAt, place_in}
use Rattle.term_dict.specs.declared.term.Term.{Term}
use Rattle.term_dict.specs.declared.index.BlockStart.{BlockStart}
use Rattle.term_dict.proofs.Orders.{below_then}
use Rattle.term_dict.proofs.Runs.{AreBelow, AreAbove, lookup_behind, lookup_front, lookup_none}
use Rattle.term_dict.proofs.Ranges.{IsRange, none_wanted, behind_prefix}
use Rattle.term_dict.proofs.Starts.{get_some, block_at, around, below_block, above_block, starts_within, take_terms, drop_terms, take_bytes_of, drop_bytes_of}

-- ---- one block and what is behind it

block_parts : (terms : List Term) (number : ℕ) → drop (64 * number) terms ≡ block_terms terms number ++ drop (64 * (number + 1)) terms
block_parts terms number =
    let step : 64 * number + 64 ≡ 64 * (number + 1) = omega arith in
    sym (take-append-drop 64 (drop (64 * number) terms))
    ∙ ap (λ (l : List Term). block_terms terms number ++ l) (drop-drop 64 (64 * number) terms ∙ ap (λ (i : ℕ). drop i terms) step)

-- ---- so many blocks in a row

blocks_joined : (wanted : Term → Bool) (terms : List Term) (number n : ℕ)
    → filter wanted (drop (64 * number) terms) ≡ joined (filter wanted) terms number n ++ filter wanted (drop (64 * (number + n)) terms)
blocks_joined wanted terms number zero =
    let same : 64 * number ≡ 64 * (number + 0) = omega arith in
    ap (λ (i : ℕ). filter wanted (drop i terms)) same
blocks_joined wanted terms number (suc n) =
    let same : 64 * (number + 1 + n) ≡ 64 * (number + suc n) = omega arith in
    ap (λ (l : List Term). filter wanted l) (block_parts terms number)
    ∙ filter-append wanted (block_terms terms number) (drop (64 * (number + 1)) terms)
    ∙ ap (λ (l : List Term). filter wanted (block_terms terms number) ++ l)
    (blocks_joined wanted terms (number + 1) n ∙ ap (λ (i : ℕ). joined (filter wanted) terms (number + 1) n ++ filter wanted (drop i terms)) same)
    ∙ sym (append_assoc (filter wanted (block_terms terms number)) (joined (filter wanted) terms (number + 1) n) (filter wanted (drop (64 * (number + suc n)) terms)))

-- ---- what no block between the two has

abbrev AreUnwanted : (List ℕ → Bool) → List Term → Type 0
AreUnwanted wanted ts = AllByRecursion (λ t. wanted t.key ≡ false) ts

below_unwanted : (low : List ℕ) (wanted before_end : List ℕ → Bool) (r : IsRange low wanted before_end) (ts : List Term) → AreBelow low ts → AreUnwanted wanted ts
below_unwanted low wanted before_end r [] h = tt
below_unwanted low wanted before_end r (t ∷ ts) h = (r.out t.key h.0, below_unwanted low wanted before_end r ts h.1)

drop_unwanted : (wanted : List ℕ → Bool) (n : ℕ) (ts : List Term) → AreUnwanted wanted ts → AreUnwanted wanted (drop n ts)
drop_unwanted wanted zero ts h = h
drop_unwanted wanted (suc n) [] h = tt
drop_unwanted wanted (suc n) (t ∷ ts) h = drop_unwanted wanted n ts h.1

further_unwanted : (wanted : List ℕ → Bool) (terms : List Term) (m n : ℕ) → m ≤ n → AreUnwanted wanted (drop m terms) → AreUnwanted wanted (drop n terms)
further_unwanted wanted terms m n le h =
    let sum : m + (n - m) ≡ n = omega arith in
    subst (λ (l : List Term). AreUnwanted wanted l) (drop-drop (n - m) m terms ∙ ap (λ (i : ℕ). drop i terms) sum) (drop_unwanted wanted (n - m) (drop m terms) h)

-- where the blocks up to the first are below, and nothing behind the last is wanted
pub range_of_blocks : (low : List ℕ) (wanted before_end : List ℕ → Bool) (r : IsRange low wanted before_end) (terms : List Term) (start end : ℕ)
    → AreBelow low (take (64 * start) terms) → AreUnwanted wanted (drop (64 * end) terms)
    → filter (λ t. wanted t.key) terms ≡ joined (filter (λ t. wanted t.key)) terms start (end - start)
range_of_blocks low wanted before_end r terms start end below behind =
    let front : filter (λ t. wanted t.key) (take (64 * start) terms) ≡ [] = none_wanted wanted (take (64 * start) terms) (below_unwanted low wanted before_end r (take (64 * start) terms) below) in
    let past : 64 * end ≤ 64 * (start + (end - start)) = omega arith in
    let none : filter (λ t. wanted t.key) (drop (64 * (start + (end - start))) terms) ≡ [] =
    none_wanted wanted (drop (64 * (start + (end - start))) terms) (further_unwanted wanted terms (64 * end) (64 * (start + (end - start))) past behind) in
    ap (λ (l : List Term). filter (λ t. wanted t.key) l) (sym (take-append-drop (64 * start) terms))
    ∙ filter-append (λ (t : Term). wanted t.key) (take (64 * start) terms) (drop (64 * start) terms)
    ∙ ap (λ (l : List Term). l ++ filter (λ t. wanted t.key) (drop (64 * start) terms)) front
    ∙ blocks_joined (λ (t : Term). wanted t.key) terms start (end - start)
    ∙ ap (λ (l : List Term). joined (filter (λ t. wanted t.key)) terms start (end - start) ++ l) none
    ∙ append-nil (joined (filter (λ t. wanted t.key)) terms start (end - start))

-- ---- where the first block begins

pub first_below : (bytes : List ℕ) (index : List BlockStart) (terms : List Term) (low : List ℕ) (count start : ℕ) → IsDict bytes index terms → AreUpTo index low count → start ≡ count - 1
    → AreBelow low (take (64 * start) terms)
first_below bytes index terms low count start d up e = elim (cases_lt 0 count) [
  | inl some ↦ below_block bytes index terms low start d (omega (arith, up.within)) (λ b at. up.up_to b start (omega arith) at)
  | inr none ↦
      let zeroth : 0 ≡ 64 * start = omega arith in
      subst (λ (i : ℕ). AreBelow low (take i terms)) zeroth tt
]

-- ---- where the last block ends

all_above_unwanted : (wanted : List ℕ → Bool) (first : List ℕ) (ts : List Term) → ((k : List ℕ) → is_below first k ≡ true → wanted k ≡ false) → AreAbove first ts → AreUnwanted wanted ts
all_above_unwanted wanted first [] h above = tt
all_above_unwanted wanted first (t ∷ ts) h above = (h t.key above.0, all_above_unwanted wanted first ts h above.1)

drop_from : (wanted : List ℕ → Bool) (ts : List Term) (n : ℕ) (t : Term) → IsRising ts → slice_get ts n ≡ Some t → wanted t.key ≡ false → ((k : List ℕ) → is_below t.key k ≡ true → wanted k ≡ false)
    → AreUnwanted wanted (drop n ts)
drop_from wanted [] n t rising at here h = absurd cc
drop_from wanted (x ∷ xs) zero t rising at here h =
    let same : t ≡ x = cc in
    let first : wanted x.key ≡ false = subst (λ (y : Term). wanted y.key ≡ false) same here in
    let rest : (k : List ℕ) → is_below x.key k ≡ true → wanted k ≡ false = subst (λ (y : Term). (k : List ℕ) → is_below y.key k ≡ true → wanted k ≡ false) same h in
    (first, all_above_unwanted wanted x.key xs rest rising.0)
drop_from wanted (x ∷ xs) (suc n) t rising at here h = drop_from wanted xs n t rising.1 at here h

nil_unwanted : (wanted : List ℕ → Bool) (ts : List Term) → ts ≡ [] → AreUnwanted wanted ts
nil_unwanted wanted [] e = tt
nil_unwanted wanted (t ∷ ts) e = absurd cc

-- what a test shuts out: a key at which it fails is not wanted, and no key behind it
pub record Shuts (wanted test : List ℕ → Bool) : Type 0 where
  pub here : (first : List ℕ) → test first ≡ false → wanted first ≡ false
  pub behind : (first k : List ℕ) → test first ≡ false → is_below first k ≡ true → wanted k ≡ false

pub behind_unwanted : (bytes : List ℕ) (index : List BlockStart) (terms : List Term) (wanted test : List ℕ → Bool) (end : ℕ) → IsDict bytes index terms → Shuts wanted test → AreInFront index test end
    → AreUnwanted wanted (drop (64 * end) terms)
behind_unwanted bytes index terms wanted test end d shuts front =
    elim (cases_lt end (length index)) [
      | inl lt ↦
          let b = get_some index end lt in
          let at = block_at bytes index terms end b.0 d b.1 in
          let fails : test at.0.key ≡ false = subst (λ (k : List ℕ). test k ≡ false) at.2 (front.behind b.0 b.1) in
          drop_from wanted terms (64 * end) at.0 d.are_terms.rising at.1 (shuts.here at.0.key fails) (λ k above. shuts.behind at.0.key k fails above)
      | inr le ↦ nil_unwanted wanted (drop (64 * end) terms) (drop_all (64 * end) terms (omega (arith, d.index_is.count)))
    ]

or_left : (a b : Bool) → (a || b) ≡ false → a ≡ false
or_left false b e = refl
or_left true b e = absurd cc

or_right : (a b : Bool) → (a || b) ≡ false → b ≡ false
or_right false b e = e
or_right true b e = absurd cc

pub prefix_shuts : (prefix : List ℕ) → Shuts (λ k. starts_with nat_eq k prefix) (λ first. is_below first prefix || starts_with nat_eq first prefix)
prefix_shuts prefix = record {
  here = λ first fails. or_right (is_below first prefix) (starts_with nat_eq first prefix) fails;
  behind = λ first k fails above. behind_prefix prefix first k (or_left (is_below first prefix) (starts_with nat_eq first prefix) fails) (or_right (is_below first prefix) (starts_with nat_eq first prefix) fails) above;
}

-- ---- the block of a key

pub in_no_block : (bytes : List ℕ) (index : List BlockStart) (terms : List Term) (key : List ℕ) (count : ℕ) → IsDict bytes index terms → AreUpTo index key count → count ≡ 0 → lookup key terms ≡ None
in_no_block bytes index terms key count d up e = lookup_none key terms (above_block bytes index terms key 0 d (λ b at. up.behind b (rw e at)))

pub in_block : (bytes : List ℕ) (index : List BlockStart) (terms : List Term) (key : List ℕ) (count number : ℕ) → IsDict bytes index terms → AreUpTo index key count → count ≡ number + 1
    → lookup key terms ≡ lookup key (block_terms terms number)
in_block bytes index terms key count number d up e =
    let below = below_block bytes index terms key number d (omega (arith, up.within)) (λ b at. up.up_to b number (sym e) at) in
    let above = above_block bytes index terms key (number + 1) d (λ b at. up.behind b (rw e at)) in
    ap (λ (l : List Term). lookup key l) (sym (take-append-drop (64 * number) terms))
    ∙ lookup_behind key (take (64 * number) terms) (drop (64 * number) terms) below
    ∙ ap (λ (l : List Term). lookup key l) (block_parts terms number)
    ∙ lookup_front key (block_terms terms number) (drop (64 * (number + 1)) terms) above

-- ---- where a block stands

pub stands_at : (bytes : List ℕ) (index : List BlockStart) (terms : List Term) (number start end : ℕ) → IsDict bytes index terms → number < length index → start ≡ length (area (take (64 * number) terms))
    → end ≡ length (area (take (64 * (number + 1)) terms)) → IsBlockAt bytes terms number start end
stands_at bytes index terms number start end d lt start_is end_is =
    let m = 64 * number in
    let n = 64 * (number + 1) in
    let sum : 64 * (number + 1) ≡ 64 * number + 64 = omega arith in
    let inside : drop (64 * number) (take (64 * (number + 1)) terms) ≡ block_terms terms number =
    ap (λ (i : ℕ). drop (64 * number) (take i terms)) sum ∙ drop-take (64 * number) 64 terms in
    let cut : length (area (take m (take n terms))) ≡ length (area (take m terms)) = ap (λ (l : List Term). length (area l)) (take-take m n terms (omega arith)) in
    let some : 0 < length (block_terms terms number) = omega (arith, d.index_is.count, length-take 64 (drop m terms), length-drop m terms) in
    record {
      some = λ none. omega (arith, some, ap (λ (l : List Term). length l) none);
      are_terms = take_terms 64 (drop m terms) (drop_terms m terms d.are_terms);
      start_is = start_is;
      end_is = end_is;
      within = omega (arith, end_is, starts_within n terms, ap (λ (l : List ℕ). length l) d.area_is);
      bytes_are = ap (λ (i : ℕ). drop i (take end bytes)) start_is
          ∙ ap (λ (i : ℕ). drop (length (area (take m terms))) (take i bytes)) end_is
          ∙ ap (λ (l : List ℕ). drop (length (area (take m terms))) (take (length (area (take n terms))) l)) d.area_is
          ∙ ap (λ (l : List ℕ). drop (length (area (take m terms))) l) (take_bytes_of n terms)
          ∙ ap (λ (i : ℕ). drop i (area (take n terms))) (sym cut)
          ∙ drop_bytes_of m (take n terms)
          ∙ ap (λ (l : List Term). area l) inside;
    }

-- the block of a key, with what stands around it
pub around_block : (bytes : List ℕ) (index : List BlockStart) (terms : List Term) (key : List ℕ) (count number start end : ℕ) → IsDict bytes index terms → AreUpTo index key count → count ≡ number + 1
    → start ≡ length (area (take (64 * number) terms)) → end ≡ length (area (take (64 * (number + 1)) terms)) → IsAround bytes terms key start end
around_block bytes index terms key count number start end d up e start_is end_is =
    let below = below_block bytes index terms key number d (omega (arith, up.within)) (λ b at. up.up_to b number (sym e) at) in
    let above = above_block bytes index terms key (number + 1) d (λ b at. up.behind b (rw e at)) in
    rw (start_is, end_is) (around bytes terms key (64 * number) (64 * (number + 1)) d.are_terms d.area_is (omega arith) below above)

-- ---- the number of the last block, and their count

pub count_of_none : (count : ℕ) → None ≡ last_number count → count ≡ 0
count_of_none zero e = refl
count_of_none (suc n) e = absurd cc

pub count_of_some : (count number : ℕ) → Some number ≡ last_number count → count ≡ number + 1
count_of_some zero number e = absurd cc
count_of_some (suc n) number e =
    let same : number ≡ n = cc in
    omega arith

pub last_is : (bytes : List ℕ) (index : List BlockStart) (count number : ℕ) → count ≡ number + 1 → last_block bytes index count ≡ place_in (length bytes) index number
last_is bytes index count number e =
    let some : count ≢ 0 = omega arith in
    let less : count - 1 ≡ number = omega arith in
    rw (ne_eqb count 0 some, less, e) refl
