-- The index of terms is the one that stands for them.
use Rattle.std.proofs.Common.{◌≡◌, ℕ, suc, ◌+◌, ◌*◌, ◌/◌, ◌%◌, ◌≢◌, Bool, true, false, cond, eqb, List, [], ◌∷◌, length, take, Some, refl, sym, ◌∙◌, ap, subst, arith, length-append}
use Rattle.std.specs.Prelude.{slice_get}
use Rattle.std.proofs.lemmas.Bool.{eqb-true, eqb-false}
use Rattle.std.proofs.lemmas.List.{nil_from_length}
use Rattle.term_dict.specs.Terms.{IsIndex, area, term_bytes}
use Rattle.term_dict.specs.declared.term.Term.{Term}
use Rattle.term_dict.specs.declared.index.BlockStart.{BlockStart}
use Rattle.split_form.specs.Blocks.{blocks_from, index_of}

abbrev block : List ℕ → ℕ → BlockStart
block first start = record { first = first; start = start }

-- the blocks that begin among terms, of which the first has that number and that start
record AreBlocks (n start : ℕ) (ts : List Term) (index : List BlockStart) : Type 0 where
  count : length index + (n + 63) / 64 ≡ (n + length ts + 63) / 64
  each : (b i k : ℕ) (t : Term) → 64 * b ≡ n + i → b ≡ (n + 63) / 64 + k → slice_get ts i ≡ Some t
      → slice_get index k ≡ Some (block t.key (start + length (area (take i ts))))

blocks_more : (n start : ℕ) (t : Term) (ts : List Term) (index : List BlockStart) → n % 64 ≢ 0 → AreBlocks n start (t ∷ ts) index → AreBlocks (suc n) (start + length (term_bytes t)) ts index
blocks_more n start t ts index broken h = record {
  count = omega (arith, h.count);
  each = λ b i k u place at get. h.each b (suc i) k u (omega arith) (omega arith) get ∙ ap (λ (m : ℕ). Some (block u.key m)) (omega (arith, length-append (term_bytes t) (area (take i ts))));
}

first_block : (n start : ℕ) (t : Term) (ts : List Term) (x : BlockStart) (xs : List BlockStart) → n % 64 ≡ 0 → AreBlocks n start (t ∷ ts) (x ∷ xs) → x ≡ block t.key start
first_block n start t ts x xs whole h =
    let at : Some x ≡ Some (block t.key (start + 0)) = h.each ((n + 63) / 64) 0 0 t (omega arith) (omega arith) refl in
    let same : x ≡ block t.key (start + 0) = cc in
    same ∙ ap (λ (m : ℕ). block t.key m) (omega arith)

next_blocks : (n start : ℕ) (t : Term) (ts : List Term) (x : BlockStart) (xs : List BlockStart) → n % 64 ≡ 0 → AreBlocks n start (t ∷ ts) (x ∷ xs) → AreBlocks (suc n) (start + length (term_bytes t)) ts xs
next_blocks n start t ts x xs whole h = record {
  count = omega (arith, h.count);
  each = λ b i k u place at get. h.each b (suc i) (suc k) u (omega arith) (omega arith) get ∙ ap (λ (m : ℕ). Some (block u.key m)) (omega (arith, length-append (term_bytes t) (area (take i ts))));
}

blocks_one : (ts : List Term) (n start : ℕ) (index : List BlockStart) → AreBlocks n start ts index → index ≡ blocks_from n start ts
blocks_one [] n start index h = nil_from_length index (omega (arith, h.count))
blocks_one (t ∷ ts) n start index h = by (eqb (n % 64) 0) refl index h (blocks_one ts (suc n) next)
  where
    next : ℕ
    next = start + length (term_bytes t)

    by : (b : Bool) → eqb (n % 64) 0 ≡ b → (xs : List BlockStart) → AreBlocks n start (t ∷ ts) xs → ((ys : List BlockStart) → AreBlocks (suc n) next ts ys → ys ≡ blocks_from (suc n) next ts)
        → xs ≡ cond b (block t.key start ∷ blocks_from (suc n) next ts) (blocks_from (suc n) next ts)
    by true e [] h rest = absurd (omega (arith, h.count, eqb-true (n % 64) 0 e))
    by true e (x ∷ xs) h rest =
        let whole : n % 64 ≡ 0 = eqb-true (n % 64) 0 e in
        ap (λ (y : BlockStart). y ∷ xs) (first_block n start t ts x xs whole h) ∙ ap (λ (l : List BlockStart). block t.key start ∷ l) (rest xs (next_blocks n start t ts x xs whole h))
    by false e xs h rest = rest xs (blocks_more n start t ts xs (eqb-false (n % 64) 0 e) h)

pub index_one : (index : List BlockStart) (terms : List Term) → IsIndex index terms → index ≡ index_of terms
index_one index terms h = blocks_one terms 0 0 index (record {
  count = omega (arith, h.count);
  each = λ b i k t place at get.
      (let this : 64 * b ≡ i = omega arith in
      let same : b ≡ k = omega arith in
      subst (λ (m : ℕ). slice_get index m ≡ Some (block t.key (0 + length (area (take i terms))))) same
      (subst (λ (m : ℕ). slice_get index b ≡ Some (block t.key (0 + length (area (take m terms))))) this
      (h.each b t (subst (λ (m : ℕ). slice_get terms m ≡ Some t) (sym this) get) ∙ ap (λ (m : ℕ). Some (block t.key m)) (omega arith))));
})
