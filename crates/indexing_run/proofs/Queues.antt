-- The queue of a batch, and its parts, as the code keeps them.
use Rattle.std.proofs.Common.{◌≡◌, ℕ, zero, suc, ◌+◌, ◌-◌, ◌<◌, List, [], ◌∷◌, ◌++◌, refl, sym, ap, ◌∙◌, inl, inr, Bool, true, false, length, drop, get_or, set, leb, arith, bytes_eq, length-drop}
use Rattle.std.proofs.Math.Seq.{drop-cons, set-append_seam, get_or-append_seam}
use Rattle.std.proofs.lemmas.Bool.Decides.{nat_tests}
use Rattle.std.proofs.lemmas.List.{length-append}
use Rattle.source_checkpoint.specs.declared.delta.Part.{Part}
use Rattle.source_checkpoint.proofs.Ranges.{partition_itself}
use Rattle.indexing_run.specs.Making.{IsNew, Follows}
use Rattle.indexing_run.specs.Steps.{is_empty, extended}
use Rattle.indexing_run.proofs.Batches.{extended-new, extended-last}

-- ---- what is left

above_none : (n : ℕ) → false ≡ leb (suc n) 0
above_none n = grind (arith, nat_tests)

empty_none : {X : Type 0} (xs : List X) → is_empty xs ≡ leb (length xs) 0
empty_none [] = refl
empty_none (x ∷ xs) = above_none (length xs)

pub empty_left : {X : Type 0} (xs : List X) (n : ℕ) → leb (length xs) n ≡ is_empty (drop n xs)
empty_left xs n = same (length xs) (length (drop n xs)) (length-drop n xs) ∙ sym (empty_none (drop n xs))
  where
    same : (a b : ℕ) → b ≡ a - n → leb a n ≡ leb b 0
    same a b e = grind (e, arith, nat_tests)

pub next_left : {X : Type 0} (xs : List X) (n : ℕ) (x : X) (rest : List X) → drop n xs ≡ x ∷ rest → drop (n + 1) xs ≡ rest
next_left {X} xs n x rest e = by (n_in xs n x rest e)
  where
    n_in : (xs : List X) (n : ℕ) (x : X) (rest : List X) → drop n xs ≡ x ∷ rest → n < length xs
    n_in xs n x rest e = let d = length-drop n xs in let l = ap length e in omega (arith, d, l)

    by : n < length xs → drop (n + 1) xs ≡ rest
    by low = let c = drop-cons xs n x low in let s : n + 1 ≡ suc n = omega arith in ap (λ k. drop k xs) s ∙ cc

-- ---- more parts

new_at : (parts : List Part) (name : List ℕ) (k : ℕ) (d : Part) → IsNew parts name → k < length parts → bytes_eq (get_or parts k d).partition name ≡ false
new_at [] name k d h low = absurd (omega (arith, low))
new_at (p ∷ parts) name zero d h low = h.0
new_at (p ∷ parts) name (suc k) d h low = new_at parts name k d h.1 (omega (arith, low))

pub true_or_false : (b : Bool) → b ≡ true → b ≡ false → ⊥
true_or_false b t f = absurd (cc (sym t ∙ f))

get_same : {X : Type 0} (xs : List X) (n : ℕ) (a b : X) → n < length xs → get_or xs n a ≡ get_or xs n b
get_same [] n a b low = absurd (omega (arith, low))
get_same (x ∷ xs) zero a b low = refl
get_same (x ∷ xs) (suc n) a b low = get_same xs n a b (omega (arith, low))

-- the part that was read is the last one
pub same_read : (parts : List Part) (n : ℕ) (a b : Part) → suc n ≡ length parts → a ≡ get_or parts n a → b ≡ get_or parts n b → a ≡ b
same_read parts n a b e at bt = at ∙ get_same parts n a b (omega (arith, e)) ∙ sym bt

-- the last part is this partition's
pub extends_last : (parts : List Part) (name : List ℕ) (from to n : ℕ) (last : Part) → Follows parts (record { partition = name; at = from }) → suc n ≡ length parts → last ≡ get_or parts n last →
    bytes_eq last.partition name ≡ true → set parts n (record last { to = to }) ≡ extended parts name from to
extends_last parts name from to n last (inl new) e at same =
    absurd (true_or_false (bytes_eq last.partition name) same (ap (λ p. bytes_eq p.partition name) at ∙ new_at parts name n last new (omega (arith, e))))
extends_last parts name from to n last (inr l) e at same =
    ap (λ ps. set ps n (record last { to = to })) l.is ∙ ap (λ k. set (l.front ++ own ∷ []) k (record last { to = to })) n_is ∙ set-append_seam l.front own [] (record last { to = to })
    ∙ ap (λ p. l.front ++ record p { to = to } ∷ []) last_is ∙ sym (extended-last l.front name l.from from from to l.new) ∙ ap (λ ps. extended ps name from to) (sym l.is)
  where
    own : Part
    own = record { partition = name; from = l.from; to = from }

    n_is : n ≡ length l.front
    n_is = let a = length-append l.front (own ∷ []) in let k = ap length l.is in omega (arith, a, k, e)

    last_is : last ≡ own
    last_is = at ∙ ap (λ ps. get_or ps n last) l.is ∙ ap (λ k. get_or (l.front ++ own ∷ []) k last) n_is ∙ get_or-append_seam l.front own [] last

-- the last part is another partition's, or there is none
pub extends_new : (parts : List Part) (name : List ℕ) (from to : ℕ) → Follows parts (record { partition = name; at = from }) →
    ((n : ℕ) (last : Part) → suc n ≡ length parts → last ≡ get_or parts n last → bytes_eq last.partition name ≡ true → ⊥) →
    parts ++ record { partition = name; from = from; to = to } ∷ [] ≡ extended parts name from to
extends_new parts name from to (inl new) other = sym (extended-new parts name from to new)
extends_new parts name from to (inr l) other = absurd (other (length l.front) own long (sym last_is) (partition_itself name name refl))
  where
    own : Part
    own = record { partition = name; from = l.from; to = from }

    long : suc (length l.front) ≡ length parts
    long = let a = length-append l.front (own ∷ []) in let k = ap length l.is in omega (arith, a, k)

    last_is : get_or parts (length l.front) own ≡ own
    last_is = ap (λ ps. get_or ps (length l.front) own) l.is ∙ get_or-append_seam l.front own [] own
