-- The fields of one aggregation of a request are among those of all.
use Rattle.std.proofs.Common.{◌≡◌, ℕ, zero, suc, ◌<◌, List, [], ◌∷◌, ◌++◌, length, get_or, Contains, subst, arith}
use Rattle.std.proofs.lemmas.List.{get_or_default}
use Rattle.std.specs.List.{All}
use Rattle.doc_value.specs.declared.schema.Schema.{Schema}
use Rattle.agg_nested.specs.declared.request.NestedAgg.{NestedAgg}
use Rattle.doc_tallies.specs.AggColumns.{AreOverFast, fields_asked, fields_of}
use Rattle.doc_tallies.specs.Cells.{IsFast}

in_front : {X : Type 0} (xs ys : List X) (n : X) (k : ℕ) → k < length xs → get_or xs k n ≡ n → Contains (xs ++ ys) n
in_front [] ys n k lt e = absurd (omega (arith, lt))
in_front (x ∷ xs) ys n zero lt e = (zero, omega arith, e)
in_front (x ∷ xs) ys n (suc k) lt e = let r = in_front xs ys n k (omega (arith, lt)) e in (suc r.0, omega (arith, r.1), r.2)

behind : {X : Type 0} (xs ys : List X) (n : X) → Contains ys n → Contains (xs ++ ys) n
behind [] ys n h = h
behind (x ∷ xs) ys n h = let r = behind xs ys n h in (suc r.0, omega (arith, r.1), r.2)

pub asked_at : (request : List NestedAgg) (i : ℕ) (asked : NestedAgg) (n : ℕ) → i < length request → asked ≡ get_or request i asked → Contains (fields_of asked) n → Contains (fields_asked request) n
asked_at [] i asked n lt e h = absurd (omega (arith, lt))
asked_at (a ∷ rest) zero asked n lt e h = let there = subst (λ (x : NestedAgg). Contains (fields_of x) n) e h in in_front (fields_of a) (fields_asked rest) n there.0 there.1 there.2
asked_at (a ∷ rest) (suc i) asked n lt e h = behind (fields_of a) (fields_asked rest) n (asked_at rest i asked n (omega (arith, lt)) e h)

pub fast_at : (s : Schema) (request : List NestedAgg) (i : ℕ) (asked : NestedAgg) → i < length request → asked ≡ get_or request i asked → AreOverFast s request → All (IsFast s) (fields_of asked)
fast_at s request i asked lt e fast = λ k d l.
    let n : ℕ = get_or (fields_of asked) k d in
    let there = asked_at request i asked n lt e (k, l, get_or_default (fields_of asked) k n d l) in
    subst (λ (x : ℕ). IsFast s x) there.2 (fast there.0 n there.1)
