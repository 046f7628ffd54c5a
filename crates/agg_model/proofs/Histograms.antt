-- The buckets of the steps that are shown.
use Rattle.std.proofs.Common.{◌≡◌, ℕ, suc, ◌<◌, ◌+◌, ◌^◌, Bool, true, false, cond, List, [], ◌∷◌, map, filter, nat_le, Some, refl, sym, ◌∙◌, ap, arith, length, get_or, ℤ, pos, ◌+ℤ◌, ◌-ℤ◌, ◌*ℤ◌, ◌≤ℤ◌, unwrap_or, slice_get}
use Rattle.std.proofs.lemmas.Bool.Decides.{Decides-int_eq}
use Rattle.std.proofs.lemmas.Int.{ints}
use Rattle.std.specs.List.Sorted.{IsStrictlySortedBy}
use Rattle.std.proofs.lemmas.Map.Entries.{btree_map_get_place}
use Rattle.std.proofs.lemmas.Option.{slice_get-get_or, none-some, same_Some, MatchOption-at_some}
use Rattle.std.specs.BTreeMap.{BTreeMap, get, IsOrdered}
use Rattle.std.specs.Cmp.{int_cmp_total}
use Rattle.std.specs.Int.RustNames.{unsigned_abs}
use Rattle.std.specs.Map.{lookup, keys_of}
use Rattle.std.specs.Option.{IfSome}
use Rattle.std.specs.Ordering.{int_cmp, int_eq}
use Rattle.agg_model.specs.Answers.{step_bucket}
use Rattle.agg_model.specs.Partials.{IsStep}
use Rattle.agg_model.specs.Spans.{last_step, span, spread, steps_with}
use Rattle.agg_model.specs.declared.answer.Bucket.{Bucket}
use Rattle.agg_model.proofs.Rising.{rising_keys, last_above, last_found, difference}
use Rattle.agg_model.proofs.Shown.{length_span}
use Rattle.agg_model.proofs.Spreads.{near_between}

pub map_same : (f g : ℤ → Bucket) → ((z : ℤ) → f z ≡ g z) → (xs : List ℤ) → map f xs ≡ map g xs
map_same f g h [] = refl
map_same f g h (x ∷ xs) = rw (h x, map_same f g h xs) refl

-- what an entry counts is what is counted in its step
pub entry_counts : (m : BTreeMap ℤ ℕ) (count : ℤ → ℕ) → IsOrdered int_cmp m → ((z : ℤ) → unwrap_or (get int_cmp m z) 0 ≡ count z)
    → (i : ℕ) (d : ℤ × ℕ) → i < length m.entries → (get_or m.entries i d).1 ≡ count (get_or m.entries i d).0
entry_counts m count ordered same i d l =
    ap (λ o. unwrap_or o 0) (sym (btree_map_get_place int_cmp_total m i (get_or m.entries i d).0 (get_or m.entries i d).1 ordered (slice_get-get_or m.entries i d l))) ∙ same (get_or m.entries i d).0

pub kept_buckets : (interval offset : ℤ) (least : ℕ) (count : ℤ → ℕ) (es : List (ℤ × ℕ)) → ((i : ℕ) (d : ℤ × ℕ) → i < length es → (get_or es i d).1 ≡ count (get_or es i d).0)
    → map (λ e. step_bucket interval offset (λ _. e.1) e.0) (filter (λ e. nat_le least e.1) es) ≡ map (step_bucket interval offset count) (steps_with least es)
kept_buckets interval offset least count [] h = refl
kept_buckets interval offset least count (e ∷ es) h = at (nat_le least e.1) (kept_buckets interval offset least count es (λ i d l. h (suc i) d (omega arith)))
  where
    at : (b : Bool) → map (λ w. step_bucket interval offset (λ _. w.1) w.0) (filter (λ w. nat_le least w.1) es) ≡ map (step_bucket interval offset count) (steps_with least es)
        → map (λ w. step_bucket interval offset (λ _. w.1) w.0) (cond b (e ∷ filter (λ w. nat_le least w.1) es) (filter (λ w. nat_le least w.1) es))
        ≡ map (step_bucket interval offset count) (map (λ w. w.0) (cond b (e ∷ filter (λ w. nat_le least w.1) es) (filter (λ w. nat_le least w.1) es)))
    at true k = rw (h 0 e (omega arith), k) refl
    at false k = k

pub spread_span : (es : List (ℤ × ℕ)) (first : ℤ) (n : ℕ) → slice_get es 0 ≡ Some (first, n) → spread es ≡ span first (length (spread es))
spread_span [] first n f = absurd (none-some (first, n) f)
spread_span (e ∷ es) first n f =
    let low : e.0 ≡ first = ap (λ (p : ℤ × ℕ). p.0) (same_Some e (first, n) f) in
    rw (length_span e.0 (unsigned_abs (last_step e.0 es -ℤ e.0) + 1)) (ap (λ z. span z (unsigned_abs (last_step e.0 es -ℤ e.0) + 1)) low)

-- each step from the least to the greatest begins near 0
pub span_near : (number : ℕ) (interval offset : ℤ) (es : List (ℤ × ℕ)) (first : ℤ) (n : ℕ) → IsStrictlySortedBy int_cmp (keys_of es)
    → ((z : ℤ) → IfSome (lookup (int_eq z) es) (IsStep number interval offset z)) → slice_get es 0 ≡ Some (first, n)
    → (k : ℕ) → k < length (spread es) → unsigned_abs ((first +ℤ pos k) *ℤ interval) < 2 ^ 98
span_near number interval offset [] first n sorted near f k l = absurd (none-some (first, n) f)
span_near number interval offset (e ∷ es) first n sorted near f k l =
    let low : e.0 ≡ first = ap (λ (p : ℤ × ℕ). p.0) (same_Some e (first, n) f) in
    let rise = rising_keys (keys_of (e ∷ es)) sorted in
    let top : e.0 ≤ℤ last_step e.0 es = last_above e.0 es rise.0 rise.1 in
    let last = last_found e.0 e.1 es rise in
    let near_last = MatchOption-at_some (Unit {0}) (IsStep number interval offset (last_step e.0 es)) last.0 last.1 (near (last_step e.0 es)) in
    let near_first = MatchOption-at_some (Unit {0}) (IsStep number interval offset e.0) e.1 (ap (λ b. cond b (Some e.1) (lookup (int_eq e.0) es)) ((Decides-int_eq e.0 e.0).1 refl)) (near e.0) in
    let many : k < unsigned_abs (last_step e.0 es -ℤ e.0) + 1 = rw length_span at l in
    let gap = difference (last_step e.0 es) e.0 top in
    rw (← low) (near_between e.0 (e.0 +ℤ pos k) (last_step e.0 es) interval (2 ^ 98) (omega (arith, ints)) (omega (arith, ints)) near_first.place.near near_last.place.near)
