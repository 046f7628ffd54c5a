-- Which steps of rising entries are shown.
use Rattle.std.proofs.Common.{negsuc, ◌≡◌, ℕ, ◌<◌, ◌≤◌, ◌+◌, Bool, true, false, cond, List, [], ◌∷◌, map, filter, nat_le, Option, Some, None, refl, sym, ◌∙◌, ap, subst, ⊎_elim, arith, get_or, ℤ, pos, ◌+ℤ◌, ◌-ℤ◌, ◌≤ℤ◌, ◌<ℤ◌, unwrap_or, int_lt, eqb, eq-eqb, ◌≢◌}
use Rattle.std.proofs.lemmas.Bool.{false≢true, leb-true, le-leb, eqb-true, cases_eq}
use Rattle.std.proofs.lemmas.Bool.Decides.{Decides-int_eq}
use Rattle.std.proofs.lemmas.Int.{ints}
use Rattle.std.proofs.lemmas.List.Elements.{Contains-append_cases, Contains-append_right}
use Rattle.std.proofs.lemmas.Map.Keys.{sorted_head, sorted_tail}
use Rattle.std.proofs.lemmas.Option.{none-some, same_Some, MatchOption-at_some}
use Rattle.std.specs.Bool.{MatchBool}
use Rattle.std.specs.Int.RustNames.{unsigned_abs}
use Rattle.std.specs.List.{AllByRecursion, Contains}
use Rattle.std.specs.List.Sorted.{IsStrictlySortedBy}
use Rattle.std.specs.Map.{lookup, keys_of}
use Rattle.std.specs.Option.{IfSome}
use Rattle.std.specs.Ordering.{int_cmp, int_eq}
use Rattle.std.specs.declared.cmp.Ordering.TheVariants.{Less, Equal, Greater}
use Rattle.agg_model.specs.Answers.{IsRising, IsShown, IsBetween, AreShown}
use Rattle.agg_model.specs.Spans.{steps_with, last_step, spread, steps_shown}
use Rattle.agg_model.proofs.Shown.{in_span, span_has, span_rises}

less_is : (x y : ℤ) → int_cmp x y ≡ Less → x <ℤ y
less_is x y h = at (int_lt x y) refl (int_lt y x) h
  where
    at : (b : Bool) → b ≡ int_lt x y → (c : Bool) → cond b Less (cond c Greater Equal) ≡ Less → x <ℤ y
    at true e c h = grind (arith, ints)
    at false e true h = cc
    at false e false h = cc

all_less : (x : ℤ) (ks : List ℤ) → AllByRecursion (λ y. int_cmp x y ≡ Less) ks → AllByRecursion (λ y. x <ℤ y) ks
all_less x [] h = tt
all_less x (k ∷ ks) h = (less_is x k h.0, all_less x ks h.1)

pub rising_keys : (ks : List ℤ) → IsStrictlySortedBy int_cmp ks → IsRising ks
rising_keys [] h = tt
rising_keys (k ∷ ks) h = (all_less k ks (sorted_head int_cmp k ks h), rising_keys ks (sorted_tail int_cmp k ks h))

-- a key behind is above
above : (x q : ℤ) (v : ℕ) (es : List (ℤ × ℕ)) → AllByRecursion (λ y. x <ℤ y) (keys_of es) → lookup (int_eq q) es ≡ Some v → x <ℤ q
above x q v [] h f = absurd (none-some v f)
above x q v (e ∷ es) h f = at (int_eq q e.0) refl f (above x q v es h.1)
  where
    at : (b : Bool) → b ≡ int_eq q e.0 → cond b (Some e.1) (lookup (int_eq q) es) ≡ Some v → (lookup (int_eq q) es ≡ Some v → x <ℤ q) → x <ℤ q
    at true b f more = subst (λ (z : ℤ). x <ℤ z) (sym ((Decides-int_eq q e.0).0 (sym b))) h.0
    at false b f more = more f

pub last_above : (x : ℤ) (es : List (ℤ × ℕ)) → AllByRecursion (λ y. x <ℤ y) (keys_of es) → IsRising (keys_of es) → x ≤ℤ last_step x es
last_above x [] h r = omega (arith, ints)
last_above x (e ∷ es) h r = let low = h.0 in let more = last_above e.0 es r.0 r.1 in omega (arith, ints)

-- a key that is found lies between the first and the last
within : (x : ℤ) (n : ℕ) (es : List (ℤ × ℕ)) (q : ℤ) (v : ℕ) → IsRising (x ∷ keys_of es) → lookup (int_eq q) ((x, n) ∷ es) ≡ Some v → (x ≤ℤ q) × (q ≤ℤ last_step x es)
within x n es q v r f = at (int_eq q x) refl f
  where
    behind : (es : List (ℤ × ℕ)) (x : ℤ) → IsRising (x ∷ keys_of es) → lookup (int_eq q) es ≡ Some v → q ≤ℤ last_step x es
    behind [] x r f = absurd (none-some v f)
    behind (e ∷ es) x r f = to (int_eq q e.0) refl f (behind es e.0 r.1)
      where
        to : (b : Bool) → b ≡ int_eq q e.0 → cond b (Some e.1) (lookup (int_eq q) es) ≡ Some v → (lookup (int_eq q) es ≡ Some v → q ≤ℤ last_step e.0 es) → q ≤ℤ last_step e.0 es
        to true b f more = subst (λ (z : ℤ). z ≤ℤ last_step e.0 es) (sym ((Decides-int_eq q e.0).0 (sym b))) (last_above e.0 es r.1.0 r.1.1)
        to false b f more = more f

    at : (b : Bool) → b ≡ int_eq q x → cond b (Some n) (lookup (int_eq q) es) ≡ Some v → (x ≤ℤ q) × (q ≤ℤ last_step x es)
    at true b f =
        let same = (Decides-int_eq q x).0 (sym b) in
        subst (λ (z : ℤ). (x ≤ℤ z) × (z ≤ℤ last_step x es)) (sym same) (omega (arith, ints), last_above x es r.0 r.1)
    at false b f = (let low = above x q v es r.0 f in omega (arith, ints), behind es x r f)

-- the last key is found
pub last_found : (x : ℤ) (n : ℕ) (es : List (ℤ × ℕ)) → IsRising (x ∷ keys_of es) → (v : ℕ) × (lookup (int_eq (last_step x es)) ((x, n) ∷ es) ≡ Some v)
last_found x n [] r = (n, ap (λ b. cond b (Some n) None) ((Decides-int_eq x x).1 refl))
last_found x n (e ∷ es) r =
    let f = last_found e.0 e.1 es r.1 in
    let top = last_above e.0 es r.1.0 r.1.1 in
    let low = r.0.0 in
    (f.0, at (int_eq (last_step e.0 es) x) refl ∙ f.1)
  where
    at : (b : Bool) → b ≡ int_eq (last_step e.0 es) x → cond b (Some n) (lookup (int_eq (last_step e.0 es)) (e ∷ es)) ≡ lookup (int_eq (last_step e.0 es)) (e ∷ es)
    at true b = absurd (let same = (Decides-int_eq (last_step e.0 es) x).0 (sym b) in let top = last_above e.0 es r.1.0 r.1.1 in let low = r.0.0 in omega (arith, ints))
    at false b = refl

-- ---- the steps with at least some count
module _ (least : ℕ) where
  all_kept : (x : ℤ) (es : List (ℤ × ℕ)) → AllByRecursion (λ y. x <ℤ y) (keys_of es) → AllByRecursion (λ y. x <ℤ y) (steps_with least es)
  all_kept x [] h = tt
  all_kept x (e ∷ es) h = at (nat_le least e.1) (all_kept x es h.1)
    where
      at : (b : Bool) → AllByRecursion (λ y. x <ℤ y) (steps_with least es) → AllByRecursion (λ y. x <ℤ y) (map (λ w. w.0) (cond b (e ∷ filter (λ w. nat_le least w.1) es) (filter (λ w. nat_le least w.1) es)))
      at true k = (h.0, k)
      at false k = k

  kept_rises : (es : List (ℤ × ℕ)) → IsRising (keys_of es) → IsRising (steps_with least es)
  kept_rises [] h = tt
  kept_rises (e ∷ es) h = at (nat_le least e.1) (kept_rises es h.1)
    where
      at : (b : Bool) → IsRising (steps_with least es) → IsRising (map (λ w. w.0) (cond b (e ∷ filter (λ w. nat_le least w.1) es) (filter (λ w. nat_le least w.1) es)))
      at true k = (all_kept e.0 es h.0, k)
      at false k = k

  kept_has : (s : ℤ) (v : ℕ) (es : List (ℤ × ℕ)) → lookup (int_eq s) es ≡ Some v → nat_le least v ≡ true → Contains (steps_with least es) s
  kept_has s v [] f l = absurd (none-some v f)
  kept_has s v (e ∷ es) f l = at (int_eq s e.0) refl f (kept_has s v es)
    where
      here : (b : Bool) → b ≡ nat_le least e.1 → e.1 ≡ v → s ≡ e.0 → Contains (map (λ w. w.0) (cond b (e ∷ filter (λ w. nat_le least w.1) es) (filter (λ w. nat_le least w.1) es))) s
      here true k same own = (0, omega arith, sym own)
      here false k same own = absurd (false≢true (k ∙ ap (nat_le least) same ∙ l))

      behind : (b : Bool) → Contains (steps_with least es) s → Contains (map (λ w. w.0) (cond b (e ∷ filter (λ w. nat_le least w.1) es) (filter (λ w. nat_le least w.1) es))) s
      behind true k = Contains-append_right (e.0 ∷ []) (steps_with least es) s k
      behind false k = k

      at : (b : Bool) → b ≡ int_eq s e.0 → cond b (Some e.1) (lookup (int_eq s) es) ≡ Some v → (lookup (int_eq s) es ≡ Some v → nat_le least v ≡ true → Contains (steps_with least es) s)
          → Contains (steps_with least (e ∷ es)) s
      at true b f more = here (nat_le least e.1) refl (same_Some e.1 v f) ((Decides-int_eq s e.0).0 (sym b))
      at false b f more = behind (nat_le least e.1) (more f l)

  has_kept : (s : ℤ) (es : List (ℤ × ℕ)) → IsRising (keys_of es) → Contains (steps_with least es) s → (v : ℕ) × (lookup (int_eq s) es ≡ Some v) × (nat_le least v ≡ true)
  has_kept s [] r h = absurd (omega (arith, h.1))
  has_kept s (e ∷ es) r h = at (nat_le least e.1) refl h (has_kept s es r.1)
    where
      later : (v : ℕ) × (lookup (int_eq s) es ≡ Some v) × (nat_le least v ≡ true) → (v : ℕ) × (lookup (int_eq s) (e ∷ es) ≡ Some v) × (nat_le least v ≡ true)
      later k = (k.0, to (int_eq s e.0) refl ∙ k.1, k.2)
        where
          to : (b : Bool) → b ≡ int_eq s e.0 → cond b (Some e.1) (lookup (int_eq s) es) ≡ lookup (int_eq s) es
          to true b = absurd (let same = (Decides-int_eq s e.0).0 (sym b) in let low = above e.0 s k.0 es r.0 k.1 in omega (arith, ints))
          to false b = refl

      at : (b : Bool) → b ≡ nat_le least e.1 → Contains (map (λ w. w.0) (cond b (e ∷ filter (λ w. nat_le least w.1) es) (filter (λ w. nat_le least w.1) es))) s
          → (Contains (steps_with least es) s → (v : ℕ) × (lookup (int_eq s) es ≡ Some v) × (nat_le least v ≡ true))
          → (v : ℕ) × (lookup (int_eq s) (e ∷ es) ≡ Some v) × (nat_le least v ≡ true)
      at true b h more =
          ⊎_elim (λ (k : Contains (e.0 ∷ []) s). let zero_at : k.0 ≡ 0 = omega (arith, k.1) in let own : e.0 ≡ s = ap (λ i. get_or (e.0 ∷ []) i s) (sym zero_at) ∙ k.2 in
          (e.1, ap (λ c. cond c (Some e.1) (lookup (int_eq s) es)) ((Decides-int_eq s e.0).1 (sym own)), sym b))
          (λ k. later (more k)) (Contains-append_cases (e.0 ∷ []) (steps_with least es) s h)
      at false b h more = later (more h)

-- ---- which steps are shown
module _ (count : ℤ → ℕ) (es : List (ℤ × ℕ)) (rise : IsRising (keys_of es)) (same : (s : ℤ) → unwrap_or (lookup (int_eq s) es) 0 ≡ count s) (some : (s : ℤ) → IfSome (lookup (int_eq s) es) (λ n. 0 < n)) where
  found_counts : (s : ℤ) (v : ℕ) → lookup (int_eq s) es ≡ Some v → (0 < count s) × (v ≡ count s)
  found_counts s v f =
      let own : v ≡ count s = ap (λ o. unwrap_or o 0) (sym f) ∙ same s in
      let low : 0 < v = MatchOption-at_some (Unit {0}) (λ n. 0 < n) v f (some s) in
      (omega arith, own)

  counts_found : (s : ℤ) → 0 < count s → (v : ℕ) × (lookup (int_eq s) es ≡ Some v)
  counts_found s h = at (lookup (int_eq s) es) refl (same s)
    where
      at : (o : Option ℕ) → o ≡ lookup (int_eq s) es → unwrap_or o 0 ≡ count s → (v : ℕ) × (lookup (int_eq s) es ≡ Some v)
      at None e k = absurd (omega arith)
      at (Some v) e k = (v, sym e)

  pub frequent_shown : (least : ℕ) → 0 < least → AreShown least count (steps_with least es)
  frequent_shown least h = record {
    rise = kept_rises least es rise;
    shown = λ s. (to s, from s);
  }
    where
      shown_is : (s : ℤ) → least ≤ count s → IsShown least count s
      shown_is s l = at (eqb least 0) refl
        where
          at : (b : Bool) → b ≡ eqb least 0 → MatchBool b (IsBetween count s) (least ≤ count s)
          at true e = absurd (let z : least ≡ 0 = eqb-true least 0 (sym e) in omega arith)
          at false e = l

      is_shown : (s : ℤ) → IsShown least count s → least ≤ count s
      is_shown s l = at (eqb least 0) refl l
        where
          at : (b : Bool) → b ≡ eqb least 0 → MatchBool b (IsBetween count s) (least ≤ count s) → least ≤ count s
          at true e k = absurd (let z : least ≡ 0 = eqb-true least 0 (sym e) in omega arith)
          at false e k = k

      to : (s : ℤ) → Contains (steps_with least es) s → IsShown least count s
      to s k =
          let f = has_kept least s es rise k in
          let own = (found_counts s f.0 f.1).1 in
          let low = leb-true least f.0 f.2 in
          shown_is s (omega arith)

      from : (s : ℤ) → IsShown least count s → Contains (steps_with least es) s
      from s k =
          let l = is_shown s k in
          let f = counts_found s (omega arith) in
          let own = (found_counts s f.0 f.1).1 in
          kept_has least s f.0 es f.1 (le-leb least f.0 (omega arith))

pub difference : (l a : ℤ) → a ≤ℤ l → pos (unsigned_abs (l -ℤ a)) ≡ (l -ℤ a)
difference l a h = at (l -ℤ a) (omega (arith, ints))
  where
    at : (z : ℤ) → pos 0 ≤ℤ z → pos (unsigned_abs z) ≡ z
    at (pos n) k = refl
    at (negsuc n) k = absurd (omega (arith, ints))

-- every step from the least to the greatest
pub every_shown : (count : ℤ → ℕ) (es : List (ℤ × ℕ)) → IsRising (keys_of es) → ((s : ℤ) → unwrap_or (lookup (int_eq s) es) 0 ≡ count s) → ((s : ℤ) → IfSome (lookup (int_eq s) es) (λ n. 0 < n))
    → AreShown 0 count (spread es)
every_shown count [] rise same some = record {
  rise = tt;
  shown = λ s. ((λ h. absurd (omega (arith, h.1))), (λ h. absurd (let low = h.some_low in let none = same h.low in omega arith)));
}
every_shown count (e ∷ es) rise same some =
    let top : e.0 ≤ℤ last_step e.0 es = last_above e.0 es rise.0 rise.1 in
    let last = last_found e.0 e.1 es rise in
    record {
      rise = span_rises e.0 (unsigned_abs (last_step e.0 es -ℤ e.0) + 1);
      shown = λ s. (
        (λ h. let r = in_span e.0 (unsigned_abs (last_step e.0 es -ℤ e.0) + 1) s h in record {
          low = e.0;
          high = last_step e.0 es;
          some_low = (found_counts count (e ∷ es) rise same some e.0 e.1 (ap (λ b. cond b (Some e.1) (lookup (int_eq e.0) es)) ((Decides-int_eq e.0 e.0).1 refl))).0;
          some_high = (found_counts count (e ∷ es) rise same some (last_step e.0 es) last.0 last.1).0;
          from = r.0;
          to = to_last (last_step e.0 es) e.0 s top r.1;
        }),
        (λ h. let low = counts_found count (e ∷ es) rise same some h.low h.some_low in
            let high = counts_found count (e ∷ es) rise same some h.high h.some_high in
            let a = (within e.0 e.1 es h.low low.0 rise low.1).0 in
            let b = (within e.0 e.1 es h.high high.0 rise high.1).1 in
            let from = h.from in
            let to = h.to in
            span_has e.0 (unsigned_abs (last_step e.0 es -ℤ e.0) + 1) s (omega (arith, ints)) (before_end (last_step e.0 es) e.0 s top (omega (arith, ints)))),
      );
    }
  where
    to_last : (l a s : ℤ) → a ≤ℤ l → s <ℤ (a +ℤ pos (unsigned_abs (l -ℤ a) + 1)) → s ≤ℤ l
    to_last l a s h k = let e = difference l a h in omega (arith, ints)

    before_end : (l a s : ℤ) → a ≤ℤ l → s ≤ℤ l → s <ℤ (a +ℤ pos (unsigned_abs (l -ℤ a) + 1))
    before_end l a s h k = let e = difference l a h in omega (arith, ints)

pub steps_are_shown : (least : ℕ) (count : ℤ → ℕ) (es : List (ℤ × ℕ)) → IsRising (keys_of es) → ((s : ℤ) → unwrap_or (lookup (int_eq s) es) 0 ≡ count s) → ((s : ℤ) → IfSome (lookup (int_eq s) es) (λ n. 0 < n))
    → AreShown least count (steps_shown least es)
steps_are_shown least count es rise same some = at (eqb least 0) refl
  where
    at : (b : Bool) → b ≡ eqb least 0 → AreShown least count (cond b (spread es) (steps_with least es))
    at true e = let z : least ≡ 0 = eqb-true least 0 (sym e) in rw z (every_shown count es rise same some)
    at false e = frequent_shown count es rise same some least
        (⊎_elim (λ (z : least ≡ 0). absurd (false≢true (e ∙ eq-eqb least 0 z))) (λ (ne : least ≢ 0). omega arith) (cases_eq least 0))
