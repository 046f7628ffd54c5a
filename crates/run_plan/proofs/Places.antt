-- The places of clients' names.
use Rattle.std.proofs.Common.{◌≡◌, ℕ, suc, ◌<◌, List, [], ◌∷◌, ◌++◌, length, refl, sym, ap, ◌∙◌, subst, arith, Bool, true, false, cond, map}
use Rattle.std.proofs.lemmas.Option.{none-some, same_Some}
use Rattle.std.proofs.lemmas.Slice.Eq.{bytes_eq-Decides}
use Rattle.std.specs.BTreeMap.{is_at}
use Rattle.std.specs.Cmp.Lexicographic.{slice_cmp, texts_ties}
use Rattle.std.specs.Map.{lookup}
use Rattle.std.specs.Option.{option_map}
use Rattle.std.specs.Ordering.{nat_cmp}
use Rattle.std.specs.Prelude.{Option, Some, None, bytes_eq, if◌then◌else◌}
use Rattle.run_plan.specs.Asked.{HasPlaces, place_in}

mapped_none : (o : Option ℕ) → option_map suc o ≡ None → o ≡ None
mapped_none None e = refl
mapped_none (Some i) e = absurd (cc)

mapped_some : (o : Option ℕ) (i : ℕ) (P : Type 0) → option_map suc o ≡ Some i → ((j : ℕ) → o ≡ Some j → i ≡ suc j → P) → P
mapped_some None i P e use_it = absurd (none-some i e)
mapped_some (Some j) i P e use_it = use_it j refl (sym (same_Some (suc j) i e))

pub place_below : (name : List ℕ) (names : List (List ℕ)) (i : ℕ) → place_in name names ≡ Some i → i < length names
place_below name [] i e = absurd (none-some i e)
place_below name (n ∷ names) i e = by (bytes_eq n name) (λ j at. place_below name names j at) e where
  by : (b : Bool) → ((j : ℕ) → place_in name names ≡ Some j → j < length names) → (if b then Some 0 else option_map suc (place_in name names)) ≡ Some i → i < suc (length names)
  by true again e = let zero_is : 0 ≡ i = same_Some 0 i e in omega (arith, zero_is)
  by false again e = mapped_some (place_in name names) i (i < suc (length names)) e (λ j at is. let below : j < length names = again j at in omega (arith, below, is))

pub place_last : (q name : List ℕ) (names : List (List ℕ)) → bytes_eq name q ≡ true → place_in q names ≡ None → place_in q (names ++ name ∷ []) ≡ Some (length names)
place_last q name [] h e = ap (λ (b : Bool). if b then Some 0 else None) h
place_last q name (n ∷ names) h e = by (bytes_eq n q) (λ none. place_last q name names h none) e where
  by : (b : Bool) → (place_in q names ≡ None → place_in q (names ++ name ∷ []) ≡ Some (length names)) → (if b then Some 0 else option_map suc (place_in q names)) ≡ None → (if b then Some 0 else option_map suc (place_in q (names ++ name ∷ []))) ≡ Some (suc (length names))
  by true again e = absurd (none-some 0 (sym e))
  by false again e = ap (option_map suc) (again (mapped_none (place_in q names) e))

place_other : (q name : List ℕ) (names : List (List ℕ)) → bytes_eq name q ≡ false → place_in q (names ++ name ∷ []) ≡ place_in q names
place_other q name [] h = ap (λ (b : Bool). if b then Some 0 else None) h
place_other q name (n ∷ names) h = ap (λ (o : Option ℕ). if bytes_eq n q then Some 0 else option_map suc o) (place_other q name names h)

-- a map in which a new name was put behind the others
pub put_behind : (name : List ℕ) (names : List (List ℕ)) (old new : List (List ℕ × ℕ)) (count : ℕ) → count ≡ length names → place_in name names ≡ None → HasPlaces old names →
    ((q : List ℕ) → lookup (is_at (slice_cmp nat_cmp q)) new ≡ cond (is_at (slice_cmp nat_cmp name) q) (Some count) (lookup (is_at (slice_cmp nat_cmp q)) old)) →
    HasPlaces new (names ++ name ∷ [])
put_behind name names old new count last none has put = λ q. put q ∙ ap (λ b. cond b (Some count) (lookup (is_at (slice_cmp nat_cmp q)) old)) (sym (texts_ties name q)) ∙ by q (bytes_eq name q) refl where
  by : (q : List ℕ) (b : Bool) → bytes_eq name q ≡ b → cond b (Some count) (lookup (is_at (slice_cmp nat_cmp q)) old) ≡ place_in q (names ++ name ∷ [])
  by q true h =
      let same : name ≡ q = (bytes_eq-Decides name q).0 h in
      ap (λ n. Some n) last ∙ sym (place_last q name names h (subst (λ m. place_in m names ≡ None) same none))
  by q false h = has q ∙ sym (place_other q name names h)

-- a name keeps its place as others are put behind
pub place_stays : (q name : List ℕ) (names : List (List ℕ)) (i : ℕ) → place_in q names ≡ Some i → place_in q (names ++ name ∷ []) ≡ Some i
place_stays q name [] i e = absurd (none-some i e)
place_stays q name (n ∷ names) i e = by (bytes_eq n q) (λ j at. place_stays q name names j at) e where
  by : (b : Bool) → ((j : ℕ) → place_in q names ≡ Some j → place_in q (names ++ name ∷ []) ≡ Some j) → (if b then Some 0 else option_map suc (place_in q names)) ≡ Some i → (if b then Some 0 else option_map suc (place_in q (names ++ name ∷ []))) ≡ Some i
  by true again e = e
  by false again e = mapped_some (place_in q names) i ((option_map suc (place_in q (names ++ name ∷ []))) ≡ Some i) e (λ j at is. ap (option_map suc) (again j at) ∙ ap (λ n. Some n) (sym is))

pub itself : (name : List ℕ) → bytes_eq name name ≡ true
itself name = (bytes_eq-Decides name name).1 refl
