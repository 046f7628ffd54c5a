-- One request more.
use Rattle.std.proofs.Common.{◌≡◌, ℕ, zero, suc, ◌<◌, ◌≤◌, List, [], ◌∷◌, ◌++◌, length, get_or, map, refl, sym, ap, ◌∙◌, subst, arith, Bool, true, false, cond, eqb, inl, inr}
use Rattle.std.proofs.lemmas.Bool.{eqb-true, eqb-false}
use Rattle.std.specs.List.{AllZip}
use Rattle.std.specs.Prelude.{Option, Some, None, slice_get, slice_set, if◌then◌else◌, ◌==◌, ◌⊎◌}
use Rattle.run_plan.specs.Asked.{AreAsked, names_of, picked, place_in}
use Rattle.run_plan.specs.declared.clients.Asking.{Asking}
use Rattle.run_plan.specs.declared.clients.Request.{Request}
use Rattle.run_plan.proofs.Places.{place_below, place_stays}

-- ---- lists

map_snoc : {A B : Type 0} (f : A → B) (xs : List A) (x : A) → map f (xs ++ x ∷ []) ≡ map f xs ++ f x ∷ []
map_snoc f [] x = refl
map_snoc f (y ∷ xs) x = ap (λ l. f y ∷ l) (map_snoc f xs x)

map_set : {A B : Type 0} (f : A → B) (xs : List A) (i : ℕ) (x y : A) → slice_get xs i ≡ Some x → f y ≡ f x → map f (slice_set xs i y) ≡ map f xs
map_set f [] i x y at same = refl
map_set f (z ∷ xs) zero x y at same = let is : z ≡ x = cc at in ap (λ v. v ∷ map f xs) (same ∙ ap f (sym is))
map_set f (z ∷ xs) (suc i) x y at same = ap (λ l. f z ∷ l) (map_set f xs i x y at same)

zip_snoc : {A B : Type 0} (R : A → B → Type 0) (xs : List A) (ys : List B) (x : A) (y : B) → AllZip R xs ys → R x y → AllZip R (xs ++ x ∷ []) (ys ++ y ∷ [])
zip_snoc R [] [] x y z r = (r, tt)
zip_snoc R [] (b ∷ ys) x y z r = absurd z
zip_snoc R (a ∷ xs) [] x y z r = absurd z
zip_snoc R (a ∷ xs) (b ∷ ys) x y z r = (z.0, zip_snoc R xs ys x y z.1 r)

zip_other : {A B : Type 0} (R Q : A → B → Type 0) (xs : List A) (ys : List B) → ((x : A) (y : B) → R x y → Q x y) → AllZip R xs ys → AllZip Q xs ys
zip_other R Q [] [] f z = tt
zip_other R Q [] (b ∷ ys) f z = absurd z
zip_other R Q (a ∷ xs) [] f z = absurd z
zip_other R Q (a ∷ xs) (b ∷ ys) f z = (f a b z.0, zip_other R Q xs ys f z.1)

as_long : {A B : Type 0} (R : A → B → Type 0) (xs : List A) (ys : List B) → AllZip R xs ys → length xs ≡ length ys
as_long R [] [] z = refl
as_long R [] (b ∷ ys) z = absurd z
as_long R (a ∷ xs) [] z = absurd z
as_long R (a ∷ xs) (b ∷ ys) z = ap suc (as_long R xs ys z.1)

-- ---- what belongs to one

picked_own : {A : Type 0} (one : ℕ) (by : List ℕ) (xs : List A) (x : A) → length xs ≡ length by → picked one (by ++ one ∷ []) (xs ++ x ∷ []) ≡ picked one by xs ++ x ∷ []
picked_own one [] [] x e = ap (λ b. cond b (x ∷ []) []) (let yes : eqb one one ≡ true = grind arith in yes)
picked_own one [] (y ∷ xs) x e = absurd (omega (arith, e))
picked_own one (owner ∷ by) [] x e = absurd (omega (arith, e))
picked_own one (owner ∷ by) (y ∷ xs) x e = by_test (eqb owner one) (picked_own one by xs x (omega (arith, e)))
  where
    by_test : (b : Bool) → picked one (by ++ one ∷ []) (xs ++ x ∷ []) ≡ picked one by xs ++ x ∷ [] →
        cond b (y ∷ picked one (by ++ one ∷ []) (xs ++ x ∷ [])) (picked one (by ++ one ∷ []) (xs ++ x ∷ [])) ≡ cond b (y ∷ picked one by xs) (picked one by xs) ++ x ∷ []
    by_test true again = ap (λ l. y ∷ l) again
    by_test false again = again

picked_other : {A : Type 0} (one other : ℕ) (by : List ℕ) (xs : List A) (x : A) → (other ≡ one → ⊥) → length xs ≡ length by → picked one (by ++ other ∷ []) (xs ++ x ∷ []) ≡ picked one by xs
picked_other one other [] [] x ne e = by_test (eqb other one) refl
  where
    by_test : (b : Bool) → eqb other one ≡ b → cond b (x ∷ []) [] ≡ []
    by_test true is = absurd (ne (eqb-true other one is))
    by_test false is = refl
picked_other one other [] (y ∷ xs) x ne e = absurd (omega (arith, e))
picked_other one other (owner ∷ by) [] x ne e = absurd (omega (arith, e))
picked_other one other (owner ∷ by) (y ∷ xs) x ne e = ap (λ l. cond (eqb owner one) (y ∷ l) l) (picked_other one other by xs x ne (omega (arith, e)))

-- nothing belongs to one that is behind all of them
picked_none : {A B : Type 0} (R : A → ℕ → Type 0) (one : ℕ) (rs : List A) (by : List ℕ) (xs : List B) → AllZip R rs by → ((r : A) (j : ℕ) → R r j → j < one) → picked one by xs ≡ []
picked_none R one [] [] xs z f = refl
picked_none R one [] (b ∷ by) xs z f = absurd z
picked_none R one (r ∷ rs) [] xs z f = refl
picked_none R one (r ∷ rs) (b ∷ by) [] z f = refl
picked_none R one (r ∷ rs) (b ∷ by) (x ∷ xs) z f = by_test (picked_none R one rs by xs z.1 f) (eqb b one) refl
  where
    by_test : picked one by xs ≡ [] → (t : Bool) → eqb b one ≡ t → cond t (x ∷ picked one by xs) (picked one by xs) ≡ []
    by_test again true is = absurd (let less = f r b z.0 in let same = eqb-true b one is in omega (arith, less, same))
    by_test again false is = again

-- ---- places of a list

get_snoc : {A : Type 0} (xs : List A) (x y : A) (k : ℕ) → slice_get (xs ++ x ∷ []) k ≡ Some y → (k < length xs → slice_get xs k ≡ Some y) × (length xs ≤ k → (k ≡ length xs) × (x ≡ y))
get_snoc [] x y zero h = ((λ less. absurd (omega (arith, less))), (λ le. (refl, cc h)))
get_snoc [] x y (suc k) h = let bad : ◌≡◌ {A = Option _} None (Some y) = h in absurd (cc bad)
get_snoc (z ∷ xs) x y zero h = ((λ less. h), (λ le. absurd (omega (arith, le))))
get_snoc (z ∷ xs) x y (suc k) h =
    let rest = get_snoc xs x y k h in
    ((λ less. rest.0 (omega (arith, less))), (λ le. let r = rest.1 (omega (arith, le)) in (ap suc r.0, r.1)))

get_set : {A : Type 0} (xs : List A) (i : ℕ) (x y : A) (k : ℕ) → slice_get (slice_set xs i y) k ≡ Some x → ((k ≡ i) × (x ≡ y)) ⊎ ((k ≡ i → ⊥) × (slice_get xs k ≡ Some x))
get_set [] i x y k h = let bad : ◌≡◌ {A = Option _} None (Some x) = h in absurd (cc bad)
get_set (z ∷ xs) zero x y zero h = let same : y ≡ x = cc h in inl (refl, sym same)
get_set (z ∷ xs) zero x y (suc k) h = inr ((λ e. absurd (omega (arith, e))), h)
get_set (z ∷ xs) (suc i) x y zero h = inr ((λ e. absurd (omega (arith, e))), h)
get_set (z ∷ xs) (suc i) x y (suc k) h = up (get_set xs i x y k h)
  where
    up : ((k ≡ i) × (x ≡ y)) ⊎ ((k ≡ i → ⊥) × (slice_get xs k ≡ Some x)) → ((suc k ≡ suc i) × (x ≡ y)) ⊎ ((suc k ≡ suc i → ⊥) × (slice_get xs k ≡ Some x))
    up (inl same) = inl (ap suc same.0, same.1)
    up (inr other) = inr ((λ e. other.0 (omega (arith, e))), other.1)

-- ---- what is asked

-- a client more, which asks nothing yet
pub asked_beside : (requests : List Request) (askings : List Asking) (by : List ℕ) (new : Asking) → new.texts.items ≡ [] → AreAsked requests askings by → AreAsked requests (askings ++ new ∷ []) by
asked_beside requests askings by new none a =
    record {
      places = zip_other (λ request place. place_in request.client (names_of askings) ≡ Some place) (λ request place. place_in request.client (names_of (askings ++ new ∷ [])) ≡ Some place) requests by
          (λ request place at. subst (λ names. place_in request.client names ≡ Some place) (sym (map_snoc (λ (asking : Asking). asking.client) askings new)) (place_stays request.client new.client (names_of askings) place at)) a.places;
      texts = λ place asking at.
          let g = get_snoc askings new asking place at in
          by_place place asking g (nat_below place (length askings));
    }
  where
    nat_below : (k n : ℕ) → (k < n) ⊎ (n ≤ k)
    nat_below k n = search arith

    by_place : (place : ℕ) (asking : Asking) → (place < length askings → slice_get askings place ≡ Some asking) × (length askings ≤ place → (place ≡ length askings) × (new ≡ asking)) → (place < length askings) ⊎ (length askings ≤ place) →
        asking.texts.items ≡ picked place by (map (λ request. request.text) requests)
    by_place place asking g (inl less) = a.texts place asking (g.0 less)
    by_place place asking g (inr le) =
        let last = g.1 le in
        sym (ap (λ (x : Asking). x.texts.items) last.1) ∙ (none ∙ sym (picked_none (λ request j. place_in request.client (names_of askings) ≡ Some j) place requests by (map (λ request. request.text) requests) a.places
        (λ request j at. (let less = place_below request.client (names_of askings) j at in let is = last.0 in let many = named askings in omega (arith, less, is, many)))))
      where
        named : (xs : List Asking) → length (names_of xs) ≡ length xs
        named [] = refl
        named (x ∷ xs) = ap suc (named xs)

-- a text more of a client
pub asked_more : (requests : List Request) (askings : List Asking) (by : List ℕ) (place : ℕ) (old new : Asking) (request : Request) → AreAsked requests askings by → slice_get askings place ≡ Some old →
    place_in request.client (names_of askings) ≡ Some place → new.client ≡ old.client → new.texts.items ≡ old.texts.items ++ request.text ∷ [] →
    AreAsked (requests ++ request ∷ []) (slice_set askings place new) (by ++ place ∷ [])
asked_more requests askings by place old new request a at here client texts =
    let names : names_of (slice_set askings place new) ≡ names_of askings = map_set (λ (asking : Asking). asking.client) askings place old new at client in
    let long = length_map requests ∙ as_long (λ request place. place_in request.client (names_of askings) ≡ Some place) requests by a.places in
    record {
      places = subst (λ ns. AllZip (λ r p. place_in r.client ns ≡ Some p) (requests ++ request ∷ []) (by ++ place ∷ [])) (sym names)
          (zip_snoc (λ r p. place_in r.client (names_of askings) ≡ Some p) requests by request place a.places here);
      texts = λ k asking there. by_place k asking long (get_set askings place asking new k there);
    }
  where
    length_map : (rs : List Request) → length (map (λ r. r.text) rs) ≡ length rs
    length_map [] = refl
    length_map (r ∷ rs) = ap suc (length_map rs)

    by_place : (k : ℕ) (asking : Asking) → length (map (λ r. r.text) requests) ≡ length by → ((k ≡ place) × (asking ≡ new)) ⊎ ((k ≡ place → ⊥) × (slice_get askings k ≡ Some asking)) →
        asking.texts.items ≡ picked k (by ++ place ∷ []) (map (λ r. r.text) (requests ++ request ∷ []))
    by_place k asking long (inl same) =
        ap (λ (x : Asking). x.texts.items) same.1 ∙ (texts ∙ (ap (λ l. l ++ request.text ∷ []) (a.texts place old at) ∙ (sym (picked_own place by (map (λ r. r.text) requests) request.text long)
        ∙ (ap (λ l. picked place (by ++ place ∷ []) l) (sym (map_snoc (λ (r : Request). r.text) requests request)) ∙ ap (λ n. picked n (by ++ place ∷ []) (map (λ r. r.text) (requests ++ request ∷ []))) (sym same.0)))))
    by_place k asking long (inr other) =
        a.texts k asking other.1 ∙ (sym (picked_other k place by (map (λ r. r.text) requests) request.text (λ e. other.0 (sym e)) long)
        ∙ ap (λ l. picked k (by ++ place ∷ []) l) (sym (map_snoc (λ (r : Request). r.text) requests request)))

pub names_set : (askings : List Asking) (place : ℕ) (old new : Asking) → slice_get askings place ≡ Some old → new.client ≡ old.client → names_of (slice_set askings place new) ≡ names_of askings
names_set askings place old new at same = map_set (λ (asking : Asking). asking.client) askings place old new at same
