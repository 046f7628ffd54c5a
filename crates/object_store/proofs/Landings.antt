-- What landings by places do.
use Rattle.std.proofs.Common.{◌≡◌, ◌⊎◌, ℕ, suc, ◌<◌, ◌≤◌, Bool, true, false, cond, List, [], ◌∷◌, ◌++◌, length, get_or, take, drop, map, Option, Some, None, refl, sym, ap, subst, ◌∙◌, inl, inr}
use Rattle.std.specs.Prelude.{Contains, slice_get, remove, option_map}
use Rattle.std.specs.Ordering.{nat_cmp, eq_by_cmp}
use Rattle.std.specs.Cmp.Lexicographic.{slice_cmp}
use Rattle.std.specs.FinMap as finmap
use Rattle.std.proofs.lemmas.List.{take-append-drop, map-append, take-map, drop-map}
use Rattle.std.proofs.lemmas.List.Elements.{Contains-append_left, Contains-append_right, Contains-append_cases, Contains-get_or}
use Rattle.std.proofs.lemmas.Option.{slice_get_read, slice_get-map, slice_get_cases, get_or_from_slice_get}
use Rattle.object_store.specs.Store.{Objects, State, Lands, land_where, land_one, landed, HasLanded}
use Rattle.object_store.proofs.States.{tied, put_keeps, get_with}

-- ---- landings one behind another

pub landed-append : (first more : List ℕ) (s : State) → landed (first ++ more) s ≡ landed more (landed first s)
landed-append [] more s = refl
landed-append (place ∷ first) more s = landed-append first more (land_one (slice_get s.late place) place s)

pub HasLanded-refl : (s : State) → HasLanded s s
HasLanded-refl s = ([], refl)

pub HasLanded-trans : (a b c : State) → HasLanded a b → HasLanded b c → HasLanded a c
HasLanded-trans a b c p q = (p.0 ++ q.0, q.1 ∙ ap (landed q.0) p.1 ∙ sym (landed-append p.0 q.0 a))

-- ---- one landing

pub lands_absent : (s : State) (place : ℕ) (key content : List ℕ) → slice_get s.late place ≡ Some (key, content) → finmap.get s.objects key ≡ None
    → land_one (slice_get s.late place) place s ≡ record { objects = finmap.insert s.objects key content; late = remove s.late place }
lands_absent s place key content is none = ap (λ (o : Option (List ℕ × List ℕ)). land_one o place s) is ∙ ap (λ (x : Option (List ℕ)). land_where x (key, content) place s) none

pub lands_standing : (s : State) (place : ℕ) (key content standing : List ℕ) → slice_get s.late place ≡ Some (key, content) → finmap.get s.objects key ≡ Some standing
    → land_one (slice_get s.late place) place s ≡ record { objects = s.objects; late = remove s.late place }
lands_standing s place key content standing is stands =
    ap (λ (o : Option (List ℕ × List ℕ)). land_one o place s) is ∙ ap (λ (x : Option (List ℕ)). land_where x (key, content) place s) stands

-- one that was taken out of a list
pub taken_out : {X Y : Type 0} (f : X → Y) (xs rest : List X) (i : ℕ) (x : X) → i < length xs → x ≡ get_or xs i x → rest ≡ remove xs i
    → (slice_get (map f xs) i ≡ Some (f x)) × (map f rest ≡ remove (map f xs) i)
taken_out {X} {Y} f xs rest i x lt is e = (
  slice_get-map f xs i ∙ ap (option_map f) (slice_get_read xs (length xs) i x refl lt is),
  ap (map f) e ∙ map-append f (take i xs) (drop (suc i) xs) ∙ ap (λ (l : List Y). l ++ map f (drop (suc i) xs)) (sym (take-map f i xs)) ∙ ap (λ (l : List Y). take i (map f xs) ++ l) (sym (drop-map f (suc i) xs)),
)

-- ---- what landings leave

pub Lands-refl : (s : State) → Lands s s
Lands-refl s = record { kept = λ k c h. h; come = λ k c h. inl h; late = λ k c h. h }

pub Lands-trans : (a b c : State) → Lands a b → Lands b c → Lands a c
Lands-trans a b c p q = record {
  kept = λ k v h. q.kept k v (p.kept k v h);
  come = λ k v h. elim (q.come k v h) [ inl stood ↦ p.come k v stood | inr late ↦ inr (p.late k v late) ];
  late = λ k v h. p.late k v (q.late k v h);
}

in_front : {X : Type 0} (xs : List X) (n : ℕ) (x : X) → Contains (take n xs) x → Contains xs x
in_front {X} xs n x h = subst (λ (l : List X). Contains l x) (take-append-drop n xs) (Contains-append_left (take n xs) (drop n xs) x h)

behind : {X : Type 0} (xs : List X) (n : ℕ) (x : X) → Contains (drop n xs) x → Contains xs x
behind {X} xs n x h = subst (λ (l : List X). Contains l x) (take-append-drop n xs) (Contains-append_right (take n xs) (drop n xs) x h)

pub Contains-remove : {X : Type 0} (xs : List X) (i : ℕ) (x : X) → Contains (remove xs i) x → Contains xs x
Contains-remove xs i x h = elim (Contains-append_cases (take i xs) (drop (suc i) xs) x h) [ inl front ↦ in_front xs i x front | inr back ↦ behind xs (suc i) x back ]

is_late : (xs : List (List ℕ × List ℕ)) (i : ℕ) (x : List ℕ × List ℕ) → slice_get xs i ≡ Some x → Contains xs x
is_late xs i x e = by (slice_get_cases xs i).1
  where
    by : ((y : List ℕ × List ℕ) × (i < length xs) × (slice_get xs i ≡ Some y) × (get_or xs i y ≡ y)) ⊎ ((length xs ≤ i) × (slice_get xs i ≡ None)) → Contains xs x
    by (inl h) = subst (λ (y : List ℕ × List ℕ). Contains xs y) (get_or_from_slice_get xs i x x e) (Contains-get_or xs i x h.1)
    by (inr h) = absurd (none_some (sym h.1 ∙ e))
      where
        none_some : ◌≡◌ {A = Option (List ℕ × List ℕ)} None (Some x) → ⊥
        none_some e = cc

put_brings : (m : Objects) (key content q c : List ℕ) (late : List (List ℕ × List ℕ)) → Contains late (key, content) → (b : Bool) → eq_by_cmp (slice_cmp nat_cmp) q key ≡ b → cond b (Some content) (finmap.get m q) ≡ Some c
    → finmap.get m q ≡ Some c ⊎ Contains late (q, c)
put_brings m key content q c late in_late true e got =
    let same : q ≡ key = tied q key e in
    let content_is : content ≡ c = cc in
    inr (subst (λ (x : List ℕ × List ℕ). Contains late x) (λ i. (sym same i, content_is i)) in_late)
put_brings m key content q c late in_late false e got = inl got

Lands-where : (x : Option (List ℕ)) (object : List ℕ × List ℕ) (place : ℕ) (s : State) → slice_get s.late place ≡ Some object → finmap.get s.objects object.0 ≡ x → Lands s (land_where x object place s)
Lands-where None object place s is none = record {
  kept = λ k c h. get_with s.objects object.0 object.1 k ∙ put_keeps s.objects object.0 object.1 k c none h _ refl;
  come = λ k c h. put_brings s.objects object.0 object.1 k c s.late (is_late s.late place object is) _ refl (sym (get_with s.objects object.0 object.1 k) ∙ h);
  late = λ k c h. Contains-remove s.late place (k, c) h;
}
Lands-where (Some standing) object place s is stands = record { kept = λ k c h. h; come = λ k c h. inl h; late = λ k c h. Contains-remove s.late place (k, c) h }

Lands-one : (o : Option (List ℕ × List ℕ)) (place : ℕ) (s : State) → slice_get s.late place ≡ o → Lands s (land_one o place s)
Lands-one None place s e = Lands-refl s
Lands-one (Some object) place s e = Lands-where (finmap.get s.objects object.0) object place s e refl

landed_lands : (places : List ℕ) (s : State) → Lands s (landed places s)
landed_lands [] s = Lands-refl s
landed_lands (place ∷ places) s =
    let next : State = land_one (slice_get s.late place) place s in
    Lands-trans s next (landed places next) (Lands-one (slice_get s.late place) place s refl) (landed_lands places next)

pub Lands-from : (old new : State) → HasLanded old new → Lands old new
Lands-from old new h = subst (λ (s : State). Lands old s) (sym h.1) (landed_lands h.0 old)
