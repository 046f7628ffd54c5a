-- What is due lands, a late create at a time.
use Rattle.std.proofs.Common.{◌≡◌, ℕ, suc, ◌+◌, ◌<◌, ◌≤◌, Bool, true, false, cond, List, [], ◌∷◌, ◌++◌, length, get_or, take, drop, Option, Some, None, refl, sym, ap, ◌∙◌, add-one, arith}
use Rattle.std.specs.Prelude.{filter, remove, not}
use Rattle.std.specs.FinMap as finmap
use Rattle.std.proofs.lemmas.List.{take-append-drop, take_at, length-take-le, take_all, get_or_default, drop_more}
use Rattle.std.proofs.lemmas.List.Elements.{filter-append, filter_more}
use Rattle.object_store.specs.declared.kept.LateObject.{LateObject}
use Rattle.object_store.specs.Store.{Objects}
use Rattle.object_store.specs.Late.{Held, is_due, with_all, with_new, landed_at, begun, put_where}

-- ---- one that passes a test or fails it

-- a list with one of its members in the middle
parted : {X : Type 0} (xs : List X) (i : ℕ) (x : X) → i < length xs → x ≡ get_or xs i x → xs ≡ take i xs ++ (x ∷ drop (suc i) xs)
parted {X} xs i x lt is = sym (take-append-drop i xs) ∙ ap (λ (l : List X). take i xs ++ l) (drop_more xs i x lt)
    ∙ ap (λ (y : X). take i xs ++ (y ∷ drop (i + 1) xs)) (sym is) ∙ ap (λ (n : ℕ). take i xs ++ (x ∷ drop n xs)) (add-one i)

filter_one : {X : Type 0} (p : X → Bool) (x : X) (xs : List X) (b : Bool) → p x ≡ b → filter p (x ∷ xs) ≡ cond b (x ∷ filter p xs) (filter p xs)
filter_one p x xs b e = rw e refl

filter_parted : {X : Type 0} (p : X → Bool) (xs : List X) (i : ℕ) (x : X) (b : Bool) → i < length xs → x ≡ get_or xs i x → p x ≡ b
    → filter p xs ≡ filter p (take i xs) ++ cond b (x ∷ filter p (drop (suc i) xs)) (filter p (drop (suc i) xs))
filter_parted {X} p xs i x b lt is e = ap (filter p) (parted xs i x lt is) ∙ filter-append p (take i xs) (x ∷ drop (suc i) xs) ∙ ap (λ (l : List X). filter p (take i xs) ++ l) (filter_one p x (drop (suc i) xs) b e)

filter_removed : {X : Type 0} (p : X → Bool) (xs : List X) (i : ℕ) → filter p (remove xs i) ≡ filter p (take i xs) ++ filter p (drop (suc i) xs)
filter_removed p xs i = filter-append p (take i xs) (drop (suc i) xs)

others_by : {X : Type 0} (p : X → Bool) (x : X) (xs : List X) (b : Bool) → p x ≡ b → cond b (x ∷ filter p xs) (filter p xs) ≡ [] → (filter p xs ≡ [] → filter (λ y. not (p y)) xs ≡ xs) → filter (λ y. not (p y)) (x ∷ xs) ≡ x ∷ xs
others_by p x xs true is e rest = absurd cc
others_by {X} p x xs false is e rest = rw is (ap (λ (l : List X). x ∷ l) (rest e))

others : {X : Type 0} (p : X → Bool) (xs : List X) → filter p xs ≡ [] → filter (λ x. not (p x)) xs ≡ xs
others p [] e = refl
others p (x ∷ xs) e = others_by p x xs (p x) refl e (others p xs)

-- ---- the loop over the late creates

pub due_lands : (number place : ℕ) (h : Held) (l : LateObject) → place < length h.late → l ≡ get_or h.late place l → is_due number l ≡ true → filter (is_due number) (take place h.late) ≡ []
    → begun number (landed_at place l h) ≡ begun number h
due_lands number place h l lt is due none =
    let behind : List LateObject = drop (suc place) h.late in
    let all : filter (is_due number) h.late ≡ l ∷ filter (is_due number) behind = filter_parted (is_due number) h.late place l true lt is due ∙ ap (λ (xs : List LateObject). xs ++ (l ∷ filter (is_due number) behind)) none in
    let left : filter (is_due number) (remove h.late place) ≡ filter (is_due number) behind = filter_removed (is_due number) h.late place ∙ ap (λ (xs : List LateObject). xs ++ filter (is_due number) behind) none in
    let objects : with_all (with_new h.objects l.object) (filter (is_due number) (remove h.late place)) ≡ with_all h.objects (filter (is_due number) h.late) =
    ap (with_all (with_new h.objects l.object)) left ∙ sym (ap (with_all h.objects) all) in
    let late : filter (λ x. not (is_due number x)) (remove h.late place) ≡ filter (λ x. not (is_due number x)) h.late =
    filter_removed (λ x. not (is_due number x)) h.late place ∙ sym (filter_parted (λ x. not (is_due number x)) h.late place l false lt is (ap (λ (b : Bool). not b) due)) in
    λ i. record { objects = objects i; late = late i }

pub front_stays : (number place : ℕ) (late : List LateObject) → place < length late → filter (is_due number) (take place late) ≡ [] → filter (is_due number) (take place (remove late place)) ≡ []
front_stays number place late lt none =
    let len : length (take place late) ≡ place = length-take-le place late (omega arith) in
    ap (filter (is_due number)) (take_at (take place late) (drop (suc place) late) place len) ∙ none

pub not_due : (number place : ℕ) (late : List LateObject) (l : LateObject) → place < length late → l ≡ get_or late place l → is_due number l ≡ false → filter (is_due number) (take place late) ≡ []
    → filter (is_due number) (take (place + 1) late) ≡ []
not_due number place late l lt is later none =
    filter_more (is_due number) late place l lt ∙ ap (λ (xs : List LateObject). xs ++ cond (is_due number (get_or late place l)) (get_or late place l ∷ []) []) none
    ∙ ap (λ (b : Bool). cond b (get_or late place l ∷ []) []) (ap (is_due number) (sym is) ∙ later)

pub none_due : (number place : ℕ) (h : Held) → length h.late ≤ place → filter (is_due number) (take place h.late) ≡ [] → h ≡ begun number h
none_due number place h le none =
    let all : filter (is_due number) h.late ≡ [] = ap (filter (is_due number)) (sym (take_all place h.late le)) ∙ none in
    λ i. record { objects = sym (ap (with_all h.objects) all) i; late = sym (others (is_due number) h.late all) i }

-- ---- one landing

landed_where : (h : Held) (place : ℕ) (l d : LateObject) (o : Option (List ℕ)) (objects : Objects) (late : List LateObject) → place < length h.late → l ≡ get_or h.late place l → finmap.get h.objects l.object.key ≡ o
    → objects ≡ put_where o l.object h.objects → late ≡ remove h.late place → record { objects = objects; late = late } ≡ landed_at place (get_or h.late place d) h
landed_where h place l d o objects late lt is standing objects_is late_is =
    let same : get_or h.late place d ≡ l = sym (get_or_default h.late place l d lt) ∙ sym is in
    let put : with_new h.objects l.object ≡ objects = ap (λ (x : Option (List ℕ)). put_where x l.object h.objects) standing ∙ sym objects_is in
    let here : landed_at place l h ≡ record { objects = objects; late = late } = λ i. record { objects = put i; late = sym late_is i } in
    sym (ap (λ (x : LateObject). landed_at place x h) same ∙ here)

pub landed_absent : (h : Held) (place : ℕ) (l d : LateObject) (objects : Objects) (late : List LateObject) → place < length h.late → l ≡ get_or h.late place l → finmap.get h.objects l.object.key ≡ None
    → objects ≡ finmap.insert h.objects l.object.key l.object.content → late ≡ remove h.late place → record { objects = objects; late = late } ≡ landed_at place (get_or h.late place d) h
landed_absent h place l d objects late lt is none objects_is late_is = landed_where h place l d None objects late lt is none objects_is late_is

pub landed_standing : (h : Held) (place : ℕ) (l d : LateObject) (standing : List ℕ) (late : List LateObject) → place < length h.late → l ≡ get_or h.late place l → finmap.get h.objects l.object.key ≡ Some standing
    → late ≡ remove h.late place → record { objects = h.objects; late = late } ≡ landed_at place (get_or h.late place d) h
landed_standing h place l d standing late lt is stands late_is = landed_where h place l d (Some standing) h.objects late lt is stands refl late_is

-- at the member that was read
pub landed_late : (h : Held) (place : ℕ) (l : LateObject) (n : Held) → l ≡ get_or h.late place l → n ≡ landed_at place (get_or h.late place l) h → n ≡ landed_at place l h
landed_late h place l n is e = e ∙ ap (λ (x : LateObject). landed_at place x h) (sym is)
