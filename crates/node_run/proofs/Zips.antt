-- Two lists that stand for each other place by place, one of whose places changes.
use Rattle.std.proofs.Common.{◌≡◌, ℕ, zero, suc, ◌<◌, List, [], ◌∷◌, ◌++◌, length, get_or, refl, sym, ap, ◌∙◌, subst, arith, map}
use Rattle.std.specs.List.{AllByRecursion, AllZip}
use Rattle.std.specs.Prelude.{slice_set, Option, Some, None}
use Rattle.index_world.specs.Core.{IsOther}
use Rattle.indexing_run.specs.Places.{Indexer, number_held}
use Rattle.node_run.specs.Each.{ChangedUpTo}
use Rattle.node_run.specs.Standing.{HoldApart, AllApart}
use Rattle.node_run.specs.Turns.{indexer_at, made_idle}

pub zip_length : {A B : Type 0} (R : A → B → Type 0) (xs : List A) (ys : List B) → AllZip R xs ys → length xs ≡ length ys
zip_length R [] [] z = refl
zip_length R [] (y ∷ ys) z = absurd z
zip_length R (x ∷ xs) [] z = absurd z
zip_length R (x ∷ xs) (y ∷ ys) z = ap suc (zip_length R xs ys z.1)

pub zip_weaker : {A B : Type 0} (R Q : A → B → Type 0) (xs : List A) (ys : List B) → ((x : A) (y : B) → R x y → Q x y) → AllZip R xs ys → AllZip Q xs ys
zip_weaker R Q [] [] f z = z
zip_weaker R Q [] (y ∷ ys) f z = absurd z
zip_weaker R Q (x ∷ xs) [] f z = absurd z
zip_weaker R Q (x ∷ xs) (y ∷ ys) f z = (f x y z.0, zip_weaker R Q xs ys f z.1)

pub zip_push : {A B : Type 0} (R : A → B → Type 0) (xs : List A) (ys : List B) (x : A) (y : B) → AllZip R xs ys → R x y → AllZip R (xs ++ x ∷ []) (ys ++ y ∷ [])
zip_push R [] [] x y z r = (r, tt)
zip_push R [] (b ∷ ys) x y z r = absurd z
zip_push R (a ∷ xs) [] x y z r = absurd z
zip_push R (a ∷ xs) (b ∷ ys) x y z r = (z.0, zip_push R xs ys x y z.1 r)

pub zip_set : {A B : Type 0} (R : A → B → Type 0) (xs : List A) (ys : List B) (i : ℕ) (x : A) (y : B) → AllZip R xs ys → R x y →
    AllZip R (slice_set xs i x) (slice_set ys i y)
zip_set R [] [] i x y z r = z
zip_set R [] (b ∷ ys) i x y z r = absurd z
zip_set R (a ∷ xs) [] i x y z r = absurd z
zip_set R (a ∷ xs) (b ∷ ys) zero x y z r = (r, z.1)
zip_set R (a ∷ xs) (b ∷ ys) (suc i) x y z r = (z.0, zip_set R xs ys i x y z.1 r)

pub zip_at : {A : Type 0} (R : A → Indexer → Type 0) (xs : List A) (ys : List Indexer) (i : ℕ) (x : A) → AllZip R xs ys → i < length xs →
    x ≡ get_or xs i x → R x (indexer_at ys i)
zip_at R [] ys i x z h e = absurd (omega (arith, h))
zip_at R (a ∷ xs) [] i x z h e = absurd z
zip_at R (a ∷ xs) (b ∷ ys) zero x z h e = subst (λ v. R v b) (sym e) z.0
zip_at R (a ∷ xs) (b ∷ ys) (suc i) x z h e = zip_at R xs ys i x z.1 (omega (arith, h)) e

-- one of the second list goes on
pub zip_right : {A B : Type 0} (R : A → B → Type 0) (xs : List A) (ys : List B) (i : ℕ) (old new : B) → AllZip R xs ys → old ≡ get_or ys i old →
    ((x : A) → R x old → R x new) → AllZip R xs (slice_set ys i new)
zip_right R [] [] i old new z e f = z
zip_right R [] (b ∷ ys) i old new z e f = absurd z
zip_right R (a ∷ xs) [] i old new z e f = absurd z
zip_right R (a ∷ xs) (b ∷ ys) zero old new z e f = (f a (subst (λ v. R a v) (sym e) z.0), z.1)
zip_right R (a ∷ xs) (b ∷ ys) (suc i) old new z e f = (z.0, zip_right R xs ys i old new z.1 e f)

pub zip_same : {A B C : Type 0} (R : A → B → Type 0) (f : A → C) (g : B → C) (xs : List A) (ys : List B) → ((x : A) (y : B) → R x y → f x ≡ g y) →
    AllZip R xs ys → map f xs ≡ map g ys
zip_same R f g [] [] e z = refl
zip_same R f g [] (y ∷ ys) e z = absurd z
zip_same R f g (x ∷ xs) [] e z = absurd z
zip_same R f g (x ∷ xs) (y ∷ ys) e z = ap (λ v. v ∷ map f xs) (e x y z.0) ∙ ap (λ l. g y ∷ l) (zip_same R f g xs ys e z.1)

pub map_set : {A B : Type 0} (f : A → B) (xs : List A) (i : ℕ) (x : A) → map f (slice_set xs i x) ≡ slice_set (map f xs) i (f x)
map_set f [] i x = refl
map_set f (a ∷ xs) zero x = refl
map_set f (a ∷ xs) (suc i) x = ap (λ l. f a ∷ l) (map_set f xs i x)

pub map_at : {A B : Type 0} (f : A → B) (xs : List A) (i : ℕ) (x : A) → x ≡ get_or xs i x → f x ≡ get_or (map f xs) i (f x)
map_at f [] i x e = refl
map_at f (a ∷ xs) zero x e = ap f e
map_at f (a ∷ xs) (suc i) x e = map_at f xs i x e

-- ---- numbers held apart

apart_back : (a b : Indexer) → HoldApart a b → HoldApart b a
apart_back a b h n at_b at_a = h n at_a at_b

pub all_at : (P : Indexer → Type 0) (ys : List Indexer) (i : ℕ) → AllByRecursion P ys → i < length ys → P (indexer_at ys i)
all_at P [] i all h = absurd (omega (arith, h))
all_at P (y ∷ ys) zero all h = all.0
all_at P (y ∷ ys) (suc i) all h = all_at P ys i all.1 (omega (arith, h))

pub all_set : (P : Indexer → Type 0) (ys : List Indexer) (i : ℕ) (y : Indexer) → AllByRecursion P ys → P y → AllByRecursion P (slice_set ys i y)
all_set P [] i y all p = tt
all_set P (b ∷ ys) zero y all p = (p, all.1)
all_set P (b ∷ ys) (suc i) y all p = (all.0, all_set P ys i y all.1 p)

-- what holds of each but the one at a place
abbrev pub Others : (Indexer → Type 0) → ℕ → List Indexer → Type 0
Others P i [] = Unit {0}
Others P zero (y ∷ ys) = AllByRecursion P ys
Others P (suc i) (y ∷ ys) = P y × Others P i ys

pub others_apart : (ys : List Indexer) (i : ℕ) → AllApart ys → i < length ys → Others (HoldApart (indexer_at ys i)) i ys
others_apart [] i apart h = tt
others_apart (y ∷ ys) zero apart h = apart.0
others_apart (y ∷ ys) (suc i) apart h =
    (apart_back y (indexer_at ys i) (all_at (HoldApart y) ys i apart.0 (omega (arith, h))), others_apart ys i apart.1 (omega (arith, h)))

pub all_both : {A : Type 0} (R : A → Indexer → Type 0) (C D : Indexer → Type 0) (xs : List A) (ys : List Indexer) → AllZip R xs ys → AllByRecursion C ys →
    ((x : A) (y : Indexer) → R x y → C y → D y) → AllByRecursion D ys
all_both R C D [] [] z all f = tt
all_both R C D [] (y ∷ ys) z all f = absurd z
all_both R C D (x ∷ xs) [] z all f = absurd z
all_both R C D (x ∷ xs) (y ∷ ys) z all f = (f x y z.0 all.0, all_both R C D xs ys z.1 all.1 f)

pub zip_both : {A : Type 0} (R Q : A → Indexer → Type 0) (C : Indexer → Type 0) (xs : List A) (ys : List Indexer) → AllZip R xs ys → AllByRecursion C ys →
    ((x : A) (y : Indexer) → R x y → C y → Q x y) → AllZip Q xs ys
zip_both R Q C [] [] z all f = tt
zip_both R Q C [] (y ∷ ys) z all f = absurd z
zip_both R Q C (x ∷ xs) [] z all f = absurd z
zip_both R Q C (x ∷ xs) (y ∷ ys) z all f = (f x y z.0 all.0, zip_both R Q C xs ys z.1 all.1 f)

pub zip_step : {A : Type 0} (R Q : A → Indexer → Type 0) (C : Indexer → Type 0) (xs : List A) (ys : List Indexer) (i : ℕ) (x' : A) (y' : Indexer) →
    AllZip R xs ys → Others C i ys → ((x : A) (y : Indexer) → R x y → C y → Q x y) → Q x' y' → AllZip Q (slice_set xs i x') (slice_set ys i y')
zip_step R Q C [] [] i x' y' z others f q = tt
zip_step R Q C [] (y ∷ ys) i x' y' z others f q = absurd z
zip_step R Q C (x ∷ xs) [] i x' y' z others f q = absurd z
zip_step R Q C (x ∷ xs) (y ∷ ys) zero x' y' z others f q = (q, zip_both R Q C xs ys z.1 others f)
zip_step R Q C (x ∷ xs) (y ∷ ys) (suc i) x' y' z others f q = (f x y z.0 others.0, zip_step R Q C xs ys i x' y' z.1 others.1 f q)

pub new_apart : {A : Type 0} (R : A → Indexer → Type 0) (C : Indexer → Type 0) (xs : List A) (ys : List Indexer) (i : ℕ) (y' : Indexer) →
    AllZip R xs ys → Others C i ys → AllApart ys → ((x : A) (y : Indexer) → R x y → C y → HoldApart y' y) → AllApart (slice_set ys i y')
new_apart R C [] [] i y' z others apart f = tt
new_apart R C [] (y ∷ ys) i y' z others apart f = absurd z
new_apart R C (x ∷ xs) [] i y' z others apart f = absurd z
new_apart R C (x ∷ xs) (y ∷ ys) zero y' z others apart f = (all_both R C (HoldApart y') xs ys z.1 others f, apart.1)
new_apart R C (x ∷ xs) (y ∷ ys) (suc i) y' z others apart f =
    (all_set (HoldApart y) ys i y' apart.0 (apart_back y' y (f x y z.0 others.0)), new_apart R C xs ys i y' z.1 others.1 apart.1 f)

none_some : (n : ℕ) → None ≡ Some n → ⊥
none_some n e = cc

idle_front : (y z : Indexer) → HoldApart (made_idle y) z
idle_front y z n e at_z = none_some n e

-- an idle one holds none
pub idle_apart : (ys : List Indexer) (i : ℕ) (y : Indexer) → AllApart ys → AllApart (slice_set ys i (made_idle y))
idle_apart [] i y apart = tt
idle_apart (b ∷ ys) zero y apart = (each ys, apart.1) where
  each : (zs : List Indexer) → AllByRecursion (HoldApart (made_idle y)) zs
  each [] = tt
  each (z ∷ zs) = (idle_front y z, each zs)
idle_apart (b ∷ ys) (suc i) y apart =
    (all_set (HoldApart b) ys i (made_idle y) apart.0 (apart_back (made_idle y) b (idle_front y b)), idle_apart ys i y apart.1)

all_idle_apart : (y : Indexer) (ys : List Indexer) → AllByRecursion (HoldApart (made_idle y)) (map made_idle ys)
all_idle_apart y [] = tt
all_idle_apart y (z ∷ ys) = (idle_front y (made_idle z), all_idle_apart y ys)

pub idle_all_apart : (ys : List Indexer) → AllApart (map made_idle ys)
idle_all_apart [] = tt
idle_all_apart (y ∷ ys) = (all_idle_apart y ys, idle_all_apart ys)

-- another assignment holds the same number
pub same_apart : (ys : List Indexer) (i : ℕ) (y' : Indexer) → i < length ys → y'.place ≡ (indexer_at ys i).place → AllApart ys → AllApart (slice_set ys i y')
same_apart [] i y' h e apart = tt
same_apart (y ∷ ys) zero y' h e apart = (each ys apart.0, apart.1) where
  each : (zs : List Indexer) → AllByRecursion (HoldApart y) zs → AllByRecursion (HoldApart y') zs
  each [] all = tt
  each (z ∷ zs) all = ((λ n at_y at_z. all.0 n (sym (ap number_held e) ∙ at_y) at_z), each zs all.1)
same_apart (y ∷ ys) (suc i) y' h e apart = (
  all_set (HoldApart y) ys i y' apart.0 (λ n at_y at_y'. all_at (HoldApart y) ys i apart.0 (omega (arith, h)) n at_y (sym (ap number_held e) ∙ at_y')),
  same_apart ys i y' (omega (arith, h)) e apart.1,
)

-- the number of one that is held apart is another
pub other_of : (old y : Indexer) → HoldApart old y → (n : ℕ) → number_held y.place ≡ Some n → IsOther (number_held old.place) n
other_of old y apart n held = by (number_held old.place) refl where
  by : (o : Option ℕ) → number_held old.place ≡ o → IsOther o n
  by None e = tt
  by (Some m) e = λ same. apart n (e ∙ ap Some (sym same)) held

-- ---- elements that are changed one after another

pub none_changed : {X : Type 0} (R : X → X → Type 0) (xs : List X) → ChangedUpTo R 0 xs xs
none_changed R [] = tt
none_changed R (x ∷ xs) = (refl, none_changed R xs)

pub one_changed : {X : Type 0} (R : X → X → Type 0) (count : ℕ) (xs ys : List X) (old new : X) → ChangedUpTo R count xs ys → count < length xs →
    old ≡ get_or ys count old → R old new → ChangedUpTo R (suc count) xs (slice_set ys count new)
one_changed R count [] [] old new c h e r = tt
one_changed R count [] (y ∷ ys) old new c h e r = absurd c
one_changed R count (x ∷ xs) [] old new c h e r = absurd c
one_changed R zero (x ∷ xs) (y ∷ ys) old new c h e r = (subst (λ v. R v new) (e ∙ c.0) r, c.1)
one_changed R (suc count) (x ∷ xs) (y ∷ ys) old new c h e r = (c.0, one_changed R count xs ys old new c.1 (omega (arith, h)) e r)

pub all_changed : {X : Type 0} (R : X → X → Type 0) (count : ℕ) (xs ys : List X) → ChangedUpTo R count xs ys → length xs ≡ count → AllZip R xs ys
all_changed R count [] [] c e = tt
all_changed R count [] (y ∷ ys) c e = absurd c
all_changed R count (x ∷ xs) [] c e = absurd c
all_changed R zero (x ∷ xs) (y ∷ ys) c e = absurd (omega (arith, e))
all_changed R (suc count) (x ∷ xs) (y ∷ ys) c e = (c.0, all_changed R count xs ys c.1 (omega (arith, e)))

pub zip_map : {X Y : Type 0} (R : X → X → Type 0) (P Q : X → Y → Type 0) (f : Y → Y) (xs ys : List X) (ms : List Y) → AllZip R xs ys → AllZip P xs ms →
    ((x y : X) (m : Y) → R x y → P x m → Q y (f m)) → AllZip Q ys (map f ms)
zip_map R P Q f [] [] [] r p g = tt
zip_map R P Q f [] [] (m ∷ ms) r p g = absurd p
zip_map R P Q f [] (y ∷ ys) ms r p g = absurd r
zip_map R P Q f (x ∷ xs) [] ms r p g = absurd r
zip_map R P Q f (x ∷ xs) (y ∷ ys) [] r p g = absurd p
zip_map R P Q f (x ∷ xs) (y ∷ ys) (m ∷ ms) r p g = (g x y m r.0 p.0, zip_map R P Q f xs ys ms r.1 p.1 g)

pub same_map : {X B : Type 0} (R : X → X → Type 0) (f : X → B) (xs ys : List X) → AllZip R xs ys → ((x y : X) → R x y → f y ≡ f x) → map f ys ≡ map f xs
same_map R f [] [] r g = refl
same_map R f [] (y ∷ ys) r g = absurd r
same_map R f (x ∷ xs) [] r g = absurd r
same_map R f (x ∷ xs) (y ∷ ys) r g = ap (λ v. v ∷ map f ys) (g x y r.0) ∙ ap (λ l. f x ∷ l) (same_map R f xs ys r.1 g)
