-- Lists whose items are changed one after another, and what holds of each item then.
use Rattle.std.proofs.Common.{◌≡◌, ◌≢◌, ℕ, ◌<◌, ◌+◌, refl, sym, ◌∙◌, ap, arith, List, [], ◌∷◌, map, length, get_or, set, get_or-set_other, get_or-set_same, length-set, ⊎_elim}
use Rattle.std.proofs.lemmas.Bool.{cases_eq}
use Rattle.std.proofs.lemmas.List.{get_or_default}
use Rattle.std.specs.List.{AllZip}
use Rattle.agg_model.proofs.Parts.{all_zip_at, all_zip_from, all_zip_long}
use Rattle.agg_nested.specs.Zipped.{IsZippedBelow, IsZipped}

pub zipped_none : {A B C : Type 0} (S : A → C → B → B → Type 0) (xs : List A) (cs : List C) (old : List B) → IsZippedBelow S xs cs old old 0
zipped_none S xs cs old = record { long = refl; done = λ k a c b l. absurd (omega arith); rest = λ k b l. refl }

-- one more item is changed
pub zipped_more : {A B C : Type 0} (S : A → C → B → B → Type 0) (xs : List A) (cs : List C) (old now : List B) (i : ℕ) (x : A) (part : B)
    → i < length xs → i < length now → x ≡ get_or xs i x → IsZippedBelow S xs cs old now i → ((c : C) (b : B) → S x (get_or cs i c) (get_or now i b) part)
    → IsZippedBelow S xs cs old (set now i part) (i + 1)
zipped_more {A} {B} {C} S xs cs old now i x part within inside is before step = record {
  long = length-set now i part ∙ before.long;
  done = λ k a c b l. ⊎_elim (λ same. here k a c b same) (λ other. there k a c b other l) (cases_eq k i);
  rest = λ k b l. let ne : k ≢ i = omega arith in rw (get_or-set_other now i k part b ne) (before.rest k b (omega arith));
}
  where
    here : (k : ℕ) (a : A) (c : C) (b : B) → k ≡ i → S (get_or xs k a) (get_or cs k c) (get_or old k b) (get_or (set now i part) k b)
    here k a c b same =
        let at : get_or xs k a ≡ x = ap (λ j. get_or xs j a) same ∙ get_or_default xs i a x within ∙ sym is in
        let new : get_or (set now i part) k b ≡ part = ap (λ j. get_or (set now i part) j b) same ∙ get_or-set_same now i part b inside in
        let old_at : get_or old k b ≡ get_or now i b = ap (λ j. get_or old j b) same ∙ sym (before.rest i b (omega arith)) in
        let other : get_or cs k c ≡ get_or cs i c = ap (λ j. get_or cs j c) same in
        rw (at, new, old_at, other) (step c b)

    there : (k : ℕ) (a : A) (c : C) (b : B) → k ≢ i → k < i + 1 → S (get_or xs k a) (get_or cs k c) (get_or old k b) (get_or (set now i part) k b)
    there k a c b ne l = rw (get_or-set_other now i k part b ne) (before.done k a c b (omega arith))

-- what holds of the items before and of the changes holds of the items behind
pub zipped_stand : {A B C : Type 0} (S : A → C → B → B → Type 0) (P Q : A → B → Type 0) (R : A → C → Type 0)
    → ((a : A) (c : C) (b d : B) → S a c b d → P a b → R a c → Q a d)
    → (xs : List A) (cs : List C) (old new : List B) → AllZip P xs old → ((k : ℕ) (a : A) (c : C) → k < length xs → R (get_or xs k a) (get_or cs k c))
    → C → IsZipped S xs cs old new → AllZip Q xs new
zipped_stand S P Q R one xs cs old new h r c zipped =
    all_zip_from Q xs new (zipped.long ∙ all_zip_long P xs old h)
    (λ k a b l. one (get_or xs k a) (get_or cs k c) (get_or old k b) (get_or new k b) (zipped.done k a c b l) (all_zip_at P xs old k a b h l) (r k a c l))

-- a list that is made of another, item by item
pub map_zip : {A B : Type 0} (f : A → B) (xs : List A) (ys : List B) → ys ≡ map f xs → AllZip (λ x y. y ≡ f x) xs ys
map_zip f [] [] e = tt
map_zip f [] (y ∷ ys) e = absurd (let l = ap length e in omega arith)
map_zip f (x ∷ xs) [] e = absurd (let l = ap length e in omega arith)
map_zip f (x ∷ xs) (y ∷ ys) e = (let h : y ≡ f x = cc in h, map_zip f xs ys (let h : ys ≡ map f xs = cc in h))

pub zip_map : {A B : Type 0} (f : A → B) (xs : List A) (ys : List B) → AllZip (λ x y. y ≡ f x) xs ys → ys ≡ map f xs
zip_map f [] [] h = refl
zip_map f [] (y ∷ ys) h = absurd h
zip_map f (x ∷ xs) [] h = absurd h
zip_map f (x ∷ xs) (y ∷ ys) h = rw (h.0, zip_map f xs ys h.1) refl
