-- Two lists in order are merged from their fronts.
use Rattle.std.proofs.Common.{◌≡◌, ℕ, ◌≤◌, Bool, true, false, List, [], ◌∷◌, ◌++◌, take, length, Option, Some, None, refl, ap, ap₂, sym, subst, ◌∙◌, if◌then◌else◌, get_or, arith, append_assoc, IsPermutation}
use Rattle.std.specs.Cmp.{IsStrictWeakOrder}
use Rattle.std.specs.List.{All}
use Rattle.std.specs.Option.{option_to_list}
use Rattle.std.proofs.lemmas.List.{append-nil, take-append-le, take_all}
use Rattle.std.proofs.lemmas.List.Elements.{All-append, All-cons, All-head, All-nil, All-tail, All-weaker}
use Rattle.std.proofs.lemmas.List.Sorted.{IsPermutation-append_comm, IsPermutation-append_left, IsPermutation-append_right, IsPermutation-refl, IsPermutation-trans}
use Rattle.doc_tallies.specs.Firsts.{put_by, sorted_by, firsts_by}
use Rattle.doc_tallies.proofs.Putting.{InOrder, firsts_in_order, merged, up_to}

-- ---- a list that is in order already

put_front : {X : Type 0} (b : X → X → Bool) → IsStrictWeakOrder b → (x : X) (zs xs : List X) → put_by b x zs ≡ x ∷ xs → zs ≡ xs
put_front b o x [] xs h = cc
put_front b o x (z ∷ zs) xs h = go (b z x) refl h
  where
    go : (t : Bool) → b z x ≡ t → (if t then z ∷ put_by b x zs else x ∷ z ∷ zs) ≡ x ∷ xs → z ∷ zs ≡ xs
    go true e h = let back = o.one_way z x e in absurd (cc)
    go false e h = cc

rest_in_order : {X : Type 0} (b : X → X → Bool) → IsStrictWeakOrder b → (x : X) (xs : List X) → sorted_by b (x ∷ xs) ≡ x ∷ xs → sorted_by b xs ≡ xs
rest_in_order b o x xs h = put_front b o x (sorted_by b xs) xs h

second : {X : Type 0} (b : X → X → Bool) → IsStrictWeakOrder b → (x y : X) (ys : List X) → put_by b x (y ∷ ys) ≡ x ∷ y ∷ ys → b y x ≡ false
second b o x y ys h = go (b y x) refl h
  where
    go : (t : Bool) → b y x ≡ t → (if t then y ∷ put_by b x ys else x ∷ y ∷ ys) ≡ x ∷ y ∷ ys → b y x ≡ false
    go true e h = let back = o.one_way y x e in absurd (cc)
    go false e h = e

-- none of the others comes before the first
none_before : {X : Type 0} (b : X → X → Bool) → IsStrictWeakOrder b → (x : X) (xs : List X) → sorted_by b (x ∷ xs) ≡ x ∷ xs → All (λ z. b z x ≡ false) xs
none_before b o x [] h = All-nil (λ z. b z x ≡ false)
none_before b o x (y ∷ ys) h =
    let rest : sorted_by b (y ∷ ys) ≡ y ∷ ys = rest_in_order b o x (y ∷ ys) h in
    let first : b y x ≡ false = second b o x y ys (subst (λ zs. put_by b x zs ≡ x ∷ y ∷ ys) rest h) in
    let behind = none_before b o y ys rest in
    All-cons (λ z. b z x ≡ false) y ys first (All-weaker (λ z. b z y ≡ false) (λ z. b z x ≡ false) (λ z k. o.chain z y x k first) ys behind)

stays : {X : Type 0} (b : X → X → Bool) (xs : List X) → InOrder b xs → sorted_by b xs ≡ xs
stays b [] h = refl
stays b (x ∷ []) h = refl
stays b (x ∷ y ∷ ys) h = ap (put_by b x) (stays b (y ∷ ys) h.1) ∙ rw (h.0)

firsts_stay : {X : Type 0} (b : X → X → Bool) → IsStrictWeakOrder b → (n : ℕ) (xs : List X) → sorted_by b (firsts_by n b xs) ≡ firsts_by n b xs
firsts_stay b o n xs = stays b (firsts_by n b xs) (firsts_in_order b o n xs)

-- ---- what holds of each stays so where they are sorted

put_all : {X : Type 0} (P : X → Type 0) (b : X → X → Bool) (x : X) (ys : List X) → P x → All P ys → All P (put_by b x ys)
put_all P b x [] here all = All-cons P x [] here all
put_all P b x (y ∷ ys) here all = go (b y x) (put_all P b x ys here (All-tail P y ys all))
  where
    go : (t : Bool) → All P (put_by b x ys) → All P (if t then y ∷ put_by b x ys else x ∷ y ∷ ys)
    go true rest = All-cons P y (put_by b x ys) (All-head P y ys all) rest
    go false rest = All-cons P x (y ∷ ys) here all

sorted_all : {X : Type 0} (P : X → Type 0) (b : X → X → Bool) (xs : List X) → All P xs → All P (sorted_by b xs)
sorted_all P b [] all = all
sorted_all P b (x ∷ xs) all = put_all P b x (sorted_by b xs) (All-head P x xs all) (sorted_all P b xs (All-tail P x xs all))

put_before_all : {X : Type 0} (b : X → X → Bool) (x : X) (zs : List X) → All (λ z. b z x ≡ false) zs → put_by b x zs ≡ x ∷ zs
put_before_all b x [] all = refl
put_before_all b x (z ∷ zs) all = rw (All-head (λ z. b z x ≡ false) z zs all) refl

-- ---- the first of two lists

-- it is the first of the left one, which none of the right one comes before
left_first : {X : Type 0} (b : X → X → Bool) → IsStrictWeakOrder b → (x : X) (xs ys : List X) → sorted_by b (x ∷ xs) ≡ x ∷ xs → All (λ z. b z x ≡ false) ys
    → sorted_by b (x ∷ xs ++ ys) ≡ x ∷ sorted_by b (xs ++ ys)
left_first b o x xs ys h behind =
    put_before_all b x (sorted_by b (xs ++ ys)) (sorted_all (λ z. b z x ≡ false) b (xs ++ ys) (All-append (λ z. b z x ≡ false) xs ys (none_before b o x xs h) behind))

-- it is the first of the right one, which comes before all of the left one
right_first : {X : Type 0} (b : X → X → Bool) → IsStrictWeakOrder b → (xs : List X) (y : X) (ys : List X) → sorted_by b (y ∷ ys) ≡ y ∷ ys → All (λ z. b y z ≡ true) xs
    → sorted_by b (xs ++ y ∷ ys) ≡ y ∷ sorted_by b (xs ++ ys)
right_first b o [] y ys h before = h ∙ ap (λ zs. y ∷ zs) (sym (rest_in_order b o y ys h))
right_first b o (x ∷ xs) y ys h before =
    let rest = right_first b o xs y ys h (All-tail (λ z. b y z ≡ true) x xs before) in
    let first : b y x ≡ true = All-head (λ z. b y z ≡ true) x xs before in
    ap (put_by b x) rest ∙ rw (first) refl

-- the lists as they are taken from: the first item, if there is one, leaves its list

pub kept_in_order : {X : Type 0} (b : X → X → Bool) → IsStrictWeakOrder b → (old new : List X) (taken : Option X) → old ≡ option_to_list taken ++ new → sorted_by b old ≡ old → sorted_by b new ≡ new
kept_in_order b o old new None e h = subst (λ zs. sorted_by b zs ≡ zs) e h
kept_in_order b o old new (Some x) e h = rest_in_order b o x new (subst (λ zs. sorted_by b zs ≡ zs) e h)

pub taken_left : {X : Type 0} (b : X → X → Bool) → IsStrictWeakOrder b → (old new ys : List X) (taken : Option X) (one other : X) → old ≡ option_to_list taken ++ new → one ≡ get_or old 0 one → other ≡ get_or ys 0 other
    → b other one ≡ false → sorted_by b old ≡ old → sorted_by b ys ≡ ys → sorted_by b (old ++ ys) ≡ option_to_list taken ++ sorted_by b (new ++ ys)
taken_left b o old new ys None one other e first there apart left right = ap (λ zs. sorted_by b (zs ++ ys)) e
taken_left {X = X} b o old new ys (Some x) one other e first there apart left right =
    let here : one ≡ x = first ∙ ap (λ zs. get_or zs 0 one) e in
    let behind : All (λ z. b z x ≡ false) ys = go ys there right (subst (λ w. b other w ≡ false) here apart) in
    ap (λ zs. sorted_by b (zs ++ ys)) e ∙ left_first b o x new ys (subst (λ zs. sorted_by b zs ≡ zs) e left) behind
  where
    go : (ys : List X) → other ≡ get_or ys 0 other → sorted_by b ys ≡ ys → b other x ≡ false → All (λ z. b z x ≡ false) ys
    go [] there right apart = All-nil (λ z. b z x ≡ false)
    go (y ∷ ys) there right apart =
        let first : b y x ≡ false = subst (λ w. b w x ≡ false) there apart in
        All-cons (λ z. b z x ≡ false) y ys first (All-weaker (λ z. b z y ≡ false) (λ z. b z x ≡ false) (λ z k. o.chain z y x k first) ys (none_before b o y ys right))

pub taken_right : {X : Type 0} (b : X → X → Bool) → IsStrictWeakOrder b → (xs old new : List X) (taken : Option X) (one other : X) → old ≡ option_to_list taken ++ new → one ≡ get_or xs 0 one → other ≡ get_or old 0 other
    → b other one ≡ true → sorted_by b xs ≡ xs → sorted_by b old ≡ old → sorted_by b (xs ++ old) ≡ option_to_list taken ++ sorted_by b (xs ++ new)
taken_right b o xs old new None one other e first there apart left right = ap (λ zs. sorted_by b (xs ++ zs)) e
taken_right {X = X} b o xs old new (Some y) one other e first there apart left right =
    let here : other ≡ y = there ∙ ap (λ zs. get_or zs 0 other) e in
    let before : All (λ z. b y z ≡ true) xs = go xs first left (subst (λ w. b w one ≡ true) here apart) in
    ap (λ zs. sorted_by b (xs ++ zs)) e ∙ right_first b o xs y new (subst (λ zs. sorted_by b zs ≡ zs) e right) before
  where
    go : (xs : List X) → one ≡ get_or xs 0 one → sorted_by b xs ≡ xs → b y one ≡ true → All (λ z. b y z ≡ true) xs
    go [] first left apart = All-nil (λ z. b y z ≡ true)
    go (x ∷ xs) first left apart =
        let here : b y x ≡ true = subst (λ w. b y w ≡ true) first apart in
        All-cons (λ z. b y z ≡ true) x xs here (All-weaker (λ z. b z x ≡ false) (λ z. b y z ≡ true) (λ z k. up_to b o y x z here k) xs (none_before b o x xs left))

-- where one of the two is empty
pub taken_left_alone : {X : Type 0} (b : X → X → Bool) → IsStrictWeakOrder b → (old new ys : List X) (taken : Option X) → old ≡ option_to_list taken ++ new → length ys ≤ 0 → sorted_by b old ≡ old
    → sorted_by b (old ++ ys) ≡ option_to_list taken ++ sorted_by b (new ++ ys)
taken_left_alone b o old new [] None e none left = ap (λ zs. sorted_by b (zs ++ [])) e
taken_left_alone b o old new [] (Some x) e none left = ap (λ zs. sorted_by b (zs ++ [])) e ∙ left_first b o x new [] (subst (λ zs. sorted_by b zs ≡ zs) e left) (All-nil (λ z. b z x ≡ false))
taken_left_alone b o old new (y ∷ ys) taken e none left = absurd (omega (arith, none))

pub taken_right_alone : {X : Type 0} (b : X → X → Bool) → IsStrictWeakOrder b → (xs old new : List X) (taken : Option X) → old ≡ option_to_list taken ++ new → length xs ≤ 0 → sorted_by b old ≡ old
    → sorted_by b (xs ++ old) ≡ option_to_list taken ++ sorted_by b (xs ++ new)
taken_right_alone b o [] old new None e none right = ap (sorted_by b) e
taken_right_alone b o [] old new (Some y) e none right = ap (sorted_by b) e ∙ right_first b o [] y new (subst (λ zs. sorted_by b zs ≡ zs) e right) (All-nil (λ z. b y z ≡ true))
taken_right_alone b o (x ∷ xs) old new taken e none right = absurd (omega (arith, none))

-- what is taken and what is left are all there was, in any order
pub drawn_left : {X : Type 0} (old new ys : List X) (taken : Option X) → old ≡ option_to_list taken ++ new → IsPermutation (option_to_list taken ++ (new ++ ys)) (old ++ ys)
drawn_left {X = X} old new ys taken e =
    let t : List X = option_to_list taken in
    subst (λ (zs : List X). IsPermutation (t ++ (new ++ ys)) zs) (sym (append_assoc t new ys) ∙ ap (λ (zs : List X). zs ++ ys) (sym e)) (IsPermutation-refl (t ++ (new ++ ys)))

pub drawn_right : {X : Type 0} (xs old new : List X) (taken : Option X) → old ≡ option_to_list taken ++ new → IsPermutation (option_to_list taken ++ (xs ++ new)) (xs ++ old)
drawn_right {X = X} xs old new taken e =
    let t : List X = option_to_list taken in
    subst (λ (zs : List X). IsPermutation zs (xs ++ old)) (append_assoc t xs new)
    (subst (λ (zs : List X). IsPermutation ((t ++ xs) ++ new) zs) (append_assoc xs t new ∙ ap (λ (zs : List X). xs ++ zs) (sym e)) (IsPermutation-append_left new (t ++ xs) (xs ++ t) (IsPermutation-append_comm t xs)))

-- one more is drawn
pub drawn_more : {X : Type 0} (all taken more left right left' right' : List X) (next : Option X) (x : X) → IsPermutation (taken ++ (left ++ right)) all → IsPermutation (option_to_list next ++ (left' ++ right')) (left ++ right) → next ≡ Some x → more ≡ taken ++ x ∷ []
    → IsPermutation (more ++ (left' ++ right')) all
drawn_more {X = X} all taken more left right left' right' next x before drawn is e =
    let rest : List X = left' ++ right' in
    let one : IsPermutation (x ∷ rest) (left ++ right) = subst (λ (o : Option X). IsPermutation (option_to_list o ++ rest) (left ++ right)) is drawn in
    subst (λ (zs : List X). IsPermutation (zs ++ rest) all) (sym e)
    (subst (λ (zs : List X). IsPermutation zs all) (sym (append_assoc taken (x ∷ []) rest))
    (IsPermutation-trans (taken ++ x ∷ rest) (taken ++ (left ++ right)) all (IsPermutation-append_right taken (x ∷ rest) (left ++ right) one) before))

-- ---- some hits were taken from two lists, one after the other

pub record IsMerging {X : Type 0} (b : X → X → Bool) (xs ys taken left right : List X) : Type 0 where
  pub joined : taken ++ sorted_by b (left ++ right) ≡ sorted_by b (xs ++ ys)
  pub ordered_left : sorted_by b left ≡ left
  pub ordered_right : sorted_by b right ≡ right

-- one more was taken
pub merging_more : {X : Type 0} (b : X → X → Bool) (xs ys taken more left right left' right' : List X) (x : X) → IsMerging b xs ys taken left right → (sorted_by b left ≡ left → sorted_by b right ≡ right → sorted_by b (left ++ right) ≡ x ∷ sorted_by b (left' ++ right'))
    → (sorted_by b left ≡ left → sorted_by b left' ≡ left') → (sorted_by b right ≡ right → sorted_by b right' ≡ right') → more ≡ taken ++ x ∷ [] → IsMerging b xs ys more left' right'
merging_more {X = X} b xs ys taken more left right left' right' x m first in_left in_right e =
    let rest : List X = sorted_by b (left' ++ right') in
    record {
      joined = ap (λ (zs : List X). zs ++ rest) e ∙ (append_assoc taken (x ∷ []) rest ∙ (ap (λ (zs : List X). taken ++ zs) (sym (first m.ordered_left m.ordered_right)) ∙ m.joined));
      ordered_left = in_left m.ordered_left;
      ordered_right = in_right m.ordered_right;
    }

-- enough were taken, or no more are there
pub enough_taken : {X : Type 0} (b : X → X → Bool) (n : ℕ) (xs ys taken left right : List X) → IsMerging b xs ys taken left right → length taken ≡ n → taken ≡ firsts_by n b (xs ++ ys)
enough_taken b n xs ys taken left right m e =
    sym (ap (take n) (sym m.joined) ∙ (take-append-le n taken (sorted_by b (left ++ right)) (omega (arith, e)) ∙ take_all n taken (omega (arith, e))))

pub all_taken : {X : Type 0} (b : X → X → Bool) (n : ℕ) (xs ys taken left right : List X) → IsMerging b xs ys taken left right → left ++ right ≡ [] → length taken ≤ n → taken ≡ firsts_by n b (xs ++ ys)
all_taken b n xs ys taken left right m none few =
    let whole : taken ≡ sorted_by b (xs ++ ys) = sym (append-nil taken) ∙ (ap (λ zs. taken ++ sorted_by b zs) (sym none) ∙ m.joined) in
    sym (ap (take n) (sym whole) ∙ take_all n taken few)

-- the firsts of two lists of firsts
pub firsts_merged : {X : Type 0} (b : X → X → Bool) → IsStrictWeakOrder b → (n : ℕ) (us vs xs ys taken : List X) → xs ≡ firsts_by n b us → ys ≡ firsts_by n b vs
    → (sorted_by b xs ≡ xs → sorted_by b ys ≡ ys → taken ≡ firsts_by n b (xs ++ ys)) → taken ≡ firsts_by n b (us ++ vs)
firsts_merged b o n us vs xs ys taken e f given =
    given (subst (λ zs. sorted_by b zs ≡ zs) (sym e) (firsts_stay b o n us)) (subst (λ zs. sorted_by b zs ≡ zs) (sym f) (firsts_stay b o n vs))
    ∙ (ap₂ (λ ps qs. firsts_by n b (ps ++ qs)) e f ∙ merged b o n us vs)
