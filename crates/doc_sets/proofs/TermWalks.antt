-- Walks over the terms of a dictionary.
use Rattle.std.proofs.Common.{◌≡◌, ℕ, zero, suc, ◌+◌, ◌*◌, ◌/◌, ◌%◌, ◌<◌, ◌≤◌, Bool, true, false, ◌&&◌, ◌||◌, cond, List, [], ◌∷◌, ◌++◌, length, take, drop, filter, nat_eq, get_or, slice_get, Some, refl, ap, sym, ◌∙◌, arith}
use Rattle.std.proofs.lemmas.List.{length-take}
use Rattle.std.proofs.lemmas.Bool.{eqb-true}
use Rattle.std.specs.List.{AllByRecursion, starts_with}
use Rattle.std.specs.Option.{option_map_or}
use Rattle.std.specs.Ordering.{is_eq}
use Rattle.std.specs.Str.{bytes_eq}
use Rattle.std.proofs.lemmas.Map.Text.{is_eq-slice_cmp}
use Rattle.std.proofs.lemmas.Slice.Eq.{bytes_eq-Decides}
use Rattle.doc_value.specs.declared.schema.Field.{Field}
use Rattle.doc_value.specs.declared.schema.Schema.{Schema}
use Rattle.term_dict.specs.Keys.{order, is_below}
use Rattle.term_dict.specs.Terms.{IsRising, lookup}
use Rattle.term_dict.specs.Bounds.{block_terms, joined}
use Rattle.term_dict.specs.declared.term.Term.{Term}
use Rattle.term_dict.proofs.Orders.{below_not_same}
use Rattle.split_bundle.specs.declared.placed.Placed.{Placed}
use Rattle.split_bundle.specs.Files.{Parts}
use Rattle.split_bundle.specs.Keys.{Occurrence, field_key, keys_of}
use Rattle.split_bundle.specs.Lists.{has_key, keeps_places, stands_in, list_of, places_in, term_of, terms_from, terms_of}
use Rattle.split_bundle.specs.Splits.{AreKeys}
use Rattle.doc_sets.specs.Asked.{such, chosen, has_some, is_listed}
use Rattle.doc_sets.specs.Walks.{takes, is_walked, has_some_of, begun_in, IsListed}
use Rattle.doc_sets.specs.declared.wanted.Wanted.{Wanted}
use Rattle.doc_sets.proofs.Beginnings.{such_is_some}

-- ---- facts of all of a list

pub all_map : {X : Type 0} (P Q : X → Type 0) (xs : List X) → ((x : X) → P x → Q x) → AllByRecursion P xs → AllByRecursion Q xs
all_map P Q [] f h = tt
all_map P Q (x ∷ xs) f h = (f x h.0, all_map P Q xs f h.1)

pub all_take : {X : Type 0} (P : X → Type 0) (n : ℕ) (xs : List X) → AllByRecursion P xs → AllByRecursion P (take n xs)
all_take P zero xs h = tt
all_take P (suc n) [] h = tt
all_take P (suc n) (x ∷ xs) h = (h.0, all_take P n xs h.1)

pub all_drop : {X : Type 0} (P : X → Type 0) (n : ℕ) (xs : List X) → AllByRecursion P xs → AllByRecursion P (drop n xs)
all_drop P zero xs h = h
all_drop P (suc n) [] h = tt
all_drop P (suc n) (x ∷ xs) h = all_drop P n xs h.1

-- those of a list that pass a test
pub all_filter : {X : Type 0} (P : X → Type 0) (test : X → Bool) (xs : List X) → AllByRecursion P xs → AllByRecursion (λ x. P x × (test x ≡ true)) (filter test xs)
all_filter P test [] h = tt
all_filter P test (x ∷ xs) h = go (test x) refl (all_filter P test xs h.1)
  where
    go : (b : Bool) → test x ≡ b → AllByRecursion (λ y. P y × (test y ≡ true)) (filter test xs) → AllByRecursion (λ y. P y × (test y ≡ true)) (cond b (x ∷ filter test xs) (filter test xs))
    go true e rest = ((h.0, e), rest)
    go false e rest = rest

few_filtered : {X : Type 0} (test : X → Bool) (xs : List X) → length (filter test xs) ≤ length xs
few_filtered test [] = omega arith
few_filtered test (x ∷ xs) = go (test x) (few_filtered test xs)
  where
    go : (b : Bool) → length (filter test xs) ≤ length xs → length (cond b (x ∷ filter test xs) (filter test xs)) ≤ suc (length xs)
    go true le = omega arith
    go false le = omega arith

few_in_block : (terms : List Term) (number : ℕ) → length (block_terms terms number) ≤ 64
few_in_block terms number = omega (arith, length-take 64 (drop (64 * number) terms))

pub few_begun : (prefix : List ℕ) (terms : List Term) (number : ℕ) → length (begun_in prefix terms number) ≤ 64
few_begun prefix terms number = omega (arith, few_filtered (λ (t : Term). starts_with nat_eq t.key prefix) (block_terms terms number), few_in_block terms number)

-- ---- each term stands at its key

same_key : (key : List ℕ) → is_eq (order key key) ≡ true
same_key key = is_eq-slice_cmp key key ∙ (bytes_eq-Decides key key).1 refl

found_behind : (t : Term) (ts us : List Term) → AllByRecursion (λ u. is_below t.key u.key ≡ true) us → AllByRecursion (λ u. lookup u.key ts ≡ Some u.info) us → AllByRecursion (λ u. lookup u.key (t ∷ ts) ≡ Some u.info) us
found_behind t ts [] below found = tt
found_behind t ts (u ∷ us) below found = (ap (λ b. cond b (Some t.info) (lookup u.key ts)) (below_not_same t.key u.key below.0) ∙ found.0, found_behind t ts us below.1 found.1)

pub all_found : (ts : List Term) → IsRising ts → AllByRecursion (λ t. lookup t.key ts ≡ Some t.info) ts
all_found [] rising = tt
all_found (t ∷ ts) rising = (ap (λ b. cond b (Some t.info) (lookup t.key ts)) (same_key t.key), found_behind t ts ts rising.0 (all_found ts rising.1))

pub begun_listed : (s : Schema) (ds : List Placed) (p : Parts) (positions : Bool) (prefix : List ℕ) (number : ℕ) → IsRising (terms_of s ds p.keys)
    → ((key : List ℕ) → starts_with nat_eq key prefix ≡ true → positions ≡ keeps_places s key) → AllByRecursion (IsListed s ds p positions) (begun_in prefix (terms_of s ds p.keys) number)
begun_listed s ds p positions prefix number rising kept =
    let terms = terms_of s ds p.keys in
    let Found : Term → Type 0 = λ t. lookup t.key terms ≡ Some t.info in
    let test : Term → Bool = λ t. starts_with nat_eq t.key prefix in
    all_map (λ t. Found t × (test t ≡ true)) (IsListed s ds p positions) (begun_in prefix terms number) (λ t h. (h.0, kept t.key h.1))
    (all_filter Found test (block_terms terms number) (all_take Found 64 (drop (64 * number) terms) (all_drop Found (64 * number) terms (all_found terms rising))))

-- ---- wanted terms

and_left : (a b : Bool) → a && b ≡ true → a ≡ true
and_left true b h = refl
and_left false b h = h

and_right : (a b : Bool) → a && b ≡ true → b ≡ true
and_right true b h = h
and_right false b h = absurd (cc)

or_group : (a b r : Bool) → (a || b) || r ≡ a || (b || r)
or_group true b r = refl
or_group false b r = refl

some_append : (w : Wanted) (xs ys : List Term) (os : List Occurrence) → has_some_of w (xs ++ ys) os ≡ has_some_of w xs os || has_some_of w ys os
some_append w [] ys os = refl
some_append w (x ∷ xs) ys os = ap (λ b. (takes w x.key && has_key x.key os) || b) (some_append w xs ys os) ∙ sym (or_group (takes w x.key && has_key x.key os) (has_some_of w xs os) (has_some_of w ys os))

-- the first of so many terms is put to those before
pub term_step : (w : Wanted) (a : Bool) (t : Term) (ts : List Term) (os : List Occurrence) → (a || (takes w t.key && has_key t.key os)) || has_some_of w ts os ≡ a || has_some_of w (t ∷ ts) os
term_step w a t ts os = or_group a (takes w t.key && has_key t.key os) (has_some_of w ts os)

-- the terms of a block are put to those of the blocks before
pub block_step : (w : Wanted) (a : Bool) (prefix : List ℕ) (terms : List Term) (number left more : ℕ) (os : List Occurrence) → left ≡ suc more
    → (a || has_some_of w (begun_in prefix terms number) os) || has_some_of w (joined (filter (λ t. starts_with nat_eq t.key prefix)) terms (number + 1) more) os
    ≡ a || has_some_of w (joined (filter (λ t. starts_with nat_eq t.key prefix)) terms number left) os
block_step w a prefix terms number left more os e =
    let wanted : List Term → List Term = filter (λ t. starts_with nat_eq t.key prefix) in
    let here : Bool = has_some_of w (begun_in prefix terms number) os in
    or_group a here (has_some_of w (joined wanted terms (number + 1) more) os)
    ∙ (ap (λ b. a || b) (sym (some_append w (begun_in prefix terms number) (joined wanted terms (number + 1) more) os))
    ∙ ap (λ n. a || has_some_of w (joined wanted terms number n) os) (sym e))

-- of the terms of some keys
terms_chosen : (s : Schema) (ds : List Placed) (prefix : List ℕ) (w : Wanted) (start place : ℕ) (keys : List (List ℕ)) (os : List Occurrence)
    → has_some_of w (filter (λ t. starts_with nat_eq t.key prefix) (terms_from s ds start place keys)) os ≡ has_some (chosen (is_walked prefix w) keys) os
terms_chosen s ds prefix w start place [] os = refl
terms_chosen s ds prefix w start place (k ∷ ks) os =
    let ts : List Term = filter (λ t. starts_with nat_eq t.key prefix) (terms_from s ds (start + length (list_of s ds k)) (place + length (places_in s ds k)) ks) in
    go (term_of s ds k start place) (starts_with nat_eq k prefix) (takes w k) ts (chosen (is_walked prefix w) ks) refl (terms_chosen s ds prefix w (start + length (list_of s ds k)) (place + length (places_in s ds k)) ks os)
  where
    go : (t : Term) (a b : Bool) (ts : List Term) (cs : List (List ℕ)) → takes w t.key ≡ b → has_some_of w ts os ≡ has_some cs os
        → has_some_of w (cond a (t ∷ ts) ts) os ≡ has_some (cond (a && b) (t.key ∷ cs) cs) os
    go t false b ts cs e h = h
    go t true true ts cs e h = ap (λ c. (c && has_key t.key os) || has_some_of w ts os) e ∙ ap (λ c. has_key t.key os || c) h
    go t true false ts cs e h = ap (λ c. (c && has_key t.key os) || has_some_of w ts os) e ∙ h

or_right : (a b : Bool) → b ≡ true → a || b ≡ true
or_right true b h = refl
or_right false b h = h

or_left : (a b : Bool) → a ≡ true → a || b ≡ true
or_left true b h = refl
or_left false b h = absurd (cc)

listed_of : (key : List ℕ) (keys : List (List ℕ)) (i : ℕ) → i < length keys → get_or keys i key ≡ key → is_listed key keys ≡ true
listed_of key [] i lt e = absurd (omega arith)
listed_of key (x ∷ xs) zero lt e = or_left (bytes_eq x key) (is_listed key xs) ((bytes_eq-Decides x key).1 e)
listed_of key (x ∷ xs) (suc i) lt e = or_right (bytes_eq x key) (is_listed key xs) (listed_of key xs i (omega arith) e)

each_listed : (s : Schema) (keys : List (List ℕ)) (ds : List Placed) → ((key : List ℕ) → stands_in s key ds ≡ true → is_listed key keys ≡ true)
    → AllByRecursion (λ d. (key : List ℕ) → has_key key (keys_of s d.doc) ≡ true → is_listed key keys ≡ true) ds
each_listed s keys [] h = tt
each_listed s keys (d ∷ ds) h = (
  λ key had. h key (or_left (has_key key (keys_of s d.doc)) (stands_in s key ds) had),
  each_listed s keys ds (λ key had. h key (or_right (has_key key (keys_of s d.doc)) (stands_in s key ds) had)),
)

-- the keys of each document are listed
pub all_listed : (s : Schema) (ds : List Placed) (keys : List (List ℕ)) → AreKeys s ds keys → AllByRecursion (λ d. (key : List ℕ) → has_key key (keys_of s d.doc) ≡ true → is_listed key keys ≡ true) ds
all_listed s ds keys are = each_listed s keys ds (λ key had. let listed = (are.exact key).1 had in listed_of key keys listed.0 listed.1 listed.2)

-- the wanted terms that begin so are a document's exactly where one of its keys begins so and is wanted
pub walk_is_such : (s : Schema) (ds : List Placed) (prefix : List ℕ) (w : Wanted) (keys : List (List ℕ)) (os : List Occurrence) → ((key : List ℕ) → has_key key os ≡ true → is_listed key keys ≡ true)
    → has_some_of w (filter (λ t. starts_with nat_eq t.key prefix) (terms_of s ds keys)) os ≡ such (is_walked prefix w) os
walk_is_such s ds prefix w keys os listed = terms_chosen s ds prefix w 0 0 keys os ∙ sym (such_is_some (is_walked prefix w) keys os listed)

-- the lists of the keys of a field have positions or not
pub begun_keeps : (s : Schema) (n : ℕ) (f : Field) (u key : List ℕ) → slice_get s.fields n ≡ Some f → starts_with nat_eq key (field_key n u) ≡ true → f.positions ≡ keeps_places s key
begun_keeps s n f u [] got h = absurd (let x : false ≡ true = h in cc)
begun_keeps s n f u (high ∷ []) got h = absurd (not_both (nat_eq (n / 256) high) h)
  where
    not_both : (a : Bool) → a && false ≡ true → ⊥
    not_both true h = let x : false ≡ true = h in cc
    not_both false h = let x : false ≡ true = h in cc
begun_keeps s n f u (high ∷ low ∷ term) got h =
    let first : n / 256 ≡ high = eqb-true (n / 256) high (and_left (nat_eq (n / 256) high) (nat_eq (n % 256) low && starts_with nat_eq term u) h) in
    let second : n % 256 ≡ low = eqb-true (n % 256) low (and_left (nat_eq (n % 256) low) (starts_with nat_eq term u) (and_right (nat_eq (n / 256) high) (nat_eq (n % 256) low && starts_with nat_eq term u) h)) in
    let same : n ≡ high * 256 + low = omega arith in
    sym (ap (λ k. option_map_or (λ g. g.positions) (slice_get s.fields k) false) (sym same) ∙ ap (λ o. option_map_or (λ g. g.positions) o false) got)
