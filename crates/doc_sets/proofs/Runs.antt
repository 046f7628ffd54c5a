-- Steps of the tests for a phrase.
use Rattle.std.proofs.Common.{◌≡◌, ℕ, zero, suc, ◌+◌, ◌-◌, ◌<◌, ◌≤◌, ◌≢◌, ◌⊎◌, inl, inr, nat_eq, nat_lt, eq-eqb, Bool, true, false, ◌&&◌, ◌||◌, ◌==◌, cond, List, [], ◌∷◌, length, get_or, slice_get, Some, refl, ap, sym, ◌∙◌, arith}
use Rattle.std.specs.List.{AllByRecursion}
use Rattle.std.proofs.lemmas.Bool.Decides.{nat_tests}
use Rattle.std.specs.Str.{bytes_eq}
use Rattle.std.proofs.lemmas.Bool.{ne_eqb, or_cases}
use Rattle.doc_value.specs.declared.doc.DocField.{DocField}
use Rattle.doc_value.specs.declared.doc.Value.{Value}
use Rattle.doc_value.specs.declared.schema.Field.{Field}
use Rattle.doc_value.specs.declared.schema.Schema.{Schema}
use Rattle.text_tokens.specs.declared.tokens.Token.{Token}
use Rattle.query_ast.specs.Meaning.{tokens_in, has_token_at, stands_at, stands_at_one, some_has_phrase, first_position, phrase_holds}
use Rattle.split_bundle.specs.declared.placed.Placed.{Placed}
use Rattle.split_bundle.specs.Keys.{Occurrence, field_key, keys_of}
use Rattle.split_bundle.specs.Lists.{has_key, places_of}
use Rattle.doc_sets.specs.Asked.{is_among, stands_from, stands_from_one, has_run, has_each, are_close, AreNear, AllNear, IsShort, AreBehindFirst}
use Rattle.doc_sets.specs.Sets.{holds_at}

pub holds_here : (p : List DocField → Bool) (ds : List Placed) (k : ℕ) (d : Placed) → slice_get ds k ≡ Some d → holds_at p ds k ≡ p d.doc
holds_here p [] k d e = absurd (cc)
holds_here p (x ∷ ds) zero d e = let same : x ≡ d = cc in ap (λ y. p y.doc) same
holds_here p (x ∷ ds) (suc k) d e = holds_here p ds k d e

pub there : (ds : List Placed) (k : ℕ) → k < length ds → (d : Placed) × (slice_get ds k ≡ Some d)
there [] k lt = absurd (omega arith)
there (x ∷ ds) zero lt = (x, refl)
there (x ∷ ds) (suc k) lt = there ds k (omega arith)

-- a document's test put in behind those before it
pub put_last : (m k : ℕ) (b x y z : Bool) → m ≢ k → y ≡ (nat_eq k m && b) || x → x ≡ z → y ≡ z
put_last m k b x y z ne e h = e ∙ (ap (λ t. (t && b) || x) (ne_eqb k m (λ s. ne (sym s))) ∙ h)

pub put_here : (m k : ℕ) (b x y z : Bool) → m ≡ k → y ≡ (nat_eq k m && b) || x → x ≡ false → b ≡ z → y ≡ z
put_here m k b x y z same e h g = e ∙ (ap (λ t. (t && b) || x) (eq-eqb k m (sym same)) ∙ (ap (λ t. b || t) h ∙ (or_false b ∙ g)))
  where
    or_false : (a : Bool) → a || false ≡ a
    or_false true = refl
    or_false false = refl

pub all_both : (P Q : Placed → Type 0) (ds : List Placed) → AllByRecursion P ds → AllByRecursion Q ds → AllByRecursion (λ d. P d × Q d) ds
all_both P Q [] h k = tt
all_both P Q (d ∷ ds) h k = ((h.0, k.0), all_both P Q ds h.1 k.1)

and_left : (a b : Bool) → a && b ≡ true → a ≡ true
and_left true b h = refl
and_left false b h = h

and_right : (a b : Bool) → a && b ≡ true → b ≡ true
and_right true b h = h
and_right false b h = absurd (cc)

and_both : (a b : Bool) → a ≡ true → b ≡ true → a && b ≡ true
and_both true b h k = k
and_both false b h k = absurd (let x : false ≡ true = h in cc)

-- a document with each of some tokens has any of them
pub each_at : (n i : ℕ) (x : Token) (ts : List Token) (os : List Occurrence) → i < length ts → x ≡ get_or ts i x → has_each n ts os ≡ true → has_key (field_key n x.text) os ≡ true
each_at n i x [] os lt e h = absurd (omega arith)
each_at n zero x (t ∷ ts) os lt e h = ap (λ y. has_key (field_key n y.text) os) e ∙ and_left (has_key (field_key n t.text) os) (has_each n ts os) h
each_at n (suc i) x (t ∷ ts) os lt e h = each_at n i x ts os (omega arith) e (and_right (has_key (field_key n t.text) os) (has_each n ts os) h)

-- a place of a key is one of an occurrence that has it
among_has : (m : ℕ) (key : List ℕ) (os : List Occurrence) → is_among m (places_of key os) ≡ true → has_key key os ≡ true
among_has m key [] h = h
among_has m key (o ∷ os) h = go (bytes_eq o.key key) h (among_has m key os)
  where
    go : (b : Bool) → is_among m (cond b (o.place ∷ places_of key os) (places_of key os)) ≡ true → (is_among m (places_of key os) ≡ true → has_key key os ≡ true) → b || has_key key os ≡ true
    go true x rest = refl
    go false x rest = rest x

from_each : (n from place : ℕ) (ts : List Token) (os : List Occurrence) → stands_from n ts from place os ≡ true → has_each n ts os ≡ true
from_each n from place [] os h = refl
from_each n from place (t ∷ ts) os h =
    let test : Bool = is_among (place + (t.position - from)) (places_of (field_key n t.text) os) in
    let rest : Bool = stands_from n ts from place os in
    and_both (has_key (field_key n t.text) os) (has_each n ts os) (among_has (place + (t.position - from)) (field_key n t.text) os (and_left test rest h)) (from_each n from place ts os (and_right test rest h))

from_one_each : (n from : ℕ) (ts : List Token) (ps : List ℕ) (os : List Occurrence) → stands_from_one n ts from ps os ≡ true → has_each n ts os ≡ true
from_one_each n from ts [] os h = absurd (let x : false ≡ true = h in cc)
from_one_each n from ts (p ∷ ps) os h = go (or_cases (stands_from n ts from p os) (stands_from_one n ts from ps os) h) (from_one_each n from ts ps os)
  where
    go : ((stands_from n ts from p os ≡ true) ⊎ (stands_from_one n ts from ps os ≡ true)) → (stands_from_one n ts from ps os ≡ true → has_each n ts os ≡ true) → has_each n ts os ≡ true
    go (inl e) rest = from_each n from p ts os e
    go (inr e) rest = rest e

not_true : (a : Bool) → (a ≡ true → ⊥) → a ≡ false
not_true true h = absurd (h refl)
not_true false h = refl

-- where some token is not there, the phrase is not
pub no_run : (n : ℕ) (ts : List Token) (os : List Occurrence) → has_each n ts os ≡ false → has_run n ts os ≡ false
no_run n [] os h = refl
no_run n (t ∷ ts) os h =
    not_true (has_run n (t ∷ ts) os) (λ runs. let each = from_one_each n t.position (t ∷ ts) (places_of (field_key n t.text) os) os runs in let x : true ≡ false = sym each ∙ h in cc)

-- a document that has not each token is none in which the phrase stands
pub not_run : (s : Schema) (n : ℕ) (ts : List Token) (ds : List Placed) (k : ℕ) → k < length ds → holds_at (λ d. has_each n ts (keys_of s d)) ds k ≡ false → holds_at (λ d. has_run n ts (keys_of s d)) ds k ≡ false
not_run s n ts ds k lt h =
    let d = there ds k lt in
    holds_here (λ x. has_run n ts (keys_of s x)) ds k d.0 d.1
    ∙ no_run n ts (keys_of s d.0.doc) (sym (holds_here (λ x. has_each n ts (keys_of s x)) ds k d.0 d.1) ∙ h)

-- ---- phrases that are too long

below_test : (a b : ℕ) → nat_lt a b ≡ true → a < b
below_test a b h = grind (arith, nat_tests)

not_below_test : (a b : ℕ) → nat_lt a b ≡ false → b ≤ a
not_below_test a b h = grind (arith, nat_tests)

pub close_short : (from : ℕ) (ts : List Token) → AllByRecursion (λ t. from ≤ t.position) ts → are_close from ts ≡ true → IsShort from ts
close_short from [] behind h = tt
close_short from (t ∷ ts) behind h =
    let near : t.position - from < 2147483648 = below_test (t.position - from) 2147483648 (and_left (nat_lt (t.position - from) 2147483648) (are_close from ts) h) in
    let low = behind.0 in
    ((low, omega (arith, near, low)), close_short from ts behind.1 (and_right (nat_lt (t.position - from) 2147483648) (are_close from ts) h))

far_token : (text : List ℕ) (start position from : ℕ) (toks : List Token) → 2147483648 ≤ position - from → AreNear toks → has_token_at text (start + position) from toks ≡ false
far_token text start position from [] far near = refl
far_token text start position from (p ∷ ps) far near =
    let small = near.0 in
    let other : p.position + from == start + position ≡ false = ne_eqb (p.position + from) (start + position) (λ e. absurd (omega (arith, e, far, small))) in
    ap (λ b. (bytes_eq p.text text && b) || has_token_at text (start + position) from ps) other ∙ (none (bytes_eq p.text text) (has_token_at text (start + position) from ps) ∙ far_token text start position from ps far near.1)
  where
    none : (a b : Bool) → (a && false) || b ≡ b
    none true b = refl
    none false b = refl

far_at : (ts : List Token) (start from : ℕ) (toks : List Token) → are_close from ts ≡ false → AreNear toks → stands_at ts start from toks ≡ false
far_at [] start from toks h near = absurd (let x : true ≡ false = h in cc)
far_at (t ∷ ts) start from toks h near = go (nat_lt (t.position - from) 2147483648) refl h (λ rest. far_at ts start from toks rest near)
  where
    and_none : (a : Bool) → a && false ≡ false
    and_none true = refl
    and_none false = refl

    go : (b : Bool) → nat_lt (t.position - from) 2147483648 ≡ b → b && are_close from ts ≡ false → (are_close from ts ≡ false → stands_at ts start from toks ≡ false)
        → has_token_at t.text (start + t.position) from toks && stands_at ts start from toks ≡ false
    go true e rest later = ap (λ b. has_token_at t.text (start + t.position) from toks && b) (later rest) ∙ and_none (has_token_at t.text (start + t.position) from toks)
    go false e rest later = ap (λ b. b && stands_at ts start from toks) (far_token t.text start t.position from toks (not_below_test (t.position - from) 2147483648 e) near)

far_one : (ts : List Token) (from : ℕ) (sub toks : List Token) → are_close from ts ≡ false → AreNear toks → stands_at_one ts from sub toks ≡ false
far_one ts from [] toks h near = refl
far_one ts from (p ∷ ps) toks h near = ap (λ b. b || stands_at_one ts from ps toks) (far_at ts p.position from toks h near) ∙ far_one ts from ps toks h near

-- a phrase that is longer than any value stands in none
pub far_phrase : (f : Field) (ts : List Token) (vs : List Value) → are_close (first_position ts) ts ≡ false → AllNear f vs → some_has_phrase f ts vs ≡ false
far_phrase f ts [] h near = refl
far_phrase f ts (v ∷ vs) h near = ap (λ b. b || some_has_phrase f ts vs) (far_one ts (first_position ts) (tokens_in f v) (tokens_in f v) h near.0) ∙ far_phrase f ts vs h near.1

pub phrase_of_two : (f : Field) (phrase : List Token) (vs : List Value) → 2 ≤ length phrase → phrase_holds f phrase vs ≡ some_has_phrase f phrase vs
phrase_of_two f [] vs lt = absurd (omega arith)
phrase_of_two f (t ∷ []) vs lt = absurd (omega arith)
phrase_of_two f (t ∷ u ∷ ts) vs lt = refl

pub run_holds : (n : ℕ) (f : Field) (phrase : List Token) (vs : List Value) (os : List Occurrence) → 2 ≤ length phrase → AreBehindFirst phrase → are_close (first_position phrase) phrase ≡ true
    → ((t : Token) (ts : List Token) → IsShort t.position (t ∷ ts) → some_has_phrase f (t ∷ ts) vs ≡ has_run n (t ∷ ts) os) → has_run n phrase os ≡ phrase_holds f phrase vs
run_holds n f [] vs os lt behind close law = absurd (omega arith)
run_holds n f (t ∷ []) vs os lt behind close law = absurd (omega arith)
run_holds n f (t ∷ u ∷ ts) vs os lt behind close law = sym (law t (u ∷ ts) (close_short t.position (t ∷ u ∷ ts) behind close))

-- the first of some tokens
pub first_is : (x : Token) (phrase : List Token) → 0 < length phrase → x ≡ get_or phrase 0 x → x.position ≡ first_position phrase
first_is x [] lt e = absurd (omega arith)
first_is x (t ∷ ts) lt e = ap (λ y. y.position) e

-- several tokens need positions
pub several_kept : (b : Bool) (n : ℕ) → 2 ≤ n → (b ≡ true) ⊎ (n ≤ 1) → b ≡ true
several_kept b n lt (inl e) = e
several_kept b n lt (inr le) = absurd (omega arith)

-- a phrase of one token
pub one_item : (x : Token) (ts : List Token) → 1 ≤ length ts → length ts < 2 → x ≡ get_or ts 0 x → ts ≡ x ∷ []
one_item x [] some few e = absurd (omega arith)
one_item x (t ∷ []) some few e = ap (λ y. y ∷ []) (sym e)
one_item x (t ∷ u ∷ ts) some few e = absurd (omega arith)
