-- A phrase stands in one value exactly where the places of its tokens among the keys of the document have its distances.
use Rattle.std.proofs.Common.{◌≡◌, ℕ, zero, suc, ◌+◌, ◌-◌, ◌<◌, ◌≤◌, ◌≢◌, ◌==◌, ◌⊎◌, inl, inr, Bool, true, false, ◌&&◌, ◌||◌, List, [], ◌∷◌, ◌++◌, slice_get, Some, if◌then◌else◌, refl, ap, sym, ◌∙◌, arith, eq-eqb}
use Rattle.std.specs.Str.{bytes_eq}
use Rattle.std.proofs.lemmas.Bool.{cases_eq, ne_eqb, eqb-true, or_cases}
use Rattle.doc_value.specs.declared.schema.Field.{Field}
use Rattle.doc_value.specs.declared.doc.Value.{Value}
use Rattle.text_tokens.specs.declared.tokens.Token.{Token}
use Rattle.query_ast.specs.Meaning.{each_stands, tokens_in, has_token_at, stands_at, stands_at_one, has_phrase, some_has_phrase}
use Rattle.doc_value.specs.Documents.{values_in}
use Rattle.doc_value.specs.declared.doc.DocField.{DocField}
use Rattle.doc_value.specs.declared.schema.Schema.{Schema}
use Rattle.split_bundle.specs.Keys.{Occurrence, field_key, value_place, keys_of}
use Rattle.split_bundle.specs.Lists.{has_key, places_of}
use Rattle.doc_sets.proofs.PlaceKeys.{places_are, token_is_key}
use Rattle.doc_sets.specs.Asked.{AreTexts, is_among, token_places, term_places, AreNear, AllNear, IsShort, stands_from, stands_from_one, has_run, has_each}

-- some token has this text and this position
abbrev pub stands_there : List ℕ → ℕ → List Token → Bool
stands_there text position [] = false
stands_there text position (t ∷ ts) = (bytes_eq t.text text && (t.position == position)) || stands_there text position ts

among_append : (n : ℕ) (xs ys : List ℕ) → is_among n (xs ++ ys) ≡ is_among n xs || is_among n ys
among_append n [] ys = refl
among_append n (x ∷ xs) ys = ap (λ b. (x == n) || b) (among_append n xs ys) ∙ or_group (x == n) (is_among n xs) (is_among n ys)
  where
    or_group : (a b r : Bool) → a || (b || r) ≡ (a || b) || r
    or_group true b r = refl
    or_group false b r = refl

-- two places are equal where values and positions are
same_place : (v a b : ℕ) → (value_place v a == value_place v b) ≡ (a == b)
same_place v a b = go (cases_eq a b)
  where
    go : ((a ≡ b) ⊎ (a ≢ b)) → (value_place v a == value_place v b) ≡ (a == b)
    go (inl e) = eq-eqb (value_place v a) (value_place v b) (omega arith) ∙ sym (eq-eqb a b e)
    go (inr ne) = ne_eqb (value_place v a) (value_place v b) (λ e. ne (omega arith)) ∙ sym (ne_eqb a b ne)

other_place : (v w a b : ℕ) → v ≢ w → a < 4294967296 → b < 4294967296 → (value_place v a == value_place w b) ≡ false
other_place v w a b ne la lb = ne_eqb (value_place v a) (value_place w b) (λ e. ne (omega arith))

-- a place of a value is among those of its tokens exactly where a token stands there
in_value : (text : List ℕ) (v b : ℕ) (ts : List Token) → is_among (value_place v b) (token_places text v ts) ≡ stands_there text b ts
in_value text v b [] = refl
in_value text v b (t ∷ ts) = go (bytes_eq t.text text) (in_value text v b ts)
  where
    go : (x : Bool) → is_among (value_place v b) (token_places text v ts) ≡ stands_there text b ts
        → is_among (value_place v b) (if x then value_place v t.position ∷ token_places text v ts else token_places text v ts) ≡ (x && (t.position == b)) || stands_there text b ts
    go true h = ap (λ y. y || is_among (value_place v b) (token_places text v ts)) (same_place v t.position b) ∙ ap (λ y. (t.position == b) || y) h
    go false h = h

-- and not among those of another value
in_other : (text : List ℕ) (v w b : ℕ) (ts : List Token) → v ≢ w → b < 4294967296 → AreNear ts → is_among (value_place v b) (token_places text w ts) ≡ false
in_other text v w b [] ne lb near = refl
in_other text v w b (t ∷ ts) ne lb near = go (bytes_eq t.text text) (in_other text v w b ts ne lb near.1)
  where
    go : (x : Bool) → is_among (value_place v b) (token_places text w ts) ≡ false
        → is_among (value_place v b) (if x then value_place w t.position ∷ token_places text w ts else token_places text w ts) ≡ false
    go true h = ap (λ y. y || is_among (value_place v b) (token_places text w ts)) (other_place w v t.position b (λ e. ne (sym e)) (let n = near.0 in omega arith) lb) ∙ h
    go false h = h

-- not among those of later values
in_later : (f : Field) (text : List ℕ) (v w b : ℕ) (vs : List Value) → v < w → b < 4294967296 → AllNear f vs → is_among (value_place v b) (term_places f text w vs) ≡ false
in_later f text v w b [] lt lb near = refl
in_later f text v w b (x ∷ vs) lt lb near =
    among_append (value_place v b) (token_places text w (tokens_in f x)) (term_places f text (suc w) vs)
    ∙ (ap (λ y. y || is_among (value_place v b) (term_places f text (suc w) vs)) (in_other text v w b (tokens_in f x) (λ e. absurd (omega arith)) lb near.0)
    ∙ in_later f text v (suc w) b vs (omega arith) lb near.1)

-- a place of a value is among a term's places exactly where a token of that value stands there
pub in_values : (f : Field) (text : List ℕ) (w i v b : ℕ) (x : Value) (vs : List Value) → v ≡ w + i → slice_get vs i ≡ Some x → b < 4294967296 → AllNear f vs
    → is_among (value_place v b) (term_places f text w vs) ≡ stands_there text b (tokens_in f x)
in_values f text w i v b x [] e got lb near = absurd (cc)
in_values f text w zero v b x (y ∷ vs) e got lb near =
    let here : v ≡ w = omega arith in
    let same : y ≡ x = cc in
    among_append (value_place v b) (token_places text w (tokens_in f y)) (term_places f text (suc w) vs)
    ∙ (ap (λ z. is_among (value_place v b) (token_places text w (tokens_in f y)) || z) (in_later f text v (suc w) b vs (omega arith) lb near.1)
    ∙ (or_false (is_among (value_place v b) (token_places text w (tokens_in f y)))
    ∙ (ap (λ k. is_among (value_place k b) (token_places text w (tokens_in f y))) here
    ∙ (in_value text w b (tokens_in f y) ∙ ap (λ z. stands_there text b (tokens_in f z)) same))))
  where
    or_false : (a : Bool) → a || false ≡ a
    or_false true = refl
    or_false false = refl
in_values f text w (suc i) v b x (y ∷ vs) e got lb near =
    among_append (value_place v b) (token_places text w (tokens_in f y)) (term_places f text (suc w) vs)
    ∙ (ap (λ z. z || is_among (value_place v b) (term_places f text (suc w) vs)) (in_other text v w b (tokens_in f y) (λ z. absurd (omega arith)) lb near.0)
    ∙ in_values f text (suc w) i v b x vs (omega arith) got lb near.1)

-- ---- the phrase at one place

-- each token of the phrase is as far from a place among the values' places
abbrev pub values_stand : Field → List Value → List Token → ℕ → ℕ → Bool
values_stand f vs [] from place = true
values_stand f vs (t ∷ ts) from place = is_among (place + (t.position - from)) (term_places f t.text 0 vs) && values_stand f vs ts from place

there_is_at : (text : List ℕ) (a position from : ℕ) (ts : List Token) → from ≤ position → stands_there text (a + (position - from)) ts ≡ has_token_at text (a + position) from ts
there_is_at text a position from [] le = refl
there_is_at text a position from (p ∷ ps) le =
    ap (λ x. (bytes_eq p.text text && x) || stands_there text (a + (position - from)) ps) (go (cases_eq p.position (a + (position - from))))
    ∙ ap (λ x. (bytes_eq p.text text && (p.position + from == a + position)) || x) (there_is_at text a position from ps le)
  where
    go : ((p.position ≡ a + (position - from)) ⊎ (p.position ≢ a + (position - from))) → (p.position == a + (position - from)) ≡ (p.position + from == a + position)
    go (inl e) = eq-eqb p.position (a + (position - from)) e ∙ sym (eq-eqb (p.position + from) (a + position) (omega arith))
    go (inr ne) = ne_eqb p.position (a + (position - from)) ne ∙ sym (ne_eqb (p.position + from) (a + position) (λ e. ne (omega arith)))

at_place : (f : Field) (vs : List Value) (v a from : ℕ) (x : Value) (ts : List Token) → slice_get vs v ≡ Some x → a < 2147483648 → AllNear f vs → IsShort from ts
    → values_stand f vs ts from (value_place v a) ≡ stands_at ts a from (tokens_in f x)
at_place f vs v a from x [] got la near short = refl
at_place f vs v a from x (t ∷ ts) got la near short =
    let low = short.0.0 in
    let high = short.0.1 in
    let moved : value_place v a + (t.position - from) ≡ value_place v (a + (t.position - from)) = omega arith in
    ap (λ m. is_among m (term_places f t.text 0 vs) && values_stand f vs ts from (value_place v a)) moved
    ∙ (ap (λ b. b && values_stand f vs ts from (value_place v a))
    (in_values f t.text 0 v v (a + (t.position - from)) x vs (omega arith) got (omega arith) near ∙ there_is_at t.text a t.position from (tokens_in f x) low)
    ∙ ap (λ b. has_token_at t.text (a + t.position) from (tokens_in f x) && b) (at_place f vs v a from x ts got la near short.1))

-- ---- one of the places of the first token

abbrev pub one_stands : Field → List Value → List Token → ℕ → List ℕ → Bool
one_stands f vs phrase from [] = false
one_stands f vs phrase from (p ∷ ps) = values_stand f vs phrase from p || one_stands f vs phrase from ps

one_append : (f : Field) (vs : List Value) (phrase : List Token) (from : ℕ) (xs ys : List ℕ) → one_stands f vs phrase from (xs ++ ys) ≡ one_stands f vs phrase from xs || one_stands f vs phrase from ys
one_append f vs phrase from [] ys = refl
one_append f vs phrase from (x ∷ xs) ys = ap (λ b. values_stand f vs phrase from x || b) (one_append f vs phrase from xs ys) ∙ or_group (values_stand f vs phrase from x) (one_stands f vs phrase from xs) (one_stands f vs phrase from ys)
  where
    or_group : (a b r : Bool) → a || (b || r) ≡ (a || b) || r
    or_group true b r = refl
    or_group false b r = refl

-- some of these tokens has the first text, and the phrase stands at it
abbrev pub some_first : List ℕ → List Token → ℕ → List Token → List Token → Bool
some_first text phrase from [] toks = false
some_first text phrase from (q ∷ qs) toks = (bytes_eq q.text text && stands_at phrase q.position from toks) || some_first text phrase from qs toks

first_places : (f : Field) (vs : List Value) (text : List ℕ) (phrase : List Token) (from v : ℕ) (x : Value) (sub : List Token) → slice_get vs v ≡ Some x → AreNear sub → AllNear f vs → IsShort from phrase
    → one_stands f vs phrase from (token_places text v sub) ≡ some_first text phrase from sub (tokens_in f x)
first_places f vs text phrase from v x [] got sub_near near short = refl
first_places f vs text phrase from v x (q ∷ qs) got sub_near near short =
    go (bytes_eq q.text text) (at_place f vs v q.position from x phrase got sub_near.0 near short) (first_places f vs text phrase from v x qs got sub_near.1 near short)
  where
    go : (b : Bool) → values_stand f vs phrase from (value_place v q.position) ≡ stands_at phrase q.position from (tokens_in f x)
        → one_stands f vs phrase from (token_places text v qs) ≡ some_first text phrase from qs (tokens_in f x)
        → one_stands f vs phrase from (if b then value_place v q.position ∷ token_places text v qs else token_places text v qs) ≡ (b && stands_at phrase q.position from (tokens_in f x)) || some_first text phrase from qs (tokens_in f x)
    go true h r = ap (λ y. y || one_stands f vs phrase from (token_places text v qs)) h ∙ ap (λ y. stands_at phrase q.position from (tokens_in f x) || y) r
    go false h r = r

-- tests that imply each other are equal
pub alike : (a b : Bool) → (a ≡ true → b ≡ true) → (b ≡ true → a ≡ true) → a ≡ b
alike true b f g = sym (f refl)
alike false true f g = g refl
alike false false f g = refl

and_left : (a b : Bool) → a && b ≡ true → a ≡ true
and_left true b h = refl
and_left false b h = h

and_right : (a b : Bool) → a && b ≡ true → b ≡ true
and_right true b h = h
and_right false b h = absurd (cc)

or_right : (a b : Bool) → b ≡ true → a || b ≡ true
or_right true b h = refl
or_right false b h = h

or_left : (a b : Bool) → a ≡ true → a || b ≡ true
or_left true b h = refl
or_left false b h = absurd (cc)

first_stands : (text : List ℕ) (phrase : List Token) (from : ℕ) (sub toks : List Token) → some_first text phrase from sub toks ≡ true → stands_at_one phrase from sub toks ≡ true
first_stands text phrase from [] toks h = h
first_stands text phrase from (q ∷ qs) toks h = go (or_cases (bytes_eq q.text text && stands_at phrase q.position from toks) (some_first text phrase from qs toks) h) (first_stands text phrase from qs toks)
  where
    go : ((bytes_eq q.text text && stands_at phrase q.position from toks ≡ true) ⊎ (some_first text phrase from qs toks ≡ true)) → (some_first text phrase from qs toks ≡ true → stands_at_one phrase from qs toks ≡ true)
        → stands_at phrase q.position from toks || stands_at_one phrase from qs toks ≡ true
    go (inl e) r = or_left (stands_at phrase q.position from toks) (stands_at_one phrase from qs toks) (and_right (bytes_eq q.text text) (stands_at phrase q.position from toks) e)
    go (inr e) r = or_right (stands_at phrase q.position from toks) (stands_at_one phrase from qs toks) (r e)

-- where the phrase stands at a position, its first token does
found_first : (text : List ℕ) (phrase : List Token) (from position : ℕ) (sub toks : List Token) → has_token_at text (position + from) from sub ≡ true → stands_at phrase position from toks ≡ true → some_first text phrase from sub toks ≡ true
found_first text phrase from position [] toks h stands = h
found_first text phrase from position (q ∷ qs) toks h stands =
    go (or_cases (bytes_eq q.text text && (q.position + from == position + from)) (has_token_at text (position + from) from qs) h) (λ e. found_first text phrase from position qs toks e stands)
  where
    go : ((bytes_eq q.text text && (q.position + from == position + from) ≡ true) ⊎ (has_token_at text (position + from) from qs ≡ true)) → (has_token_at text (position + from) from qs ≡ true → some_first text phrase from qs toks ≡ true)
        → (bytes_eq q.text text && stands_at phrase q.position from toks) || some_first text phrase from qs toks ≡ true
    go (inl e) r =
        let same_text = and_left (bytes_eq q.text text) (q.position + from == position + from) e in
        let sum : q.position + from ≡ position + from = eqb-true (q.position + from) (position + from) (and_right (bytes_eq q.text text) (q.position + from == position + from) e) in
        let same : q.position ≡ position = omega arith in
        or_left (bytes_eq q.text text && stands_at phrase q.position from toks) (some_first text phrase from qs toks)
        (ap (λ b. b && stands_at phrase q.position from toks) same_text ∙ (ap (λ k. stands_at phrase k from toks) same ∙ stands))
    go (inr e) r = or_right (bytes_eq q.text text && stands_at phrase q.position from toks) (some_first text phrase from qs toks) (r e)

stands_first : (t : Token) (ts : List Token) (sub toks : List Token) → stands_at_one (t ∷ ts) t.position sub toks ≡ true → some_first t.text (t ∷ ts) t.position toks toks ≡ true
stands_first t ts [] toks h = absurd (cc)
stands_first t ts (q ∷ qs) toks h = go (or_cases (stands_at (t ∷ ts) q.position t.position toks) (stands_at_one (t ∷ ts) t.position qs toks) h) (stands_first t ts qs toks)
  where
    go : ((stands_at (t ∷ ts) q.position t.position toks ≡ true) ⊎ (stands_at_one (t ∷ ts) t.position qs toks ≡ true)) → (stands_at_one (t ∷ ts) t.position qs toks ≡ true → some_first t.text (t ∷ ts) t.position toks toks ≡ true)
        → some_first t.text (t ∷ ts) t.position toks toks ≡ true
    go (inl e) r = found_first t.text (t ∷ ts) t.position q.position toks toks (and_left (has_token_at t.text (q.position + t.position) t.position toks) (stands_at ts q.position t.position toks) e) e
    go (inr e) r = r e

one_value : (t : Token) (ts toks : List Token) → some_first t.text (t ∷ ts) t.position toks toks ≡ has_phrase (t ∷ ts) toks
one_value t ts toks = alike (some_first t.text (t ∷ ts) t.position toks toks) (stands_at_one (t ∷ ts) t.position toks toks) (first_stands t.text (t ∷ ts) t.position toks toks) (stands_first t ts toks toks)

-- values from a place on
rest_stands : (f : Field) (vs : List Value) (t : Token) (ts : List Token) (w : ℕ) (rest : List Value) → ((i : ℕ) (x : Value) → slice_get rest i ≡ Some x → slice_get vs (w + i) ≡ Some x)
    → AllNear f vs → AllNear f rest → IsShort t.position (t ∷ ts)
    → one_stands f vs (t ∷ ts) t.position (term_places f t.text w rest) ≡ some_has_phrase f (t ∷ ts) rest
rest_stands f vs t ts w [] is near rest_near short = refl
rest_stands f vs t ts w (x ∷ rest) is near rest_near short =
    let here : slice_get vs w ≡ Some x = ap (λ k. slice_get vs k) (let e : w ≡ w + 0 = omega arith in e) ∙ is 0 x refl in
    one_append f vs (t ∷ ts) t.position (token_places t.text w (tokens_in f x)) (term_places f t.text (suc w) rest)
    ∙ (ap (λ b. b || one_stands f vs (t ∷ ts) t.position (term_places f t.text (suc w) rest))
    (first_places f vs t.text (t ∷ ts) t.position w x (tokens_in f x) here rest_near.0 near short ∙ one_value t ts (tokens_in f x))
    ∙ ap (λ b. has_phrase (t ∷ ts) (tokens_in f x) || b)
    (rest_stands f vs t ts (suc w) rest (λ i y got. ap (λ k. slice_get vs k) (let e : suc w + i ≡ w + suc i = omega arith in e) ∙ is (suc i) y got) near rest_near.1 short))

pub phrase_places : (f : Field) (vs : List Value) (t : Token) (ts : List Token) → AllNear f vs → IsShort t.position (t ∷ ts)
    → one_stands f vs (t ∷ ts) t.position (term_places f t.text 0 vs) ≡ some_has_phrase f (t ∷ ts) vs
phrase_places f vs t ts near short = rest_stands f vs t ts 0 vs (λ i x got. ap (λ k. slice_get vs k) (let e : 0 + i ≡ i = omega arith in e) ∙ got) near near short

-- ---- by the keys of a document

stands_by_keys : (n : ℕ) (f : Field) (vs : List Value) (os : List Occurrence) (ts : List Token) (from place : ℕ) → ((term : List ℕ) → places_of (field_key n term) os ≡ term_places f term 0 vs)
    → values_stand f vs ts from place ≡ stands_from n ts from place os
stands_by_keys n f vs os [] from place same = refl
stands_by_keys n f vs os (t ∷ ts) from place same =
    ap (λ ps. is_among (place + (t.position - from)) ps && values_stand f vs ts from place) (sym (same t.text))
    ∙ ap (λ b. is_among (place + (t.position - from)) (places_of (field_key n t.text) os) && b) (stands_by_keys n f vs os ts from place same)

one_by_keys : (n : ℕ) (f : Field) (vs : List Value) (os : List Occurrence) (ts : List Token) (from : ℕ) (ps : List ℕ) → ((term : List ℕ) → places_of (field_key n term) os ≡ term_places f term 0 vs)
    → one_stands f vs ts from ps ≡ stands_from_one n ts from ps os
one_by_keys n f vs os ts from [] same = refl
one_by_keys n f vs os ts from (p ∷ ps) same =
    ap (λ b. b || one_stands f vs ts from ps) (stands_by_keys n f vs os ts from p same)
    ∙ ap (λ b. stands_from n ts from p os || b) (one_by_keys n f vs os ts from ps same)

pub run_is_phrase : (s : Schema) (n : ℕ) (f : Field) (t : Token) (ts : List Token) (d : List DocField) → slice_get s.fields n ≡ Some f → n < 65280 → f.indexed ≡ true → AreTexts (values_in d n)
    → AllNear f (values_in d n) → IsShort t.position (t ∷ ts) → some_has_phrase f (t ∷ ts) (values_in d n) ≡ has_run n (t ∷ ts) (keys_of s d)
run_is_phrase s n f t ts d got lt on texts near short =
    let same : (term : List ℕ) → places_of (field_key n term) (keys_of s d) ≡ term_places f term 0 (values_in d n) = λ term. places_are s n f term d got lt on texts in
    sym (phrase_places f (values_in d n) t ts near short)
    ∙ (one_by_keys n f (values_in d n) (keys_of s d) (t ∷ ts) t.position (term_places f t.text 0 (values_in d n)) same
    ∙ ap (λ ps. stands_from_one n (t ∷ ts) t.position ps (keys_of s d)) (sym (same t.text)))

pub each_is_keys : (s : Schema) (n : ℕ) (f : Field) (ts : List Token) (d : List DocField) → slice_get s.fields n ≡ Some f → n < 65280 → f.indexed ≡ true → AreTexts (values_in d n)
    → each_stands f ts (values_in d n) ≡ has_each n ts (keys_of s d)
each_is_keys s n f [] d got lt on texts = refl
each_is_keys s n f (t ∷ ts) d got lt on texts =
    ap (λ b. b && each_stands f ts (values_in d n)) (token_is_key s n f t.text d got lt on texts)
    ∙ ap (λ b. has_key (field_key n t.text) (keys_of s d) && b) (each_is_keys s n f ts d got lt on texts)
