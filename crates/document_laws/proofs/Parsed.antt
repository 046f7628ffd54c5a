-- A value that is read has no more text than its tokens.
use Rattle.std.proofs.Common.{◌≡◌, ℕ, zero, suc, ◌+◌, ◌≤◌, List, [], ◌∷◌, length, Option, Some, None, refl, sym, ap, subst, arith}
use Rattle.std.specs.Prelude.{⊤, option_map, option_and_then}
use Rattle.std.specs.Ordering.{nat_cmp, match_ordering}
use Rattle.std.specs.Cmp.Lexicographic.{slice_cmp}
use Rattle.std.specs.declared.cmp.Ordering.{Ordering}
use Rattle.std.specs.declared.cmp.Ordering.TheVariants.{Less, Equal, Greater}
use Rattle.json.specs.Token.{Token}
use Rattle.json.specs.Lex.{tokens}
use Rattle.json.specs.Json as json
use Rattle.json.specs.Json.{parse_map, after_end_array, read_key, items_step, members_step, items, members, value_with, value, if_last}
use Rattle.serde_json.specs.Data.{Data, null, boolean, number, string, array, object, Items, no_items, item, Members, no_members, member, put}
use Rattle.serde_json.specs.Read.{number_of, of_json, of_items, of_members, max_depth, read}
use Rattle.document_laws.proofs.Lexed.{tokens_size, tokens_short}

-- ---- sizes

abbrev mutual
  json_size : json.Json → ℕ
  json_size json.null = 0
  json_size (json.boolean b) = 0
  json_size (json.number s) = 0
  json_size (json.string s) = suc (length s)
  json_size (json.array js) = json_items_size js
  json_size (json.object ms) = json_members_size ms

  json_items_size : json.Items → ℕ
  json_items_size json.no_items = 0
  json_items_size (json.item j js) = json_size j + json_items_size js

  json_members_size : json.Members → ℕ
  json_members_size json.no_members = 0
  json_members_size (json.member k j ms) = json_size j + json_members_size ms

abbrev mutual
  pub data_size : Data → ℕ
  data_size null = 0
  data_size (boolean b) = 0
  data_size (number n) = 0
  data_size (string s) = suc (length s)
  data_size (array ds) = items_size ds
  data_size (object ms) = members_size ms

  pub items_size : Items → ℕ
  items_size no_items = 0
  items_size (item d ds) = data_size d + items_size ds

  pub members_size : Members → ℕ
  members_size no_members = 0
  members_size (member k d ms) = data_size d + members_size ms

-- ---- the parser

-- what was parsed, with the tokens behind it, has at most so much
abbrev Fits : {A : Type 0} → (A → ℕ) → ℕ → Option (A × List Token) → Type 0
Fits size n None = ⊤
Fits size n (Some r) = size r.0 + tokens_size r.1 ≤ n

abbrev IsSized : {A : Type 0} → (A → ℕ) → (List Token → Option (A × List Token)) → Type 0
IsSized size parse = (ts : List Token) → Fits size (tokens_size ts) (parse ts)

mapped : {A C : Type 0} (size : A → ℕ) (other : C → ℕ) (n m : ℕ) (f : A → C) (o : Option (A × List Token)) → ((a : A) → other (f a) + n ≤ size a + m) → Fits size n o → Fits other m (parse_map f o)
mapped size other n m f None h p = tt
mapped size other n m f (Some r) h p = omega (arith, h r.0, p)

bound : {A C : Type 0} (size : A → ℕ) (other : C → ℕ) (n m : ℕ) (f : A × List Token → Option (C × List Token)) (o : Option (A × List Token)) →
    ((r : A × List Token) → size r.0 + tokens_size r.1 ≤ n → Fits other m (f r)) → Fits size n o → Fits other m (option_and_then f o)
bound size other n m f None h p = tt
bound size other n m f (Some r) h p = h r p

abbrev Rests : ℕ → Option (List Token) → Type 0
Rests n None = ⊤
Rests n (Some ts) = tokens_size ts ≤ n

ends : (ts : List Token) → Rests (tokens_size ts) (after_end_array ts)
ends [] = tt
ends (Token.begin_object ∷ ts) = tt
ends (Token.end_object ∷ ts) = tt
ends (Token.begin_array ∷ ts) = tt
ends (Token.end_array ∷ ts) = omega arith
ends (Token.key s ∷ ts) = tt
ends (Token.string s ∷ ts) = tt
ends (Token.number s ∷ ts) = tt
ends (Token.boolean b ∷ ts) = tt
ends (Token.null ∷ ts) = tt
ends (Token.bad ∷ ts) = tt

abbrev nothing : Option (List ℕ) → ℕ
nothing o = 0

keyed : IsSized nothing read_key
keyed [] = tt
keyed (Token.begin_object ∷ ts) = tt
keyed (Token.end_object ∷ ts) = omega arith
keyed (Token.begin_array ∷ ts) = tt
keyed (Token.end_array ∷ ts) = tt
keyed (Token.key s ∷ ts) = omega arith
keyed (Token.string s ∷ ts) = tt
keyed (Token.number s ∷ ts) = tt
keyed (Token.boolean b ∷ ts) = tt
keyed (Token.null ∷ ts) = tt
keyed (Token.bad ∷ ts) = tt

items_stepped : (one : List Token → Option (json.Json × List Token)) (more : List Token → Option (json.Items × List Token)) (ts : List Token) (o : Option (List Token)) →
    IsSized json_size one → IsSized json_items_size more → Rests (tokens_size ts) o → Fits json_items_size (tokens_size ts) (items_step one more ts o)
items_stepped one more ts (Some rest) v m r = omega (arith, r)
items_stepped one more ts None v m r =
    bound json_size json_items_size (tokens_size ts) (tokens_size ts) (λ p. parse_map (json.item p.0) (more p.1)) (one ts)
    (λ p l. mapped json_items_size json_items_size (tokens_size p.1) (tokens_size ts) (json.item p.0) (more p.1) (λ js. omega (arith, l)) (m p.1)) (v ts)

items_sized : (one : List Token → Option (json.Json × List Token)) → IsSized json_size one → (n : ℕ) → IsSized json_items_size (items one n)
unfolding items
items_sized one v zero ts = tt
items_sized one v (suc n) ts = items_stepped one (items one n) ts (after_end_array ts) v (items_sized one v n) (ends ts)

members_stepped : (one : List Token → Option (json.Json × List Token)) (more : List Token → Option (json.Members × List Token)) (o : Option (List ℕ)) (ts : List Token) →
    IsSized json_size one → IsSized json_members_size more → Fits json_members_size (tokens_size ts) (members_step one more o ts)
members_stepped one more None ts v m = omega arith
members_stepped one more (Some k) ts v m =
    bound json_size json_members_size (tokens_size ts) (tokens_size ts) (λ p. parse_map (json.member k p.0) (more p.1)) (one ts)
    (λ p l. mapped json_members_size json_members_size (tokens_size p.1) (tokens_size ts) (json.member k p.0) (more p.1) (λ ms. omega (arith, l)) (m p.1)) (v ts)

grown : {A : Type 0} (size : A → ℕ) (n m : ℕ) (o : Option (A × List Token)) → Fits size n o → n ≤ m → Fits size m o
grown size n m None h l = tt
grown size n m (Some r) h l = omega (arith, h, l)

members_sized : (one : List Token → Option (json.Json × List Token)) → IsSized json_size one → (n : ℕ) → IsSized json_members_size (members one n)
unfolding members
members_sized one v zero ts = tt
members_sized one v (suc n) ts =
    bound nothing json_members_size (tokens_size ts) (tokens_size ts) (λ p. members_step one (members one n) p.0 p.1) (read_key ts)
    (λ p l. grown json_members_size (tokens_size p.1) (tokens_size ts) (members_step one (members one n) p.0 p.1) (members_stepped one (members one n) p.0 p.1 v (members_sized one v n)) (omega (arith, l))) (keyed ts)

value_sized_with : (a : List Token → Option (json.Items × List Token)) (o : List Token → Option (json.Members × List Token)) → IsSized json_items_size a → IsSized json_members_size o → IsSized json_size (value_with a o)
value_sized_with a o ha ho [] = tt
value_sized_with a o ha ho (Token.begin_object ∷ ts) = mapped json_members_size json_size (tokens_size ts) (tokens_size (Token.begin_object ∷ ts)) json.object (o ts) (λ ms. omega arith) (ho ts)
value_sized_with a o ha ho (Token.end_object ∷ ts) = tt
value_sized_with a o ha ho (Token.begin_array ∷ ts) = mapped json_items_size json_size (tokens_size ts) (tokens_size (Token.begin_array ∷ ts)) json.array (a ts) (λ js. omega arith) (ha ts)
value_sized_with a o ha ho (Token.end_array ∷ ts) = tt
value_sized_with a o ha ho (Token.key s ∷ ts) = tt
value_sized_with a o ha ho (Token.string s ∷ ts) = omega arith
value_sized_with a o ha ho (Token.number s ∷ ts) = omega arith
value_sized_with a o ha ho (Token.boolean b ∷ ts) = omega arith
value_sized_with a o ha ho (Token.null ∷ ts) = omega arith
value_sized_with a o ha ho (Token.bad ∷ ts) = tt

value_sized : (depth : ℕ) → IsSized json_size (value depth)
unfolding value
value_sized zero ts = value_sized_with (λ ts. None) (λ ts. None) (λ ts. tt) (λ ts. tt) ts
value_sized (suc depth) ts =
    value_sized_with (λ ts. items (value depth) (length ts) ts) (λ ts. members (value depth) (length ts) ts) (λ ts. items_sized (value depth) (value_sized depth) (length ts) ts)
    (λ ts. members_sized (value depth) (value_sized depth) (length ts) ts) ts

-- ---- what is read

some_is : {A : Type 0} (a b : A) → Some a ≡ Some b → a ≡ b
some_is a b e = cc

-- what is mapped of an option
abbrev Comes : {A B : Type 0} → (A → B) → Option A → B → Type 0
Comes {A} f o y = (x : A) × (o ≡ Some x) × (f x ≡ y)

map_some : {A B : Type 0} (f : A → B) (o : Option A) (y : B) → option_map f o ≡ Some y → Comes f o y
map_some f (Some x) y e = (x, refl, some_is (f x) y e)
map_some f None y e = absurd cc

bind_some : {A B : Type 0} (f : A → Option B) (o : Option A) (y : B) → option_and_then f o ≡ Some y → (x : A) × (o ≡ Some x) × (f x ≡ Some y)
bind_some f (Some x) y e = (x, refl, e)
bind_some f None y e = absurd cc

put_size : (k : List ℕ) (d : Data) (ms : Members) → members_size (put k d ms) ≤ data_size d + members_size ms
put_size k d no_members = omega arith
put_size k d (member l e ms) = by (slice_cmp nat_cmp k l) (put_size k d ms)
  where
    by : (o : Ordering) → members_size (put k d ms) ≤ data_size d + members_size ms →
        members_size (match_ordering o (member k d (member l e ms)) (member l d ms) (member l e (put k d ms))) ≤ data_size d + members_size (member l e ms)
    by Less h = omega arith
    by Equal h = omega arith
    by Greater h = omega (arith, h)

mutual
  of_json_size : (j : json.Json) (d : Data) → of_json j ≡ Some d → data_size d ≤ json_size j
  of_json_size json.null d e = let same = ap data_size (some_is null d e) in omega (arith, same)
  of_json_size (json.boolean b) d e = let same = ap data_size (some_is (boolean b) d e) in omega (arith, same)
  of_json_size (json.number s) d e = let m = map_some number (number_of s) d e in let same = ap data_size m.2 in omega (arith, same)
  of_json_size (json.string s) d e = let same = ap data_size (some_is (string s) d e) in omega (arith, same)
  of_json_size (json.array js) d e =
      let m = map_some array (of_items js) d e in let same = ap data_size m.2 in let inner = of_items_size js m.0 m.1 in omega (arith, same, inner)
  of_json_size (json.object ms) d e =
      let m = map_some object (of_members ms no_members) d e in let same = ap data_size m.2 in let inner = of_members_size ms no_members m.0 m.1 in omega (arith, same, inner)

  of_items_size : (js : json.Items) (ds : Items) → of_items js ≡ Some ds → items_size ds ≤ json_items_size js
  of_items_size json.no_items ds e = let same = ap items_size (some_is no_items ds e) in omega (arith, same)
  of_items_size (json.item j js) ds e =
      let b = bind_some (λ d. option_map (item d) (of_items js)) (of_json j) ds e in
      let m = map_some (item b.0) (of_items js) ds b.2 in
      let same = ap items_size m.2 in
      let first = of_json_size j b.0 b.1 in
      let rest = of_items_size js m.0 m.1 in
      omega (arith, same, first, rest)

  of_members_size : (ms : json.Members) (found after : Members) → of_members ms found ≡ Some after → members_size after ≤ json_members_size ms + members_size found
  of_members_size json.no_members found after e = let same = ap members_size (some_is found after e) in omega (arith, same)
  of_members_size (json.member k j ms) found after e =
      let b = bind_some (λ d. of_members ms (put k d found)) (of_json j) after e in
      let first = of_json_size j b.0 b.1 in
      let rest = of_members_size ms (put k b.0 found) after b.2 in
      let with = put_size k b.0 found in
      omega (arith, first, rest, with)

last_size : (j : json.Json) (ts : List Token) (k : json.Json) → if_last j ts ≡ Some k → json_size k ≡ json_size j
last_size j [] k e = sym (ap json_size (some_is j k e))
last_size j (t ∷ ts) k e = absurd cc

pub read_size : (text : List ℕ) (d : Data) → read text ≡ Some d → data_size d ≤ length text
read_size text d e =
    let outer = bind_some of_json (option_and_then (λ p. if_last p.0 p.1) (value max_depth (tokens text))) d e in
    let inner = bind_some (λ p. if_last p.0 p.1) (value max_depth (tokens text)) outer.0 outer.1 in
    let parsed : json_size inner.0.0 + tokens_size inner.0.1 ≤ tokens_size (tokens text) = subst (Fits json_size (tokens_size (tokens text))) inner.1 (value_sized max_depth (tokens text)) in
    let same = last_size inner.0.0 inner.0.1 outer.0 inner.2 in
    let made = of_json_size outer.0 d outer.2 in
    let short = tokens_short text in
    omega (arith, parsed, same, made, short)
