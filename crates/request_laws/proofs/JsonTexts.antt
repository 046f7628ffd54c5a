-- Each text in a value that JSON in UTF-8 reads as is UTF-8.
use Rattle.std.proofs.Common.{◌≡◌, ℕ, zero, suc, List, [], ◌∷◌, length, Option, Some, None, refl, subst, IsUtf8}
use Rattle.std.specs.Prelude.{⊤, option_map, option_and_then}
use Rattle.std.specs.Ordering.{nat_cmp, match_ordering}
use Rattle.std.specs.Cmp.Lexicographic.{slice_cmp}
use Rattle.std.specs.declared.cmp.Ordering.{Ordering}
use Rattle.std.specs.declared.cmp.Ordering.TheVariants.{Less, Equal, Greater}
use Rattle.json.specs.Token.{Token}
use Rattle.json.specs.Lex.{tokens}
use Rattle.json.specs.Json as json
use Rattle.json.specs.Json.{parse_map, after_end_array, read_key, items_step, members_step, items, members, value_with, value, if_last}
use Rattle.serde_json.specs.Data.{Data, null, boolean, number, string, array, object, Items, no_items, item, Members, no_members, member, put}
use Rattle.serde_json.specs.Find.{as_str, get, get_member}
use Rattle.serde_json.specs.Read.{number_of, of_json, of_items, of_members, max_depth, read}
use Rattle.request_laws.proofs.JsonTokens.{AreTextTokens, tokens_text}

-- ---- values

abbrev mutual
  IsTextJson : json.Json → Type 0
  IsTextJson json.null = ⊤
  IsTextJson (json.boolean b) = ⊤
  IsTextJson (json.number s) = ⊤
  IsTextJson (json.string s) = IsUtf8 s
  IsTextJson (json.array js) = AreTextItems js
  IsTextJson (json.object ms) = AreTextMembers ms

  AreTextItems : json.Items → Type 0
  AreTextItems json.no_items = ⊤
  AreTextItems (json.item j js) = IsTextJson j × AreTextItems js

  AreTextMembers : json.Members → Type 0
  AreTextMembers json.no_members = ⊤
  AreTextMembers (json.member k j ms) = IsTextJson j × AreTextMembers ms

abbrev mutual
  pub IsTextData : Data → Type 0
  IsTextData null = ⊤
  IsTextData (boolean b) = ⊤
  IsTextData (number n) = ⊤
  IsTextData (string s) = IsUtf8 s
  IsTextData (array ds) = ItemsAreTexts ds
  IsTextData (object ms) = MembersAreTexts ms

  pub ItemsAreTexts : Items → Type 0
  ItemsAreTexts no_items = ⊤
  ItemsAreTexts (item d ds) = IsTextData d × ItemsAreTexts ds

  pub MembersAreTexts : Members → Type 0
  MembersAreTexts no_members = ⊤
  MembersAreTexts (member k d ms) = IsTextData d × MembersAreTexts ms

-- ---- the parser

-- what was parsed, and the tokens behind it
abbrev Parsed : {A : Type 0} → (A → Type 0) → Option (A × List Token) → Type 0
Parsed Is None = ⊤
Parsed Is (Some r) = Is r.0 × AreTextTokens r.1

abbrev Parses : {A : Type 0} → (A → Type 0) → (List Token → Option (A × List Token)) → Type 0
Parses Is parse = (ts : List Token) → AreTextTokens ts → Parsed Is (parse ts)

mapped : {A C : Type 0} (Is : A → Type 0) (Other : C → Type 0) (f : A → C) (o : Option (A × List Token)) → ((a : A) → Is a → Other (f a)) → Parsed Is o → Parsed Other (parse_map f o)
mapped Is Other f None h p = tt
mapped Is Other f (Some r) h p = (h r.0 p.0, p.1)

bound : {A C : Type 0} (Is : A → Type 0) (Other : C → Type 0) (f : A × List Token → Option (C × List Token)) (o : Option (A × List Token)) →
    ((r : A × List Token) → Is r.0 → AreTextTokens r.1 → Parsed Other (f r)) → Parsed Is o → Parsed Other (option_and_then f o)
bound Is Other f None h p = tt
bound Is Other f (Some r) h p = h r p.0 p.1

abbrev Rests : Option (List Token) → Type 0
Rests None = ⊤
Rests (Some ts) = AreTextTokens ts

ends : (ts : List Token) → AreTextTokens ts → Rests (after_end_array ts)
ends [] h = tt
ends (Token.begin_object ∷ ts) h = tt
ends (Token.end_object ∷ ts) h = tt
ends (Token.begin_array ∷ ts) h = tt
ends (Token.end_array ∷ ts) h = h.1
ends (Token.key s ∷ ts) h = tt
ends (Token.string s ∷ ts) h = tt
ends (Token.number s ∷ ts) h = tt
ends (Token.boolean b ∷ ts) h = tt
ends (Token.null ∷ ts) h = tt
ends (Token.bad ∷ ts) h = tt

abbrev Any : Option (List ℕ) → Type 0
Any o = ⊤

keyed : Parses Any read_key
keyed [] h = tt
keyed (Token.begin_object ∷ ts) h = tt
keyed (Token.end_object ∷ ts) h = (tt, h.1)
keyed (Token.begin_array ∷ ts) h = tt
keyed (Token.end_array ∷ ts) h = tt
keyed (Token.key s ∷ ts) h = (tt, h.1)
keyed (Token.string s ∷ ts) h = tt
keyed (Token.number s ∷ ts) h = tt
keyed (Token.boolean b ∷ ts) h = tt
keyed (Token.null ∷ ts) h = tt
keyed (Token.bad ∷ ts) h = tt

items_stepped : (one : List Token → Option (json.Json × List Token)) (more : List Token → Option (json.Items × List Token)) (ts : List Token) (o : Option (List Token)) →
    Parses IsTextJson one → Parses AreTextItems more → AreTextTokens ts → Rests o → Parsed AreTextItems (items_step one more ts o)
items_stepped one more ts (Some rest) v m h r = (tt, r)
items_stepped one more ts None v m h r =
    bound IsTextJson AreTextItems (λ p. parse_map (json.item p.0) (more p.1)) (one ts)
    (λ p first rest. mapped AreTextItems AreTextItems (json.item p.0) (more p.1) (λ js k. (first, k)) (m p.1 rest)) (v ts h)

items_parse : (one : List Token → Option (json.Json × List Token)) → Parses IsTextJson one → (n : ℕ) → Parses AreTextItems (items one n)
unfolding items
items_parse one v zero ts h = tt
items_parse one v (suc n) ts h = items_stepped one (items one n) ts (after_end_array ts) v (items_parse one v n) h (ends ts h)

members_stepped : (one : List Token → Option (json.Json × List Token)) (more : List Token → Option (json.Members × List Token)) (o : Option (List ℕ)) (ts : List Token) →
    Parses IsTextJson one → Parses AreTextMembers more → AreTextTokens ts → Parsed AreTextMembers (members_step one more o ts)
members_stepped one more None ts v m h = (tt, h)
members_stepped one more (Some k) ts v m h =
    bound IsTextJson AreTextMembers (λ p. parse_map (json.member k p.0) (more p.1)) (one ts)
    (λ p first rest. mapped AreTextMembers AreTextMembers (json.member k p.0) (more p.1) (λ ms k. (first, k)) (m p.1 rest)) (v ts h)

members_parse : (one : List Token → Option (json.Json × List Token)) → Parses IsTextJson one → (n : ℕ) → Parses AreTextMembers (members one n)
unfolding members
members_parse one v zero ts h = tt
members_parse one v (suc n) ts h =
    bound Any AreTextMembers (λ p. members_step one (members one n) p.0 p.1) (read_key ts)
    (λ p any rest. members_stepped one (members one n) p.0 p.1 v (members_parse one v n) rest) (keyed ts h)

with_parse : (a : List Token → Option (json.Items × List Token)) (o : List Token → Option (json.Members × List Token)) → Parses AreTextItems a → Parses AreTextMembers o → Parses IsTextJson (value_with a o)
with_parse a o ha ho [] h = tt
with_parse a o ha ho (Token.begin_object ∷ ts) h = mapped AreTextMembers IsTextJson json.object (o ts) (λ ms k. k) (ho ts h.1)
with_parse a o ha ho (Token.end_object ∷ ts) h = tt
with_parse a o ha ho (Token.begin_array ∷ ts) h = mapped AreTextItems IsTextJson json.array (a ts) (λ js k. k) (ha ts h.1)
with_parse a o ha ho (Token.end_array ∷ ts) h = tt
with_parse a o ha ho (Token.key s ∷ ts) h = tt
with_parse a o ha ho (Token.string s ∷ ts) h = (h.0, h.1)
with_parse a o ha ho (Token.number s ∷ ts) h = (tt, h.1)
with_parse a o ha ho (Token.boolean b ∷ ts) h = (tt, h.1)
with_parse a o ha ho (Token.null ∷ ts) h = (tt, h.1)
with_parse a o ha ho (Token.bad ∷ ts) h = tt

value_parses : (depth : ℕ) → Parses IsTextJson (value depth)
unfolding value
value_parses zero ts h = with_parse (λ ts. None) (λ ts. None) (λ ts k. tt) (λ ts k. tt) ts h
value_parses (suc depth) ts h =
    with_parse (λ ts. items (value depth) (length ts) ts) (λ ts. members (value depth) (length ts) ts) (λ ts k. items_parse (value depth) (value_parses depth) (length ts) ts k)
    (λ ts k. members_parse (value depth) (value_parses depth) (length ts) ts k) ts h

-- ---- what is read

some_is : {A : Type 0} (a b : A) → Some a ≡ Some b → a ≡ b
some_is a b e = cc

map_some : {A B : Type 0} (f : A → B) (o : Option A) (y : B) → option_map f o ≡ Some y → (x : A) × (o ≡ Some x) × (f x ≡ y)
map_some f (Some x) y e = (x, refl, some_is (f x) y e)
map_some f None y e = absurd cc

bind_some : {A B : Type 0} (f : A → Option B) (o : Option A) (y : B) → option_and_then f o ≡ Some y → (x : A) × (o ≡ Some x) × (f x ≡ Some y)
bind_some f (Some x) y e = (x, refl, e)
bind_some f None y e = absurd cc

put_texts : (k : List ℕ) (d : Data) (ms : Members) → IsTextData d → MembersAreTexts ms → MembersAreTexts (put k d ms)
put_texts k d no_members h all = (h, tt)
put_texts k d (member l e ms) h all = by (slice_cmp nat_cmp k l) (put_texts k d ms h all.1)
  where
    by : (o : Ordering) → MembersAreTexts (put k d ms) → MembersAreTexts (match_ordering o (member k d (member l e ms)) (member l d ms) (member l e (put k d ms)))
    by Less r = (h, all)
    by Equal r = (h, all.1)
    by Greater r = (all.0, r)

mutual
  data_text : (j : json.Json) (d : Data) → IsTextJson j → of_json j ≡ Some d → IsTextData d
  data_text json.null d h e = subst IsTextData (some_is null d e) tt
  data_text (json.boolean b) d h e = subst IsTextData (some_is (boolean b) d e) tt
  data_text (json.number s) d h e = let m = map_some number (number_of s) d e in subst IsTextData m.2 tt
  data_text (json.string s) d h e = subst IsTextData (some_is (string s) d e) h
  data_text (json.array js) d h e = let m = map_some array (of_items js) d e in subst IsTextData m.2 (items_text js m.0 h m.1)
  data_text (json.object ms) d h e = let m = map_some object (of_members ms no_members) d e in subst IsTextData m.2 (members_text ms no_members m.0 h tt m.1)

  items_text : (js : json.Items) (ds : Items) → AreTextItems js → of_items js ≡ Some ds → ItemsAreTexts ds
  items_text json.no_items ds h e = subst ItemsAreTexts (some_is no_items ds e) tt
  items_text (json.item j js) ds h e =
      let b = bind_some (λ d. option_map (item d) (of_items js)) (of_json j) ds e in
      let m = map_some (item b.0) (of_items js) ds b.2 in
      subst ItemsAreTexts m.2 (data_text j b.0 h.0 b.1, items_text js m.0 h.1 m.1)

  members_text : (ms : json.Members) (found after : Members) → AreTextMembers ms → MembersAreTexts found → of_members ms found ≡ Some after → MembersAreTexts after
  members_text json.no_members found after h all e = subst MembersAreTexts (some_is found after e) all
  members_text (json.member k j ms) found after h all e =
      let b = bind_some (λ d. of_members ms (put k d found)) (of_json j) after e in
      members_text ms (put k b.0 found) after h.1 (put_texts k b.0 found (data_text j b.0 h.0 b.1) all) b.2

last_is : (j : json.Json) (ts : List Token) (k : json.Json) → if_last j ts ≡ Some k → j ≡ k
last_is j [] k e = some_is j k e
last_is j (t ∷ ts) k e = absurd cc

pub read_text : (text : List ℕ) (d : Data) → IsUtf8 text → read text ≡ Some d → IsTextData d
read_text text d u e =
    let outer = bind_some of_json (option_and_then (λ p. if_last p.0 p.1) (value max_depth (tokens text))) d e in
    let inner = bind_some (λ p. if_last p.0 p.1) (value max_depth (tokens text)) outer.0 outer.1 in
    let parsed = subst (Parsed IsTextJson) inner.1 (value_parses max_depth (tokens text) (tokens_text text u)) in
    data_text outer.0 d (subst IsTextJson (last_is inner.0.0 inner.0.1 outer.0 inner.2) parsed.0) outer.2

-- ---- what stands at a key

-- there is nothing, or a value whose texts are UTF-8
abbrev pub IsTextIfThere : Option Data → Type 0
IsTextIfThere None = ⊤
IsTextIfThere (Some d) = IsTextData d

member_text : (k : List ℕ) (ms : Members) → MembersAreTexts ms → IsTextIfThere (get_member k ms)
member_text k no_members all = tt
member_text k (member l e ms) all = by (slice_cmp nat_cmp k l) (member_text k ms all.1)
  where
    by : (o : Ordering) → IsTextIfThere (get_member k ms) → IsTextIfThere (match_ordering o (get_member k ms) (Some e) (get_member k ms))
    by Less r = r
    by Equal r = all.0
    by Greater r = r

pub key_text : (k : List ℕ) (d : Data) → IsTextData d → IsTextIfThere (get k d)
key_text k null h = tt
key_text k (boolean b) h = tt
key_text k (number n) h = tt
key_text k (string s) h = tt
key_text k (array ds) h = tt
key_text k (object ms) h = member_text k ms h

pub str_text : (d : Data) (s : List ℕ) → IsTextData d → as_str d ≡ Some s → IsUtf8 s
str_text null s h e = absurd cc
str_text (boolean b) s h e = absurd cc
str_text (number n) s h e = absurd cc
str_text (string t) s h e = subst IsUtf8 (some_is t s e) h
str_text (array ds) s h e = absurd cc
str_text (object ms) s h e = absurd cc
