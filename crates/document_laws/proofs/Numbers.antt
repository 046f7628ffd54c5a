-- The numbers of a value that is read have 64 bits.
use Rattle.std.proofs.Common.{◌≡◌, ℕ, zero, suc, ◌^◌, ◌<◌, ◌&&◌, Bool, true, false, List, [], ◌∷◌, Option, Some, None, refl, subst, arith, if◌then◌else◌}
use Rattle.std.specs.Prelude.{pos, neg_ℤ, nat_lt, nat_le, drop, slice_index, option_map, option_and_then, ◌==◌, ◌≤◌}
use Rattle.std.specs.Float.{binary64, float_is_finite}
use Rattle.std.specs.Ordering.{nat_cmp, match_ordering}
use Rattle.std.specs.Cmp.Lexicographic.{slice_cmp}
use Rattle.std.specs.declared.cmp.Ordering.{Ordering}
use Rattle.std.specs.declared.cmp.Ordering.TheVariants.{Less, Equal, Greater}
use Rattle.std.proofs.lemmas.Bool.{and_parts, ltb-true, leb-true}
use Rattle.fast_float.specs.Text.{minus, Parts, scan, digits_of, nearest, with_sign}
use Rattle.json.specs.Lex.{tokens}
use Rattle.json.specs.Json as json
use Rattle.json.specs.Json.{if_last, value}
use Rattle.serde_json.specs.Data.{Num, unsigned, negative, float, Data, null, boolean, number, string, array, object, Items, no_items, item, Members, no_members, member, put}
use Rattle.serde_json.specs.Find.{get, get_member}
use Rattle.serde_json.specs.Read.{is_integer, float_of, number_from, number_of, of_json, of_items, of_members, max_depth, read}
use Rattle.doc_mapping.specs.Documents.{value_at}
use Rattle.document_laws.specs.ReadBack.{IsI64}

abbrev pub IsNum64 : Num → Type 0
IsNum64 (unsigned n) = n < 2 ^ 64
IsNum64 (negative z) = IsI64 z
IsNum64 (float x) = Unit {0}

abbrev mutual
  pub Has64 : Data → Type 0
  Has64 null = Unit {0}
  Has64 (boolean b) = Unit {0}
  Has64 (number n) = IsNum64 n
  Has64 (string s) = Unit {0}
  Has64 (array ds) = ItemsHave64 ds
  Has64 (object ms) = MembersHave64 ms

  pub ItemsHave64 : Items → Type 0
  ItemsHave64 no_items = Unit {0}
  ItemsHave64 (item d ds) = Has64 d × ItemsHave64 ds

  pub MembersHave64 : Members → Type 0
  MembersHave64 no_members = Unit {0}
  MembersHave64 (member k d ms) = Has64 d × MembersHave64 ms

-- ---- a number

some_is : {A : Type 0} (a b : A) → Some a ≡ Some b → a ≡ b
some_is a b e = cc

no_some : {A P : Type 0} (a : A) → None ≡ Some a → P
no_some a e = absurd cc

float_64 : (sign : Bool) (p : Parts) (n : Num) → float_of sign p ≡ Some n → IsNum64 n
float_64 sign p n e = by (float_is_finite (nearest binary64 sign p)) e
  where
    by : (b : Bool) → (if b then Some (float (nearest binary64 sign p)) else None) ≡ Some n → IsNum64 n
    by true h = subst IsNum64 (some_is (float (nearest binary64 sign p)) n h) tt
    by false h = no_some n h

negative_64 : (d : ℕ) → d ≤ 2 ^ 63 → IsI64 (neg_ℤ (pos d))
negative_64 zero l = omega arith
negative_64 (suc d) l = omega (arith, l)

number_64 : (sign : Bool) (p : Parts) (n : Num) → number_from sign p ≡ Some n → IsNum64 n
number_64 false p n e = by (is_integer p && nat_lt (digits_of p) (2 ^ 64)) refl e
  where
    by : (b : Bool) → (is_integer p && nat_lt (digits_of p) (2 ^ 64)) ≡ b → (if b then Some (unsigned (digits_of p)) else float_of false p) ≡ Some n → IsNum64 n
    by true is h = subst IsNum64 (some_is (unsigned (digits_of p)) n h) (ltb-true (digits_of p) (2 ^ 64) (and_parts (is_integer p) (nat_lt (digits_of p) (2 ^ 64)) is).1)
    by false is h = float_64 false p n h
number_64 true p n e = by (is_integer p && nat_lt 0 (digits_of p) && nat_le (digits_of p) (2 ^ 63)) refl e
  where
    by : (b : Bool) → (is_integer p && nat_lt 0 (digits_of p) && nat_le (digits_of p) (2 ^ 63)) ≡ b
        → (if b then Some (negative (with_sign true (digits_of p))) else float_of true p) ≡ Some n → IsNum64 n
    by true is h =
        subst IsNum64 (some_is (negative (with_sign true (digits_of p))) n h)
        (negative_64 (digits_of p) (leb-true (digits_of p) (2 ^ 63) (and_parts (is_integer p && nat_lt 0 (digits_of p)) (nat_le (digits_of p) (2 ^ 63)) is).1))
    by false is h = float_64 true p n h

text_64 : (s : List ℕ) (n : Num) → number_of s ≡ Some n → IsNum64 n
unfolding number_of
text_64 s n e = by (slice_index s 0 == minus) e
  where
    by : (b : Bool) → (if b then number_from true (scan (drop 1 s)) else number_from false (scan s)) ≡ Some n → IsNum64 n
    by true h = number_64 true (scan (drop 1 s)) n h
    by false h = number_64 false (scan s) n h

-- ---- a value

map_some : {A B : Type 0} (f : A → B) (o : Option A) (y : B) → option_map f o ≡ Some y → (x : A) × (o ≡ Some x) × (f x ≡ y)
map_some f (Some x) y e = (x, refl, some_is (f x) y e)
map_some f None y e = no_some y e

bind_some : {A B : Type 0} (f : A → Option B) (o : Option A) (y : B) → option_and_then f o ≡ Some y → (x : A) × (o ≡ Some x) × (f x ≡ Some y)
bind_some f (Some x) y e = (x, refl, e)
bind_some f None y e = no_some y e

put_64 : (k : List ℕ) (d : Data) (ms : Members) → Has64 d → MembersHave64 ms → MembersHave64 (put k d ms)
put_64 k d no_members h m = (h, tt)
put_64 k d (member l e ms) h m = by (slice_cmp nat_cmp k l) (put_64 k d ms h m.1)
  where
    by : (o : Ordering) → MembersHave64 (put k d ms) → MembersHave64 (match_ordering o (member k d (member l e ms)) (member l d ms) (member l e (put k d ms)))
    by Less rest = (h, m)
    by Equal rest = (h, m.1)
    by Greater rest = (m.0, rest)

mutual
  json_64 : (j : json.Json) (d : Data) → of_json j ≡ Some d → Has64 d
  json_64 json.null d e = subst Has64 (some_is null d e) tt
  json_64 (json.boolean b) d e = subst Has64 (some_is (boolean b) d e) tt
  json_64 (json.number s) d e = let m = map_some number (number_of s) d e in subst Has64 m.2 (text_64 s m.0 m.1)
  json_64 (json.string s) d e = subst Has64 (some_is (string s) d e) tt
  json_64 (json.array js) d e = let m = map_some array (of_items js) d e in subst Has64 m.2 (items_64 js m.0 m.1)
  json_64 (json.object ms) d e = let m = map_some object (of_members ms no_members) d e in subst Has64 m.2 (members_64 ms no_members m.0 tt m.1)

  items_64 : (js : json.Items) (ds : Items) → of_items js ≡ Some ds → ItemsHave64 ds
  items_64 json.no_items ds e = subst ItemsHave64 (some_is no_items ds e) tt
  items_64 (json.item j js) ds e =
      let b = bind_some (λ d. option_map (item d) (of_items js)) (of_json j) ds e in
      let m = map_some (item b.0) (of_items js) ds b.2 in
      subst ItemsHave64 m.2 (json_64 j b.0 b.1, items_64 js m.0 m.1)

  members_64 : (ms : json.Members) (found after : Members) → MembersHave64 found → of_members ms found ≡ Some after → MembersHave64 after
  members_64 json.no_members found after h e = subst MembersHave64 (some_is found after e) h
  members_64 (json.member k j ms) found after h e =
      let b = bind_some (λ d. of_members ms (put k d found)) (of_json j) after e in
      members_64 ms (put k b.0 found) after (put_64 k b.0 found (json_64 j b.0 b.1) h) b.2

pub read_64 : (text : List ℕ) (d : Data) → read text ≡ Some d → Has64 d
read_64 text d e = let b = bind_some of_json (option_and_then (λ p. if_last p.0 p.1) (value max_depth (tokens text))) d e in json_64 b.0 d b.2

-- ---- what stands in it

member_64 : (k : List ℕ) (ms : Members) (x : Data) → MembersHave64 ms → get_member k ms ≡ Some x → Has64 x
member_64 k no_members x h e = no_some x e
member_64 k (member l d ms) x h e = by (slice_cmp nat_cmp k l) (member_64 k ms x h.1) e
  where
    by : (o : Ordering) → (get_member k ms ≡ Some x → Has64 x) → match_ordering o (get_member k ms) (Some d) (get_member k ms) ≡ Some x → Has64 x
    by Less rest e = rest e
    by Equal rest e = subst Has64 (some_is d x e) h.0
    by Greater rest e = rest e

get_64 : (k : List ℕ) (d x : Data) → Has64 d → get k d ≡ Some x → Has64 x
get_64 k null x h e = no_some x e
get_64 k (boolean b) x h e = no_some x e
get_64 k (number n) x h e = no_some x e
get_64 k (string s) x h e = no_some x e
get_64 k (array ds) x h e = no_some x e
get_64 k (object ms) x h e = member_64 k ms x h e

pub at_64 : (names : List (List ℕ)) (d x : Data) → Has64 d → value_at names d ≡ Some x → Has64 x
at_64 [] d x h e = subst Has64 (some_is d x e) h
at_64 (name ∷ names) d x h e = let b = bind_some (value_at names) (get name d) x e in at_64 names b.0 x (get_64 name d b.0 h b.1) b.2
