-- The text that is printed of members, and of a value, is the compact text of `serde_json`.
use Rattle.std.proofs.Common.{◌≡◌, ◌⊎◌, inl, inr, ℕ, zero, suc, ◌≤◌, ◌<◌, List, [], ◌∷◌, ◌++◌, length, Bool, true, false, not, flat_map, ℤ, pos, negsuc, refl, sym, ap, ap₂, ◌∙◌, subst, arith, append_assoc, append-nil, if◌then◌else◌}
use Rattle.std.proofs.lemmas.Bool.{cases_eq, cases_lt, ne_eqb, le-ltb}
use Rattle.std.specs.Str.{bytes_eq}
use Rattle.json.specs.Print.{escape_byte, escape}
use Rattle.json.specs.Print as json
use Rattle.json.proofs.Printed.Strings.{escape_byte_plain}
use Rattle.serde_json.specs.Data.{Data, null, boolean, number, string, array, object, Members, no_members, member}
use Rattle.serde_json.specs.Find.{of_integer}
use Rattle.serde_json.specs.Written.{compact_text, comma_if}
use Rattle.serde_json.specs.Written as written
use Rattle.doc_value.specs.Printed.{escaped, quoted, comma, value_text, items_text, field_text, members_text, with_path}
use Rattle.doc_value.specs.Printed as printed
use Rattle.doc_value.specs.Documents.{HasGoodCount}
use Rattle.doc_value.specs.declared.schema.Kind.{Kind}
use Rattle.doc_value.specs.declared.schema.Kind.TheVariants as kinds
use Rattle.doc_value.specs.declared.doc.Value.{Value}
use Rattle.doc_value.specs.declared.doc.Value.TheVariants as values
use Rattle.document_laws.specs.ReadBack.{data_of, items_of, only_of, field_data}
use Rattle.document_laws.proofs.Building.{inside, rest, with_data, is_object}

-- ---- strings

abbrev Same : ℕ → Type 0
Same c = escaped c ≡ escape_byte c

-- P holds below n, counted down from the top
abbrev Each : (ℕ → Type 0) → ℕ → Type 0
Each P zero = Unit {0}
Each P (suc n) = P n × Each P n

each_below : (P : ℕ → Type 0) (n : ℕ) → Each P n → (c : ℕ) → c < n → P c
each_below P zero h c l = absurd (omega (arith, l))
each_below P (suc n) h c l = go (each_below P n h.1 c) (cases_eq c n)
  where
    go : (c < n → P c) → (c ≡ n) ⊎ (c ≡ n → ⊥) → P c
    go again (inl e) = subst P (sym e) h.0
    go again (inr ne) = again (omega (arith, l, ne))

controls : Each Same 32
unfolding escape_byte
controls = (refl, (refl, (refl, (refl, (refl, (refl, (refl, (refl, (refl, (refl, (refl, (refl, (refl, (refl, (refl, (refl, (refl, (refl, (refl, (refl, (refl, (refl, (refl, (refl, (refl, (refl, (refl, (refl, (refl, (refl, (refl, (refl, tt))))))))))))))))))))))))))))))))

quote_same : Same 34
unfolding escape_byte
quote_same = refl

backslash_same : Same 92
unfolding escape_byte
backslash_same = refl

plain_same : (c : ℕ) → (c ≡ 34 → ⊥) → (c ≡ 92 → ⊥) → 32 ≤ c → Same c
plain_same c q b l =
    rw (
      ne_eqb c 34 q,
      ne_eqb c 92 b,
      ne_eqb c 8 (λ e. omega (arith, e, l)),
      ne_eqb c 9 (λ e. omega (arith, e, l)),
      ne_eqb c 10 (λ e. omega (arith, e, l)),
      ne_eqb c 12 (λ e. omega (arith, e, l)),
      ne_eqb c 13 (λ e. omega (arith, e, l)),
      le-ltb c 32 l,
    )
    (sym (escape_byte_plain c q b l))

same_escape : (c : ℕ) → Same c
same_escape c = go (cases_eq c 34) (cases_eq c 92) (cases_lt c 32)
  where
    go : (c ≡ 34) ⊎ (c ≡ 34 → ⊥) → (c ≡ 92) ⊎ (c ≡ 92 → ⊥) → (c < 32) ⊎ (32 ≤ c) → Same c
    go (inl e) b l = subst Same (sym e) quote_same
    go (inr q) (inl e) l = subst Same (sym e) backslash_same
    go (inr q) (inr b) (inl l) = each_below Same 32 controls c l
    go (inr q) (inr b) (inr l) = plain_same c q b l

same_text : (t : List ℕ) → flat_map escaped t ≡ escape t
same_text [] = refl
same_text (c ∷ cs) = ap₂ (λ a b. a ++ b) (same_escape c) (same_text cs)

same_quoted : (t : List ℕ) → quoted t ≡ json.quoted t
same_quoted t = ap (λ s. 34 ∷ s ++ 34 ∷ []) (same_text t)

-- ---- values

integer_text : (n : ℤ) → value_text (values.I64 n) ≡ compact_text (number (of_integer n))
integer_text (pos n) = refl
integer_text (negsuc n) = refl

same_value : (v : Value) → value_text v ≡ compact_text (data_of v)
same_value (values.Text t) = same_quoted t
same_value (values.I64 n) = integer_text n
same_value (values.U64 n) = refl
same_value (values.Bool true) = refl
same_value (values.Bool false) = refl
same_value (values.Datetime s) = integer_text s

same_comma : (first : Bool) → comma first ≡ comma_if (not first)
same_comma true = refl
same_comma false = refl

grouped : (c v r t : List ℕ) → (c ++ (v ++ r)) ++ t ≡ c ++ (v ++ (r ++ t))
grouped c v r t = simp append_assoc

same_items : (first : Bool) (vs : List Value) → items_text first vs ++ 93 ∷ [] ≡ written.items_text (not first) (items_of vs)
same_items first [] = refl
same_items first (v ∷ vs) =
    grouped (comma first) (value_text v) (items_text false vs) (93 ∷ [])
    ∙ ap₂ (λ c r. c ++ r) (same_comma first) (ap₂ (λ a b. a ++ b) (same_value v) (same_items false vs))

same_only : (vs : List Value) → length vs ≡ 1 → items_text true vs ≡ compact_text (only_of vs)
same_only [] h = absurd (omega (arith, h))
same_only (v ∷ []) h = append-nil (value_text v) ∙ same_value v
same_only (v ∷ w ∷ vs) h = absurd (omega (arith, h))

pub same_field : (kind : Kind) (vs : List Value) → HasGoodCount kind vs → field_text kind vs ≡ compact_text (field_data kind vs)
same_field kinds.TextList vs h = ap (λ t. 91 ∷ t) (same_items true vs)
same_field kinds.Text vs h = same_only vs h
same_field kinds.I64 vs h = same_only vs h
same_field kinds.U64 vs h = same_only vs h
same_field kinds.Bool vs h = same_only vs h
same_field kinds.Datetime vs h = same_only vs h

-- ---- members

-- members as they are printed
abbrev pub shown : Members → printed.Members
shown no_members = printed.none
shown (member k (object inner) more) = printed.object k (shown inner) (shown more)
shown (member k d more) = printed.value k (compact_text d) (shown more)

shown_plain : (k : List ℕ) (d : Data) (ms : Members) → is_object d ≡ false → shown (member k d ms) ≡ printed.value k (compact_text d) (shown ms)
shown_plain k null ms e = refl
shown_plain k (boolean b) ms e = refl
shown_plain k (number n) ms e = refl
shown_plain k (string s) ms e = refl
shown_plain k (array ds) ms e = refl
shown_plain k (object inner) ms e = absurd (let y : true ≡ false = e in cc)

inside_shown : (n : List ℕ) (ms : Members) → printed.inside n (shown ms) ≡ shown (inside n ms)
inside_shown n no_members = refl
inside_shown n (member k (object inner) more) = go (bytes_eq n k)
  where
    go : (b : Bool) → (if b then shown inner else printed.none) ≡ shown (if b then inner else no_members)
    go true = refl
    go false = refl
inside_shown n (member k null more) = refl
inside_shown n (member k (boolean b) more) = refl
inside_shown n (member k (number x) more) = refl
inside_shown n (member k (string s) more) = refl
inside_shown n (member k (array ds) more) = refl

rest_shown : (n : List ℕ) (ms : Members) → printed.behind n (shown ms) ≡ shown (rest n ms)
rest_shown n no_members = refl
rest_shown n (member k (object inner) more) = go (bytes_eq n k)
  where
    go : (b : Bool) → (if b then shown more else printed.object k (shown inner) (shown more)) ≡ shown (if b then more else member k (object inner) more)
    go true = refl
    go false = refl
rest_shown n (member k null more) = refl
rest_shown n (member k (boolean b) more) = refl
rest_shown n (member k (number x) more) = refl
rest_shown n (member k (string s) more) = refl
rest_shown n (member k (array ds) more) = refl

pub shown_with : (ns : List (List ℕ)) (d : Data) (ms : Members) → is_object d ≡ false → with_path ns (compact_text d) (shown ms) ≡ shown (with_data ns d ms)
shown_with [] d ms e = refl
shown_with (n ∷ []) d ms e = sym (shown_plain n d ms e)
shown_with (n ∷ m ∷ ns) d ms e =
    ap₂ (printed.object n) (ap (with_path (m ∷ ns) (compact_text d)) (inside_shown n ms) ∙ shown_with (m ∷ ns) d (inside n ms) e) (rest_shown n ms)

regroup_value : (c q t m z : List ℕ) → (c ++ (q ++ 58 ∷ (t ++ m))) ++ z ≡ c ++ (q ++ 58 ∷ (t ++ (m ++ z)))
regroup_value c q t m z = simp append_assoc

regroup_object : (c q i m z : List ℕ) → (c ++ (q ++ 58 ∷ 123 ∷ (i ++ 125 ∷ m))) ++ z ≡ c ++ (q ++ 58 ∷ 123 ∷ (i ++ 125 ∷ (m ++ z)))
regroup_object c q i m z = simp append_assoc

-- a member with a value, and one with an object, where the members behind are written so
value_written : (first : Bool) (k t : List ℕ) (more : Members) (z : List ℕ) → members_text false (shown more) ++ 125 ∷ z ≡ written.members_text true more ++ z
    → (comma first ++ (quoted k ++ 58 ∷ (t ++ members_text false (shown more)))) ++ 125 ∷ z ≡ (comma_if (not first) ++ (json.quoted k ++ 58 ∷ (t ++ written.members_text true more))) ++ z
value_written first k t more z h =
    regroup_value (comma first) (quoted k) t (members_text false (shown more)) (125 ∷ z)
    ∙ ap₂ (λ c r. c ++ r) (same_comma first) (ap₂ (λ q r. q ++ 58 ∷ (t ++ r)) (same_quoted k) h)
    ∙ sym (regroup_value (comma_if (not first)) (json.quoted k) t (written.members_text true more) z)

object_written : (first : Bool) (k : List ℕ) (inner more : Members) (z : List ℕ)
    → members_text true (shown inner) ++ 125 ∷ (members_text false (shown more) ++ 125 ∷ z) ≡ written.members_text false inner ++ (members_text false (shown more) ++ 125 ∷ z)
    → members_text false (shown more) ++ 125 ∷ z ≡ written.members_text true more ++ z
    → (comma first ++ (quoted k ++ 58 ∷ 123 ∷ (members_text true (shown inner) ++ 125 ∷ members_text false (shown more)))) ++ 125 ∷ z
    ≡ (comma_if (not first) ++ (json.quoted k ++ 58 ∷ (123 ∷ written.members_text false inner ++ written.members_text true more))) ++ z
object_written first k inner more z g h =
    regroup_object (comma first) (quoted k) (members_text true (shown inner)) (members_text false (shown more)) (125 ∷ z)
    ∙ ap₂ (λ c r. c ++ r) (same_comma first) (ap₂ (λ q r. q ++ 58 ∷ 123 ∷ r) (same_quoted k) (g ∙ ap (λ r. written.members_text false inner ++ r) h))
    ∙ sym (regroup_value (comma_if (not first)) (json.quoted k) (123 ∷ written.members_text false inner) (written.members_text true more) z)

text_written : (first : Bool) (ms : Members) (z : List ℕ) → members_text first (shown ms) ++ 125 ∷ z ≡ written.members_text (not first) ms ++ z
text_written first no_members z = refl
text_written first (member k (object inner) more) z = object_written first k inner more z (text_written true inner (members_text false (shown more) ++ 125 ∷ z)) (text_written false more z)
text_written first (member k null more) z = value_written first k (compact_text null) more z (text_written false more z)
text_written first (member k (boolean b) more) z = value_written first k (compact_text (boolean b)) more z (text_written false more z)
text_written first (member k (number n) more) z = value_written first k (compact_text (number n)) more z (text_written false more z)
text_written first (member k (string s) more) z = value_written first k (compact_text (string s)) more z (text_written false more z)
text_written first (member k (array ds) more) z = value_written first k (compact_text (array ds)) more z (text_written false more z)

pub same_members : (ms : Members) → 123 ∷ members_text true (shown ms) ++ 125 ∷ [] ≡ compact_text (object ms)
same_members ms = ap (λ t. 123 ∷ t) (text_written true ms [] ∙ append-nil (written.members_text false ms))
