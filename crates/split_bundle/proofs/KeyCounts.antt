-- How many keys documents say, and how many blocks a split's dictionary has.
use Rattle.std.proofs.Common.{◌≡◌, ℕ, suc, ◌+◌, ◌<◌, ◌≤◌, ◌^◌, Bool, true, false, ◌||◌, List, [], ◌∷◌, ◌++◌, length, refl, sym, ap, subst, ◌∙◌, arith, length-append}
use Rattle.std.specs.Prelude.{◌==◌, Contains, if◌then◌else◌}
use Rattle.std.specs.List.{flat_map, AllByRecursion}
use Rattle.std.specs.Str.{bytes_eq}
use Rattle.std.proofs.lemmas.Bool.{eqb-true}
use Rattle.std.proofs.lemmas.Slice.Eq.{bytes_eq-Decides}
use Rattle.doc_value.specs.declared.doc.DocField.{DocField}
use Rattle.doc_value.specs.declared.doc.Value.{Value}
use Rattle.doc_value.specs.declared.doc.Value.TheVariants as values
use Rattle.doc_value.specs.declared.schema.Field.{Field}
use Rattle.doc_value.specs.declared.schema.Schema.{Schema}
use Rattle.query_ast.specs.FieldTokens.{field_tokens}
use Rattle.doc_value.specs.Documents.{values_in}
use Rattle.text_tokens.specs.declared.tokens.Token.{Token}
use Rattle.term_dict.specs.Keys.{is_below}
use Rattle.term_dict.proofs.Orders.{below_not}
use Rattle.term_dict.proofs.Areas.{varint_some}
use Rattle.byte_fields.specs.Spelling.{varint}
use Rattle.split_bundle.specs.declared.part_view.PartView.{PartView}
use Rattle.split_bundle.specs.declared.placed.Placed.{Placed}
use Rattle.split_bundle.specs.Documents.{value_bytes, field_bytes, total_weight}
use Rattle.split_bundle.specs.Files.{Parts}
use Rattle.split_bundle.specs.Keys.{Occurrence, of_tokens, of_value, of_values, of_presence, of_field, of_fields, keys_of}
use Rattle.split_bundle.specs.Lending.{IsPartOf}
use Rattle.split_bundle.specs.Lists.{has_key, stands_in, list_of, places_in, terms_from}
use Rattle.split_bundle.specs.Splits.{AreKeys, AreRising}
use Rattle.split_bundle.proofs.DocsAgain.{value_some}
use Rattle.split_bundle.proofs.Light.{bytes_in, field_long, doc_light}
use Rattle.split_bundle.proofs.TokenPlaces.{tokens_few}

-- ---- a document says at most a key a byte

length-of_tokens : (n place : ℕ) (ts : List Token) → length (of_tokens n place ts) ≡ length ts
length-of_tokens n place [] = refl
length-of_tokens n place (t ∷ ts) = ap (λ (k : ℕ). suc k) (length-of_tokens n place ts)

value_keys : (f : Field) (n place : ℕ) (v : Value) → length (of_value f n place v) ≤ length (value_bytes v)
value_keys f n place (values.Text t) = omega (arith, length-of_tokens n place (field_tokens f t), tokens_few f t, varint_some (length t), length-append (varint (length t)) t)
value_keys f n place (values.I64 z) = omega (arith, value_some (values.I64 z))
value_keys f n place (values.U64 k) = omega (arith, value_some (values.U64 k))
value_keys f n place (values.Bool b) = omega (arith, value_some (values.Bool b))
value_keys f n place (values.Datetime z) = omega (arith, value_some (values.Datetime z))

values_keys : (f : Field) (n place : ℕ) (vs : List Value) → length (of_values f n place vs) ≤ bytes_in vs
values_keys f n place [] = omega arith
values_keys f n place (v ∷ vs) =
    omega (arith, value_keys f n place v, values_keys f n (suc place) vs, length-append (of_value f n place v) (of_values f n (suc place) vs), length-append (value_bytes v) (flat_map value_bytes vs))

presence_keys : (n : ℕ) (vs : List Value) → length (of_presence n vs) ≤ 1
presence_keys n [] = omega arith
presence_keys n (v ∷ vs) = omega arith

field_keys : (f : Field) (n : ℕ) (vs : List Value) → length (of_field f n vs) ≤ 1 + bytes_in vs
field_keys f n vs = by f.indexed
  where
    by : (b : Bool) → length (if b then of_presence n vs ++ of_values f n 0 vs else []) ≤ 1 + bytes_in vs
    by true = omega (arith, presence_keys n vs, values_keys f n 0 vs, length-append (of_presence n vs) (of_values f n 0 vs))
    by false = omega arith

no_values : (f : Field) (n : ℕ) → of_field f n [] ≡ []
no_values f n = by f.indexed
  where
    by : (b : Bool) → ◌≡◌ {A = List Occurrence} (if b then of_presence n [] ++ of_values f n 0 [] else []) []
    by true = refl
    by false = refl

no_fields : (fs : List Field) (m : ℕ) → of_fields fs m [] ≡ []
no_fields [] m = refl
no_fields (f ∷ fs) m = rw (no_values f m, no_fields fs (suc m)) refl

-- a field of the document counts once among the numbers from one on
fields_past : (fs : List Field) (m : ℕ) (g : DocField) (gs : List DocField) → g.number < m → of_fields fs m (g ∷ gs) ≡ of_fields fs m gs
fields_past [] m g gs lt = refl
fields_past (f ∷ fs) m g gs lt = by (g.number == m) refl (fields_past fs (suc m) g gs (omega (arith, lt)))
  where
    by : (b : Bool) → (g.number == m) ≡ b → of_fields fs (suc m) (g ∷ gs) ≡ of_fields fs (suc m) gs → of_fields (f ∷ fs) m (g ∷ gs) ≡ of_fields (f ∷ fs) m gs
    by true is rest = let same = eqb-true g.number m is in absurd (omega (arith, same, lt))
    by false is rest = rw (is, rest) refl

fields_more : (fs : List Field) (m : ℕ) (g : DocField) (gs : List DocField) → length (of_fields fs m (g ∷ gs)) ≤ length (field_bytes g) + length (of_fields fs m gs)
fields_more [] m g gs = omega arith
fields_more (f ∷ fs) m g gs = by (g.number == m) refl (fields_more fs (suc m) g gs)
  where
    by : (b : Bool) → (g.number == m) ≡ b → length (of_fields fs (suc m) (g ∷ gs)) ≤ length (field_bytes g) + length (of_fields fs (suc m) gs)
        → length (of_fields (f ∷ fs) m (g ∷ gs)) ≤ length (field_bytes g) + length (of_fields (f ∷ fs) m gs)
    by true is rest =
        let same : g.number ≡ m = eqb-true g.number m is in
        let others = ap (λ (l : List Occurrence). length l) (fields_past fs (suc m) g gs (omega (arith, same))) in
        rw is (omega (arith, others, field_keys f m g.values, field_long g, length-append (of_field f m g.values) (of_fields fs (suc m) (g ∷ gs)), length-append (of_field f m (values_in gs m)) (of_fields fs (suc m) gs)))
    by false is rest =
        rw is (omega (arith, rest, length-append (of_field f m (values_in gs m)) (of_fields fs (suc m) (g ∷ gs)), length-append (of_field f m (values_in gs m)) (of_fields fs (suc m) gs)))

all_fields : (fs : List Field) (m : ℕ) (doc : List DocField) → length (of_fields fs m doc) ≤ length (flat_map field_bytes doc)
all_fields fs m [] = rw (no_fields fs m) (omega arith)
all_fields fs m (g ∷ gs) = omega (arith, all_fields fs m gs, fields_more fs m g gs, length-append (field_bytes g) (flat_map field_bytes gs))

abbrev all_keys : Schema → List Placed → List Occurrence
all_keys s documents = flat_map (λ d. keys_of s d.doc) documents

keys_light : (s : Schema) (documents : List Placed) → length (all_keys s documents) ≤ total_weight documents
keys_light s [] = omega arith
keys_light s (d ∷ ds) = omega (arith, keys_light s ds, all_fields s.fields 0 d.doc, doc_light d, length-append (keys_of s d.doc) (all_keys s ds))

-- ---- rising keys are not more than the occurrences that have them

has_append : (key : List ℕ) (xs ys : List Occurrence) → (has_key key xs || has_key key ys) ≡ true → has_key key (xs ++ ys) ≡ true
has_append key [] ys h = h
has_append key (x ∷ xs) ys h = by (bytes_eq x.key key) h (λ rest. has_append key xs ys rest)
  where
    by : (b : Bool) → ((b || has_key key xs) || has_key key ys) ≡ true → ((has_key key xs || has_key key ys) ≡ true → has_key key (xs ++ ys) ≡ true) → (b || has_key key (xs ++ ys)) ≡ true
    by true h more = refl
    by false h more = more h

stands_among : (s : Schema) (key : List ℕ) (documents : List Placed) → stands_in s key documents ≡ true → has_key key (all_keys s documents) ≡ true
stands_among s key [] h = absurd (cc)
stands_among s key (d ∷ ds) h = has_append key (keys_of s d.doc) (all_keys s ds) (by (has_key key (keys_of s d.doc)) h (λ rest. stands_among s key ds rest))
  where
    by : (b : Bool) → (b || stands_in s key ds) ≡ true → (stands_in s key ds ≡ true → has_key key (all_keys s ds) ≡ true) → (b || has_key key (all_keys s ds)) ≡ true
    by true h more = refl
    by false h more = more h

-- without the first occurrence of a key
abbrev without : List ℕ → List Occurrence → List Occurrence
without key [] = []
without key (o ∷ os) = if bytes_eq o.key key then os else o ∷ without key os

one_less : (key : List ℕ) (os : List Occurrence) → has_key key os ≡ true → suc (length (without key os)) ≡ length os
one_less key [] h = absurd (cc)
one_less key (o ∷ os) h = by (bytes_eq o.key key) h (λ rest. one_less key os rest)
  where
    by : (b : Bool) → (b || has_key key os) ≡ true → (has_key key os ≡ true → suc (length (without key os)) ≡ length os) → suc (length (if b then os else o ∷ without key os)) ≡ length (o ∷ os)
    by true h more = refl
    by false h more = ap (λ (k : ℕ). suc k) (more h)

still_has : (key other : List ℕ) (os : List Occurrence) → (key ≡ other → ⊥) → has_key other os ≡ true → has_key other (without key os) ≡ true
still_has key other [] apart h = h
still_has key other (o ∷ os) apart h = by (bytes_eq o.key key) refl (bytes_eq o.key other) refl h (λ rest. still_has key other os apart rest)
  where
    by : (b : Bool) → bytes_eq o.key key ≡ b → (c : Bool) → bytes_eq o.key other ≡ c → (c || has_key other os) ≡ true → (has_key other os ≡ true → has_key other (without key os) ≡ true) → has_key other (if b then os else o ∷ without key os) ≡ true
    by true is true has h more = absurd (apart (sym ((bytes_eq-Decides o.key key).0 is) ∙ (bytes_eq-Decides o.key other).0 has))
    by true is false has h more = h
    by false is true has h more = rw has refl
    by false is false has h more = rw has (more h)

below_apart : (a b : List ℕ) → is_below a b ≡ true → a ≡ b → ⊥
below_apart a b below same =
    let other = below_not a b below in
    let here : is_below b a ≡ true = subst (λ (k : List ℕ). is_below k a ≡ true) same (subst (λ (k : List ℕ). is_below a k ≡ true) (sym same) below) in
    absurd (cc)

still_have : (key : List ℕ) (keys : List (List ℕ)) (os : List Occurrence) → AllByRecursion (λ u. is_below key u ≡ true) keys → AllByRecursion (λ u. has_key u os ≡ true) keys
    → AllByRecursion (λ u. has_key u (without key os) ≡ true) keys
still_have key [] os above all = tt
still_have key (u ∷ us) os above all = (still_has key u os (below_apart key u above.0) all.0, still_have key us os above.1 all.1)

rising_few : (keys : List (List ℕ)) (os : List Occurrence) → AreRising keys → AllByRecursion (λ u. has_key u os ≡ true) keys → length keys ≤ length os
rising_few [] os rising all = omega arith
rising_few (k ∷ ks) os rising all = omega (arith, one_less k os all.0, rising_few ks (without k os) rising.1 (still_have k ks os rising.0 all.1))

all_from : (P : List ℕ → Type 0) (keys : List (List ℕ)) → ((key : List ℕ) → Contains keys key → P key) → AllByRecursion P keys
all_from P [] each = tt
all_from P (k ∷ ks) each = (each k (0, omega arith, refl), all_from P ks (λ key has. each key (suc has.0, omega (arith, has.1), has.2)))

pub few_keys : (s : Schema) (documents : List Placed) (keys : List (List ℕ)) → AreKeys s documents keys → length keys ≤ total_weight documents
few_keys s documents keys are =
    omega (
      arith,
      keys_light s documents,
      rising_few keys (all_keys s documents) are.rising (all_from (λ key. has_key key (all_keys s documents) ≡ true) keys (λ key has. stands_among s key documents ((are.exact key).0 has))),
    )

-- ---- the blocks

length-terms : (s : Schema) (documents : List Placed) (start place : ℕ) (keys : List (List ℕ)) → length (terms_from s documents start place keys) ≡ length keys
length-terms s documents start place [] = refl
length-terms s documents start place (k ∷ ks) = ap (λ (n : ℕ). suc n) (length-terms s documents (start + length (list_of s documents k)) (place + length (places_in s documents k)) ks)

-- a split's dictionary has fewer blocks than a number of 32 bits counts
pub few_blocks : (v : PartView) (s : Schema) (documents : List Placed) (p : Parts) → IsPartOf v s documents p → length v.footer.index < 2 ^ 32
few_blocks v s documents p part =
    let index = ap length part.footer.index in
    let count = part.is_split.dictionary.index_is.count in
    let few = few_keys s documents p.keys part.is_split.keys in
    let light = part.is_split.are_documents.light in
    omega (arith, index, count, few, light, length-terms s documents 0 0 p.keys)
