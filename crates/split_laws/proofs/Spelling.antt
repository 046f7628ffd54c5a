-- The facts of what was built can be spelled in an entry.
use Rattle.std.proofs.Common.{◌≡◌, ℕ, suc, ◌+◌, ◌*◌, ◌^◌, ◌<◌, ◌≤◌, List, [], ◌∷◌, ◌++◌, length, map, Bool, true, false, cond, Option, Some, None, refl, sym, ◌∙◌, subst, arith, lit<, ◌==◌}
use Rattle.std.proofs.Props.{props}
use Rattle.std.proofs.lemmas.Bool.{leb-true}
use Rattle.std.specs.Coded.{×_prop, Unit-prop}
use Rattle.std.specs.Int.{int_min, int_max}
use Rattle.std.specs.List.{AllByRecursion, flat_map}
use Rattle.std.specs.Ordering.{nat_cmp, is_lt}
use Rattle.std.specs.Cmp.Lexicographic.{slice_cmp}
use Rattle.std.specs.Prelude.{ℤ, int_lt, fold, nat_le, if◌then◌else◌}
use Rattle.std.specs.declared.cmp.Ordering.{Ordering}
use Rattle.std.specs.declared.cmp.Ordering.TheVariants.{Less, Equal, Greater}
use Rattle.sha2.proofs.Facts256.{length-sha256}
use Rattle.doc_value.specs.declared.doc.DocField.{DocField}
use Rattle.doc_value.specs.declared.doc.Value.{Value}
use Rattle.doc_value.specs.declared.doc.Value.TheVariants as values
use Rattle.doc_value.specs.declared.facts.FieldTags.{FieldTags}
use Rattle.doc_value.specs.declared.facts.Tags.{Tags}
use Rattle.doc_value.specs.declared.facts.Tags.TheVariants.{Listed, Many}
use Rattle.doc_value.specs.declared.schema.Field.{Field}
use Rattle.doc_value.specs.declared.schema.Schema.{Schema}
use Rattle.meta_journal.specs.Spelling.{IsTime, IsString, IsIfGiven, CanSpellTimes, CanSpellTags, CanSpellField, CanSpellFacts, IsTermBelow, IsFieldBelow, IsBehind, Rises, RisesFrom}
use Rattle.doc_value.specs.Documents.{values_in}
use Rattle.split_build.specs.Builders.{IsBuilt}
use Rattle.split_states.specs.declared.facts.RowFacts.{RowFacts}
use Rattle.split_states.specs.declared.facts.Times.{Times}
use Rattle.split_build.specs.declared.builder.BuiltSplit.{BuiltSplit}
use Rattle.split_bundle.specs.Documents.{total_weight}
use Rattle.split_bundle.specs.Held.{IsHeld, AreHeld, IsHeldValue}
use Rattle.split_bundle.specs.Splits.{AreRising}
use Rattle.split_bundle.specs.declared.placed.Placed.{Placed}
use Rattle.split_form.proofs.Rising.{sorted_rises}
use Rattle.split_form.specs.Facts.{facts_of}
use Rattle.split_form.specs.Form.{file_of}
use Rattle.split_form.specs.Sorted.{with_text, sorted}
use Rattle.split_bundle.specs.Tagged.{second_of, tag_numbers, value_term}
use Rattle.split_form.specs.Tagged.{values_of, ends_of, times_of, listed, field_tags}
use Rattle.term_dict.specs.Keys.{is_below}
use Rattle.text_tokens.specs.Tokens.{max_token}

-- ---- lists

all_append : {A : Type 0} (P : A → Type 0) (xs ys : List A) → AllByRecursion P xs → AllByRecursion P ys → AllByRecursion P (xs ++ ys)
all_append P [] ys a b = b
all_append P (x ∷ xs) ys a b = (a.0, all_append P xs ys a.1 b)

flat_all : {A B : Type 0} (f : A → List B) (P : A → Type 0) (Q : B → Type 0) → ((a : A) → P a → AllByRecursion Q (f a)) → (xs : List A) → AllByRecursion P xs → AllByRecursion Q (flat_map f xs)
flat_all f P Q each [] all = tt
flat_all f P Q each (x ∷ xs) all = all_append Q (f x) (flat_map f xs) (each x all.0) (flat_all f P Q each xs all.1)

any_value : (vs : List Value) → AllByRecursion (λ v. Unit {0}) vs
any_value [] = tt
any_value (v ∷ vs) = (tt, any_value vs)

-- ---- times

pick : (b : Bool) (x y : ℤ) → IsTime x → IsTime y → IsTime (cond b x y)
pick true x y h k = h
pick false x y h k = k

least_in : (a : ℤ) (xs : List ℤ) → IsTime a → AllByRecursion IsTime xs → IsTime (fold int_min a xs)
least_in a [] h all = h
least_in a (x ∷ xs) h all = least_in (int_min a x) xs (pick (int_lt x a) x a all.0 h) all.1

greatest_in : (a : ℤ) (xs : List ℤ) → IsTime a → AllByRecursion IsTime xs → IsTime (fold int_max a xs)
greatest_in a [] h all = h
greatest_in a (x ∷ xs) h all = greatest_in (int_max a x) xs (pick (int_lt x a) a x h all.0) all.1

ends_can : (zs : List ℤ) → AllByRecursion IsTime zs → IsIfGiven CanSpellTimes (ends_of zs)
ends_can [] all = tt
ends_can (z ∷ zs) all = (least_in z zs all.0 all.1, greatest_in z zs all.0 all.1)

second_can : (v : Value) → IsHeldValue v → AllByRecursion IsTime (second_of v)
second_can (values.Datetime z) h = (h, tt)
second_can (values.Text t) h = tt
second_can (values.I64 z) h = tt
second_can (values.U64 n) h = tt
second_can (values.Bool b) h = tt

values_held : (doc : List DocField) (number : ℕ) → AreHeld doc → AllByRecursion IsHeldValue (values_in doc number)
values_held [] number h = tt
values_held (f ∷ fs) number h = by (f.number == number) (values_held fs number h.1)
  where
    by : (b : Bool) → AllByRecursion IsHeldValue (values_in fs number) → AllByRecursion IsHeldValue (if b then f.values else values_in fs number)
    by true rest = h.0
    by false rest = rest

times_can : (timestamp : Option ℕ) (documents : List Placed) → AllByRecursion IsHeld documents → IsIfGiven CanSpellTimes (times_of timestamp documents)
times_can None documents all = tt
times_can (Some number) documents all =
    ends_can (flat_map second_of (values_of number documents))
    (flat_all second_of IsHeldValue IsTime second_can (values_of number documents)
    (flat_all (λ (d : Placed). values_in d.doc number) IsHeld IsHeldValue (λ d h. values_held d.doc number h.doc) documents all))

-- ---- the terms of a tag field

text_can : (b : Bool) (t : List ℕ) → nat_le (length t) max_token ≡ b → AllByRecursion IsString (if b then t ∷ [] else [])
text_can true t e = (let few = leb-true (length t) max_token e in omega (arith, few), tt)
text_can false t e = tt

term_can : (v : Value) → Unit {0} → AllByRecursion IsString (value_term v)
term_can (values.Text t) u = text_can (nat_le (length t) max_token) t refl
term_can (values.I64 z) u = (lit< tt, tt)
term_can (values.U64 n) u = (lit< tt, tt)
term_can (values.Bool b) u = (lit< tt, tt)
term_can (values.Datetime z) u = (lit< tt, tt)

put_can : (t : List ℕ) (os : List (List ℕ)) → IsString t → AllByRecursion IsString os → AllByRecursion IsString (with_text t os)
put_can t [] h all = (h, tt)
put_can t (o ∷ os) h all = by (is_below t o) (is_below o t) (put_can t os h all.1)
  where
    by : (a b : Bool) → AllByRecursion IsString (with_text t os) → AllByRecursion IsString (if a then t ∷ o ∷ os else if b then o ∷ with_text t os else o ∷ os)
    by true b rest = (h, all)
    by false true rest = (all.0, rest)
    by false false rest = all

sorted_can : (ts : List (List ℕ)) → AllByRecursion IsString ts → AllByRecursion IsString (sorted ts)
sorted_can [] all = tt
sorted_can (t ∷ ts) all = put_can t (sorted ts) all.0 (sorted_can ts all.1)

lt_less : (o : Ordering) → is_lt o ≡ true → o ≡ Less
lt_less Less e = refl
lt_less Equal e = cc e
lt_less Greater e = cc e

rises_behind : (b : List ℕ) (ts : List (List ℕ)) → AllByRecursion (λ u. is_below b u ≡ true) ts → AreRising ts → RisesFrom IsTermBelow (Some b) ts
rises_behind b [] all r = tt
rises_behind b (t ∷ ts) all r = (lt_less (slice_cmp nat_cmp b t) all.0, rises_behind t ts r.0 r.1)

rises : (ts : List (List ℕ)) → AreRising ts → Rises IsTermBelow ts
rises [] r = tt
rises (t ∷ ts) r = (tt, rises_behind t ts r.0 r.1)

listed_can : (ts : List (List ℕ)) → AllByRecursion IsString ts → AreRising ts → CanSpellTags (listed ts)
listed_can ts all r = by (nat_le (length ts) 100) refl
  where
    by : (b : Bool) → nat_le (length ts) 100 ≡ b → CanSpellTags (if b then Listed ts else Many)
    by true e = ((let few = leb-true (length ts) 100 e in omega (arith, few), all), rises ts r)
    by false e = tt

field_can : (documents : List Placed) (number : ℕ) → number < 2 ^ 64 → CanSpellField (field_tags documents number)
field_can documents number low = (
  low,
  listed_can (sorted (flat_map value_term (values_of number documents)))
      (sorted_can (flat_map value_term (values_of number documents)) (flat_all value_term (λ v. Unit {0}) IsString term_can (values_of number documents) (any_value (values_of number documents))))
      (sorted_rises (flat_map value_term (values_of number documents))),
)

-- ---- the tag fields

pub fields_can : (documents : List Placed) (number : ℕ) (fields : List Field) → number + length fields < 2 ^ 64 → AllByRecursion CanSpellField (map (field_tags documents) (tag_numbers number fields))
fields_can documents number [] low = tt
fields_can documents number (f ∷ fields) low = by f.tag (fields_can documents (suc number) fields (omega (arith, low)))
  where
    by : (b : Bool) → AllByRecursion CanSpellField (map (field_tags documents) (tag_numbers (suc number) fields)) →
        AllByRecursion CanSpellField (map (field_tags documents) (if b then number ∷ tag_numbers (suc number) fields else tag_numbers (suc number) fields))
    by true rest = (field_can documents number (omega (arith, low)), rest)
    by false rest = rest

abbrev IsLow : Option FieldTags → ℕ → Type 0
IsLow None number = Unit {0}
IsLow (Some before) number = before.number < number

low_behind : (documents : List Placed) (before : Option FieldTags) (number : ℕ) → IsLow before number → IsBehind IsFieldBelow before (field_tags documents number)
low_behind documents None number low = tt
low_behind documents (Some before) number low = low

low_more : (before : Option FieldTags) (number : ℕ) → IsLow before number → IsLow before (suc number)
low_more None number low = tt
low_more (Some before) number low = omega (arith, low)

pub fields_rise : (documents : List Placed) (before : Option FieldTags) (number : ℕ) (fields : List Field) → IsLow before number → RisesFrom IsFieldBelow before (map (field_tags documents) (tag_numbers number fields))
fields_rise documents before number [] low = tt
fields_rise documents before number (f ∷ fields) low =
    by f.tag (fields_rise documents (Some (field_tags documents number)) (suc number) fields (omega arith)) (fields_rise documents before (suc number) fields (low_more before number low))
  where
    by : (b : Bool) → RisesFrom IsFieldBelow (Some (field_tags documents number)) (map (field_tags documents) (tag_numbers (suc number) fields)) →
        RisesFrom IsFieldBelow before (map (field_tags documents) (tag_numbers (suc number) fields)) →
        RisesFrom IsFieldBelow before (map (field_tags documents) (if b then number ∷ tag_numbers (suc number) fields else tag_numbers (suc number) fields))
    by true here rest = (low_behind documents before number low, here)
    by false here rest = rest

pub fields_few : (documents : List Placed) (number : ℕ) (fields : List Field) → length (map (field_tags documents) (tag_numbers number fields)) ≤ length fields
fields_few documents number [] = omega arith
fields_few documents number (f ∷ fields) = by f.tag (fields_few documents (suc number) fields)
  where
    by : (b : Bool) → length (map (field_tags documents) (tag_numbers (suc number) fields)) ≤ length fields →
        length (map (field_tags documents) (if b then number ∷ tag_numbers (suc number) fields else tag_numbers (suc number) fields)) ≤ suc (length fields)
    by true rest = omega (arith, rest)
    by false rest = omega (arith, rest)

-- ---- the facts

weighs_much : (documents : List Placed) → 257 * length documents ≤ total_weight documents
weighs_much [] = omega arith
weighs_much (d ∷ documents) = let more = weighs_much documents in omega (arith, more)

facts_can : (s : Schema) (documents : List Placed) → length s.fields ≤ 256 → AllByRecursion IsHeld documents → total_weight documents ≤ 268435456 → length (file_of s documents) < 2 ^ 64 → CanSpellFacts (facts_of s documents 0)
unfolding facts_of
facts_can s documents few held light size = record {
  docs = let much = weighs_much documents in omega (arith, much, light);
  rejected = lit< tt;
  weight = omega (arith, light);
  size = size;
  digest = length-sha256 (file_of s documents);
  times = times_can s.timestamp documents held;
  tags = (let count = fields_few documents 0 s.fields in omega (arith, count, few), fields_can documents 0 s.fields (omega (arith, few)));
  rising = fields_rise documents None 0 s.fields tt;
}

pub can_spell : (s : Schema) (documents : List Placed) (split : BuiltSplit) → IsBuilt s documents split → split.bytes ≡ file_of s documents → split.facts ≡ facts_of s documents 0 → CanSpellFacts split.facts
can_spell s documents split b file facts =
    let parts = b.split.is_split in
    let few = parts.are_documents.schema.few in
    let light = parts.are_documents.light in
    subst CanSpellFacts (sym facts)
    (facts_can s documents few parts.are_documents.held light (subst (λ (bs : List ℕ). length bs < 2 ^ 64) (sym b.split.bytes_are ∙ file) parts.size))

-- ---- it has one proof at most, and so comes out of what is merely known

number_prop : (a b : ℕ) → IsProp (a < b)
number_prop a b = hlevel props

each_prop : {A : Type 0} (P : A → Type 0) → ((a : A) → IsProp (P a)) → (xs : List A) → IsProp (AllByRecursion P xs)
each_prop P one [] = Unit-prop
each_prop P one (x ∷ xs) = ×_prop (one x) (each_prop P one xs)

behind_prop : {A : Type 0} (Below : A → A → Type 0) → ((a b : A) → IsProp (Below a b)) → (before : Option A) (x : A) → IsProp (IsBehind Below before x)
behind_prop Below one None x = Unit-prop
behind_prop Below one (Some before) x = one before x

rises_prop : {A : Type 0} (Below : A → A → Type 0) → ((a b : A) → IsProp (Below a b)) → (before : Option A) (xs : List A) → IsProp (RisesFrom Below before xs)
rises_prop Below one before [] = Unit-prop
rises_prop Below one before (x ∷ xs) = ×_prop (behind_prop Below one before x) (rises_prop Below one (Some x) xs)

term_prop : (a b : List ℕ) → IsProp (IsTermBelow a b)
term_prop a b = hlevel props

tags_prop : (tags : Tags) → IsProp (CanSpellTags tags)
tags_prop Many = Unit-prop
tags_prop (Listed terms) = ×_prop (×_prop (number_prop (length terms) (2 ^ 64)) (each_prop (λ t. length t < 2 ^ 64) (λ t. number_prop (length t) (2 ^ 64)) terms)) (rises_prop IsTermBelow term_prop None terms)

field_prop : (field : FieldTags) → IsProp (CanSpellField field)
field_prop field = ×_prop (number_prop field.number (2 ^ 64)) (tags_prop field.tags)

times_prop : (times : Option Times) → IsProp (IsIfGiven CanSpellTimes times)
times_prop None = Unit-prop
times_prop (Some times) = ×_prop (hlevel props) (hlevel props)

digest_prop : (n : ℕ) → IsProp (n ≡ 32)
digest_prop n = hlevel props

pub can_spell_prop : (facts : RowFacts) → IsProp (CanSpellFacts facts)
can_spell_prop facts a b = λ i. record {
  docs = number_prop facts.docs (2 ^ 64) a.docs b.docs i;
  rejected = number_prop facts.rejected (2 ^ 64) a.rejected b.rejected i;
  weight = number_prop facts.weight (2 ^ 64) a.weight b.weight i;
  size = number_prop facts.size (2 ^ 64) a.size b.size i;
  digest = digest_prop (length facts.digest) a.digest b.digest i;
  times = times_prop facts.times a.times b.times i;
  tags = ×_prop (number_prop (length facts.tags) (2 ^ 64)) (each_prop CanSpellField field_prop facts.tags) a.tags b.tags i;
  rising = rises_prop IsFieldBelow (λ f g. number_prop f.number g.number) None facts.tags a.rising b.rising i;
}
