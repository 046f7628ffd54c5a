-- What the facts of documents rule out holds of none of them.
use Rattle.std.proofs.Common.{◌≡◌, ℕ, ◌<◌, ◌==◌, Bool, true, false, ◌&&◌, ◌||◌, List, [], ◌∷◌, map, length, Option, Some, None, refl, sym, ◌∙◌, subst, arith, inl, inr, if◌then◌else◌}
use Rattle.std.specs.Prelude.{ℤ, ◌≤ℤ◌, Contains, nat_le, slice_index_or}
use Rattle.std.specs.List.{All, AllByRecursion, flat_map, fold}
use Rattle.std.specs.Int.{int_max, int_min}
use Rattle.std.specs.Str.{bytes_eq}
use Rattle.std.proofs.lemmas.Bool.{and_cases, and_from, and_left, and_right, and_parts, or_cases, or_left, or_right, eqb-true, false_from_ne_true}
use Rattle.std.proofs.lemmas.Int.{ints, fold-int_max_bounds, fold-int_min_bounds}
use Rattle.std.proofs.lemmas.List.{get_or_default}
use Rattle.std.proofs.lemmas.List.Elements.{Contains-append_left, Contains-append_right}
use Rattle.std.proofs.lemmas.Slice.Eq.{bytes_eq-Decides}
use Rattle.doc_value.specs.declared.doc.Value.{Value}
use Rattle.doc_value.specs.declared.doc.Value.TheVariants as values
use Rattle.doc_value.specs.declared.facts.Tags.TheVariants.{Many, Listed}
use Rattle.doc_value.specs.declared.facts.TimeRange.{TimeRange}
use Rattle.doc_value.specs.declared.schema.Field.{Field}
use Rattle.doc_value.specs.declared.schema.Schema.{Schema}
use Rattle.doc_value.specs.Terms.{term_bytes}
use Rattle.text_tokens.specs.Tokens.{max_token}
use Rattle.query_ast.specs.Meaning.{meaning, from_start, before_end, some_within, has_time_within, is_unlimited, within_times}
use Rattle.doc_value.specs.Documents.{values_in}
use Rattle.query_ast.specs.Pruning.{allowed, allows, can_match, is_listed, AreFactsOf, HasTerm}
use Rattle.query_ast.specs.Sought.{view}
use Rattle.query_ast.proofs.RuledOut.{ruled_out}
use Rattle.split_states.specs.declared.facts.Times.{Times}
use Rattle.split_bundle.specs.declared.placed.Placed.{Placed}
use Rattle.split_form.specs.Facts.{facts_of}
use Rattle.split_form.specs.Sorted.{sorted}
use Rattle.split_form.specs.Tagged.{values_of, ends_of, times_of, listed, field_tags, tags_of}
use Rattle.split_bundle.specs.Tagged.{second_of, value_term, tag_numbers}
use Rattle.split_form.proofs.Rising.{here, later, first_or, in_sorted}
use Rattle.meta_store.specs.Planning.{meets}
use Rattle.leaf_search.specs.Answers.{passes, found}
use Rattle.leaf_search.specs.declared.request.LeafRequest.{LeafRequest}

-- ---- members

in_flat : {X Y : Type 0} (f : X → List Y) (xs : List X) (x : X) (y : Y) → Contains xs x → Contains (f x) y → Contains (flat_map f xs) y
in_flat f [] x y h c = absurd (omega (arith, h.1))
in_flat {X} f (z ∷ zs) x y h c = elim (first_or z zs x h) [
  | inl same ↦ Contains-append_left (f z) (flat_map f zs) y (subst (λ (w : X). Contains (f w) y) (sym same) c)
  | inr there ↦ Contains-append_right (f z) (flat_map f zs) y (in_flat f zs x y there c)
]

each_of : {X : Type 0} (P : X → Type 0) (xs : List X) → ((x : X) → Contains xs x → P x) → AllByRecursion P xs
each_of P [] h = tt
each_of P (x ∷ xs) h = (h x (here x xs), each_of P xs (λ y c. h y (later x xs y c)))

at_member : (P : ℤ → Type 0) (xs : List ℤ) (x : ℤ) → All P xs → Contains xs x → P x
at_member P xs x h c = subst P c.2 (h c.0 x c.1)

-- ---- tags

listed_in : (t : List ℕ) (ts : List (List ℕ)) → Contains ts t → is_listed t ts ≡ true
listed_in t [] h = absurd (omega (arith, h.1))
listed_in t (u ∷ us) h = elim (first_or u us t h) [
  | inl same ↦ or_left (bytes_eq u t) (is_listed t us) ((bytes_eq-Decides u t).1 same)
  | inr there ↦ or_right (bytes_eq u t) (is_listed t us) (listed_in t us there)
]

-- a term of some terms is allowed, whether these are few or many
listed_allows : (t : List ℕ) (ts : List (List ℕ)) → Contains ts t → allows (listed ts) (Some t) ≡ true
listed_allows t ts h = by (nat_le (length ts) 100)
  where
    by : (b : Bool) → allows (if b then Listed ts else Many) (Some t) ≡ true
    by true = listed_in t ts h
    by false = refl

term_in : (v : Value) → HasTerm v → Contains (value_term v) (term_bytes v)
term_in (values.Text t) h = by (nat_le (length t) max_token) refl
  where
    by : (b : Bool) → nat_le (length t) max_token ≡ b → Contains (if b then t ∷ [] else []) t
    by true e = here t []
    by false e = absurd (grind arith)
term_in (values.I64 z) h = here (term_bytes (values.I64 z)) []
term_in (values.U64 n) h = here (term_bytes (values.U64 n)) []
term_in (values.Bool b) h = here (term_bytes (values.Bool b)) []
term_in (values.Datetime z) h = here (term_bytes (values.Datetime z)) []

module _ (documents : List Placed) where
  abbrev terms_in : ℕ → List (List ℕ)
  terms_in n = flat_map value_term (values_of n documents)

  tag_allowed : (ns : List ℕ) (n : ℕ) (t : List ℕ) → Contains (terms_in n) t → allowed (map (field_tags documents) ns) n (Some t) ≡ true
  tag_allowed [] n t h = refl
  tag_allowed (m ∷ ms) n t h = by (m == n) refl (tag_allowed ms n t h)
    where
      by : (b : Bool) → (m == n) ≡ b → allowed (map (field_tags documents) ms) n (Some t) ≡ true
          → (if b then allows (listed (sorted (terms_in m))) (Some t) else allowed (map (field_tags documents) ms) n (Some t)) ≡ true
      by true e rest = listed_allows t (sorted (terms_in m)) (in_sorted (terms_in m) t (subst (λ (k : ℕ). Contains (terms_in k) t) (sym (eqb-true m n e)) h))
      by false e rest = rest

  value_in : (d : Placed) (n k : ℕ) (v : Value) → Contains documents d → k < length (values_in d.doc n) → Contains (values_of n documents) (slice_index_or (values_in d.doc n) k v)
  value_in d n k v c l =
      let w : Value = slice_index_or (values_in d.doc n) k v in
      in_flat (λ (e : Placed). values_in e.doc n) documents d w c (k, l, get_or_default (values_in d.doc n) k w v l)

  pub facts_hold : (fields : List Field) (d : Placed) → Contains documents d → AreFactsOf (tags_of fields documents) d.doc
  facts_hold fields d c n k v l t =
      let w : Value = slice_index_or (values_in d.doc n) k v in
      tag_allowed (tag_numbers 0 fields) n (term_bytes w) (in_flat value_term (values_of n documents) w (term_bytes w) (value_in d n k v c l) (term_in w t))

-- ---- times

from_later : (start : Option ℤ) (a b : ℤ) → a ≤ℤ b → from_start start a ≡ true → from_start start b ≡ true
from_later None a b l e = refl
from_later (Some s) a b l e = grind (arith, ints)

before_earlier : (end : Option ℤ) (a b : ℤ) → b ≤ℤ a → before_end end a ≡ true → before_end end b ≡ true
before_earlier None a b l e = refl
before_earlier (Some s) a b l e = grind (arith, ints)

-- a datetime among them lies in the times
abbrev HasSecond : TimeRange → List Value → Type 0
HasSecond times vs = (z : ℤ) × Contains vs (values.Datetime z) × (from_start times.start z ≡ true) × (before_end times.end z ≡ true)

behind : (times : TimeRange) (v : Value) (vs : List Value) → HasSecond times vs → HasSecond times (v ∷ vs)
behind times v vs h = (h.0, later v vs (values.Datetime h.0) h.1, h.2, h.3)

some_second : (times : TimeRange) (vs : List Value) → some_within times vs ≡ true → HasSecond times vs
some_second times [] e = absurd (let x : false ≡ true = e in cc)
some_second times (values.Datetime z ∷ vs) e = elim (or_cases (from_start times.start z && before_end times.end z) (some_within times vs) e) [
  | inl this ↦ let both = and_parts (from_start times.start z) (before_end times.end z) this in (z, here (values.Datetime z) vs, both.0, both.1)
  | inr more ↦ behind times (values.Datetime z) vs (some_second times vs more)
]
some_second times (values.Text t ∷ vs) e = behind times (values.Text t) vs (some_second times vs e)
some_second times (values.I64 z ∷ vs) e = behind times (values.I64 z) vs (some_second times vs e)
some_second times (values.U64 n ∷ vs) e = behind times (values.U64 n) vs (some_second times vs e)
some_second times (values.Bool b ∷ vs) e = behind times (values.Bool b) vs (some_second times vs e)

-- the ends of some seconds meet the times in which one of them lies
ends_meet : (times : TimeRange) (zs : List ℤ) (z : ℤ) → Contains zs z → from_start times.start z ≡ true → before_end times.end z ≡ true → meets times (ends_of zs) ≡ true
ends_meet times [] z c a b = refl
ends_meet times (y ∷ ys) z c a b =
    let top = fold-int_max_bounds y ys (fold int_max y ys) refl in
    let low = fold-int_min_bounds y ys (fold int_min y ys) refl in
    let below : z ≤ℤ fold int_max y ys = elim (first_or y ys z c) [
      | inl same ↦ subst (λ (x : ℤ). x ≤ℤ fold int_max y ys) same top.0
      | inr there ↦ at_member (λ x. x ≤ℤ fold int_max y ys) ys z top.1 there
    ] in
    let above : fold int_min y ys ≤ℤ z = elim (first_or y ys z c) [
      | inl same ↦ subst (λ (x : ℤ). fold int_min y ys ≤ℤ x) same low.0
      | inr there ↦ at_member (λ x. fold int_min y ys ≤ℤ x) ys z low.1 there
    ] in
    and_from (from_start times.start (fold int_max y ys)) (before_end times.end (fold int_min y ys))
    (from_later times.start z (fold int_max y ys) below a) (before_earlier times.end z (fold int_min y ys) above b)

free_meet : (start end : Option ℤ) (greatest least : ℤ) → is_unlimited start end ≡ true → (from_start start greatest && before_end end least) ≡ true
free_meet None None greatest least e = refl
free_meet None (Some z) greatest least e = absurd (let x : false ≡ true = e in cc)
free_meet (Some z) None greatest least e = absurd (let x : false ≡ true = e in cc)
free_meet (Some z) (Some y) greatest least e = absurd (let x : false ≡ true = e in cc)

all_meet : (times : TimeRange) (row : Option Times) → is_unlimited times.start times.end ≡ true → meets times row ≡ true
all_meet times None e = refl
all_meet times (Some row) e = free_meet times.start times.end row.greatest row.least e

module _ (documents : List Placed) (times : TimeRange) (d : Placed) (c : Contains documents d) where
  stamped : (n : ℕ) → some_within times (values_in d.doc n) ≡ true → meets times (times_of (Some n) documents) ≡ true
  stamped n e =
      let h = some_second times (values_in d.doc n) e in
      let value : Contains (values_of n documents) (values.Datetime h.0) = in_flat (λ (x : Placed). values_in x.doc n) documents d (values.Datetime h.0) c h.1 in
      ends_meet times (flat_map second_of (values_of n documents)) h.0 (in_flat second_of (values_of n documents) (values.Datetime h.0) h.0 value (here h.0 [])) h.2 h.3

  timed : (timestamp : Option ℕ) → (is_unlimited times.start times.end || has_time_within times timestamp d.doc) ≡ true → meets times (times_of timestamp documents) ≡ true
  timed None e = refl
  timed (Some n) e = elim (or_cases (is_unlimited times.start times.end) (some_within times (values_in d.doc n)) e) [
    | inl free ↦ all_meet times (times_of (Some n) documents) free
    | inr some ↦ stamped n some
  ]

-- ---- the laws

pub times_meet : (s : Schema) (documents : List Placed) (times : TimeRange)
    → AllByRecursion (λ d. within_times s times d.doc ≡ true → meets times (times_of s.timestamp documents) ≡ true) documents
times_meet s documents times = each_of (λ (d : Placed). within_times s times d.doc ≡ true → meets times (times_of s.timestamp documents) ≡ true) documents (λ d c e. timed documents times d c s.timestamp e)

pub tags_hold : (s : Schema) (documents : List Placed) → AllByRecursion (λ d. AreFactsOf (tags_of s.fields documents) d.doc) documents
tags_hold s documents = each_of (λ (d : Placed). AreFactsOf (tags_of s.fields documents) d.doc) documents (λ d c. facts_hold documents s.fields d c)

none_passes : (s : Schema) (r : LeafRequest) (documents : List Placed) → AllByRecursion (λ d. passes s r d.doc ≡ false) documents → found s r documents ≡ []
none_passes s r [] h = refl
none_passes s r (d ∷ ds) h = rw h.0 (none_passes s r ds h.1)

pub none_found : (s : Schema) (documents : List Placed) (rejected : ℕ) (r : LeafRequest)
    → (meets r.times (facts_of s documents rejected).times && can_match s (facts_of s documents rejected).tags (view r.query)) ≡ false → found s r documents ≡ []
unfolding facts_of
none_found s documents rejected r e = none_passes s r documents (each_of (λ (d : Placed). passes s r d.doc ≡ false) documents refused)
  where
    refused : (d : Placed) → Contains documents d → passes s r d.doc ≡ false
    refused d c = elim (and_cases (meets r.times (times_of s.timestamp documents)) (can_match s (tags_of s.fields documents) (view r.query)) e) [
      | inl apart ↦
          and_right (meaning s d.doc (view r.query)) (within_times s r.times d.doc)
          (false_from_ne_true (within_times s r.times d.doc) (λ within. let wrong : true ≡ false = sym (timed documents r.times d c s.timestamp within) ∙ apart in cc))
      | inr other ↦
          and_left (meaning s d.doc (view r.query)) (within_times s r.times d.doc)
          (ruled_out s (tags_of s.fields documents) d.doc (facts_hold documents s.fields d c) (view r.query) other)
    ]
