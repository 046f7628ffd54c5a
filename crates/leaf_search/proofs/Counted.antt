-- What is counted without a refusal is over fast fields.
use Rattle.std.proofs.Common.{◌≡◌, ℕ, zero, suc, ◌<◌, Bool, true, false, ◌&&◌, cond, List, [], ◌∷◌, ◌++◌, length, get_or, slice_get, Option, Some, None, MatchOption, refl, sym, subst, arith}
use Rattle.std.specs.List.{All, AllByRecursion}
use Rattle.std.specs.Option.{option_or, option_and_then}
use Rattle.std.proofs.lemmas.List.Elements.{All-from_recursion, All-head, All-tail, recursion_from_All}
use Rattle.doc_value.specs.declared.schema.Field.{Field}
use Rattle.doc_value.specs.declared.schema.Schema.{Schema}
use Rattle.agg_model.specs.Checking.{has_steps, takes as takes_counted}
use Rattle.agg_model.specs.declared.agg_error.AggError.{AggError}
use Rattle.agg_model.specs.declared.agg_error.AggError.TheVariants as refusals
use Rattle.agg_model.specs.declared.request.Agg.{Agg}
use Rattle.agg_model.specs.declared.request.Agg.TheVariants.{Terms, Histogram}
use Rattle.agg_nested.specs.Checking.{field_of, first_nested, first_refusal, is_sound, refusal_of, refusal_over, refusal_within, takes, CanCount}
use Rattle.agg_nested.specs.declared.request.FlatAgg.{FlatAgg}
use Rattle.agg_nested.specs.declared.request.FlatAgg.TheVariants.{Counted, Metric, Ranges}
use Rattle.agg_nested.specs.declared.request.MetricKind.TheVariants as kinds
use Rattle.agg_nested.specs.declared.request.NamedFlat.{NamedFlat}
use Rattle.agg_nested.specs.declared.request.NestedAgg.{NestedAgg}
use Rattle.doc_tallies.specs.AggColumns.{AreOverFast, fields_asked, fields_of}
use Rattle.doc_tallies.specs.Cells.{IsFast}
use Rattle.leaf_search.specs.Needs.{fields_nested}

-- ---- a field

and_left : (a b : Bool) → a && b ≡ true → a ≡ true
and_left true b h = refl
and_left false b h = h

counted_fast : (agg : Agg) (f : Field) → takes_counted agg f ≡ true → f.fast ≡ true
counted_fast (Terms field size) f h = h
counted_fast (Histogram field interval offset least dated) f h = and_left f.fast (has_steps dated f.kind) h

takes_fast : (agg : FlatAgg) (f : Field) → takes agg f ≡ true → f.fast ≡ true
takes_fast (Counted agg) f h = counted_fast agg f h
takes_fast (Metric kinds.Min field) f h = and_left f.fast (has_steps false f.kind) h
takes_fast (Metric kinds.Max field) f h = and_left f.fast (has_steps false f.kind) h
takes_fast (Metric kinds.Sum field) f h = and_left f.fast (has_steps false f.kind) h
takes_fast (Metric kinds.ValueCount field) f h = h
takes_fast (Ranges field ranges) f h = and_left f.fast (has_steps false f.kind) h

taken : (name : List ℕ) (agg : FlatAgg) (f : Field) → refusal_over name agg f ≡ None → takes agg f ≡ true
taken name agg f h = go (takes agg f) h
  where
    go : (b : Bool) → cond b (cond (is_sound agg) None (Some (refusals.BadInterval name))) (Some (refusals.NotFast f.path)) ≡ None → b ≡ true
    go true e = refl
    go false e = absurd (cc)

by_field : (name : List ℕ) (agg : FlatAgg) (o : Option Field) → (o ≡ None → ⊥) → option_and_then (refusal_over name agg) o ≡ None → MatchOption o ⊥ (λ f. f.fast ≡ true)
by_field name agg None there h = absurd (there refl)
by_field name agg (Some f) there h = takes_fast agg f (taken name agg f h)

within : (fields : List Field) (k : ℕ) → k < length fields → slice_get fields k ≡ None → ⊥
within [] k lt e = omega arith
within (f ∷ fs) zero lt e = cc
within (f ∷ fs) (suc k) lt e = within fs k (omega arith) e

-- ---- the fields of a request

both_none : (a b : Option AggError) → option_or a b ≡ None → (a ≡ None) × (b ≡ None)
both_none None b h = (refl, h)
both_none (Some e) b h = absurd (cc)

by_both : (P : ℕ → Type 0) (xs ys : List ℕ) → AllByRecursion P xs → AllByRecursion P ys → AllByRecursion P (xs ++ ys)
by_both P [] ys h k = k
by_both P (x ∷ xs) ys h k = (h.0, by_both P xs ys h.1 k)

by_left : (P : ℕ → Type 0) (xs ys : List ℕ) → AllByRecursion P (xs ++ ys) → AllByRecursion P xs
by_left P [] ys h = tt
by_left P (x ∷ xs) ys h = (h.0, by_left P xs ys h.1)

by_right : (P : ℕ → Type 0) (xs ys : List ℕ) → AllByRecursion P (xs ++ ys) → AllByRecursion P ys
by_right P [] ys h = h
by_right P (x ∷ xs) ys h = by_right P xs ys h.1

module _ (s : Schema) where
  flat_fast : (name : List ℕ) (agg : FlatAgg) → field_of agg < length s.fields → refusal_of s.fields name agg ≡ None → IsFast s (field_of agg)
  flat_fast name agg over none = by_field name agg (slice_get s.fields (field_of agg)) (within s.fields (field_of agg) over) none

  nested_fast : (nested : List NamedFlat) → All (λ named. field_of named.agg < length s.fields) nested → first_nested s.fields nested ≡ None → AllByRecursion (IsFast s) (fields_nested nested)
  nested_fast [] over none = tt
  nested_fast (x ∷ xs) over none =
      let both = both_none (refusal_of s.fields x.name x.agg) (first_nested s.fields xs) none in (
        flat_fast x.name x.agg (All-head (λ (n : NamedFlat). field_of n.agg < length s.fields) x xs over) both.0,
        nested_fast xs (All-tail (λ (n : NamedFlat). field_of n.agg < length s.fields) x xs over) both.1,
      )

  abbrev HasFields : NestedAgg → Type 0
  HasFields asked = (field_of asked.agg < length s.fields) × All (λ named. field_of named.agg < length s.fields) asked.nested

  each_fast : (aggs : List NestedAgg) → All HasFields aggs → first_refusal s.fields aggs ≡ None → AllByRecursion (IsFast s) (fields_asked aggs)
  each_fast [] over none = tt
  each_fast (x ∷ xs) over none =
      let both = both_none (refusal_within s.fields x) (first_refusal s.fields xs) none in
      let own = both_none (refusal_of s.fields x.name x.agg) (first_nested s.fields x.nested) both.0 in
      let has = All-head HasFields x xs over in
      by_both (IsFast s) (fields_of x) (fields_asked xs) (flat_fast x.name x.agg has.0 own.0, nested_fast x.nested has.1 own.1) (each_fast xs (All-tail HasFields x xs over) both.1)

  pub over_fast : (aggs : List NestedAgg) → CanCount s aggs → AreOverFast s aggs
  over_fast aggs counted = All-from_recursion (IsFast s) (fields_asked aggs) (each_fast aggs counted.over counted.none)

  fast_among : (aggs : List NestedAgg) (i : ℕ) (x : NestedAgg) → i < length aggs → x ≡ get_or aggs i x → AllByRecursion (IsFast s) (fields_asked aggs) → AllByRecursion (IsFast s) (fields_of x)
  fast_among [] i x lt e h = absurd (omega arith)
  fast_among (a ∷ rest) zero x lt e h = subst (λ (y : NestedAgg). AllByRecursion (IsFast s) (fields_of y)) (sym e) (by_left (IsFast s) (fields_of a) (fields_asked rest) h)
  fast_among (a ∷ rest) (suc k) x lt e h = fast_among rest k x (omega (arith, lt)) e (by_right (IsFast s) (fields_of a) (fields_asked rest) h)

  -- of a request over fast fields those of each aggregation are fast
  pub fast_at : (aggs : List NestedAgg) (i : ℕ) (x : NestedAgg) → i < length aggs → x ≡ get_or aggs i x → AreOverFast s aggs → IsFast s (field_of x.agg) × All (IsFast s) (fields_nested x.nested)
  fast_at aggs i x lt e fast =
      let both = fast_among aggs i x lt e (recursion_from_All (IsFast s) (fields_asked aggs) fast) in
      (both.0, All-from_recursion (IsFast s) (fields_nested x.nested) both.1)

  -- those of nested ones one by one
  pub nested_at : (nested : List NamedFlat) (i : ℕ) (x : NamedFlat) → i < length nested → x ≡ get_or nested i x → All (IsFast s) (fields_nested nested) → IsFast s (field_of x.agg)
  nested_at nested i x lt e fast = go nested i lt e (recursion_from_All (IsFast s) (fields_nested nested) fast)
    where
      go : (ns : List NamedFlat) (k : ℕ) → k < length ns → x ≡ get_or ns k x → AllByRecursion (IsFast s) (fields_nested ns) → IsFast s (field_of x.agg)
      go [] k lt e h = absurd (omega arith)
      go (n ∷ ns) zero lt e h = subst (λ (y : NamedFlat). IsFast s (field_of y.agg)) (sym e) h.0
      go (n ∷ ns) (suc k) lt e h = go ns k (omega (arith, lt)) e h.1
