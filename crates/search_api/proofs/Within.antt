-- The fields of an aggregation and of its nested ones are the schema's.
use Rattle.std.proofs.Common.{◌≡◌, ℕ, suc, ◌+◌, ◌^◌, ◌<◌, nat_lt, Bool, true, false, List, [], ◌∷◌, length, Option, Some, None, Result, Ok, Err, refl, sym, subst, arith, if◌then◌else◌}
use Rattle.std.specs.List.{All}
use Rattle.std.specs.Str.{bytes_eq}
use Rattle.std.specs.Option.{option_and_then}
use Rattle.std.proofs.lemmas.List.Elements.{All-nil, All-cons}
use Rattle.doc_value.specs.declared.schema.Field.{Field}
use Rattle.doc_value.specs.Documents.{number_from, number_of}
use Rattle.agg_nested.specs.Checking.{field_of, HaveFields}
use Rattle.agg_nested.specs.declared.request.FlatAgg.{FlatAgg}
use Rattle.agg_nested.specs.declared.request.NamedFlat.{NamedFlat}
use Rattle.agg_nested.specs.declared.request.NestedAgg.{NestedAgg}
use Rattle.search_api.specs.declared.request.AggShape.{AggShape}
use Rattle.search_api.specs.declared.request.AggShape.TheVariants as shapes
use Rattle.search_api.specs.declared.reply.Refusal.TheVariants.{UnknownField}
use Rattle.search_api.specs.declared.request.AskedAgg.{AskedAgg}
use Rattle.search_api.specs.declared.request.AskedFlat.{AskedFlat}
use Rattle.search_api.specs.declared.unanswered.Unanswered.{Unanswered}
use Rattle.search_api.specs.declared.unanswered.Unanswered.TheVariants.{Refused}
use Rattle.search_api.specs.Kinds.{◌>>=◌}
use Rattle.search_api.specs.Resolved.{known, narrow, counted_number, flat_over, flat_of, flats_of, agg_of, aggs_of}

one_within : (b : Bool) (k n len : ℕ) (o : Option ℕ) → (if b then Some k else o) ≡ Some n → (o ≡ Some n → n < suc k + len) → n < k + suc len
one_within true k n len o e h = let same : k ≡ n = cc in omega arith
one_within false k n len o e h = let more = h e in omega arith

number_within : (k : ℕ) (fs : List Field) (path : List ℕ) (n : ℕ) → number_from k fs path ≡ Some n → n < k + length fs
number_within k [] path n e = cc
number_within k (f ∷ fs) path n e =
    one_within (bytes_eq f.path path) k n (length fs) (number_from (suc k) fs path) e (number_within (suc k) fs path n)

over_field : (n : ℕ) (shape : AggShape) → field_of (flat_over n shape) ≡ n
over_field n (shapes.Terms size) = refl
over_field n (shapes.Histogram interval offset least dated) = refl
over_field n shapes.Min = refl
over_field n shapes.Max = refl
over_field n shapes.Sum = refl
over_field n shapes.ValueCount = refl
over_field n (shapes.Range ranges) = refl

narrow_by : (b : Bool) (path : List ℕ) (m n : ℕ) → known path (if b then Some m else None) ≡ Ok n → m ≡ n
narrow_by true path m n e = cc
narrow_by false path m n e = absurd (let y : ◌≡◌ {A = Result ℕ Unanswered} (Err (Refused (UnknownField path))) (Ok n) = e in cc)

known_by : (path : List ℕ) (len : ℕ) (o : Option ℕ) (n : ℕ) → known path (option_and_then narrow o) ≡ Ok n → ((m : ℕ) → o ≡ Some m → m < len) → n < len
known_by path len None n e h = absurd (let y : ◌≡◌ {A = Result ℕ Unanswered} (Err (Refused (UnknownField path))) (Ok n) = e in cc)
known_by path len (Some m) n e h = let same = narrow_by (nat_lt m (2 ^ 32)) path m n e in let low = h m refl in omega arith

counted_within : (fields : List Field) (path : List ℕ) (n : ℕ) → counted_number fields path ≡ Ok n → n < length fields
counted_within fields path n e =
    known_by path (length fields) (number_of fields path) n e (λ m f. let low = number_within 0 fields path m f in omega arith)

-- what the first answer has, and what the second one has
bind_some : {A B : Type 0} (r : Result A Unanswered) (k : A → Result B Unanswered) (y : B) → r >>= k ≡ Ok y → (x : A) × (r ≡ Ok x) × (k x ≡ Ok y)
bind_some (Ok x) k y e = (x, refl, e)
bind_some {A} {B} (Err r) k y e = absurd (let z : ◌≡◌ {A = Result B Unanswered} (Err r) (Ok y) = e in cc)

-- its field is one of so many
abbrev pub IsWithin : ℕ → FlatAgg → Type 0
IsWithin many agg = field_of agg < many

flat_within : (many n : ℕ) (shape : AggShape) → n < many → IsWithin many (flat_over n shape)
flat_within many n shape l = subst (λ (m : ℕ). m < many) (sym (over_field n shape)) l

one_flat : (fields : List Field) (asked : AskedFlat) (flat : NamedFlat) → flat_of fields asked ≡ Ok flat → IsWithin (length fields) flat.agg
one_flat fields asked flat e =
    let a = bind_some (counted_number fields asked.path) _ flat e in
    let made : NamedFlat = record { name = asked.name; agg = flat_over a.0 asked.shape } in
    let y : ◌≡◌ {A = Result NamedFlat Unanswered} (Ok made) (Ok flat) = a.2 in
    subst (λ (x : NamedFlat). IsWithin (length fields) x.agg) (let z : made ≡ flat = cc in z)
    (flat_within (length fields) a.0 asked.shape (counted_within fields asked.path a.0 a.1))

flats_within : (fields : List Field) (asked : List AskedFlat) (flats : List NamedFlat) → flats_of fields asked ≡ Ok flats
    → All (λ named. field_of named.agg < length fields) flats
flats_within fields [] flats e =
    let same : [] ≡ flats = cc in
    subst (λ (xs : List NamedFlat). All (λ named. field_of named.agg < length fields) xs) same (All-nil (λ named. field_of named.agg < length fields))
flats_within fields (asked ∷ rest) flats e =
    let a = bind_some (flat_of fields asked) _ flats e in
    let b = bind_some (flats_of fields rest) _ flats a.2 in
    let y : ◌≡◌ {A = Result (List NamedFlat) Unanswered} (Ok (a.0 ∷ b.0)) (Ok flats) = b.2 in
    subst (λ (xs : List NamedFlat). All (λ named. field_of named.agg < length fields) xs) (let z : a.0 ∷ b.0 ≡ flats = cc in z)
    (All-cons (λ named. field_of named.agg < length fields) a.0 b.0 (one_flat fields asked a.0 a.1) (flats_within fields rest b.0 b.1))

-- it and its nested ones are over fields that are there
abbrev pub AreWithin : ℕ → NestedAgg → Type 0
AreWithin many asked = (field_of asked.agg < many) × All (λ named. field_of named.agg < many) asked.nested

agg_within : (fields : List Field) (asked : AskedAgg) (agg : NestedAgg) → agg_of fields asked ≡ Ok agg → AreWithin (length fields) agg
agg_within fields asked agg e =
    let a = bind_some (counted_number fields asked.path) _ agg e in
    let b = bind_some (flats_of fields asked.nested) _ agg a.2 in
    let made : NestedAgg = record { name = asked.name; agg = flat_over a.0 asked.shape; nested = b.0 } in
    let y : ◌≡◌ {A = Result NestedAgg Unanswered} (Ok made) (Ok agg) = b.2 in
    subst (λ (x : NestedAgg). AreWithin (length fields) x) (let z : made ≡ agg = cc in z)
    (flat_within (length fields) a.0 asked.shape (counted_within fields asked.path a.0 a.1), flats_within fields asked.nested b.0 b.1)

pub aggs_within : (fields : List Field) (asked : List AskedAgg) (aggs : List NestedAgg) → aggs_of fields asked ≡ Ok aggs → HaveFields (length fields) aggs
aggs_within fields [] aggs e =
    let same : [] ≡ aggs = cc in
    subst (λ (xs : List NestedAgg). HaveFields (length fields) xs) same (All-nil (AreWithin (length fields)))
aggs_within fields (asked ∷ rest) aggs e =
    let a = bind_some (agg_of fields asked) _ aggs e in
    let b = bind_some (aggs_of fields rest) _ aggs a.2 in
    let y : ◌≡◌ {A = Result (List NestedAgg) Unanswered} (Ok (a.0 ∷ b.0)) (Ok aggs) = b.2 in
    subst (λ (xs : List NestedAgg). HaveFields (length fields) xs) (let z : a.0 ∷ b.0 ≡ aggs = cc in z)
    (All-cons (AreWithin (length fields)) a.0 b.0 (agg_within fields asked a.0 a.1) (aggs_within fields rest b.0 b.1))
