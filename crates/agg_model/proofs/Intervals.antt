-- Where no aggregation is refused, each interval is at least 1.
use Rattle.std.proofs.Common.{◌≡◌, ◌∙◌, ℕ, zero, suc, ◌+◌, ◌<◌, Bool, true, false, T, List, [], ◌∷◌, length, drop, get_or, Option, Some, None, refl, sym, ap, subst, arith, if◌then◌else◌, slice_get, pos, ◌≤ℤ◌}
use Rattle.std.proofs.lemmas.List.Elements.{All-nil, All-cons, All-head, All-tail}
use Rattle.std.specs.List.{All}
use Rattle.std.specs.Option.{option_or, option_and_then}
use lib.Signed.{le_z_yes}
use Rattle.doc_value.specs.declared.schema.Field.{Field}
use Rattle.agg_model.specs.Checking.{field_of, takes, has_interval, HasInterval, HaveIntervals, refusal_over, refusal_of, first_refusal}
use Rattle.agg_model.specs.Partials.{interval_of}
use Rattle.agg_model.specs.declared.agg_error.AggError.{AggError}
use Rattle.agg_model.specs.declared.agg_error.AggError.TheVariants as refusals
use Rattle.agg_model.specs.declared.request.Agg.{Agg}
use Rattle.agg_model.specs.declared.request.Agg.TheVariants.{Terms, Histogram}
use Rattle.agg_model.specs.declared.request.NamedAgg.{NamedAgg}

interval_there : (agg : Agg) → has_interval agg ≡ true → HasInterval agg
interval_there (Terms field size) e = tt
interval_there (Histogram field interval offset least dated) e = le_z_yes (subst T (sym e) tt)

pub at_least_one : (agg : Agg) → HasInterval agg → pos 1 ≤ℤ interval_of agg
at_least_one (Terms field size) h = le_z_yes tt
at_least_one (Histogram field interval offset least dated) h = h

-- what a test refused isn't there
not_refused : (t i : Bool) (bad other : AggError) → (if t then (if i then None else Some bad) else Some other) ≡ None → i ≡ true
not_refused true true bad other e = refl
not_refused true false bad other e = absurd (let y : ◌≡◌ {A = Option AggError} (Some bad) None = e in cc)
not_refused false i bad other e = absurd (let y : ◌≡◌ {A = Option AggError} (Some other) None = e in cc)

one_interval : (fields : List Field) (k : ℕ) (named : NamedAgg) → k < length fields → option_and_then (refusal_over named) (slice_get fields k) ≡ None → HasInterval named.agg
one_interval [] k named l e = absurd (omega arith)
one_interval (f ∷ fs) zero named l e =
    interval_there named.agg (not_refused (takes named.agg f) (has_interval named.agg) (refusals.BadInterval named.name) (refusals.NotFast f.path) e)
one_interval (f ∷ fs) (suc k) named l e = one_interval fs k named (omega arith) e

none_first : (a b : Option AggError) → option_or a b ≡ None → (a ≡ None) × (b ≡ None)
none_first None b e = (refl, e)
none_first (Some r) b e = absurd (let y : ◌≡◌ {A = Option AggError} (Some r) None = e in cc)

pub have_intervals : (fields : List Field) (request : List NamedAgg) → All (λ named. field_of named.agg < length fields) request → first_refusal fields request ≡ None → HaveIntervals request
have_intervals fields [] over none = All-nil (λ named. HasInterval named.agg)
have_intervals fields (named ∷ rest) over none =
    let both = none_first (refusal_of fields named) (first_refusal fields rest) none in
    All-cons (λ named. HasInterval named.agg) named rest
    (one_interval fields (field_of named.agg) named (All-head (λ named. field_of named.agg < length fields) named rest over) both.0)
    (have_intervals fields rest (All-tail (λ named. field_of named.agg < length fields) named rest over) both.1)

-- one that is not refused leaves the first refusal to those behind it
past_refusal : (fields : List Field) (request : List NamedAgg) (i : ℕ) (named : NamedAgg) → i < length request → named ≡ get_or request i named → refusal_of fields named ≡ None
    → first_refusal fields (drop i request) ≡ first_refusal fields (drop (suc i) request)
past_refusal fields [] i named l is none = absurd (omega (arith, l))
past_refusal fields (x ∷ xs) zero named l is none = ap (λ (o : Option AggError). option_or o (first_refusal fields xs)) (ap (λ (n : NamedAgg). refusal_of fields n) (sym is) ∙ none)
past_refusal fields (x ∷ xs) (suc i) named l is none = past_refusal fields xs i named (omega (arith, l)) is none

pub next_refusal : (fields : List Field) (request : List NamedAgg) (i : ℕ) (named : NamedAgg) → i < length request → named ≡ get_or request i named → refusal_of fields named ≡ None
    → first_refusal fields (drop i request) ≡ first_refusal fields (drop (i + 1) request)
next_refusal fields request i named l is none =
    let next : suc i ≡ i + 1 = omega arith in
    past_refusal fields request i named l is none ∙ ap (λ (n : ℕ). first_refusal fields (drop n request)) next
