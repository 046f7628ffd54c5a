-- Where no aggregation is refused, the interval of each histogram is at least 1; and refusals in order.
use Rattle.std.proofs.Common.{◌≡◌, ◌∙◌, ℕ, zero, suc, ◌+◌, ◌<◌, Bool, true, false, List, [], ◌∷◌, length, drop, get_or, Option, Some, None, refl, sym, ap, arith, if◌then◌else◌, slice_get}
use Rattle.std.proofs.lemmas.List.Elements.{All-nil, All-cons, All-head, All-tail}
use Rattle.std.specs.List.{All}
use Rattle.std.specs.Option.{option_or, option_and_then}
use Rattle.doc_value.specs.declared.schema.Field.{Field}
use Rattle.agg_model.specs.Checking.{has_interval, HasInterval}
use Rattle.agg_model.specs.declared.agg_error.AggError.{AggError}
use Rattle.agg_model.specs.declared.agg_error.AggError.TheVariants as refusals
use Rattle.agg_model.specs.declared.request.Agg.{Agg}
use Rattle.agg_model.specs.declared.request.Agg.TheVariants.{Terms, Histogram}
use Rattle.agg_nested.specs.Checking.{field_of, takes, is_sound, refusal_over, refusal_of, first_of, first_nested, refusal_within, first_refusal, HasStep, HaveFields, HaveSteps}
use Rattle.agg_nested.specs.declared.request.FlatAgg.{FlatAgg}
use Rattle.agg_nested.specs.declared.request.FlatAgg.TheVariants.{Counted, Metric, Ranges}
use Rattle.agg_nested.specs.declared.request.NestedAgg.{NestedAgg}
use lib.Signed.{le_z_yes}
use Rattle.std.proofs.Common.{subst, T}

interval_there : (agg : Agg) → has_interval agg ≡ true → HasInterval agg
interval_there (Terms field size) e = tt
interval_there (Histogram field interval offset least dated) e = le_z_yes (subst T (sym e) tt)

step_there : (agg : FlatAgg) → is_sound agg ≡ true → HasStep agg
step_there (Counted agg) e = interval_there agg e
step_there (Metric kind field) e = tt
step_there (Ranges field ranges) e = tt

-- what a test refused isn't there
not_refused : (t i : Bool) (bad other : AggError) → (if t then (if i then None else Some bad) else Some other) ≡ None → i ≡ true
not_refused true true bad other e = refl
not_refused true false bad other e = absurd (let y : ◌≡◌ {A = Option AggError} (Some bad) None = e in cc)
not_refused false i bad other e = absurd (let y : ◌≡◌ {A = Option AggError} (Some other) None = e in cc)

one_step : (fields : List Field) (k : ℕ) (name : List ℕ) (agg : FlatAgg) → k < length fields → option_and_then (refusal_over name agg) (slice_get fields k) ≡ None → HasStep agg
one_step [] k name agg l e = absurd (omega arith)
one_step (f ∷ fs) zero name agg l e = step_there agg (not_refused (takes agg f) (is_sound agg) (refusals.BadInterval name) (refusals.NotFast f.path) e)
one_step (f ∷ fs) (suc k) name agg l e = one_step fs k name agg (omega arith) e

none_first : (a b : Option AggError) → option_or a b ≡ None → (a ≡ None) × (b ≡ None)
none_first None b e = (refl, e)
none_first (Some r) b e = absurd (let y : ◌≡◌ {A = Option AggError} (Some r) None = e in cc)

-- where none is refused, each is known to have what an accepted one has
all_accepted : {X : Type 0} (P Q : X → Type 0) (refusal : X → Option AggError) → ((x : X) → P x → refusal x ≡ None → Q x)
    → (xs : List X) → All P xs → first_of refusal xs ≡ None → All Q xs
all_accepted P Q refusal one [] over none = All-nil Q
all_accepted P Q refusal one (x ∷ xs) over none =
    let both = none_first (refusal x) (first_of refusal xs) none in
    All-cons Q x xs (one x (All-head P x xs over) both.0) (all_accepted P Q refusal one xs (All-tail P x xs over) both.1)

pub have_steps : (fields : List Field) (request : List NestedAgg) → HaveFields (length fields) request → first_refusal fields request ≡ None → HaveSteps request
have_steps fields request over none =
    all_accepted (λ asked. (field_of asked.agg < length fields) × All (λ named. field_of named.agg < length fields) asked.nested)
    (λ asked. HasStep asked.agg × All (λ named. HasStep named.agg) asked.nested) (refusal_within fields) within request over none
  where
    within : (asked : NestedAgg) → (field_of asked.agg < length fields) × All (λ named. field_of named.agg < length fields) asked.nested
        → refusal_within fields asked ≡ None → HasStep asked.agg × All (λ named. HasStep named.agg) asked.nested
    within asked h e =
        let both = none_first (refusal_of fields asked.name asked.agg) (first_nested fields asked.nested) e in (
          one_step fields (field_of asked.agg) asked.name asked.agg h.0 both.0,
          all_accepted (λ named. field_of named.agg < length fields) (λ named. HasStep named.agg) (λ named. refusal_of fields named.name named.agg)
              (λ named l f. one_step fields (field_of named.agg) named.name named.agg l f) asked.nested h.1 both.1,
        )

-- one that is not refused leaves the first refusal to those behind it
past : {X : Type 0} (refusal : X → Option AggError) (xs : List X) (i : ℕ) (x : X) → i < length xs → x ≡ get_or xs i x → refusal x ≡ None
    → first_of refusal (drop i xs) ≡ first_of refusal (drop (suc i) xs)
past refusal [] i x l is none = absurd (omega (arith, l))
past refusal (y ∷ ys) zero x l is none = ap (λ (o : Option AggError). option_or o (first_of refusal ys)) (ap refusal (sym is) ∙ none)
past refusal (y ∷ ys) (suc i) x l is none = past refusal ys i x (omega (arith, l)) is none

pub next_refusal : {X : Type 0} (refusal : X → Option AggError) (xs : List X) (i : ℕ) (x : X) → i < length xs → x ≡ get_or xs i x → refusal x ≡ None
    → first_of refusal (drop i xs) ≡ first_of refusal (drop (i + 1) xs)
next_refusal refusal xs i x l is none =
    let next : suc i ≡ i + 1 = omega arith in
    past refusal xs i x l is none ∙ ap (λ (n : ℕ). first_of refusal (drop n xs)) next
