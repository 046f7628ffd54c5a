-- Fields and aggregations behind others, and the numbers of fields.
use Rattle.std.proofs.Common.{◌≡◌, ℕ, List, [], ◌∷◌, ◌++◌, Result, Ok, Err, refl, ap, sym, append_assoc}
use Rattle.doc_value.specs.declared.schema.Field.{Field}
use Rattle.agg_nested.specs.declared.request.NamedFlat.{NamedFlat}
use Rattle.agg_nested.specs.declared.request.NestedAgg.{NestedAgg}
use Rattle.search_api.specs.declared.request.AskedAgg.{AskedAgg}
use Rattle.search_api.specs.declared.request.AskedFlat.{AskedFlat}
use Rattle.search_api.specs.declared.unanswered.Unanswered.{Unanswered}
use Rattle.search_api.specs.Kinds.{◌>>=◌}
use Rattle.search_api.specs.Resolved.{text_number, text_numbers, flat_of, flats_of, agg_of, aggs_of}

-- these members, and behind them others where there are any
abbrev pub behind : {A : Type 0} → List A → Result (List A) Unanswered → Result (List A) Unanswered
behind done (Err e) = Err e
behind done (Ok more) = Ok (done ++ more)

none_behind : {A : Type 0} (r : Result (List A) Unanswered) → behind [] r ≡ r
none_behind (Ok more) = refl
none_behind (Err e) = refl

step_behind : {A : Type 0} (done : List A) (x : A) (r : Result (List A) Unanswered) → behind done (r >>= λ more. Ok (x ∷ more)) ≡ behind (done ++ x ∷ []) r
step_behind done x (Ok more) = ap Ok (sym (append_assoc done (x ∷ []) more))
step_behind done x (Err e) = refl

pub numbers_none : (r : Result (List ℕ) Unanswered) → behind [] r ≡ r
numbers_none r = none_behind r

pub numbers_step : (done : List ℕ) (fields : List Field) (path : List ℕ) (paths : List (List ℕ)) (n : ℕ) → text_number fields path ≡ Ok n
    → behind done (text_numbers fields (path ∷ paths)) ≡ behind (done ++ n ∷ []) (text_numbers fields paths)
numbers_step done fields path paths n e = rw e (step_behind done n (text_numbers fields paths))

pub numbers_fail : (done : List ℕ) (fields : List Field) (path : List ℕ) (paths : List (List ℕ)) (reason : Unanswered) → text_number fields path ≡ Err reason
    → behind done (text_numbers fields (path ∷ paths)) ≡ Err reason
numbers_fail done fields path paths reason e = rw e refl

pub aggs_none : (r : Result (List NestedAgg) Unanswered) → behind [] r ≡ r
aggs_none r = none_behind r

pub aggs_step : (done : List NestedAgg) (fields : List Field) (asked : AskedAgg) (rest : List AskedAgg) (agg : NestedAgg) → agg_of fields asked ≡ Ok agg
    → behind done (aggs_of fields (asked ∷ rest)) ≡ behind (done ++ agg ∷ []) (aggs_of fields rest)
aggs_step done fields asked rest agg e = rw e (step_behind done agg (aggs_of fields rest))

pub aggs_fail : (done : List NestedAgg) (fields : List Field) (asked : AskedAgg) (rest : List AskedAgg) (reason : Unanswered) → agg_of fields asked ≡ Err reason
    → behind done (aggs_of fields (asked ∷ rest)) ≡ Err reason
aggs_fail done fields asked rest reason e = rw e refl

pub flats_none : (r : Result (List NamedFlat) Unanswered) → behind [] r ≡ r
flats_none r = none_behind r

pub flats_step : (done : List NamedFlat) (fields : List Field) (asked : AskedFlat) (rest : List AskedFlat) (flat : NamedFlat) → flat_of fields asked ≡ Ok flat
    → behind done (flats_of fields (asked ∷ rest)) ≡ behind (done ++ flat ∷ []) (flats_of fields rest)
flats_step done fields asked rest flat e = rw e (step_behind done flat (flats_of fields rest))

pub flats_fail : (done : List NamedFlat) (fields : List Field) (asked : AskedFlat) (rest : List AskedFlat) (reason : Unanswered) → flat_of fields asked ≡ Err reason
    → behind done (flats_of fields (asked ∷ rest)) ≡ Err reason
flats_fail done fields asked rest reason e = rw e refl
