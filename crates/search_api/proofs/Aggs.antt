-- Aggregations and ranges behind others.
use Rattle.std.proofs.Common.{◌≡◌, ℕ, List, [], ◌∷◌, ◌++◌, Result, Ok, Err, refl, ap, sym, append_assoc}
use Rattle.serde_json.specs.Data.{Data, Items, item, Members, member}
use Rattle.agg_nested.specs.declared.request.WholeRange.{WholeRange}
use Rattle.search_api.specs.declared.request_error.RequestError.{RequestError}
use Rattle.search_api.specs.Kinds.{◌>>=◌}
use Rattle.search_api.specs.Aggregations.{each_of, range_of, ranges_of}

-- these, and behind them others where there are any
abbrev pub more_behind : {A : Type 0} → List A → Result (List A) RequestError → Result (List A) RequestError
more_behind done (Err e) = Err e
more_behind done (Ok more) = Ok (done ++ more)

pub each_none : {A : Type 0} (r : Result (List A) RequestError) → more_behind [] r ≡ r
each_none (Ok more) = refl
each_none (Err e) = refl

step_behind : {A : Type 0} (done : List A) (x : A) (r : Result (List A) RequestError)
    → more_behind done (r >>= λ more. Ok (x ∷ more)) ≡ more_behind (done ++ x ∷ []) r
step_behind done x (Ok more) = ap Ok (sym (append_assoc done (x ∷ []) more))
step_behind done x (Err e) = refl

pub each_step : {A : Type 0} (agg : List ℕ → Data → Result A RequestError) (done : List A) (name : List ℕ) (d : Data) (ms : Members) (x : A) → agg name d ≡ Ok x
    → more_behind done (each_of agg (member name d ms)) ≡ more_behind (done ++ x ∷ []) (each_of agg ms)
each_step agg done name d ms x e = rw e (step_behind done x (each_of agg ms))

pub each_fail : {A : Type 0} (agg : List ℕ → Data → Result A RequestError) (done : List A) (name : List ℕ) (d : Data) (ms : Members) (error : RequestError) → agg name d ≡ Err error
    → more_behind done (each_of agg (member name d ms)) ≡ Err error
each_fail agg done name d ms error e = rw e refl

pub ranges_none : (r : Result (List WholeRange) RequestError) → more_behind [] r ≡ r
ranges_none r = each_none r

pub ranges_step : (done : List WholeRange) (d : Data) (ds : Items) (range : WholeRange) → range_of d ≡ Ok range
    → more_behind done (ranges_of (item d ds)) ≡ more_behind (done ++ range ∷ []) (ranges_of ds)
ranges_step done d ds range e = rw e (step_behind done range (ranges_of ds))

pub ranges_fail : (done : List WholeRange) (d : Data) (ds : Items) (error : RequestError) → range_of d ≡ Err error
    → more_behind done (ranges_of (item d ds)) ≡ Err error
ranges_fail done d ds error e = rw e refl
