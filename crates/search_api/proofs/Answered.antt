-- What a request asks of a schema can be answered from its index.
use Rattle.std.proofs.Common.{◌≡◌, ℕ, ◌&&◌, ◌||◌, Bool, true, false, not, List, Option, Some, None, Result, Ok, Err, refl, sym, ◌∙◌, subst, if◌then◌else◌, slice_get, is_some}
use Rattle.std.specs.Option.{IfSome, option_map_or}
use Rattle.doc_value.specs.Documents.{IsDynamic}
use Rattle.doc_value.specs.declared.facts.TimeRange.{TimeRange}
use Rattle.doc_value.specs.declared.schema.Field.{Field}
use Rattle.doc_value.specs.declared.schema.Schema.{Schema}
use Rattle.query_ast.specs.Queries.{HasField}
use Rattle.query_ast.specs.Sought.{Sought}
use Rattle.query_reader.specs.Resolve.{query_of}
use Rattle.query_reader.specs.declared.refusal.QueryError.{QueryError}
use Rattle.agg_model.specs.declared.agg_error.AggError.{AggError}
use Rattle.agg_nested.specs.Checking.{first_refusal, CanCount, HaveSteps}
use Rattle.agg_nested.specs.declared.request.NestedAgg.{NestedAgg}
use Rattle.agg_nested.proofs.Refusals.{have_steps}
use Rattle.search_api.specs.Answerable.{AreTimed, IsAnswerable}
use Rattle.query_ast.specs.Askable.{CanAsk}
use Rattle.search_api.specs.Kinds.{◌>>=◌}
use Rattle.search_api.specs.Resolved.{Search, searched, sort_of, aggs_of, fast_sort, timed, query_in, query_or, checked, unless_refused, is_fast, search_in, delete_in, searched_paths}
use Rattle.search_api.specs.Unanswered.{of_query, of_aggs}
use Rattle.search_api.specs.declared.reply.Refusal.TheVariants.{NotFast, NoTimestampField}
use Rattle.search_api.specs.declared.request.AskedAgg.{AskedAgg}
use Rattle.search_api.specs.declared.request.SearchRequest.{SearchRequest}
use Rattle.search_api.specs.declared.request.Selection.{Selection}
use Rattle.search_api.specs.declared.request.SortBy.{SortBy}
use Rattle.search_api.specs.declared.resolved.Deletion.{Deletion}
use Rattle.search_api.specs.declared.resolved.SortField.{SortField}
use Rattle.search_api.specs.declared.unanswered.Unanswered.{Unanswered}
use Rattle.search_api.specs.declared.unanswered.Unanswered.TheVariants.{Refused}
use Rattle.search_api.proofs.Askable.{query_can}
use Rattle.search_api.proofs.Within.{aggs_within}

bind_some : {A B : Type 0} (r : Result A Unanswered) (k : A → Result B Unanswered) (y : B) → r >>= k ≡ Ok y → (x : A) × (r ≡ Ok x) × (k x ≡ Ok y)
bind_some (Ok x) k y e = (x, refl, e)
bind_some {A} {B} (Err r) k y e = absurd (let z : ◌≡◌ {A = Result B Unanswered} (Err r) (Ok y) = e in cc)

same_ok : {A : Type 0} (x y : A) → ◌≡◌ {A = Result A Unanswered} (Ok x) (Ok y) → x ≡ y
same_ok x y e = cc

-- ---- a fast field to sort by
fast_there : (s : Schema) (n : ℕ) (o : Option Field) → slice_get s.fields n ≡ o → option_map_or (λ f. f.fast) o false ≡ true → HasField s n (λ f. f.fast ≡ true)
fast_there s n None h e = absurd (let y : false ≡ true = e in cc)
fast_there s n (Some f) h e = rw h e

sorted_by : (s : Schema) (path : List ℕ) (sort : SortField) (b : Bool) → b ≡ is_fast s.fields sort.field → (given : Option SortField)
    → (if b then Ok (Some sort) else Err (Refused (NotFast path))) ≡ Ok given → IfSome given (λ by. HasField s by.field (λ f. f.fast ≡ true))
sorted_by s path sort true h given e =
    subst (λ (o : Option SortField). IfSome o (λ by. HasField s by.field (λ f. f.fast ≡ true)))
    (same_ok (Some sort) given e)
    (fast_there s sort.field (slice_get s.fields sort.field) refl (sym h))
sorted_by s path sort false h given e = absurd (let y : ◌≡◌ {A = Result (Option SortField) Unanswered} (Err (Refused (NotFast path))) (Ok given) = e in cc)

sort_can : (s : Schema) (asked : Option SortBy) (named given : Option SortField) → sort_of s.fields asked ≡ Ok named → fast_sort s.fields asked named ≡ Ok given
    → IfSome given (λ by. HasField s by.field (λ f. f.fast ≡ true))
sort_can s (Some asked) (Some sort) given h e = sorted_by s asked.path sort (is_fast s.fields sort.field) refl given e
sort_can s (Some asked) None given h e =
    subst (λ (o : Option SortField). IfSome o (λ by. HasField s by.field (λ f. f.fast ≡ true)))
    (same_ok None given e) tt
sort_can s None named given h e =
    subst (λ (o : Option SortField). IfSome o (λ by. HasField s by.field (λ f. f.fast ≡ true)))
    (same_ok None named h ∙ same_ok named given e) tt

-- ---- a timestamp field
timed_by : (a b c : Bool) (times given : TimeRange) → (if (a || b) && not c then Err (Refused NoTimestampField) else Ok times) ≡ Ok given
    → (times ≡ given) × (a ≡ true → c ≡ true) × (b ≡ true → c ≡ true)
timed_by true b true times given e = (same_ok times given e, λ h. refl, λ h. refl)
timed_by false true true times given e = (same_ok times given e, λ h. refl, λ h. refl)
timed_by false false true times given e = (same_ok times given e, λ h. refl, λ h. refl)
timed_by true b false times given e = absurd (let y : ◌≡◌ {A = Result TimeRange Unanswered} (Err (Refused NoTimestampField)) (Ok given) = e in cc)
timed_by false true false times given e = absurd (let y : ◌≡◌ {A = Result TimeRange Unanswered} (Err (Refused NoTimestampField)) (Ok given) = e in cc)
timed_by false false false times given e = (same_ok times given e, λ h. absurd (let y : false ≡ true = h in cc), λ h. absurd (let y : false ≡ true = h in cc))

timed_can : (s : Schema) (times given : TimeRange) → timed s times ≡ Ok given → AreTimed s given
timed_can s times given e =
    let h = timed_by (is_some times.start) (is_some times.end) (is_some s.timestamp) times given e in
    subst (λ (t : TimeRange). AreTimed s t) h.0 (record { start = h.1; end = h.2 })

-- ---- the query and the aggregations
query_in_can : (s : Schema) (numbers text : List ℕ) (q : Sought) → IfSome s.dynamic (IsDynamic s.fields) → query_in s numbers text ≡ Ok q → CanAsk s q
query_in_can s numbers text q dynamic e = go (query_of s numbers text) refl e
  where
    go : (r : Result Sought QueryError) → query_of s numbers text ≡ r → query_or r ≡ Ok q → CanAsk s q
    go (Ok p) h k = query_can s numbers text q dynamic (let y : ◌≡◌ {A = Result Sought Unanswered} (Ok p) (Ok q) = k in let z : p ≡ q = cc in subst (λ (x : Sought). query_of s numbers text ≡ Ok x) z h)
    go (Err error) h k = absurd (let y : ◌≡◌ {A = Result Sought Unanswered} (Err (of_query error)) (Ok q) = k in cc)

counted_can : (s : Schema) (asked : List AskedAgg) (aggs given : List NestedAgg) → aggs_of s.fields asked ≡ Ok aggs → checked s aggs ≡ Ok given → CanCount s given × HaveSteps given
counted_can s asked aggs given h e = go (first_refusal s.fields aggs) refl e
  where
    go : (o : Option AggError) → first_refusal s.fields aggs ≡ o → unless_refused aggs o ≡ Ok given → CanCount s given × HaveSteps given
    go None n k =
        let within = aggs_within s.fields asked aggs h in
        subst (λ (xs : List NestedAgg). CanCount s xs × HaveSteps xs) (same_ok aggs given k)
        (record { over = within; none = n }, have_steps s.fields aggs within n)
    go (Some error) n k = absurd (let y : ◌≡◌ {A = Result (List NestedAgg) Unanswered} (Err (of_aggs error)) (Ok given) = k in cc)

-- ---- requests
-- what a search asks over a schema
pub search_can : (s : Schema) (defaults : List ℕ) (asked : SearchRequest) (search : Search) → IfSome s.dynamic (IsDynamic s.fields) → search_in s defaults asked ≡ Ok search → IsAnswerable s search
unfolding search_in
search_can s defaults asked search dynamic e =
    let a = bind_some (searched s.fields defaults asked.selection.fields) _ search e in
    let b = bind_some (sort_of s.fields asked.sort_by) _ search a.2 in
    let c = bind_some (aggs_of s.fields asked.aggs) _ search b.2 in
    let d = bind_some (fast_sort s.fields asked.sort_by b.0) _ search c.2 in
    let t = bind_some (timed s asked.selection.times) _ search d.2 in
    let q = bind_some (query_in s a.0 asked.selection.query) _ search t.2 in
    let k = bind_some (checked s c.0) _ search q.2 in
    let can = counted_can s asked.aggs c.0 k.0 c.1 k.1 in
    let made : Search = record { query = q.0; times = t.0; start_offset = asked.start_offset; max_hits = asked.max_hits; sort = d.0; aggs = k.0 } in
    let y : ◌≡◌ {A = Result Search Unanswered} (Ok made) (Ok search) = k.2 in
    subst (λ (x : Search). IsAnswerable s x) (let z : made ≡ search = cc in z)
    (record {
      query = query_in_can s a.0 asked.selection.query q.0 dynamic q.1;
      sort = sort_can s asked.sort_by b.0 d.0 b.1 d.1;
      times = timed_can s asked.selection.times t.0 t.1;
      aggs = can.0;
      steps = can.1;
    })

pub delete_can : (s : Schema) (defaults : List ℕ) (asked : Selection) (deletion : Deletion) → delete_in s defaults asked ≡ Ok deletion → AreTimed s deletion.times
unfolding delete_in
delete_can s defaults asked deletion e =
    let a = bind_some (searched s.fields defaults asked.fields) _ deletion e in
    let t = bind_some (timed s asked.times) _ deletion a.2 in
    let q = bind_some (query_in s a.0 asked.query) _ deletion t.2 in
    let made : Deletion = record { text = asked.query; fields = searched_paths s.fields defaults asked.fields; times = t.0 } in
    let y : ◌≡◌ {A = Result Deletion Unanswered} (Ok made) (Ok deletion) = q.2 in
    subst (λ (x : Deletion). AreTimed s x.times) (let z : made ≡ deletion = cc in z) (timed_can s asked.times t.0 t.1)
