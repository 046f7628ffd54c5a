-- The answer of splits is the answer to the search that asks them.
use Rattle.std.proofs.Common.{◌≡◌, ℕ, zero, suc, ◌+◌, ◌==◌, ◌&&◌, Bool, true, false, nat_lt, List, filter, map, take, drop, length, Result, Ok, Err, refl, ap, ap₂, subst, ◌∙◌, if◌then◌else◌, arith}
use Rattle.std.proofs.lemmas.Bool.Decides.{nat_tests}
use Rattle.std.proofs.lemmas.List.{drop-take, take-take}
use Rattle.doc_value.specs.declared.doc.DocField.{DocField}
use Rattle.doc_value.specs.declared.facts.TimeRange.{TimeRange}
use Rattle.doc_value.specs.declared.schema.Schema.{Schema}
use Rattle.query_ast.specs.Meaning.{meaning, within_times}
use Rattle.query_ast.specs.Sought.{Sought}
use Rattle.agg_model.specs.Answers.{most_buckets}
use Rattle.agg_model.specs.declared.agg_error.AggError.{AggError}
use Rattle.agg_model.specs.declared.agg_error.AggError.TheVariants.{BadInterval, Memory, NotFast, TooManyBuckets}
use Rattle.agg_nested.specs.Answers.{all_buckets, nested, nested_answer, told}
use Rattle.agg_nested.specs.Finished.{HadMemory}
use Rattle.agg_nested.specs.declared.answer.NestedAnswer.{NestedAnswer}
use Rattle.agg_nested.specs.declared.request.NestedAgg.{NestedAgg}
use Rattle.split_bundle.specs.declared.placed.Placed.{Placed}
use Rattle.doc_tallies.specs.Firsts.{sorted_by}
use Rattle.doc_tallies.specs.Orders.{comes_before, firsts}
use Rattle.doc_tallies.specs.Picked.{docs_of}
use Rattle.leaf_search.specs.Answers.{IsAnswerOf, found}
use Rattle.leaf_search.specs.declared.request.LeafAnswer.{LeafAnswer}
use Rattle.search_api.specs.Resolved.{Search}
use Rattle.search_api.specs.Unanswered.{of_aggs}
use Rattle.search_api.specs.declared.reply.Refusal.{Refusal}
use Rattle.search_api.specs.declared.reply.Refusal.TheVariants as refusals
use Rattle.search_api.specs.declared.unanswered.Unanswered.TheVariants.{Refused}
use Rattle.root_search.specs.Answer.{IsFound, IsRefused, matching, order_of, printed, shown}
use Rattle.root_search.specs.LeafAsks.{Asks, wanted_of}
use Rattle.root_search.specs.declared.leaf_asks.LeafAsk.{LeafAsk}

same_found : (s : Schema) (search : Search) (ask : LeafAsk) (documents : List Placed) → Asks search ask → found s ask.request documents ≡ matching s search documents
same_found s search ask documents h = ap₂ (λ (q : Sought) (t : TimeRange). filter (λ (d : Placed). meaning s d.doc q && within_times s t d.doc) documents) h.query h.times

-- what is passed over and what is shown stand among those that are wanted
page_in : {X : Type 0} (n m : ℕ) (xs : List X) → take m (drop n (take (if m == 0 then 0 else n + m) xs)) ≡ take m (drop n xs)
page_in n zero xs = refl
page_in n (suc m) xs =
    let some : (suc m == 0) ≡ false = grind (arith, nat_tests) in
    rw (some) (ap (take (suc m)) (drop-take n (suc m) xs) ∙ take-take (suc m) (suc m) (drop n xs) (omega arith))

same_shown : (s : Schema) (search : Search) (ask : LeafAsk) (documents hits : List Placed) → Asks search ask → hits ≡ firsts ask.request.wanted ask.request.order (found s ask.request documents)
    → take ask.page.shown (drop ask.page.passed hits) ≡ shown search (matching s search documents)
same_shown s search ask documents hits h e =
    let first : hits ≡ firsts (wanted_of search) (order_of search.sort) (matching s search documents) =
    e ∙ (ap₂ (λ (n : ℕ) (o : _). firsts n o (found s ask.request documents)) h.wanted h.order ∙ ap (firsts (wanted_of search) (order_of search.sort)) (same_found s search ask documents h)) in
    ap₂ (λ (m n : ℕ). take m (drop n hits)) h.shown h.passed
    ∙ (ap (λ (zs : List Placed). take search.max_hits (drop search.start_offset zs)) first
    ∙ page_in search.start_offset search.max_hits (sorted_by (comes_before (order_of search.sort)) (matching s search documents)))

pub found_shown : (s : Schema) (search : Search) (ask : LeafAsk) (documents : List Placed) (a : LeafAnswer) (lines : List (List ℕ)) (results : List NestedAnswer) → Asks search ask → IsAnswerOf s ask.request documents a
    → lines ≡ printed s (take ask.page.shown (drop ask.page.passed a.hits)) → nested ask.request.aggs (docs_of (found s ask.request documents)) ≡ Ok results → IsFound s search documents a.count lines results
found_shown s search ask documents a lines results h answer e finished =
    record {
      count = answer.count ∙ ap length (same_found s search ask documents h);
      hits = e ∙ ap (printed s) (same_shown s search ask documents a.hits h answer.hits);
      aggregations = subst (λ (ds : List Placed). nested search.aggs (docs_of ds) ≡ Ok results) (same_found s search ask documents h)
          (subst (λ (aggs : List NestedAgg). nested aggs (docs_of (found s ask.request documents)) ≡ Ok results) h.aggs finished);
    }

-- aggregations are refused for their buckets alone
abbrev IsOfBuckets : AggError → Type 0
IsOfBuckets (TooManyBuckets count) = Unit {0}
IsOfBuckets (Memory m) = ⊥
IsOfBuckets (NotFast field) = ⊥
IsOfBuckets (BadInterval name) = ⊥

only_buckets : (aggs : List NestedAgg) (ds : List (List DocField)) (error : AggError) → nested aggs ds ≡ Err error → IsOfBuckets error
unfolding nested
only_buckets aggs ds error e = by (nat_lt most_buckets (all_buckets aggs ds)) e
  where
    by : (b : Bool) → ◌≡◌ {A = Result (List NestedAnswer) AggError} (if b then Err (TooManyBuckets (told (all_buckets aggs ds))) else Ok (map (nested_answer ds) aggs)) (Err error) → IsOfBuckets error
    by true f = let same : TooManyBuckets (told (all_buckets aggs ds)) ≡ error = cc in subst IsOfBuckets same tt
    by false f = absurd (cc)

refusal_is : (s : Schema) (search : Search) (documents : List Placed) (error : AggError) (refusal : Refusal) → of_aggs error ≡ Refused refusal → nested search.aggs (docs_of (matching s search documents)) ≡ Err error → IsRefused s search documents refusal
refusal_is s search documents (TooManyBuckets count) refusal e finished =
    let same : refusals.TooManyBuckets count ≡ refusal = cc in
    subst (IsRefused s search documents) same finished
refusal_is s search documents (Memory m) refusal e finished = absurd (cc)
refusal_is s search documents (NotFast field) refusal e finished = absurd (only_buckets search.aggs (docs_of (matching s search documents)) (NotFast field) finished)
refusal_is s search documents (BadInterval name) refusal e finished = absurd (only_buckets search.aggs (docs_of (matching s search documents)) (BadInterval name) finished)

-- a refusal is no want of memory
pub had_memory : (error : AggError) (refusal : Refusal) → of_aggs error ≡ Refused refusal → HadMemory (Err error)
had_memory (TooManyBuckets count) refusal e = tt
had_memory (Memory m) refusal e = absurd (cc)
had_memory (NotFast field) refusal e = tt
had_memory (BadInterval name) refusal e = tt

pub refused_shown : (s : Schema) (search : Search) (ask : LeafAsk) (documents : List Placed) (error : AggError) (refusal : Refusal) → Asks search ask → of_aggs error ≡ Refused refusal
    → nested ask.request.aggs (docs_of (found s ask.request documents)) ≡ Err error → IsRefused s search documents refusal
refused_shown s search ask documents error refusal h e finished =
    refusal_is s search documents error refusal e
    (subst (λ (ds : List Placed). nested search.aggs (docs_of ds) ≡ Err error) (same_found s search ask documents h)
    (subst (λ (aggs : List NestedAgg). nested aggs (docs_of (found s ask.request documents)) ≡ Err error) h.aggs finished))
