-- What a step answers that fetches of a planned row, by what its calls gave.
use Rattle.std.proofs.Common.{◌≡◌, inl, inr, ℕ, ◌+◌, ◌-◌, ◌^◌, ◌<◌, ◌≤◌, min, List, [], ◌∷◌, ◌++◌, length, arith, refl, sym, subst, Option, Some, Result, Ok, Err, IsErr, nat_eq}
use Rattle.std.specs.Map.{lookup}
use Rattle.std.specs.Prelude.{slice_get}
use Rattle.std.proofs.lemmas.Option.{slice_get_within}
use Rattle.std.specs.declared.alloc.AllocError.{AllocError}
use Rattle.source_log.specs.Log.{Log}
use Rattle.index_config.specs.declared.config.IndexConfig.{IndexConfig}
use Rattle.index_world.specs.Answering.{Answered}
use Rattle.index_world.specs.CallsMade.{CallMade}
use Rattle.index_world.specs.Core.{Core}
use Rattle.meta_store.specs.declared.planning.PlanRow.{PlanRow}
use Rattle.object_store.specs.Store.{State}
use Rattle.search_api.specs.declared.reply.Refusal.{Refusal}
use Rattle.search_api.specs.declared.reply.Said.{Said}
use Rattle.search_api.specs.declared.reply.Said.TheVariants.{Refused}
use Rattle.split_bundle.specs.declared.footer.Footer.{Footer}
use Rattle.root_search.specs.FetchCalls.{FetchCall, IsNoPart, IsPartRead, ReadsAs, SaysRead}
use Rattle.index_world.specs.Calls.{Grace}
use Rattle.root_search.specs.Fetching.{FetchesAs}
use Rattle.root_search.specs.Footers.{entries}
use Rattle.root_search.specs.PartAnswers.{IsSaidOver}
use Rattle.root_search.specs.StepReads.{FetchesRow, IsFetchRefusal, IsNoSplit, Refuses, SaysFetching, SaysOver}
use Rattle.root_search.specs.declared.fetched_splits.FetchedSplit.{FetchedSplit}
use Rattle.root_search.specs.declared.fetching.FetchError.{FetchError}
use Rattle.root_search.specs.declared.fetching.FetchError.TheVariants.{Memory, World, Corrupt}
use Rattle.root_search.specs.declared.footers.Footers.{Footers}
use Rattle.root_search.specs.declared.outcome.SearchStep.{SearchStep}
use Rattle.root_search.specs.declared.outcome.SearchStep.TheVariants.{Fetched, Idle, Planned, Replied}
use Rattle.root_search.specs.declared.planned.Planned.{Planned as GivenPlan}
use Rattle.root_search.specs.declared.searcher.Request.{Request as GivenRequest}
use Rattle.root_search.specs.declared.searcher.Request.TheVariants as given

-- there is no row behind the last one
pub no_row : (rows : List PlanRow) (n : ℕ) (row : PlanRow) → slice_get rows n ≡ Some row → length rows ≤ n → ⊥
no_row rows n row there le = let lt : n < length rows = slice_get_within rows n row there in omega (arith, lt, le)

-- a reply that refuses
pub refused_reply : (holds : Refusal → Type 0) (step : SearchStep) (client : List ℕ) (revision : ℕ) (refusal : Refusal) → step ≡ Replied (record { client = client; revision = revision; said = Refused refusal }) → holds refusal → Refuses revision holds (Ok step)
refused_reply holds step client revision refusal same h = subst (λ (s : SearchStep). Refuses revision holds (Ok s)) (sym same) (refusal, refl, refl, h)

-- where a gate stands, and the row's file is a split, its bytes are not refused
pub never_corrupt : {W A : Type 0} (grace : Grace) (number : ℕ) (Stands : W → Core → Log → Type 0) (Between : Core → Core → Type 0) (Adds : W → List CallMade → W → Type 0) (bytes_fetched : W → ℕ) (holds : A → ℕ → ℕ → Type 0) (fault : FetchError) (core : Core) (log : Log) (old new : W)
    → FetchesAs grace number Stands Between Adds bytes_fetched holds (Err fault) core log old new → fault ≡ Corrupt → ⊥
never_corrupt grace number Stands Between Adds bytes_fetched holds (World error) core log old new f e = absurd (cc)
never_corrupt grace number Stands Between Adds bytes_fetched holds (Memory m) core log old new f e = absurd (cc)
never_corrupt grace number Stands Between Adds bytes_fetched holds Corrupt core log old new f e = f.says

module _ {W : Type 0} (Stands : W → Core → Log → Type 0) (Between : Core → Core → Type 0) (Owns : W → ℕ → Type 0) (Adds : W → List CallMade → W → Type 0) (bytes_fetched : W → ℕ) (told : W → Option State) (Answers : W → Answered → W → Type 0) (footers : Footers) (planned : GivenPlan) (row : PlanRow) (request : GivenRequest) (old new : W)
    (known : Option Footer) (found : known ≡ lookup (nat_eq row.number) (entries footers)) where
  said_of : (r : Result SearchStep AllocError) (calls : List FetchCall) → SaysFetching Stands known row planned old calls request r → SaysFetching Stands (lookup (nat_eq row.number) (entries footers)) row planned old calls request r
  said_of r calls s = subst (λ (k : Option Footer). SaysFetching Stands k row planned old calls request r) found s

  -- no memory is found behind the calls
  pub row_short : {A : Type 0} (holds : A → List FetchCall → Type 0) (refused : List FetchCall → Type 0) (q : Result A FetchError) (r : Result SearchStep AllocError) → ReadsAs Stands Between Owns Adds bytes_fetched told Answers planned.plan planned.next holds refused q old new → IsErr r
      → FetchesRow Stands Between Owns Adds bytes_fetched told Answers footers planned row request r old new
  row_short holds refused q (Ok step) f short = absurd (cc)
  row_short holds refused q (Err e) f short = record { calls = f.calls; are = f.are; says = tt }

  pub row_read : (part : FetchedSplit) (later : GivenPlan) (number : ℕ) → ReadsAs Stands Between Owns Adds bytes_fetched told Answers planned.plan planned.next (IsPartRead known row.number row.size) (IsNoPart known row.size) (Ok part) old new → number ≡ row.number → request ≡ given.Planned later
      → later.ask ≡ planned.ask → later.plan ≡ planned.plan → later.next ≡ min (planned.next + 1) (2 ^ 32 - 1) → later.parts ≡ planned.parts ++ part ∷ [] → FetchesRow Stands Between Owns Adds bytes_fetched told Answers footers planned row request (Ok (Fetched number)) old new
  row_read part later number f same is ask plan next parts =
      record {
        calls = f.calls;
        are = f.are;
        says = said_of (Ok (Fetched number)) f.calls (same, record { part = part; later = later; all_gave = f.says.0; read = f.says.1; request_is = is; ask = ask; plan = plan; next = next; parts = parts });
      }

  pub row_refused : (fault : FetchError) (r : Result SearchStep AllocError) → ReadsAs Stands Between Owns Adds bytes_fetched told Answers planned.plan planned.next (IsPartRead known row.number row.size) (IsNoPart known row.size) (Err fault) old new → Refuses planned.plan.revision (IsFetchRefusal row.number fault) r
      → (fault ≡ Corrupt → IsNoSplit Stands planned.plan planned.next planned.ask.request known old) → FetchesRow Stands Between Owns Adds bytes_fetched told Answers footers planned row request r old new
  row_refused fault r f refuses none = record { calls = f.calls; are = f.are; says = said_of r f.calls (by fault r f.says refuses none) }
    where
      by : (e : FetchError) (q : Result SearchStep AllocError) → SaysRead (IsPartRead known row.number row.size) (IsNoPart known row.size) (Err e) f.calls → Refuses planned.plan.revision (IsFetchRefusal row.number e) q
          → (e ≡ Corrupt → IsNoSplit Stands planned.plan planned.next planned.ask.request known old) → SaysFetching Stands known row planned old f.calls request q
      by e (Ok Idle) s h n = h
      by e (Ok (Planned revision count)) s h n = h
      by e (Ok (Fetched number)) s h n = absurd h
      by (World error) (Ok (Replied reply)) s h n = (h.0, h.1, h.2, inl (error, s, h.3))
      by (Memory m) (Ok (Replied reply)) s h n = absurd h.3
      by Corrupt (Ok (Replied reply)) s h n = (h.0, h.1, h.2, inr (s.0, h.3, s.1, n refl))
      by e (Err m) s h n = tt

-- ---- the last step

pub over_reply : (planned : GivenPlan) (step : SearchStep) (client : List ℕ) (said : Said) (config kept : IndexConfig) → step ≡ Replied (record { client = client; revision = planned.plan.revision; said = said }) → config ≡ kept
    → IsSaidOver config.schema planned.ask planned.parts said → SaysOver kept planned (Ok step)
over_reply planned step client said config kept same is over =
    subst (λ (s : SearchStep). SaysOver kept planned (Ok s)) (sym same) (refl, subst (λ (c : IndexConfig). IsSaidOver c.schema planned.ask planned.parts said) is over)

pub over_short : (planned : GivenPlan) (config : IndexConfig) (r : Result SearchStep AllocError) → IsErr r → SaysOver config planned r
over_short planned config (Ok step) short = absurd (cc)
over_short planned config (Err e) short = tt
