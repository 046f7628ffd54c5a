-- What the parts of a step leave of a searcher.
use Rattle.std.proofs.Common.{◌≡◌, ℕ, List, [], ◌∷◌, ◌++◌, Contains, inl, inr, refl, sym, ap, subst, ◌∙◌, nat_eq, Result, Ok, Err, IfOk}
use Rattle.std.specs.Map.{remove_entry}
use Rattle.std.proofs.lemmas.List.Elements.{Contains-push}
use Rattle.std.specs.Prelude.{IsErr}
use Rattle.std.specs.declared.alloc.AllocError.{AllocError}
use Rattle.lru.proofs.CallerLemmas.{Contains-remove_entry}
use Rattle.search_api.specs.declared.reply.Said.{Said}
use Rattle.split_bundle.specs.declared.footer.Footer.{Footer}
use Rattle.root_search.specs.Footers.{KeepsMore, entries}
use Rattle.root_search.specs.Leaving.{IsOwn, KeepsFooters, LeavesOf, StepLeaves, Works}
use Rattle.root_search.specs.declared.fetched_splits.FetchedSplit.{FetchedSplit}
use Rattle.root_search.specs.declared.footers.Footers.{Footers}
use Rattle.root_search.specs.declared.outcome.SearchStep.{SearchStep}
use Rattle.root_search.specs.declared.outcome.SearchStep.TheVariants.{Fetched, Planned, Replied}
use Rattle.root_search.specs.declared.planned.Planned.{Planned as GivenPlan}
use Rattle.root_search.specs.declared.searcher.Request.{Request}
use Rattle.root_search.specs.declared.searcher.Request.TheVariants as requests
use Rattle.root_search.specs.declared.searcher.Searcher.{Searcher}

-- without memory
pub works_short : (old new : Searcher) (r : Result SearchStep AllocError) → IsErr r → new.client ≡ old.client → new.front ≡ old.front → new.request ≡ requests.Vacant → Works old r new
works_short old new (Ok step) short client front none = absurd (cc)
works_short old new (Err e) short client front none = record { client = client; own = front; request = none; footers = tt }

pub works_replied : (old new : Searcher) (step : SearchStep) (revision : ℕ) (said : Said) → step ≡ Replied (record { client = old.client; revision = revision; said = said }) → new ≡ record old { front = revision } → old.request ≡ requests.Vacant → Works old (Ok step) new
works_replied old new step revision said same is none =
    subst (λ (s : SearchStep). Works old (Ok s) new) (sym same)
    (subst (λ (n : Searcher). Works old (Ok (Replied (record { client = old.client; revision = revision; said = said }))) n) (sym is) (record { client = refl; own = (refl, refl); request = none; footers = λ number footer kept. inl kept }))

pub works_planned : (old new : Searcher) (revision count : ℕ) (planned : GivenPlan) → new ≡ record old { request = requests.Planned planned } → Works old (Ok (Planned revision count)) new
works_planned old new revision count planned is =
    subst (Works old (Ok (Planned revision count))) (sym is) (record { client = refl; own = refl; request = (planned, refl); footers = λ number footer kept. inl kept })

-- behind a part that was fetched
pub works_fetched : (old new : Searcher) (taken kept : Footers) (number : ℕ) (planned : GivenPlan) (parts : List FetchedSplit) (part : FetchedSplit) → new ≡ record old { footers = kept; request = requests.Planned planned } → planned.parts ≡ parts ++ part ∷ [] → part.number ≡ number
    → entries taken ≡ remove_entry (nat_eq number) (entries old.footers) → KeepsMore (entries taken) (entries kept) number part.footer → Works old (Ok (Fetched number)) new
works_fetched old new taken kept number planned parts part is more same left keeps =
    subst (Works old (Ok (Fetched number))) (sym is) (record { client = refl; own = refl; request = (planned, refl); footers = footers })
  where
    among : Contains planned.parts part
    among = subst (λ (ps : List FetchedSplit). Contains ps part) (sym more) (Contains-push parts part)

    footers : KeepsFooters old.footers kept (requests.Planned planned)
    footers n f there = elim (keeps n f there) [
      | inl before ↦ inl (Contains-remove_entry (nat_eq number) (entries old.footers) (n, f) (subst (λ (es : List (ℕ × Footer)). Contains es (n, f)) left before))
      | inr this ↦ inr (record { planned = planned; request_is = refl; part = part; among = among; number_is = same ∙ sym this.0; footer_is = sym this.1 })
    ]

-- behind what changed neither client nor front and kept no footer
pub works_behind : (old mid new : Searcher) (r : Result SearchStep AllocError) → mid.client ≡ old.client → mid.front ≡ old.front → ((number : ℕ) (footer : Footer) → Contains (entries mid.footers) (number, footer) → Contains (entries old.footers) (number, footer)) → Works mid r new → Works old r new
works_behind old mid new r client front few w =
    record {
      client = w.client ∙ client;
      own = subst (λ (n : ℕ). IsOwn old.client n new.front r) front (subst (λ (c : List ℕ). IsOwn c mid.front new.front r) client w.own);
      request = w.request;
      footers = by r w.footers;
    }
  where
    by : (q : Result SearchStep AllocError) → IfOk q (λ step. KeepsFooters mid.footers new.footers new.request) → IfOk q (λ step. KeepsFooters old.footers new.footers new.request)
    by (Ok step) k = λ number footer kept. elim (k number footer kept) [ inl before ↦ inl (few number footer before) | inr held ↦ inr held ]
    by (Err e) k = tt

-- a footer that is taken out is kept no more
pub fewer_left : (old taken : Footers) (number : ℕ) → entries taken ≡ remove_entry (nat_eq number) (entries old) → (n : ℕ) (footer : Footer) → Contains (entries taken) (n, footer) → Contains (entries old) (n, footer)
fewer_left old taken number left n footer kept = Contains-remove_entry (nat_eq number) (entries old) (n, footer) (subst (λ (es : List (ℕ × Footer)). Contains es (n, footer)) left kept)

-- ---- a step

pub opened_leaves : (old new : Searcher) (r : Result SearchStep AllocError) (text : List ℕ) → old.request ≡ requests.Opened text → Works old r new → StepLeaves old r new
opened_leaves old new r text is w = subst (λ (q : Request). LeavesOf q old r new) (sym is) w

pub planned_leaves : (old new : Searcher) (r : Result SearchStep AllocError) (planned : GivenPlan) → old.request ≡ requests.Planned planned → Works old r new → StepLeaves old r new
planned_leaves old new r planned is w = subst (λ (q : Request). LeavesOf q old r new) (sym is) w

pub idle_leaves : (old new : Searcher) (r : Result SearchStep AllocError) → old.request ≡ requests.Vacant → LeavesOf requests.Vacant old r new → StepLeaves old r new
idle_leaves old new r is h = subst (λ (q : Request). LeavesOf q old r new) (sym is) h

pub vacant_same : (old new : Searcher) → old.request ≡ requests.Vacant → new ≡ record old { request = requests.Vacant } → new ≡ old
vacant_same old new was is = is ∙ ap (λ (q : Request). record old { request = q }) (sym was)
