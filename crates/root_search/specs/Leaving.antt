-- What the calls of a searcher leave of it, whatever the gate tells.
use Rattle.std.specs.Prelude.{◌≡◌, ◌⊎◌, ℕ, List, [], Contains, Result, Ok, Err, IfOk}
use Rattle.std.specs.declared.alloc.AllocError.{AllocError}
use Rattle.split_bundle.specs.declared.footer.Footer.{Footer}
use Rattle.root_search.specs.Footers.{entries}
use Rattle.root_search.specs.declared.fetched_splits.FetchedSplit.{FetchedSplit}
use Rattle.root_search.specs.declared.footers.Footers.{Footers}
use Rattle.root_search.specs.declared.outcome.SearchStep.{SearchStep}
use Rattle.root_search.specs.declared.outcome.SearchStep.TheVariants.{Fetched, Idle, Planned, Replied}
use Rattle.root_search.specs.declared.planned.Planned.{Planned as GivenPlan}
use Rattle.root_search.specs.declared.searcher.Busy.{Busy}
use Rattle.root_search.specs.declared.searcher.Request.{Request}
use Rattle.root_search.specs.declared.searcher.Request.TheVariants as requests
use Rattle.root_search.specs.declared.searcher.Searcher.{Searcher}

-- without a request and footers
pub record Restarts (old new : Searcher) : Type 0 where
  pub client : new.client ≡ old.client
  pub front : new.front ≡ old.front
  pub footers : entries new.footers ≡ []
  pub request : new.request ≡ requests.Vacant

-- a text is taken where there is no request, and else nothing changes
abbrev pub TakesText : Result (Unit {0}) Busy → List ℕ → Searcher → Searcher → Type 0
TakesText (Ok done) text old new = (old.request ≡ requests.Vacant) × (new ≡ record old { request = requests.Opened text })
TakesText (Err busy) text old new = ¬ (old.request ≡ requests.Vacant) × (new ≡ old)

-- The front is the revision of the last reply, and a reply is its client's.
abbrev pub IsOwn : List ℕ → ℕ → ℕ → Result SearchStep AllocError → Type 0
IsOwn client was front (Ok Idle) = front ≡ was
IsOwn client was front (Ok (Planned revision count)) = front ≡ was
IsOwn client was front (Ok (Fetched number)) = front ≡ was
IsOwn client was front (Ok (Replied reply)) = (reply.client ≡ client) × (front ≡ reply.revision)
IsOwn client was front (Err e) = front ≡ was

-- A request that is worked on is left where it is planned or fetched of; it is gone where it is replied to, or memory was wanting.
abbrev pub LeavesRequest : Result SearchStep AllocError → Request → Type 0
LeavesRequest (Ok Idle) request = ⊥
LeavesRequest (Ok (Planned revision count)) request = (planned : GivenPlan) × (request ≡ requests.Planned planned)
LeavesRequest (Ok (Fetched number)) request = (planned : GivenPlan) × (request ≡ requests.Planned planned)
LeavesRequest (Ok (Replied reply)) request = request ≡ requests.Vacant
LeavesRequest (Err e) request = request ≡ requests.Vacant

-- the request holds a part of the split with a number, which has this footer
pub record HoldsFooter (request : Request) (number : ℕ) (footer : Footer) : Type 0 where
  pub planned : GivenPlan
  pub request_is : request ≡ requests.Planned planned
  pub part : FetchedSplit
  pub among : Contains planned.parts part
  pub number_is : part.number ≡ number
  pub footer_is : part.footer ≡ footer

-- a footer that is kept was kept before, or is that of a part which the request holds
abbrev pub KeepsFooters : Footers → Footers → Request → Type 0
KeepsFooters old new request = (number : ℕ) (footer : Footer) → Contains (entries new) (number, footer) → Contains (entries old) (number, footer) ⊎ HoldsFooter request number footer

pub record Works (old : Searcher) (result : Result SearchStep AllocError) (new : Searcher) : Type 0 where
  pub client : new.client ≡ old.client
  pub own : IsOwn old.client old.front new.front result
  pub request : LeavesRequest result new.request
  pub footers : IfOk result (λ step. KeepsFooters old.footers new.footers new.request)

-- Idle is answered where there is no request, and nowhere else
abbrev pub LeavesOf : Request → Searcher → Result SearchStep AllocError → Searcher → Type 0
LeavesOf requests.Vacant old result new = (result ≡ Ok Idle) × (new ≡ old)
LeavesOf (requests.Opened text) old result new = Works old result new
LeavesOf (requests.Planned planned) old result new = Works old result new

abbrev pub StepLeaves : Searcher → Result SearchStep AllocError → Searcher → Type 0
StepLeaves old result new = LeavesOf old.request old result new
