-- A searcher goes on to stand for its client, and what its files hold is what is visible.
use Rattle.std.proofs.Common.{◌≡◌, ℕ, ◌+◌, ◌≤◌, ◌++◌, Contains, List, map, flat_map, length, take, sym, ap, ◌∙◌, subst, arith, Option, Some, IsPermutation}
use Rattle.std.specs.List.{AllByRecursion, AllZip}
use Rattle.std.specs.Prelude.{fold}
use Rattle.std.proofs.lemmas.List.{take-append-le, take_all, length-append}
use Rattle.std.proofs.lemmas.List.Sums.{fold-append}
use Rattle.meta_journal.specs.declared.entry.Entry.{Entry}
use Rattle.meta_store.specs.Contents.{published_rows}
use Rattle.meta_store.specs.History.{history}
use Rattle.meta_store.specs.History.History.{Start, ◌▸◌}
use Rattle.meta_store.specs.Ledgers.{ledger}
use Rattle.meta_store.specs.Planning.{planned_row, searched}
use Rattle.meta_store.specs.Rows.{rows}
use Rattle.meta_store.specs.State.{Legal}
use Rattle.index_config.specs.declared.config.IndexConfig.{IndexConfig}
use Rattle.index_world.specs.Config.{reads}
use Rattle.index_world.specs.Configuration.{configuration, config_or}
use Rattle.source_log.specs.Log.{Log}
use Rattle.split_states.specs.Rows.{row_at}
use Rattle.split_states.specs.declared.rows.Row.{Row}
use Rattle.index_world.specs.Core.{Core, IsConfigured, IsPlannedIn, IsShownIn, Nobody, journal_of}
use Rattle.index_world.specs.Gate.{IsSoundCore, grace_of}
use Rattle.index_world.specs.Seen.{contents, visible}
use Rattle.index_world.specs.SplitFile.{AreSplit, file_of}
use Rattle.index_world.specs.World.{GoesFor}
use Rattle.split_bundle.specs.declared.placed.Placed.{Placed}
use Rattle.leaf_search.specs.Answers.{IsAsked}
use Rattle.root_search.specs.RowFacts.{HasFactsOf}
use Rattle.search_api.specs.Resolved.{Search}
use Rattle.index_world.proofs.Configured.{configured-take, configured-unread, legal_front}
use Rattle.index_world.proofs.InCore.{planned_goes, shown_goes}
use Rattle.index_world.proofs.StoreChanges.{All-each}
use Rattle.root_search.specs.FetchedSplits.{HasNeeded, IsFooterIn}
use Rattle.root_search.specs.declared.planned.Planned.{Planned as GivenPlan}
use Rattle.root_search.specs.declared.searcher.Request.{Request as GivenRequest}
use Rattle.root_search.specs.declared.searcher.Request.TheVariants as given
use Rattle.root_search.specs.Footers.{entries}
use Rattle.root_search.specs.declared.footers.Footers.{Footers}
use Rattle.split_bundle.specs.declared.footer.Footer.{Footer}
use Rattle.root_search.specs.declared.searcher.Searcher.{Searcher}
use Rattle.root_search.specs.Searching.{AreKept, AreKnown, IsAtWork, IsInHand, AreInHand, published_at, documents_at, IsPlanned, IsRequest, SearcherStands}
use Rattle.root_search.specs.Steps.{Plan, Request, Client, config_at, config_in}
use Rattle.root_search.proofs.Kept.{kept_footer}
use Rattle.root_search.proofs.Rows.{AreShown, IsHeld, world_shown, world_few, world_legal, world_configured}

-- what a revision shows stays when the history goes on
pub same_front : (Kept : ℕ → Type 0) (core after : Core) (revision : ℕ) → GoesFor Kept core after → revision ≤ length core.history → take revision after.history ≡ take revision core.history
same_front Kept core after revision g le = ap (take revision) g.grown.1 ∙ take-append-le revision core.history g.grown.0 le

-- the rows and their documents, by the entries that the plan saw
abbrev pub config_seen : List Entry → IndexConfig
config_seen seen = config_or (configuration seen)

abbrev pub documents_seen : List Entry → Log → Row → List Placed
documents_seen seen log row = contents (config_seen seen) (ledger reads (history seen)).tasks row log

abbrev pub published_seen : List Entry → List Row
published_seen seen = published_rows (rows (history seen))

abbrev pub rows_seen : List Entry → Search → List Row
rows_seen seen search = searched (config_seen seen).schema search.query search.times (rows (history seen))

-- a footer that is kept under a row's number is that of its file
abbrev IsKnownBy : Footers → List Entry → Log → Row → Type 0
IsKnownBy footers seen log row = (footer : Footer) → Contains (entries footers) (row.number, footer) → IsFooterIn (file_of (config_seen seen) (documents_seen seen log row)) footer

abbrev AreKnownBy : Footers → List Entry → Log → Type 0
AreKnownBy footers seen log = AllByRecursion (IsKnownBy footers seen log) (published_seen seen)

row_goes_on : (Kept : ℕ → Type 0) (core after : Core) (log : Log) (revision until : ℕ) → GoesFor Kept core after → take revision after.history ≡ take revision core.history → (row : Row) → IsInHand revision until core log row → IsInHand revision until after log row
row_goes_on Kept core after log revision until g same row i =
    record {
      found = subst (λ (seen : List Entry). row_at (rows (history seen)) row.number ≡ Some row) (sym same) i.found;
      shown = subst (λ (seen : List Entry). IsShownIn after row.number (file_of (config_seen seen) (documents_seen seen log row))) (sym same)
          (shown_goes Kept core after row.number (file_of (config_at revision core) (documents_at revision core log row)) g i.shown);
      planned = subst (λ (seen : List Entry). IsPlannedIn after until row.number (file_of (config_seen seen) (documents_seen seen log row))) (sym same)
          (planned_goes Kept core after until row.number (file_of (config_at revision core) (documents_at revision core log row)) g i.planned);
      split = subst (λ (seen : List Entry). AreSplit (config_seen seen) (documents_seen seen log row)) (sym same) i.split;
      facts = subst (λ (seen : List Entry). HasFactsOf (config_seen seen).schema (documents_seen seen log row) row) (sym same) i.facts;
    }

pub in_hand_goes_on : (Kept : ℕ → Type 0) (core after : Core) (log : Log) (revision until : ℕ) → GoesFor Kept core after → AreInHand revision until core log → AreInHand revision until after log
in_hand_goes_on Kept core after log revision until g a =
    record {
      within = (let longer = ap length g.grown.1 ∙ length-append core.history g.grown.0 in let within : revision ≤ length core.history = a.within in omega (arith, longer, within));
      configured = (a.configured.0, ap configuration same ∙ a.configured.1);
      each = subst (λ (seen : List Entry). AllByRecursion (IsInHand revision until after log) (published_seen seen)) (sym same)
          (All-each (IsInHand revision until core log) (IsInHand revision until after log) (published_at revision core) (row_goes_on Kept core after log revision until g same) a.each);
      few = subst (λ (seen : List Entry). length (rows (history seen)) ≤ 100000) (sym same) a.few;
      shown = subst (λ (seen : List Entry). IsPermutation (flat_map (documents_seen seen log) (published_seen seen)) (visible (config_seen seen) (ledger reads (history seen)) log)) (sym same) a.shown;
    }
  where
    same : take revision after.history ≡ take revision core.history
    same = same_front Kept core after revision g a.within

pub planned_goes_on : (Kept : ℕ → Type 0) (given : GivenPlan) (plan : Plan) (core after : Core) (log : Log) → GoesFor Kept core after → IsPlanned given plan core log → IsPlanned given plan after log
planned_goes_on Kept given plan core after log g p =
    record {
      asks = p.asks;
      asked = subst (λ (seen : List Entry). IsAsked (config_seen seen).schema given.ask.request) (sym same) p.asked;
      revision = p.revision;
      grace = p.grace ∙ ap (λ (seen : List Entry). grace_of (config_seen seen) given.plan) (sym same);
      rows = subst (λ (seen : List Entry). given.plan.rows ≡ map planned_row (rows_seen seen plan.search)) (sym same) p.rows;
      place = p.place;
      unfetched = p.unfetched;
      parts = subst (λ (seen : List Entry). AllZip (HasNeeded (config_seen seen).schema given.ask.request) given.parts (map (documents_seen seen log) (take given.next (rows_seen seen plan.search)))) (sym same) p.parts;
      in_hand = in_hand_goes_on Kept core after log plan.revision plan.grace.until g p.in_hand;
    }
  where
    same : take plan.revision after.history ≡ take plan.revision core.history
    same = same_front Kept core after plan.revision g p.in_hand.within

-- the footers that are kept stay those of the files of a revision
pub known_goes_on : (Kept : ℕ → Type 0) (footers : Footers) (core after : Core) (log : Log) (revision : ℕ) → GoesFor Kept core after → revision ≤ length core.history → AreKnown footers revision core log → AreKnown footers revision after log
known_goes_on Kept footers core after log revision g within known =
    subst (λ (seen : List Entry). AreKnownBy footers seen log) (sym (same_front Kept core after revision g within)) known

request_goes_on : (Kept : ℕ → Type 0) (footers : Footers) (request : GivenRequest) (asked : Request) (core after : Core) (log : Log) → GoesFor Kept core after → IsRequest footers request asked core log → IsRequest footers request asked after log
request_goes_on Kept footers given.Vacant asked core after log g r = r
request_goes_on Kept footers (given.Opened text) asked core after log g r = r
request_goes_on Kept footers (given.Planned search) asked core after log g r = (r.0, r.1, planned_goes_on Kept search r.0 core after log g r.2, known_goes_on Kept footers core after log r.0.revision g r.2.in_hand.within r.3)

-- footers that are kept stay those of their splits
pub footers_go_on : (Kept : ℕ → Type 0) (footers : Footers) (core after : Core) → GoesFor Kept core after → AreKept footers core → AreKept footers after
footers_go_on Kept footers core after g kept = λ number footer among.
    let k = kept number footer among in
    record { bytes = k.bytes; shown = shown_goes Kept core after number k.bytes g k.shown; footer_is = k.footer_is }

-- whatever number the world went on about, a searcher stands for its client as before
pub searcher_goes_on : (Kept : ℕ → Type 0) (searcher : Searcher) (client : Client) (core after : Core) (log : Log) → GoesFor Kept core after → SearcherStands searcher client core log → SearcherStands searcher client after log
searcher_goes_on Kept searcher client core after log g s =
    record { name = s.name; front = s.front; footers = footers_go_on Kept searcher.footers core after g s.footers; request = request_goes_on Kept searcher.footers searcher.request client.request core after log g s.request }

-- and so does one that is at work
pub work_goes_on : (searcher : Searcher) (client : Client) (core after : Core) → GoesFor Nobody core after → IsAtWork searcher client core → IsAtWork searcher client after
work_goes_on searcher client core after g w = record { vacant = w.vacant; name = w.name; front = w.front; footers = footers_go_on Nobody searcher.footers core after g w.footers }

-- ---- a sound core

seen_config : (core : Core) (log : Log) → IsSoundCore core log → configuration core.history ≡ Some (config_seen core.history)
seen_config core log s = let c = world_configured s.kept core log s.world s.opened in c.1 ∙ ap Some (sym (ap config_or c.1))

-- has the files of its published rows
pub sound_shown : (core : Core) (log : Log) → IsSoundCore core log → AreShown (config_seen core.history) core log
sound_shown core log s = world_shown s.kept core log (config_seen core.history) s.world (seen_config core log s)

-- the deletion grace behind this moment
abbrev pub grace_end : Core → ℕ
grace_end core = core.moment + (config_in core).deletion_grace

-- and up to then has them in hand
pub sound_in_hand : (core : Core) (log : Log) → IsSoundCore core log → AreInHand (length core.history) (grace_end core) core log
sound_in_hand core log s =
    record {
      within = omega arith;
      configured = (config_seen core.history, ap configuration all ∙ seen_config core log s);
      each = subst (λ (seen : List Entry). AllByRecursion (IsInHand (length core.history) (grace_end core) core log) (published_seen seen)) (sym all)
          (All-each (IsHeld (config_seen core.history) core log) (IsInHand (length core.history) (grace_end core) core log) (published_seen core.history) held law.each);
      few = subst (λ (seen : List Entry). length (rows (history seen)) ≤ 100000) (sym all) (world_few s.kept core log s.world);
      shown = subst (λ (seen : List Entry). IsPermutation (flat_map (documents_seen seen log) (published_seen seen)) (visible (config_seen seen) (ledger reads (history seen)) log)) (sym all) law.shown;
    }
  where
    all : take (length core.history) core.history ≡ core.history
    all = take_all (length core.history) core.history (omega arith)

    law : AreShown (config_seen core.history) core log
    law = sound_shown core log s

    held : (row : Row) → IsHeld (config_seen core.history) core log row → IsInHand (length core.history) (grace_end core) core log row
    held row i =
        record {
          found = subst (λ (seen : List Entry). row_at (rows (history seen)) row.number ≡ Some row) (sym all) i.found;
          shown = subst (λ (seen : List Entry). IsShownIn core row.number (file_of (config_seen seen) (documents_seen seen log row))) (sym all) i.shown;
          planned = subst (λ (seen : List Entry). IsPlannedIn core (grace_end core) row.number (file_of (config_seen seen) (documents_seen seen log row))) (sym all) i.planned;
          split = subst (λ (seen : List Entry). AreSplit (config_seen seen) (documents_seen seen log row)) (sym all) i.split;
          facts = subst (λ (seen : List Entry). HasFactsOf (config_seen seen).schema (documents_seen seen log row) row) (sym all) i.facts;
        }

-- and the footers that are kept of them are those of their files
pub sound_known : (footers : Footers) (core : Core) (log : Log) → IsSoundCore core log → AreKept footers core → AreKnown footers (length core.history) core log
sound_known footers core log s kept =
    subst (λ (seen : List Entry). AreKnownBy footers seen log) (sym (take_all (length core.history) core.history (omega arith)))
    (All-each (IsHeld (config_seen core.history) core log) (IsKnownBy footers core.history log) (published_seen core.history) (λ row i. kept_footer footers core row.number _ kept i.file) (sound_shown core log s).each)

same_config : (o : Option IndexConfig) (one other : IndexConfig) → o ≡ Some one → o ≡ Some other → one ≡ other
same_config o one other e f = cc

-- the configuration of its index is the one that its history names
pub configured_is : (core : Core) (log : Log) (config : IndexConfig) → IsSoundCore core log → IsConfigured config core → configuration core.history ≡ Some config
configured_is core log config s i =
    let c = world_configured s.kept core log s.world s.opened in
    let whole : IsConfigured c.0 core = configured-unread s.kept core log c.0 s.world c.1 in
    subst (λ (x : IndexConfig). configuration core.history ≡ Some x) (same_config (configuration (journal_of core)) c.0 config whole i) c.1

-- and it has one
pub configured_here : (core : Core) (log : Log) → IsSoundCore core log → (config : IndexConfig) × IsConfigured config core
configured_here core log s = let c = world_configured s.kept core log s.world s.opened in (c.0, configured-unread s.kept core log c.0 s.world c.1)

pub config_is : (core : Core) (log : Log) (config : IndexConfig) → IsSoundCore core log → IsConfigured config core → config_in core ≡ config
config_is core log config s i = ap config_or (configured_is core log config s i)

-- and what a plan saw had it too
pub config_then : (core : Core) (log : Log) (config : IndexConfig) (revision until : ℕ) → IsSoundCore core log → IsConfigured config core → AreInHand revision until core log → config_at revision core ≡ config
config_then core log config revision until s i a =
    let later = configured-take revision core.history (world_legal s.kept core log s.world) a.configured.0 a.configured.1 in
    ap config_or a.configured.1 ∙ same_config (configuration core.history) a.configured.0 config later (configured_is core log config s i)

pub configured_then : (core : Core) (log : Log) (revision until : ℕ) → IsSoundCore core log → AreInHand revision until core log → IsConfigured (config_at revision core) core
configured_then core log revision until s a =
    let here = configured_here core log s in
    subst (λ (x : IndexConfig). IsConfigured x core) (sym (config_then core log here.0 revision until s here.1 a)) here.1

-- ---- behind a call

pub configured_after : (core after : Core) (config : IndexConfig) → IsConfigured config core → GoesFor Nobody core after → IsConfigured config after
configured_after core after config i g = g.keeps.configured config i

pub config_after : (core after : Core) (log : Log) (config : IndexConfig) → IsSoundCore after log → IsConfigured config core → GoesFor Nobody core after → config_in after ≡ config
config_after core after log config s i g = config_is after log config s (configured_after core after config i g)

-- ---- before a call

-- what comes behind a history
pub history_more : (entries more : List Entry) → history (entries ++ more) ≡ fold ◌▸◌ (history entries) more
history_more entries more = fold-append ◌▸◌ Start entries more

pub legal_before : (entries all more : List Entry) → all ≡ entries ++ more → Legal reads (history all) → Legal reads (history entries)
legal_before entries all more grown legal = legal_front (history entries) more (subst (Legal reads) (ap history grown ∙ history_more entries more) legal)

pub configured_more : (entries all more : List Entry) (config : IndexConfig) → all ≡ entries ++ more → Legal reads (history all) → configuration entries ≡ Some config → configuration all ≡ Some config
configured_more entries all more config grown legal is =
    let front : take (length entries) all ≡ entries = ap (take (length entries)) grown ∙ (take-append-le (length entries) entries more (omega arith) ∙ take_all (length entries) entries (omega arith)) in
    configured-take (length entries) all legal config (ap configuration front ∙ is)

-- what others did before a call left the configuration
pub config_before : (core mid after : Core) (log : Log) (config : IndexConfig) → IsSoundCore core log → IsSoundCore after log → IsConfigured config core → (first : List Entry) → mid.history ≡ core.history ++ first
    → (more : List Entry) → after.history ≡ mid.history ++ more → config_in mid ≡ config
config_before core mid after log config s t i first grown more later =
    ap config_or (configured_more core.history mid.history first config grown (legal_before mid.history after.history more later (world_legal t.kept after log t.world)) (configured_is core log config s i))
