-- A search that is planned, and one more of its files.
use Rattle.std.proofs.Common.{◌≡◌, ◌⊎◌, inl, inr, ℕ, zero, suc, ◌+◌, ◌<◌, ◌≤◌, Bool, true, false, cond, List, [], ◌∷◌, ◌++◌, map, length, take, drop, refl, sym, ap, ap₂, ◌∙◌, subst, arith, Option, Some, None, Ok, Contains, nat_eq, slice_get, option_map, add-one, drop-cons}
use Rattle.std.specs.List.{AllByRecursion, AllZip}
use Rattle.std.specs.Map.{remove_entry}
use Rattle.std.proofs.lemmas.Bool.{and_parts}
use Rattle.std.proofs.lemmas.List.{take_all, take_more, length-map, map-append}
use Rattle.std.proofs.lemmas.Option.{slice_get-map, slice_get_within, get_or_from_slice_get}
use Rattle.doc_value.specs.declared.facts.TimeRange.{TimeRange}
use Rattle.doc_value.specs.declared.schema.Schema.{Schema}
use Rattle.query_ast.specs.Sought.{Sought, view}
use Rattle.meta_store.proofs.RowLists.{AllOf-both}
use Rattle.meta_store.specs.Contents.{published_rows}
use Rattle.meta_store.specs.History.{history, last_opstamp}
use Rattle.meta_store.specs.Planning.{is_searched, planned_as, planned_row, rows_for, searched}
use Rattle.meta_store.specs.Readings.{config_of}
use Rattle.meta_store.specs.Rows.{rows}
use Rattle.meta_store.specs.declared.config.Config.{Config}
use Rattle.meta_store.specs.declared.planning.Choice.{Choice}
use Rattle.meta_store.specs.declared.planning.Choice.TheVariants as choices
use Rattle.meta_store.specs.declared.planning.PlanRow.{PlanRow}
use Rattle.source_log.specs.Log.{Log}
use Rattle.split_states.specs.Rows.{is_published, row_at}
use Rattle.split_states.specs.declared.facts.RowFacts.{RowFacts}
use Rattle.split_states.specs.declared.rows.Row.{Row}
use Rattle.split_form.specs.Facts.{facts_of}
use Rattle.split_form.specs.Form as form
use Rattle.index_config.specs.declared.config.IndexConfig.{IndexConfig}
use Rattle.index_world.specs.Config.{reads}
use Rattle.index_world.specs.Configuration.{index_of}
use Rattle.index_world.specs.Calls.{Grace}
use Rattle.index_world.specs.Core.{Core, IsConfigured, IsPlannedIn, IsShownIn, Nobody}
use Rattle.index_world.specs.Gate.{IsSoundCore, IsPlan, grace_of}
use Rattle.index_world.specs.SplitFile.{AreSplit, file_of}
use Rattle.index_world.specs.World.{GoesFor}
use Rattle.index_world.proofs.Indexing.{All-get}
use Rattle.index_world.proofs.StoreChanges.{All-each}
use Rattle.split_bundle.specs.declared.footer.Footer.{Footer}
use Rattle.split_bundle.specs.declared.placed.Placed.{Placed}
use Rattle.search_api.specs.Resolved.{Search}
use Rattle.leaf_search.specs.Answers.{IsAsked}
use Rattle.meta_journal.specs.declared.entry.Entry.{Entry}
use Rattle.split_bundle.specs.Files.{Parts, file_bytes}
use Rattle.root_search.specs.Fetching.{IsFileAt}
use Rattle.root_search.specs.LeafAsks.{Asks}
use Rattle.root_search.specs.ReadSearches.{IsChoiceOf, IsRead}
use Rattle.root_search.specs.declared.leaf_asks.LeafAsk.{LeafAsk}
use Rattle.root_search.specs.declared.reads.ReadSearch.{ReadSearch}
use Rattle.root_search.specs.Footers.{KeepsMore, entries}
use Rattle.root_search.specs.FetchedSplits.{HasNeeded, IsFooterIn}
use Rattle.root_search.specs.declared.fetched_splits.FetchedSplit.{FetchedSplit}
use Rattle.root_search.specs.declared.footers.Footers.{Footers}
use Rattle.root_search.specs.declared.outcome.SearchStep.TheVariants as steps
use Rattle.root_search.specs.declared.planned.Planned.{Planned as GivenPlan}
use Rattle.root_search.specs.declared.searcher.Request.TheVariants as given
use Rattle.root_search.specs.declared.searcher.Searcher.{Searcher}
use Rattle.root_search.specs.Searching.{AreKnown, IsInHand, IsKnownOf, history_at, published_at, rows_at, documents_at, IsPlanned, IsAtWork, Ends}
use Rattle.root_search.specs.Steps.{Plan, Client, config_at, config_in, grace_at, planned_numbers, with_plan}
use Rattle.root_search.proofs.Kept.{was_kept}
use Rattle.root_search.proofs.Zipped.{zip_last}
use Rattle.root_search.proofs.Stands.{rows_seen, config_seen, planned_goes_on, sound_in_hand, sound_known, config_is, configured_is}

-- ---- the rows of a plan

chosen_by : (c : Option Config) (config : IndexConfig) (q : Sought) (t : TimeRange) (choice : Choice) (now last : ℕ) (rs : List Row) → index_of c ≡ Some config → IsChoiceOf q t choice →
    map (planned_as choice) (rows_for c choice now last rs) ≡ map planned_row (searched config.schema q t rs)
chosen_by None config q t choice now last rs e is = absurd (cc)
chosen_by (Some c) config q t choices.Merge now last rs e is = absurd is
chosen_by (Some c) config q t choices.Deletes now last rs e is = absurd is
chosen_by (Some c) config q t choices.Every now last rs e is = absurd is
chosen_by (Some c) config q t choices.Look now last rs e is = absurd is
chosen_by (Some c) config q t (choices.Search query times) now last rs e is =
    let same : c.settings.index ≡ config = cc in
    ap (map planned_row) (ap (λ (x : IndexConfig). searched x.schema (view query) times rs) same ∙ ap₂ (λ (x : Sought) (y : TimeRange). searched config.schema x y rs) is.0 is.1)

numbers_are : (list : List Row) → map (λ (row : PlanRow). row.number) (map planned_row list) ≡ map (λ (row : Row). row.number) list
numbers_are [] = refl
numbers_are (row ∷ list) = ap (λ l. row.number ∷ l) (numbers_are list)

pub plan_ends : (searcher : Searcher) (client : Client) (search : Search) (read : ReadSearch) (held : GivenPlan) (count : ℕ) (config : IndexConfig) (after : Core) (log : Log) → IsSoundCore after log → IsConfigured config after →
    IsPlan read.choice held.plan after → IsRead config.schema search read → held.ask ≡ read.ask → held.next ≡ 0 → held.parts ≡ [] → count ≡ length held.plan.rows → IsAtWork searcher client after →
    Ends (Ok (steps.Planned held.plan.revision count)) (record { client = searcher.client; front = searcher.front; footers = searcher.footers; request = given.Planned held }) (with_plan search client after) log
plan_ends searcher client search read held count config after log s configured p r same first none counted w =
    record {
      says = ap₂ (λ (n m : ℕ). Some (steps.Planned n m)) (sym p.revision) (sym (counted ∙ many));
      stands = record {
        name = w.name;
        front = w.front;
        footers = w.footers;
        request = (
          record { search = search; revision = length after.history; grace = grace_at (config_in after) after.moment; unfetched = planned_numbers (config_in after) search (history after.history) },
          refl,
          record {
            asks = subst (λ (ask : LeafAsk). Asks search ask) (sym same) r.asks;
            asked = subst (λ (ask : LeafAsk). IsAsked (config_at (length after.history) after).schema ask.request) (sym same)
                (subst (λ (c : IndexConfig). IsAsked c.schema read.ask.request) (sym (ap config_seen all ∙ is)) r.asked);
            revision = p.revision;
            grace = ap₂ grace_at (sym (ap config_seen all)) (sym p.moment);
            rows = chosen ∙ ap (map planned_row) (sym (ap (λ (seen : List Entry). rows_seen seen search) all));
            place = omega (arith, first);
            unfetched = sym (ap (λ (n : ℕ). map (λ (row : PlanRow). row.number) (drop n held.plan.rows)) first ∙ (ap (map (λ (row : PlanRow). row.number)) chosen ∙ numbers_are list));
            parts = subst (λ (n : ℕ). AllZip (HasNeeded (config_at (length after.history) after).schema held.ask.request) held.parts (map (documents_at (length after.history) after log) (take n (rows_at (length after.history) search after)))) (sym first)
                (subst (λ (parts : List FetchedSplit). AllZip (HasNeeded (config_at (length after.history) after).schema held.ask.request) parts []) (sym none) tt);
            in_hand = sound_in_hand after log s;
          },
          sound_known searcher.footers after log s w.footers,
        );
      };
    }
  where
    all : take (length after.history) after.history ≡ after.history
    all = take_all (length after.history) after.history (omega arith)

    is : config_seen after.history ≡ config
    is = config_is after log config s configured

    list : List Row
    list = rows_seen after.history search

    chosen : held.plan.rows ≡ map planned_row list
    chosen = p.rows ∙ chosen_by (config_of reads (history after.history)) config search.query search.times read.choice after.moment (last_opstamp (history after.history)) (rows (history after.history)) (configured_is after log config s configured) r.choice
        ∙ ap (λ (c : IndexConfig). map planned_row (searched c.schema search.query search.times (rows (history after.history)))) (sym is)

    many : length held.plan.rows ≡ length (planned_numbers (config_in after) search (history after.history))
    many = ap length chosen ∙ (length-map list planned_row ∙ sym (length-map list (λ (row : Row). row.number)))

-- ---- the next row

pub record IsNext (held : GivenPlan) (plan : Plan) (core : Core) (log : Log) (number size : ℕ) : Type 0 where
  pub row : Row
  pub stands : slice_get (rows_at plan.revision plan.search core) held.next ≡ Some row
  pub same : row.number ≡ number
  pub shown : IsShownIn core number (file_of (config_at plan.revision core) (documents_at plan.revision core log row))
  pub planned : IsPlannedIn core (grace_of (config_at plan.revision core) held.plan).until number (file_of (config_at plan.revision core) (documents_at plan.revision core log row))
  pub long : size ≡ length (file_of (config_at plan.revision core) (documents_at plan.revision core log row))
  pub split : AreSplit (config_at plan.revision core) (documents_at plan.revision core log row)
  pub left : plan.unfetched ≡ number ∷ map (λ (r : PlanRow). r.number) (drop (held.next + 1) held.plan.rows)

mapped : {A B : Type 0} (f : A → B) (o : Option A) (b : B) → option_map f o ≡ Some b → (a : A) × (o ≡ Some a) × (f a ≡ b)
mapped f None b e = cc
mapped f (Some a) b e = (a, refl, cc)

size_is : (s : Schema) (documents : List Placed) (rejected : ℕ) → (facts_of s documents rejected).size ≡ length (form.file_of s documents)
unfolding facts_of
size_is s documents rejected = refl

-- what holds of the published rows holds of those that are searched
pub searched_each : (P : Row → Type 0) (s : Schema) (q : Sought) (t : TimeRange) (rs : List Row) → AllByRecursion P (published_rows rs) → AllByRecursion P (searched s q t rs)
searched_each P s q t [] all = tt
searched_each P s q t (row ∷ rs) all = by (is_published row.state) (is_searched s q t row) refl refl all (searched_each P s q t rs)
  where
    by : (p b : Bool) → is_published row.state ≡ p → is_searched s q t row ≡ b → AllByRecursion P (cond p (row ∷ published_rows rs) (published_rows rs)) → (AllByRecursion P (published_rows rs) → AllByRecursion P (searched s q t rs)) → AllByRecursion P (cond b (row ∷ searched s q t rs) (searched s q t rs))
    by true true e f a more = (a.0, more a.1)
    by true false e f a more = more a.1
    by false true e f a more = let wrong : true ≡ false = sym (and_parts (is_published row.state) _ f).0 ∙ e in absurd (cc)
    by false false e f a more = more a

-- and so of one of these
planned_each : (P : Row → Type 0) (plan : Plan) (core : Core) (place : ℕ) (row : Row) → AllByRecursion P (published_at plan.revision core) → slice_get (rows_at plan.revision plan.search core) place ≡ Some row → P row
planned_each P plan core place row all there =
    All-get P (rows_at plan.revision plan.search core) place row (searched_each P (config_at plan.revision core).schema plan.search.query plan.search.times (rows (history_at plan.revision core)) all) there

pub next_row : (held : GivenPlan) (plan : Plan) (core : Core) (log : Log) (row : PlanRow) → IsPlanned held plan core log → slice_get held.plan.rows held.next ≡ Some row → IsNext held plan core log row.number row.size
next_row held plan core log row p found =
    record {
      row = m.0;
      stands = m.1;
      same = number;
      shown = subst (λ n. IsShownIn core n (file_of (config_at plan.revision core) (documents_at plan.revision core log m.0))) number i.shown;
      planned = subst (λ n. IsPlannedIn core (grace_of (config_at plan.revision core) held.plan).until n (file_of (config_at plan.revision core) (documents_at plan.revision core log m.0))) number
          (subst (λ (g : Grace). IsPlannedIn core g.until m.0.number (file_of (config_at plan.revision core) (documents_at plan.revision core log m.0))) p.grace i.planned);
      long = ap (λ (r : PlanRow). r.size) (sym m.2) ∙ (ap (λ (f : RowFacts). f.size) i.facts.1 ∙ size_is (config_at plan.revision core).schema (documents_at plan.revision core log m.0) i.facts.0);
      split = i.split;
      left = p.unfetched ∙ ap (map (λ (r : PlanRow). r.number)) split;
    }
  where
    list : List Row
    list = rows_at plan.revision plan.search core

    m : (r : Row) × (slice_get (rows_at plan.revision plan.search core) held.next ≡ Some r) × (planned_row r ≡ row)
    m = mapped planned_row (slice_get list held.next) row (sym (slice_get-map planned_row list held.next) ∙ (ap (λ l. slice_get l held.next) (sym p.rows) ∙ found))

    i : IsInHand plan.revision plan.grace.until core log m.0
    i = planned_each (IsInHand plan.revision plan.grace.until core log) plan core held.next m.0 p.in_hand.each m.1

    number : m.0.number ≡ row.number
    number = ap (λ (r : PlanRow). r.number) m.2

    within : held.next < length held.plan.rows
    within = slice_get_within held.plan.rows held.next row found

    split : drop held.next held.plan.rows ≡ row ∷ drop (held.next + 1) held.plan.rows
    split = let lt = within in rw (add-one, drop-cons held.plan.rows held.next row, get_or_from_slice_get held.plan.rows held.next row row found)

-- its file was shown, and stands within the plan's grace
abbrev pub file_of_next : (held : GivenPlan) (plan : Plan) (core : Core) (log : Log) (row : PlanRow) (p : Parts) → (next : IsNext held plan core log row.number row.size) → slice_get held.plan.rows held.next ≡ Some row
    → file_of (config_at plan.revision core) (documents_at plan.revision core log next.row) ≡ file_bytes p → IsShownIn core row.number (file_bytes p) × IsFileAt core (grace_of (config_at plan.revision core) held.plan).until held.plan held.next (file_bytes p)
file_of_next held plan core log row p next found same = (
  subst (IsShownIn core row.number) same next.shown,
  record {
    row = row;
    stands = found;
    planned = subst (IsPlannedIn core (grace_of (config_at plan.revision core) held.plan).until row.number) same next.planned;
    size = next.long ∙ ap (λ (l : List ℕ). length l) same;
  },
)

-- ---- the footers that are kept

-- a footer that is kept under the number of the next row is that of its file
pub next_footer : (footers : Footers) (held : GivenPlan) (plan : Plan) (core : Core) (log : Log) (number size : ℕ) (bytes : List ℕ) → AreKnown footers plan.revision core log → (next : IsNext held plan core log number size)
    → file_of (config_at plan.revision core) (documents_at plan.revision core log next.row) ≡ bytes → (footer : Footer) → Contains (entries footers) (number, footer) → IsFooterIn bytes footer
next_footer footers held plan core log number size bytes known next same footer among =
    subst (λ (file : List ℕ). IsFooterIn file footer) same
    (planned_each (IsKnownOf footers plan.revision core log) plan core held.next next.row known next.stands footer (subst (λ (n : ℕ). Contains (entries footers) (n, footer)) (sym next.same) among))

-- so it is where one is taken out
pub fewer_known : (old new : Footers) (revision : ℕ) (core : Core) (log : Log) (number : ℕ) → entries new ≡ remove_entry (nat_eq number) (entries old) → AreKnown old revision core log → AreKnown new revision core log
fewer_known old new revision core log number left known =
    All-each (IsKnownOf old revision core log) (IsKnownOf new revision core log) (published_at revision core) (λ row k footer among. k footer (was_kept old new number row.number footer left among)) known

same_found : (o : Option Row) (one other : Row) → o ≡ Some one → o ≡ Some other → one ≡ other
same_found o one other e f = cc

module _ (old new : Footers) (held : GivenPlan) (plan : Plan) (core : Core) (log : Log) (number size : ℕ) (footer : Footer) (p : IsPlanned held plan core log) (next : IsNext held plan core log number size) where
  abbrev list : List Row
  list = rows (history_at plan.revision core)

  abbrev OfOne : Row → Type 0
  OfOne row = IsInHand plan.revision plan.grace.until core log row

  abbrev file : Row → List ℕ
  file row = file_of (config_at plan.revision core) (documents_at plan.revision core log row)

  either_known : IsFooterIn (file next.row) footer → (row : Row) → OfOne row → IsKnownOf old plan.revision core log row → (f : Footer) → Contains (entries old) (row.number, f) ⊎ ((row.number ≡ number) × (f ≡ footer)) → IsFooterIn (file row) f
  either_known is row i k f (inl before) = k f before
  either_known is row i k f (inr this) =
      let here : OfOne next.row = planned_each OfOne plan core held.next next.row p.in_hand.each next.stands in
      let same : next.row ≡ row = same_found (row_at list number) next.row row (ap (row_at list) (sym next.same) ∙ here.found) (ap (row_at list) (sym this.0) ∙ i.found) in
      subst (λ (x : Footer). IsFooterIn (file row) x) (sym this.1) (subst (λ (x : Row). IsFooterIn (file x) footer) same is)

  -- and where that of the next row's file is kept
  pub more_known : KeepsMore (entries old) (entries new) number footer → IsFooterIn (file next.row) footer → AreKnown old plan.revision core log → AreKnown new plan.revision core log
  more_known more is known =
      All-each (λ row. OfOne row × IsKnownOf old plan.revision core log row) (IsKnownOf new plan.revision core log) (published_at plan.revision core) (λ row b f among. either_known is row b.0 b.1 f (more row.number f among))
      (AllOf-both OfOne (IsKnownOf old plan.revision core log) (published_at plan.revision core) p.in_hand.each known)

-- ---- how many rows there are

pub searched_few : (s : Schema) (q : Sought) (t : TimeRange) (rs : List Row) → length (searched s q t rs) ≤ length rs
searched_few s q t [] = omega arith
searched_few s q t (row ∷ rs) = by (is_searched s q t row) (searched_few s q t rs)
  where
    by : (b : Bool) → length (searched s q t rs) ≤ length rs → length (cond b (row ∷ searched s q t rs) (searched s q t rs)) ≤ length (row ∷ rs)
    by true le = omega (arith, le)
    by false le = omega (arith, le)

pub planned_few : (held : GivenPlan) (plan : Plan) (core : Core) (log : Log) → IsPlanned held plan core log → length held.plan.rows ≤ 100000
planned_few held plan core log p =
    let list = rows_at plan.revision plan.search core in
    let most = p.in_hand.few in
    let fewer = searched_few (config_at plan.revision core).schema plan.search.query plan.search.times (rows (history_at plan.revision core)) in
    omega (arith, most, fewer, ap length p.rows, length-map list planned_row)

-- ---- one more split

pub one_more : (held more : GivenPlan) (plan : Plan) (core after : Core) (log : Log) (number size : ℕ) (part : FetchedSplit) → IsPlanned held plan core log → (next : IsNext held plan core log number size) →
    GoesFor Nobody core after → more.ask ≡ held.ask → more.plan ≡ held.plan → more.next ≡ held.next + 1 → more.parts ≡ held.parts ++ part ∷ [] →
    HasNeeded (config_at plan.revision core).schema held.ask.request part (documents_at plan.revision core log next.row) →
    IsPlanned more (record plan { unfetched = map (λ (r : PlanRow). r.number) (drop (held.next + 1) held.plan.rows) }) after log
one_more held more plan core after log number size part p next on ask same further behind needed =
    planned_goes_on Nobody more later core after log on
    (record {
      asks = subst (λ (a : LeafAsk). Asks plan.search a) (sym ask) p.asks;
      asked = subst (λ (a : LeafAsk). IsAsked (config_at plan.revision core).schema a.request) (sym ask) p.asked;
      revision = ap (λ (q : _). q.revision) same ∙ p.revision;
      grace = p.grace ∙ ap (grace_of (config_at plan.revision core)) (sym same);
      rows = rows_same ∙ p.rows;
      place = omega (arith, further, within, ap length rows_same);
      unfetched = ap₂ (λ n l. map (λ (r : PlanRow). r.number) (drop n l)) (sym further) (sym rows_same);
      parts = subst (λ (a : LeafAsk). AllZip (HasNeeded s a.request) more.parts (map docs (take more.next list))) (sym ask)
          (subst (λ (parts : List FetchedSplit). AllZip (HasNeeded s held.ask.request) parts (map docs (take more.next list))) (sym behind)
          (subst (λ (lists : List (List Placed)). AllZip (HasNeeded s held.ask.request) (held.parts ++ part ∷ []) lists) (sym (map-append docs (take held.next list) (next.row ∷ [])) ∙ ap (map docs) (sym taken))
          (zip_last (HasNeeded s held.ask.request) held.parts (map docs (take held.next list)) part (docs next.row) p.parts needed)));
      in_hand = p.in_hand;
    })
  where
    later : Plan
    later = record plan { unfetched = map (λ (r : PlanRow). r.number) (drop (held.next + 1) held.plan.rows) }

    s : Schema
    s = (config_at plan.revision core).schema

    docs : Row → List Placed
    docs = documents_at plan.revision core log

    list : List Row
    list = rows_at plan.revision plan.search core

    rows_same : more.plan.rows ≡ held.plan.rows
    rows_same = ap (λ (q : _). q.rows) same

    there : held.next < length list
    there = slice_get_within list held.next next.row next.stands

    within : held.next < length held.plan.rows
    within = omega (arith, there, ap length p.rows, length-map list planned_row)

    taken : take more.next list ≡ take held.next list ++ next.row ∷ []
    taken = ap (λ n. take n list) further ∙ (take_more list held.next next.row there ∙ ap (λ r. take held.next list ++ r ∷ []) (get_or_from_slice_get list held.next next.row next.row next.stands))

-- ---- the last row is fetched

drop_past : {A : Type 0} (xs : List A) (n : ℕ) → length xs ≤ n → drop n xs ≡ []
drop_past [] zero le = refl
drop_past [] (suc n) le = refl
drop_past (x ∷ xs) zero le = absurd (omega arith)
drop_past (x ∷ xs) (suc n) le = drop_past xs n (omega (arith, le))

pub all_fetched : (held : GivenPlan) (plan : Plan) (core : Core) (log : Log) → IsPlanned held plan core log → length held.plan.rows ≤ held.next → plan.unfetched ≡ []
all_fetched held plan core log p over = p.unfetched ∙ ap (map (λ (r : PlanRow). r.number)) (drop_past held.plan.rows held.next over)

-- and what is needed of each is there
pub all_parts : (held : GivenPlan) (plan : Plan) (core : Core) (log : Log) → IsPlanned held plan core log → length held.plan.rows ≤ held.next →
    AllZip (HasNeeded (config_at plan.revision core).schema held.ask.request) held.parts (map (documents_at plan.revision core log) (rows_at plan.revision plan.search core))
all_parts held plan core log p over =
    subst (λ (list : List Row). AllZip (HasNeeded (config_at plan.revision core).schema held.ask.request) held.parts (map (documents_at plan.revision core log) list))
    (take_all held.next (rows_at plan.revision plan.search core) (omega (arith, over, ap length p.rows, length-map (rows_at plan.revision plan.search core) planned_row))) p.parts
