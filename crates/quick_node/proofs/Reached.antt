-- What a line leaves: the rows that were published at each revision that it reached have their files behind it.
use Rattle.std.proofs.Common.{◌≡◌, ◌⊎◌, ℕ, ◌+◌, ◌<◌, ◌≤◌, ◌==◌, Bool, true, false, cond, List, [], ◌∷◌, ◌++◌, length, map, take, refl, sym, ap, ◌∙◌, subst, inl, inr, append_assoc, arith}
use Rattle.std.proofs.lemmas.List.{append-nil, length-append, take_all, take_at, take-append-le}
use Rattle.std.specs.FinMap.{get}
use Rattle.std.specs.List.{AllByRecursion}
use Rattle.std.specs.Prelude.{Option, Some, None}
use Rattle.delete_tasks.specs.Ledger.{MayAdd, last_of}
use Rattle.delete_tasks.specs.Removes.{DeleteTask}
use Rattle.doc_value.specs.declared.facts.TimeRange.{TimeRange}
use Rattle.index_config.specs.declared.config.IndexConfig.{IndexConfig}
use Rattle.meta_journal.specs.Places.{meta_key, split_key}
use Rattle.meta_journal.specs.declared.entry.Act.{Act}
use Rattle.meta_journal.specs.declared.entry.Act.TheVariants.{Fence, Create, Stage, Publish, Replace, Raise, Task, MarkStaged, Remove, Retire}
use Rattle.meta_journal.specs.declared.entry.Entry.{Entry}
use Rattle.meta_store.proofs.Current.{contents_kept, opstamps_agree, tasks_agree}
use Rattle.meta_store.proofs.GivenUp.{GivenUp-more}
use Rattle.meta_store.proofs.Numbers.{each_found, history-snoc, row_below, staged_le, task_next}
use Rattle.meta_store.proofs.RowLists.{AllOf-front, AllOf-both, AllOf-weaker}
use Rattle.meta_store.proofs.Sound.{sound}
use Rattle.meta_store.proofs.Within.{placed}
use Rattle.meta_store.specs.History.{History, history, last_opstamp}
use Rattle.meta_store.specs.History.History.{◌▸◌}
use Rattle.meta_store.specs.Ledgers.{ledger}
use Rattle.meta_store.specs.Readings.{config_of, query_said}
use Rattle.meta_store.specs.Numbers.{Comes, IsGivenUp, IsPlaced}
use Rattle.meta_store.specs.Rows.{rows}
use Rattle.meta_store.specs.State.{Legal}
use Rattle.meta_store.specs.Tasks.{task_of}
use Rattle.object_store.specs.Store.{State, HasLanded}
use Rattle.source_log.specs.Log.{Log, IsLog}
use Rattle.split_states.specs.Rows.{published, change, row_at}
use Rattle.split_states.specs.declared.rows.Row.{Row}
use Rattle.split_states.specs.declared.rows.RowState.TheVariants.{Published}
use Rattle.index_world.specs.Config.{reads}
use Rattle.index_world.specs.Configuration.{configuration, config_or, index_of}
use Rattle.index_world.specs.Core.{Core, Late, late_dead, late_entry, late_file, with_unread, journal_of, file_at}
use Rattle.index_world.specs.Held.{KeepsHeld, Enters, AfterLanding}
use Rattle.index_world.specs.Index.{AreRowsKept, HasFile, IsBelowEnd, IsIndexOf, IsLateEntry, IsRowKept, IsRowSound, IsTaken, MayLand, max_entries}
use Rattle.index_world.specs.Seen.{accepted_records, contents, meaning}
use Rattle.index_world.specs.Standing.{IsCalled, late_object}
use Rattle.index_world.specs.World.{IsWorld}
use Rattle.index_world.proofs.Asking.{Begun, begun_history}
use Rattle.index_world.proofs.Configured.{configured-more, rows_under}
use Rattle.index_world.proofs.Indexing.{index-HasLanded}
use Rattle.index_world.proofs.Journals.{once, one-journal}
use Rattle.index_world.proofs.Numbers.{revision_is}
use Rattle.index_world.proofs.StoreChanges.{All-each, last_within}
use Rattle.index_world.proofs.StoreKeys.{meta_begins, meta_key-injective, split_key-injective, split_outside}
use Rattle.index_world.proofs.Rows.{rows_act, sound_with}
use Rattle.index_world.proofs.Taken.{legal_unread, stands_shown}
use Rattle.node_run.specs.declared.drive.DriveNode.{DriveNode}
use Rattle.node_run.specs.Node.{Node, Line, Outcome}
use Rattle.node_run.specs.Standing.{NodeStands}
use Rattle.node_run.specs.Turns.{Turn}
use Rattle.call_laws.proofs.CallTells.{IsLow}
use Rattle.split_bundle.specs.declared.placed.Placed.{Placed}
use Rattle.quick_node.specs.Collects.{LineCollects}
use Rattle.quick_node.specs.Once.{published as shown_rows, held_at, IsGivenUpKey, IsStanding, AreStanding, Reaches}
use Rattle.quick_node.proofs.Files.{Among, Came, CameFew, Few, Freed, IsOwn, Leaves, Stay, leaves_of, takes_none}
use Rattle.quick_node.proofs.Leaving.{LineLeaves, turn_leaves}
use Rattle.quick_node.proofs.Onces.{covers_at, each_weaker, published_have}
use Rattle.quick_node.proofs.EntryRows.{marks_leave, removes_leave}
use Rattle.quick_node.proofs.SameLog.{turn_log}

-- ---- the rows before an entry of one's own

-- the published rows are sound
abbrev AreSound : State → IndexConfig → Log → History → Type 0
AreSound kept config log h = AllByRecursion (λ row. row.state ≡ Published → IsRowSound kept config (ledger reads h).tasks log row) (rows h)

-- what holds of each row behind a change held before it
before_change : (P : Row → Type 0) (n : ℕ) (f : Row → Row) (list : List Row) → ((row : Row) → P (f row) → P row) → AllByRecursion P (change n f list) → AllByRecursion P list
before_change P n f [] back all = tt
before_change P n f (row ∷ list) back all = by (row.number == n) (λ more. before_change P n f list back more) all
  where
    by : (b : Bool) → (AllByRecursion P (change n f list) → AllByRecursion P list) → AllByRecursion P (cond b (f row ∷ list) (row ∷ change n f list)) → AllByRecursion P (row ∷ list)
    by true on a = (back row a.0, a.1)
    by false on a = (a.0, on a.1)

-- a task that is added changes what no row holds
task_before : (kept : State) (config : IndexConfig) (log : Log) (h : History) (moment opstamp : ℕ) (text : List ℕ) (fields : List (List ℕ)) (times : TimeRange) → Legal reads h → Comes reads h moment (Task opstamp text fields times) →
    AreSound kept config log (h ▸ record { moment = moment; act = Task opstamp text fields times }) → AreSound kept config log h
task_before kept config log h moment opstamp text fields times legal may all =
    AllOf-weaker (λ (row : Row). (contents config (tasks ++ task ∷ []) row log ≡ contents config tasks row log) × (row.state ≡ Published → IsRowSound kept config (tasks ++ task ∷ []) log row))
    (λ (row : Row). row.state ≡ Published → IsRowSound kept config tasks log row) (rows h)
    (λ row b e. sound_with kept config log (tasks ++ task ∷ []) tasks row row refl refl refl (sym b.0) (b.1 e))
    (AllOf-both (λ (row : Row). contents config (tasks ++ task ∷ []) row log ≡ contents config tasks row log) (λ (row : Row). row.state ≡ Published → IsRowSound kept config (tasks ++ task ∷ []) log row) (rows h)
    (contents_kept (meaning config) reads h task legal follows (accepted_records config log)) all)
  where
    task : DeleteTask
    task = task_of opstamp (query_said reads (config_of reads h) (Task opstamp text fields times)) times

    tasks : List DeleteTask
    tasks = (ledger reads h).tasks

    last : last_of tasks ≡ last_opstamp h
    last = ap last_of (tasks_agree reads h) ∙ opstamps_agree reads h

    follows : MayAdd task tasks
    follows = task_next reads h moment opstamp text fields times may ∙ ap (λ k. k + 1) (sym last)

own_before : (kept : State) (config : IndexConfig) (log : Log) (h : History) (moment : ℕ) (act : Act) → IsOwn act → Legal reads h → Comes reads h moment act → AreSound kept config log (h ▸ record { moment = moment; act = act }) →
    AreSound kept config log h
own_before kept config log h moment Fence own legal may all = absurd own
own_before kept config log h moment (Create text) own legal may all = all
own_before kept config log h moment (Stage number delta facts) own legal may all = AllOf-front (λ row. row.state ≡ Published → IsRowSound kept config (ledger reads h).tasks log row) (rows h) _ all
own_before kept config log h moment (Publish n) own legal may all =
    before_change (λ row. row.state ≡ Published → IsRowSound kept config (ledger reads h).tasks log row) n published (rows h)
    (λ row k e. let s = k refl in record { file = s.file; facts = s.facts; split = s.split }) all
own_before kept config log h moment (Replace new old upto) own legal may all = absurd own
own_before kept config log h moment (Raise number upto) own legal may all = absurd own
own_before kept config log h moment (Task opstamp text fields times) own legal may all = task_before kept config log h moment opstamp text fields times legal may all
own_before kept config log h moment (MarkStaged numbers) own legal may all = marks_leave (λ row. IsRowSound kept config (ledger reads h).tasks log row) h moment legal numbers may all
own_before kept config log h moment (Remove numbers) own legal may all = removes_leave (λ row. IsRowSound kept config (ledger reads h).tasks log row) h moment legal numbers may all
own_before kept config log h moment (Retire numbers) own legal may all = absurd own

-- ---- lists

all_among : {X : Type 0} (P : X → Type 0) (xs : List X) (x : X) → AllByRecursion P xs → Among x xs → P x
all_among P [] x all a = absurd a
all_among P (y ∷ xs) x all (inl e) = subst P e all.0
all_among P (y ∷ xs) x all (inr a) = all_among P xs x all.1 a

among_map : {X Y : Type 0} (f : X → Y) (xs : List X) (x : X) → Among x xs → Among (f x) (map f xs)
among_map f [] x a = a
among_map f (y ∷ xs) x (inl e) = inl (ap f e)
among_map f (y ∷ xs) x (inr a) = inr (among_map f xs x a)

-- ---- lengths

lower : (a b : ℕ) → (a ≤ b) ⊎ (b < a)
lower a b = grind arith

unread_longer : (es : List Entry) (unread : Option Entry) → length es ≤ length (with_unread es unread)
unread_longer es None = omega arith
unread_longer es (Some entry) = let l = length-append es (entry ∷ []) in omega (arith, l)

unread_short : (es : List Entry) (unread : Option Entry) → length (with_unread es unread) ≤ length es + 1
unread_short es None = omega arith
unread_short es (Some entry) = let l = length-append es (entry ∷ []) in omega (arith, l)

take_unread : (r : ℕ) (es : List Entry) (unread : Option Entry) → r ≤ length es → take r (with_unread es unread) ≡ take r es
take_unread r es None le = refl
take_unread r es (Some entry) le = take-append-le r es (entry ∷ []) le

-- ---- the files of published rows

-- the rows that these entries leave published have their files, where this stands under their keys
abbrev Stand : (List ℕ → Option (List ℕ)) → Log → List Entry → Type 0
Stand stands log es =
    AllByRecursion (λ row. IsStanding stands (config_or (configuration es)) (contents (config_or (configuration es)) (ledger reads (history es)).tasks row log) row) (shown_rows es)

-- what stands in a store stands there
abbrev Stood : State → (List ℕ → Option (List ℕ)) → Type 0
Stood kept stands = (number : ℕ) (bytes : List ℕ) → get kept.objects (split_key number) ≡ Some bytes → stands (split_key number) ≡ Some bytes

sound_stand : (kept : State) (stands : List ℕ → Option (List ℕ)) (log : Log) (es : List Entry) → Stood kept stands → AreSound kept (config_or (configuration es)) log (history es) → Stand stands log es
sound_stand kept stands log es among all =
    let config = config_or (configuration es) in
    let tasks = (ledger reads (history es)).tasks in
    published_have (λ row. IsStanding stands config (contents config tasks row log) row) (rows (history es))
    (each_weaker (λ row. row.state ≡ Published → IsRowSound kept config tasks log row) (λ row. row.state ≡ Published → IsStanding stands config (contents config tasks row log) row) (rows (history es))
    (λ row k e. let s = k e in record { file = among row.number _ s.file; split = s.split }) all)

taken_sound : (kept : State) (log : Log) (es : List Entry) → Legal reads (history es) → IsTaken kept es log → AreSound kept (config_or (configuration es)) log (history es)
taken_sound kept log es legal taken =
    let config = config_or (configuration es) in
    let tasks = (ledger reads (history es)).tasks in
    each_weaker (IsRowKept kept config tasks log (history es)) (λ row. row.state ≡ Published → IsRowSound kept config tasks log row) (rows (history es)) (λ row k. k.published) (rows_under kept es tasks log legal taken)

-- before an entry of one's own
sound_before : (kept : State) (log : Log) (es : List Entry) (entry : Entry) → Legal reads (history (es ++ entry ∷ [])) → IsOwn entry.act → 0 < length es → IsTaken kept (es ++ entry ∷ []) log → AreSound kept (config_or (configuration es)) log (history es)
sound_before kept log es entry legal own some taken =
    subst (λ (c : IndexConfig). AreSound kept c log (history es)) (sym (ap config_or is))
    (own_before kept config log (history es) entry.moment entry.act own both.0 both.1.1
    (subst (λ (h : History). AreSound kept config log h) (history-snoc es entry)
    (each_weaker (IsRowKept kept config tasks log (history (es ++ entry ∷ []))) (λ row. row.state ≡ Published → IsRowSound kept config tasks log row) (rows (history (es ++ entry ∷ []))) (λ row k. k.published)
    (taken config (configured-more es entry both.0 both.1 config is)))))
  where
    both : Legal reads (history es ▸ entry)
    both = subst (Legal reads) (history-snoc es entry) legal

    b : Begun (history es)
    b = begun_history (history es) both.0 (let r = revision_is es in omega (arith, r, some))

    config : IndexConfig
    config = b.config.settings.index

    is : configuration es ≡ Some config
    is = ap index_of b.is

    tasks : List DeleteTask
    tasks = (ledger reads (history (es ++ entry ∷ []))).tasks

-- a number that was given up is so with what stands unread behind
given_up_unread : (es : List Entry) (unread : Option Entry) (number : ℕ) → Legal reads (history (with_unread es unread)) → IsGivenUp es number → IsGivenUp (with_unread es unread) number
given_up_unread es None number legal g = g
given_up_unread es (Some entry) number legal g =
    let both : Legal reads (history es ▸ entry) = subst (Legal reads) (history-snoc es entry) legal in GivenUp-more reads es entry number both.0 both.1 g

-- late entries lie at most at the end of the history
called_low : (entries : List Entry) (lates : List Late) → AllByRecursion (IsCalled entries) lates → AllByRecursion (IsLow (length entries)) lates
called_low entries lates called = All-each (IsCalled entries) (IsLow (length entries)) lates low called
  where
    low : (late : Late) → IsCalled entries late → IsLow (length entries) late
    low (late_entry number entry bytes) c = c.0
    low (late_dead key bytes) c = tt
    low (late_file key bytes) c = tt

-- ---- a line

module _ (old new : State) (core after : Core) (log : Log) (was : IsWorld old core log) (world : IsWorld new after log) (t : Leaves core after) where
  legal : Legal reads (history (journal_of after))
  legal = world.index.stands.legal

  taken_legal : Legal reads (history after.history)
  taken_legal = legal_unread after.history after.standing legal

  new_files : Stood new (file_at after.files)
  new_files number bytes e = world.stands_for.files (split_key number) (split_outside number) ∙ e

  -- the history before is a front of the whole journal
  few_entries : length core.history ≤ max_entries
  few_entries =
      let a = length-append core.history t.more in
      let b = ap length t.grown in
      let c = unread_longer after.history after.standing in
      omega (arith, a, b, c, world.index.stands.within)

  old_legal : Legal reads (history core.history)
  old_legal = legal_unread core.history core.standing was.index.stands.legal

  -- a file of a row that was published before stands
  old_file : (row : Row) → row_at (rows (history core.history)) row.number ≡ Some row → row.state ≡ Published → (bytes : List ℕ) → get old.objects (split_key row.number) ≡ Some bytes →
      file_at after.files (split_key row.number) ≡ Some bytes
  old_file row found is bytes e = by (t.files (split_key row.number) bytes (was.stands_for.files (split_key row.number) (split_outside row.number) ∙ e))
    where
      low : row.number ≤ max_entries
      low = let a = row_below reads (history core.history) row.number row old_legal found in let b = last_within core.history old_legal in omega (arith, a, b, few_entries)

      by : (file_at after.files (split_key row.number) ≡ Some bytes) ⊎ ((number : ℕ) × (split_key row.number ≡ split_key number) × Freed core after number) → file_at after.files (split_key row.number) ≡ Some bytes
      by (inl stands) = stands
      by (inr f) =
          let a = staged_le (history after.history) f.0 f.2.given_up.staged in
          let b = last_within after.history taken_legal in
          let c = unread_longer after.history after.standing in
          let few : f.0 ≤ max_entries = omega (arith, a, b, c, world.index.stands.within) in
          let same : row.number ≡ f.0 = split_key-injective row.number f.0 (omega (arith, low)) (omega (arith, few)) f.1 in
          absurd (f.2.unpublished row (ap (row_at (rows (history core.history))) (sym same) ∙ found) is)

  holds : (revision : ℕ) (es : List Entry) → take revision (journal_of after) ≡ es → Stand (file_at after.files) log es → AreStanding (file_at after.files) revision (journal_of after) log
  holds revision es e s = subst (Stand (file_at after.files) log) (sym e) s

  whole : Stand (file_at after.files) log (journal_of after)
  whole = sound_stand new (file_at after.files) log (journal_of after) new_files (taken_sound new log (journal_of after) legal world.index.stands.rows)

  taken : Stand (file_at after.files) log after.history
  taken = sound_stand new (file_at after.files) log after.history new_files (taken_sound new log after.history taken_legal world.taken)

  first : Stand (file_at after.files) log core.history
  first =
      let config = config_or (configuration core.history) in
      let tasks = (ledger reads (history core.history)).tasks in
      published_have (λ row. IsStanding (file_at after.files) config (contents config tasks row log) row) (rows (history core.history))
      (each_weaker (λ (row : Row). (row_at (rows (history core.history)) row.number ≡ Some row) × (row.state ≡ Published → IsRowSound old config tasks log row))
      (λ row. row.state ≡ Published → IsStanding (file_at after.files) config (contents config tasks row log) row) (rows (history core.history))
      (λ row k e. let s = k.1 e in record { file = old_file row k.0 e _ s.file; split = s.split })
      (AllOf-both (λ (row : Row). row_at (rows (history core.history)) row.number ≡ Some row) (λ row. row.state ≡ Published → IsRowSound old config tasks log row) (rows (history core.history))
      (each_found (rows (history core.history)) (sound reads (history core.history) old_legal).held.apart) (taken_sound old log core.history old_legal was.taken)))

  -- of an entry that was settled or adopted, before one's own
  between : (x f : Entry) → after.history ≡ core.history ++ (x ∷ f ∷ []) → IsOwn f.act → Stand (file_at after.files) log (core.history ++ x ∷ [])
  between x f grown own =
      let e : after.history ≡ (core.history ++ x ∷ []) ++ f ∷ [] = grown ∙ sym (append_assoc core.history (x ∷ []) (f ∷ [])) in
      sound_stand new (file_at after.files) log (core.history ++ x ∷ []) new_files
      (sound_before new log (core.history ++ x ∷ []) f (subst (λ (es : List Entry). Legal reads (history es)) e taken_legal) own (let l = length-append core.history (x ∷ []) in omega (arith, l))
      (subst (λ (es : List Entry). IsTaken new es log) e world.taken))

  -- ---- behind an entry that came from somewhere, before one of any kind

  journal_here : core.standing ≡ None → journal_of core ≡ core.history
  journal_here none = ap (with_unread core.history) none

  -- what may land is what it needs
  may_come : (number : ℕ) (x : Entry) (bytes : List ℕ) → core.standing ≡ None → number ≡ length core.history → Among (late_entry number x bytes) core.late → HasFile old core.history log x.act
  may_come number x bytes none at among =
      by (subst (λ (es : List Entry). IsLateEntry old es log (meta_key number, bytes)) (journal_here none)
      (all_among (IsLateEntry old (journal_of core) log) old.late (meta_key number, bytes) was.index.late_entries
      (subst (Among (meta_key number, bytes)) was.stands_for.late (among_map late_object core.late (late_entry number x bytes) among))) (meta_begins number))
    where
      called : IsCalled core.history (late_entry number x bytes)
      called = all_among (IsCalled core.history) core.late (late_entry number x bytes) was.stands_for.called among

      by : IsBelowEnd core.history (meta_key number, bytes) ⊎ MayLand old core.history log (meta_key number, bytes) → HasFile old core.history log x.act
      by (inl below) =
          let few = few_entries in
          let low = below.1 in
          let same : number ≡ below.0 = meta_key-injective number below.0 (omega (arith, at, few)) (omega (arith, low, few)) below.2 in
          absurd (omega (arith, same, low, at))
      by (inr land) =
          let same : land.entry ≡ x = once bytes land.entry x land.enters.can called.1 land.spelled called.2 in
          subst (λ (e : Entry). HasFile old core.history log e.act) same land.enters.file

  no_file : (act : Act) → act ≡ Fence → HasFile old core.history log act
  no_file act e = subst (λ (a : Act). HasFile old core.history log a) (sym e) tt

  -- the rows behind it are kept in the store of before
  entered : (x : Entry) → Legal reads (history (core.history ++ x ∷ [])) → HasFile old core.history log x.act → IsTaken old (core.history ++ x ∷ []) log
  entered x legal_x file =
      let step = history-snoc core.history x in
      let both : Legal reads (history core.history ▸ x) = subst (Legal reads) step legal_x in
      subst (λ (h : History). AreRowsKept old (index_of (config_of reads h)) (ledger reads h).tasks log h (rows h)) (sym step)
      (rows_act old core.history log x.moment x.act both.0 both.1.1 file was.taken)

  came_taken : (x : Entry) → Legal reads (history (core.history ++ x ∷ [])) → Came core x → IsTaken old (core.history ++ x ∷ []) log
  came_taken x legal_x (inl (inl stands)) = subst (λ (es : List Entry). IsTaken old es log) (ap (with_unread core.history) stands) was.index.stands.rows
  came_taken x legal_x (inl (inr late)) = entered x legal_x (may_come late.1.0 x late.1.1 late.0 late.1.2 late.1.3)
  came_taken x legal_x (inr fence) = entered x legal_x (no_file x.act fence)

  between_came : (x f : Entry) → after.history ≡ core.history ++ (x ∷ f ∷ []) → Came core x → Stay core.files after.files → Stand (file_at after.files) log (core.history ++ x ∷ [])
  between_came x f grown came stay =
      let e : after.history ≡ (core.history ++ x ∷ []) ++ f ∷ [] = grown ∙ sym (append_assoc core.history (x ∷ []) (f ∷ [])) in
      let both : Legal reads (history (core.history ++ x ∷ []) ▸ f) = subst (Legal reads) (history-snoc (core.history ++ x ∷ []) f) (subst (λ (es : List Entry). Legal reads (history es)) e taken_legal) in
      sound_stand old (file_at after.files) log (core.history ++ x ∷ []) among (taken_sound old log (core.history ++ x ∷ []) both.0 (came_taken x both.0 came))
    where
      among : Stood old (file_at after.files)
      among number bytes k = stay (split_key number) bytes (was.stands_for.files (split_key number) (split_outside number) ∙ k)

  -- before the last entry that was taken in
  earlier : (revision : ℕ) (more : List Entry) → Few more ⊎ (CameFew core more × Stay core.files after.files) → after.history ≡ core.history ++ more → length core.history ≤ revision → revision < length after.history →
      AreStanding (file_at after.files) revision (journal_of after) log
  earlier revision [] few grown low high = absurd (let l = ap length (grown ∙ append-nil core.history) in omega (arith, l, low, high))
  earlier revision (x ∷ []) few grown low high =
      let l = ap length grown ∙ length-append core.history (x ∷ []) in
      holds revision core.history
      (take_unread revision after.history after.standing (omega (arith, high)) ∙ ap (take revision) grown ∙ take_at core.history (x ∷ []) revision (omega (arith, l, low, high))) first
  earlier revision (x ∷ f ∷ []) few grown low high = by (lower revision (length core.history))
    where
      behind_first : Few (x ∷ f ∷ []) ⊎ (CameFew core (x ∷ f ∷ []) × Stay core.files after.files) → Stand (file_at after.files) log (core.history ++ x ∷ [])
      behind_first (inl own) = between x f grown own
      behind_first (inr came) = between_came x f grown came.0 came.1

      long : length after.history ≡ length core.history + 2
      long = ap length grown ∙ length-append core.history (x ∷ f ∷ [])

      by : (revision ≤ length core.history) ⊎ (length core.history < revision) → AreStanding (file_at after.files) revision (journal_of after) log
      by (inl le) =
          holds revision core.history
          (take_unread revision after.history after.standing (omega (arith, high)) ∙ ap (take revision) grown ∙ take_at core.history (x ∷ f ∷ []) revision (omega (arith, low, le))) first
      by (inr lt) =
          let e : after.history ≡ (core.history ++ x ∷ []) ++ f ∷ [] = grown ∙ sym (append_assoc core.history (x ∷ []) (f ∷ [])) in
          let l = length-append core.history (x ∷ []) in
          holds revision (core.history ++ x ∷ [])
          (take_unread revision after.history after.standing (omega (arith, high)) ∙ ap (take revision) e ∙ take_at (core.history ++ x ∷ []) (f ∷ []) revision (omega (arith, l, lt, long, high)))
          (behind_first few)
  earlier revision (x ∷ f ∷ g ∷ more) (inl few) grown low high = absurd few
  earlier revision (x ∷ f ∷ g ∷ more) (inr few) grown low high = absurd few.0

  pub stood : (revision : ℕ) → length core.history ≤ revision → AreStanding (file_at after.files) revision (journal_of after) log
  stood revision low = by (lower (length (journal_of after)) revision) (lower (length after.history) revision)
    where
      by : (length (journal_of after) ≤ revision) ⊎ (revision < length (journal_of after)) → (length after.history ≤ revision) ⊎ (revision < length after.history) → AreStanding (file_at after.files) revision (journal_of after) log
      by (inl all) some = holds revision (journal_of after) (take_all revision (journal_of after) all) whole
      by (inr lt) (inr early) = earlier revision t.more t.few t.grown low early
      by (inr lt) (inl late) =
          let short = unread_short after.history after.standing in
          let same : length after.history ≡ revision = omega (arith, short, lt, late) in
          holds revision after.history (take_unread revision after.history after.standing (omega (arith, same)) ∙ take_all revision after.history late) taken

  pub reaches : IsLog log → Reaches core after log
  reaches is =
      record {
        reached = λ revision le. record {
          files = stood revision (let l = unread_longer core.history core.standing in omega (arith, l, le));
          covers = covers_at revision (journal_of after) log is legal;
        };
        goes_on = t.journal;
        stay = λ key bytes e. by key bytes (t.files key bytes e);
      }
    where
      by : (key bytes : List ℕ) → (file_at after.files key ≡ Some bytes) ⊎ ((number : ℕ) × (key ≡ split_key number) × Freed core after number) → (file_at after.files key ≡ Some bytes) ⊎ IsGivenUpKey (journal_of after) key
      by key bytes (inl stands) = inl stands
      by key bytes (inr f) = inr (f.0, f.1, given_up_unread after.history after.standing f.0 legal f.2.given_up)

  -- the same in the words of the store
  pub stood_kept : (revision : ℕ) → length (journal_of core) ≤ revision → AreStanding (get new.objects) revision (journal_of after) log
  stood_kept revision le =
      let config = config_or (configuration (take revision (journal_of after))) in
      let held : Row → List Placed = λ row. held_at revision (journal_of after) log row in
      each_weaker (λ row. IsStanding (file_at after.files) config (held row) row) (λ row. IsStanding (get new.objects) config (held row) row) (shown_rows (take revision (journal_of after)))
      (λ row i. record { file = sym (world.stands_for.files (split_key row.number) (split_outside row.number)) ∙ i.file; split = i.split })
      (stood revision (let l = unread_longer core.history core.standing in omega (arith, l, le)))

-- nothing was done
pub reaches_itself : (kept : State) (core : Core) (log : Log) → IsLog log → IsWorld kept core log → Reaches core core log
reaches_itself kept core log is world =
    reaches kept kept core core log world world (leaves_of (takes_none core)) is

-- a line of a node of the code
module _ {S L : Type 0} (told : L → Option Log) (count : L → ℕ) (since : L → L → Type 0) (firsts : List L) (old new : DriveNode S L) (node last : Node) (line : Line) (said : Option Outcome)
    (was : NodeStands told count since firsts old node) (stands : NodeStands told count since firsts new last) (turn : Turn node line said last) where
  line_leaves : LineLeaves node.core (record { said = said; node = last })
  line_leaves =
      turn_leaves node line said last was.world_stands.opened (called_low node.core.history node.core.late was.world_stands.world.stands_for.called)
      (legal_unread last.core.history last.core.standing stands.world_stands.world.index.stands.legal) turn

  pub line_reaches : Reaches node.core last.core node.log
  line_reaches =
      reaches was.world_stands.kept stands.world_stands.kept node.core last.core node.log was.world_stands.world
      (subst (λ (l : Log). IsWorld stands.world_stands.kept last.core l) (turn_log node line said last turn) stands.world_stands.world) line_leaves.leaves was.is_log

  pub line_collects : LineCollects node.core.history last.core.history said
  line_collects = line_leaves.did

-- ---- landings

module _ (old new : State) (es exit : List Entry) (log : Log) (was : IsIndexOf old es log) (index : IsIndexOf new exit log) where
  all_stand : (revision : ℕ) → length exit ≤ revision → AreStanding (get new.objects) revision exit log
  all_stand revision le =
      subst (Stand (get new.objects) log) (sym (take_all revision exit le))
      (sound_stand new (get new.objects) log exit (λ number bytes e. e) (taken_sound new log exit index.stands.legal index.stands.rows))

  -- the files of the rows that were published before
  first_stand : KeepsHeld old new es exit → Stand (get new.objects) log es
  first_stand held =
      let config = config_or (configuration es) in
      let tasks = (ledger reads (history es)).tasks in
      published_have (λ row. IsStanding (get new.objects) config (contents config tasks row log) row) (rows (history es))
      (each_weaker (λ row. IsRowKept old config tasks log (history es) row × IsPlaced reads (history es) row) (λ row. row.state ≡ Published → IsStanding (get new.objects) config (contents config tasks row log) row) (rows (history es))
      (λ row k e.
      let s = k.0.published e in
      let stored = held.stored row.number _ tt (stands_shown old es None log was.stands row.number _ (k.1.published e) s.file) in
      record { file = stored.file; split = s.split })
      (AllOf-both (IsRowKept old config tasks log (history es)) (IsPlaced reads (history es)) (rows (history es)) (rows_under old es tasks log was.stands.legal was.stands.rows) (placed reads (history es) was.stands.legal)))

  pub landed_stand : HasLanded old new → (revision : ℕ) → length es ≤ revision → AreStanding (get new.objects) revision exit log
  landed_stand lands revision le = by (index-HasLanded old new es log was lands)
    where
      adopted : (entry : Entry) (e : Enters old new es log entry) → (length exit ≤ revision) ⊎ (revision < length exit) → AreStanding (get new.objects) revision exit log
      adopted entry e (inl all) = all_stand revision all
      adopted entry e (inr early) =
          let same : exit ≡ es ++ entry ∷ [] = one-journal once new 0 exit (es ++ entry ∷ []) index.stands.journal e.index.stands.journal in
          let l = ap length same ∙ length-append es (entry ∷ []) in
          subst (Stand (get new.objects) log) (sym (ap (take revision) same ∙ take_at es (entry ∷ []) revision (omega (arith, l, le, early))))
          (first_stand (subst (λ (xs : List Entry). KeepsHeld old new es xs) (sym same) e.held))

      by : AfterLanding old new es log → AreStanding (get new.objects) revision exit log
      by (inl s) =
          let same : exit ≡ es = one-journal once new 0 exit es index.stands.journal s.index.stands.journal in
          all_stand revision (let l = ap length same in omega (arith, l, le))
      by (inr a) = adopted a.0 a.1 (lower (length exit) revision)
