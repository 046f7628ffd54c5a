-- What a call did before its last line, and that line, are what the top call's clause says.
use Rattle.std.proofs.Common.{◌≡◌, ◌⊎◌, ℕ, ◌≤◌, false, List, [], ◌∷◌, ◌++◌, length, map, flat_map, sum, refl, sym, ap, ◌∙◌, subst, inl, inr, append-nil, append_assoc, arith}
use Rattle.std.proofs.lemmas.List.{length-map}
use Rattle.std.specs.List.{AllByRecursion, AllZip}
use Rattle.std.specs.Prelude.{Option, Some, None, Result, ⊤, min, slice_index}
use Rattle.meta_journal.specs.declared.entry.Entry.{Entry}
use Rattle.meta_store.specs.History.{moment_of, history as told_by}
use Rattle.object_store.specs.Store.{State}
use Rattle.source_log.specs.Log.{IsLog}
use Rattle.index_world.specs.Calls.{Fate, Unread, gives, loaded}
use Rattle.index_world.specs.Core.{Core, with_unread, journal_of, last_count}
use Rattle.index_world.specs.World.{IsWorld}
use Rattle.index_world.proofs.Opening.{index_opens}
use Rattle.node_run.specs.Calm.{log_counts}
use Rattle.node_run.specs.Lines.{printed}
use Rattle.node_run.specs.Node.{Node, Line, Outcome}
use Rattle.node_run.specs.Standing.{GivesLogs, LetGo, fresh_node}
use Rattle.node_run.specs.Telling.{MayTell}
use Rattle.node_run.specs.Turns.{opened_node}
use Rattle.quick_node.specs.Faults.{AreBetween, store_told, log_told}
use Rattle.quick_node.specs.Ending.{EndsSo, ended_status, last_line}
use Rattle.quick_node.specs.Serve.{IsPrefixOf, Before, After, End, out_of_memory, end_told, status_of, reading_status, WroteLine, Wrote, HasEnd, IsFresh, Opens, Answers, Lives, BeginsAlong, Along, IsShown, AnswersFrom, EntersAs, Drives, ShowsAfter}
use Rattle.quick_node.specs.Applies.{AppliesFrom, SettlesFrom, idle}
use Rattle.quick_node.specs.Deletes.{DeletesFrom}
use Rattle.quick_node.specs.Replaces.{ReplacesFrom, RestsFrom}
use Rattle.quick_node.specs.Replaces as merges
use Rattle.quick_node.specs.declared.error_line.End.{End as Ended}
use Rattle.quick_node.proofs.Applied.{lives_apply}
use Rattle.quick_node.proofs.Catching.{lives_catch}
use Rattle.quick_node.proofs.Calmed.{reader_counts, lives_calm}
use Rattle.quick_node.proofs.Exact.{exact_status}
use Rattle.quick_node.proofs.Expiring.{lives_expire}
use Rattle.quick_node.proofs.Gathered.{along_collects}
use Rattle.quick_node.proofs.NodeAtEnd.{opens_moves, lives_follow}
use Rattle.quick_node.proofs.Merged.{lives_merge}
use Rattle.quick_node.proofs.LongerLog.{index_longer}
use Rattle.quick_node.proofs.Onces.{configured_on, holds_once, covers_at, are_left}
use Rattle.quick_node.specs.Once.{Reaches}
use Rattle.quick_node.proofs.LineFaults.{none_told}
use Rattle.quick_node.proofs.Files.{Few, Takes, leaves_of, loaded_few}
use Rattle.quick_node.proofs.Reached.{reaches, reaches_itself}
use Rattle.quick_node.proofs.LogFaults.{lives_between}
use Rattle.quick_node.proofs.Refusing.{lives_refuse}
use Rattle.quick_node.proofs.EndFaults.{lives_told}
use Rattle.quick_node.proofs.BeforeLastLine.{Met, printed_on, silent_short, most_on}

-- ---- a fresh node, and what opening makes of it

module _ (history : List Entry) (before : Before) (fresh : Node) (is : IsFresh before history fresh) where
  pub new_moment : fresh.core.moment ≡ moment_of (told_by fresh.core.history)
  new_moment = ap (λ n. n.core.moment) is.is ∙ sym (ap (λ n. moment_of (told_by n.core.history)) is.is)

  pub new_sure : fresh.core.unsure ≡ false
  new_sure = ap (λ n. n.core.unsure) is.is

  pub new_unmarked : fresh.core.marks ≡ []
  new_unmarked = ap (λ n. n.core.marks) is.is

  pub new_undoomed : fresh.core.doomed ≡ []
  new_undoomed = ap (λ n. n.core.doomed) is.is

  -- all but the core is that of fresh readers
  pub opened_is : (answer : Result ⊤ Unread) (node : Node) → Opens fresh answer node → node ≡ fresh_node node.core before.log before.log_faults
  opened_is answer node o =
      o.is ∙ ap (λ (n : Node). record n { core = o.core }) is.is ∙ ap (λ c. fresh_node c before.log before.log_faults) (sym (ap (λ n. n.core) o.is))

  pub opened_clock : (answer : Result ⊤ Unread) (node : Node) → Opens fresh answer node → node.core.clock ≡ 0
  opened_clock answer node o =
      (opens_moves fresh answer node o).ticks ∙ ap (λ n. n.core.clock) is.is

  pub opened_clients : (answer : Result ⊤ Unread) (node : Node) → Opens fresh answer node → node.clients ≡ []
  opened_clients answer node o = ap (λ n. n.clients) (opened_is answer node o)

  pub opened_log : (answer : Result ⊤ Unread) (node : Node) → Opens fresh answer node → node.log ≡ before.log
  opened_log answer node o = ap (λ n. n.log) (opened_is answer node o)

  pub opened_counts : (answer : Result ⊤ Unread) (node : Node) → Opens fresh answer node → log_counts node.indexers ≡ before.log_faults
  opened_counts answer node o = ap (λ n. log_counts n.indexers) (opened_is answer node o) ∙ reader_counts before.log_faults

  pub opened_readers : (answer : Result ⊤ Unread) (node : Node) → Opens fresh answer node → length node.indexers ≡ length before.log_faults
  opened_readers answer node o = sym (length-map node.indexers (λ i. i.log_faults)) ∙ ap length (opened_counts answer node o)

-- the fresh node of a store at entry
pub record Began (history : List Entry) (before : Before) : Type 0 where
  pub fresh : Node
  pub is : IsFresh before history fresh
  pub world : IsWorld before.kept fresh.core before.log

pub begins : (history : List Entry) (before : Before) → EntersAs history before → Began history before
begins history before e =
    let index = index_longer before.kept history e.log before.log e.was_log e.is_log e.extends e.index in
    let o = index_opens before.kept history before.log before.store_faults 0 index in
    record {
      fresh = opened_node (record {
        log = before.log;
        log_faults = before.log_faults;
        history = history;
        store_faults = before.store_faults;
        files = o.files;
        late = o.late;
      });
      is = record { stands = o.world.stands_for; is = refl };
      world = o.world;
    }

-- what opening makes of it leaves its files
module _ (history : List Entry) (before : Before) (fresh : Node) (is : IsFresh before history fresh) (is_log : IsLog before.log) (world : IsWorld before.kept fresh.core before.log) where
  log_is : before.log ≡ fresh.log
  log_is = sym (ap (λ n. n.log) is.is)

  itself : Reaches fresh.core fresh.core fresh.log
  itself = subst (λ l. Reaches fresh.core fresh.core l) log_is (reaches_itself before.kept fresh.core before.log is_log world)

  pub unread_along : Along fresh [] [] fresh
  unread_along = record { entry = itself; behind = inl (record { no_lines = refl; no_outcomes = refl; reaches = itself }) }

  pub begins_along : (fate : Fate) (answer : Result ⊤ Unread) (kept : State) (core : Core) → loaded fate fresh.core ≡ gives answer core → IsWorld kept core before.log → BeginsAlong fresh (record fresh { core = core })
  begins_along fate answer kept core did after =
      record {
        entry = itself;
        reaches = subst (λ l. Reaches fresh.core core l) log_is
            (reaches before.kept kept fresh.core core before.log world after (leaves_of (subst (λ g. Takes Few fresh.core g.core) did (loaded_few fate fresh.core))) is_log);
      }

  pub unopened_along : (fate : Fate) (answer : Result ⊤ Unread) (kept : State) (core : Core) → loaded fate fresh.core ≡ gives answer core → IsWorld kept core before.log → Along fresh [] [] (record fresh { core = core })
  unopened_along fate answer kept core did after =
      let b = begins_along fate answer kept core did after in
      record { entry = b.entry; behind = inl (record { no_lines = refl; no_outcomes = refl; reaches = b.reaches }) }

-- ---- logs that were never read

module _ {L : Type 0} (count : L → ℕ) (since : L → L → Type 0) (itself : (log : L) → since log log) where
  pub all_later : (logs : List L) → AllZip since logs logs
  all_later [] = tt
  all_later (log ∷ logs) = (itself log, all_later logs)

  pub kept_logs : (logs lasts : List L) (counts : List ℕ) → lasts ≡ logs → map count logs ≡ counts → GivesLogs count since logs lasts counts
  kept_logs logs lasts counts same are = record { later = subst (λ ls. AllZip since logs ls) (sym same) (all_later logs); counts_are = ap (map count) same ∙ are }

-- ---- the clause

pub unread_front : (entries : List Entry) (standing : Option Entry) → IsPrefixOf entries (with_unread entries standing)
unread_front entries None = ([], sym (append-nil entries))
unread_front entries (Some entry) = (entry ∷ [], refl)

earlier : (a b c : ℕ) (line piece : List ℕ) → a ≤ b → WroteLine b c line piece → WroteLine a c line piece
earlier a b c line piece le (inl e) = inl e
earlier a b c line piece le (inr w) = inr (omega (arith, le, w.0), w.1)

module _ (history : List Entry) (before : Before) (after : After) (fresh last : Node) (is : IsFresh before history fresh) (is_log : IsLog before.log) (store_count : last.core.store_faults ≡ after.store_faults)
    (log_count : log_counts last.indexers ≡ after.log_faults) (world : IsWorld after.kept last.core before.log) where
  shown : IsShown after last
  shown = record { store_count = store_count; log_count = log_count; stands = world.stands_for }

  drives_with : (status : ℕ) (end : End) (lines : List Line) (outcomes : List Outcome) (text : List ℕ) → status ≡ status_of end → HasEnd before after lines end →
      after.written ≡ before.written ++ text → Wrote before.write_faults after.write_faults end outcomes text → Lives before end fresh lines outcomes last → Along fresh lines outcomes last →
      AllByRecursion MayTell outcomes → (end ≡ out_of_memory → (text ≡ printed outcomes) ⊎ Answers fresh lines outcomes last) → Drives history before after status
  drives_with status end lines outcomes text status_is ends written wrote lives along tell all = record {
    end = end;
    status_is = status_is;
    lines = lines;
    outcomes = outcomes;
    ends = ends;
    text = text;
    written = written;
    wrote = wrote;
    exit = journal_of last.core;
    index = world.index;
    goes_on = follows.0;
    once = holds_once after.kept (journal_of last.core) before.log is_log world.index;
    always = λ revision. covers_at revision (journal_of last.core) before.log is_log world.index.stands.legal;
    left = are_left after.kept (journal_of last.core) before.log world.index;
    configured = configured_on history (journal_of last.core) follows.0 world.index.stands.legal;
    searches = follows.1;
    deletes = follows.2;
    refuses = lives_refuse (journal_of last.core) world.index.stands.legal history before fresh is after end lines outcomes last ends lives (unread_front last.core.history last.core.standing) tell;
    faults = told;
    faultless = λ still. none_told after.store_faults (end_told end ++ flat_map store_told outcomes) still.1
        (subst (λ n. AreBetween n (end_told end ++ flat_map store_told outcomes) after.store_faults) still.0 (told (omega (arith, still.0, still.1))));
    source_faults = λ i within bound.
        subst (λ ns. AreBetween (slice_index before.log_faults i) (flat_map (log_told i) outcomes) (slice_index ns i)) log_count
        (lives_between history before fresh is i within bound end lines outcomes last lives);
    catch_up = λ i within. lives_catch history (journal_of last.core) before fresh is i within end lines outcomes last lives (unread_front last.core.history last.core.standing);
    expires = λ config configured. lives_expire history (journal_of last.core) follows.0 world.index.stands.legal config configured before fresh is end lines outcomes last lives (unread_front last.core.history last.core.standing);
    collects = along_collects (journal_of last.core) world.index.stands.legal history fresh last (ap (λ n. n.core.history) is.is) lines outcomes (unread_front last.core.history last.core.standing) along;
    replaces = merged.0;
    rests = merged.1;
    applies = applied.0;
    settles = applied.1;
    tell = tell;
    fresh = fresh;
    is_fresh = is;
    last = last;
    lives = lives;
    along = along;
    printed_all = all;
    shown = shown;
    calm = λ calm late. lives_calm history before after fresh last is shown calm late end lines outcomes ends lives;
    exact = λ calm some read ending live reads.
        subst (λ s. (s ≡ reading_status ending) ⊎ (s ≡ 11)) (sym status_is) (exact_status history before after fresh last is shown calm end lines outcomes ends lives some read ending live reads);
  }
    where
      merged : ReplacesFrom (journal_of last.core) 0 (length history) merges.idle lines outcomes × RestsFrom (journal_of last.core) 0 (length history) lines outcomes
      merged = lives_merge (journal_of last.core) world.index.stands.legal history before fresh is after end lines outcomes last ends lives (unread_front last.core.history last.core.standing)

      applied : AppliesFrom (journal_of last.core) (length history) idle lines outcomes × SettlesFrom (journal_of last.core) (length history) outcomes
      applied = lives_apply (journal_of last.core) world.index.stands.legal history before fresh is after end lines outcomes last ends lives (unread_front last.core.history last.core.standing)

      told : before.store_faults ≤ last_count → AreBetween before.store_faults (end_told end ++ flat_map store_told outcomes) after.store_faults
      told bound =
          let same : fresh.core.store_faults ≡ before.store_faults = ap (λ n. n.core.store_faults) is.is in
          subst (λ n. AreBetween before.store_faults (end_told end ++ flat_map store_told outcomes) n) store_count
          (subst (λ n. AreBetween n (end_told end ++ flat_map store_told outcomes) last.core.store_faults) same
          (lives_told before fresh (omega (arith, same, bound)) end lines outcomes last lives))

      follows : IsPrefixOf history (journal_of last.core) × AnswersFrom (journal_of last.core) before.log (length history) [] lines outcomes
          × DeletesFrom (journal_of last.core) (length history) [] lines outcomes
      follows = lives_follow history (journal_of last.core) world.index.stands.legal before fresh is end lines outcomes last lives (unread_front last.core.history last.core.standing)

  drives_of : (e : Ended) (left : Option (List ℕ)) (read write status : ℕ) (text piece : List ℕ) → Met before fresh e left read write text last → after.left ≡ left → read ≤ after.read_faults → before.write_faults ≤ write → write ≤ after.write_faults →
      after.written ≡ (before.written ++ text) ++ piece →
      ((status ≡ ended_status e) × WroteLine write after.write_faults (last_line e) piece) ⊎ ((status ≡ 11) × (piece ≡ [])) → Drives history before after status
  drives_of e left read write status text piece m same ra low wa written (inl w) =
      drives_with status m.end m.lines m.outcomes (text ++ piece) (w.0 ∙ m.status_is) (m.ends after same ra wa) (written ∙ append_assoc before.written text piece)
      (m.wrote before.write_faults after.write_faults piece (earlier before.write_faults write after.write_faults (last_line e) piece low w.1)) m.lives m.along m.tell
      (λ short. printed_on m.outcomes text piece (Answers fresh m.lines m.outcomes last) m.printed_all (silent_short e write after.write_faults piece (m.status_is ∙ ap status_of short) w.1))
  drives_of e left read write status text piece m same ra low wa written (inr w) =
      drives_with status out_of_memory m.lines m.outcomes (text ++ piece) w.0 m.reads (written ∙ append_assoc before.written text piece)
      (most_on m.outcomes text piece m.front w.1) m.short m.along m.tell (λ short. printed_on m.outcomes text piece (Answers fresh m.lines m.outcomes last) m.printed_all w.1)

-- the objects behind the call tell it
module _ {S L R W : Type 0} (told : S → Option State) (count : S → ℕ) (log_count : L → ℕ) (since : L → L → Type 0) (left : R → Option (List ℕ)) (read_count : R → ℕ) (taken : W → Option (List ℕ)) (write_count : W → ℕ) where
  pub returned : (history : List Entry) (before : Before) (fresh last : Node) → IsFresh before history fresh → IsLog before.log → (e : Ended) (here : Option (List ℕ)) (read write : ℕ) (text : List ℕ) →
      Met before fresh e here read write text last → (store : S) (store_faults log_faults status : ℕ) (firsts : List L) (input : R) (output : W) (kept : State) →
      told store ≡ Some kept → count store ≡ store_faults → IsWorld kept last.core before.log → last.core.store_faults ≡ store_faults →
      (lasts : List L) → GivesLogs log_count since firsts lasts (log_counts last.indexers) → log_faults ≡ min (sum (map log_count lasts)) last_count →
      left input ≡ here → read ≤ read_count input → before.write_faults ≤ write → write ≤ write_count output →
      EndsSo e (before.written ++ text) (taken output) write (write_count output) status →
      (after : After) × ShowsAfter told count log_count since left read_count taken write_count store store_faults log_faults firsts input output after × Drives history before after status
      × GivesLogs log_count since firsts lasts after.log_faults
  returned history before fresh last is is_log e here read write text met store store_faults log_faults status firsts input output kept tells counted world counts lasts gives sums left_is ra low wa line = (
    after,
    record { kept = tells; store_count = counted; reported = refl; let_go = let_go; left_is = left_is; read_faults = refl; written = line.written; write_faults = refl },
    drives_of history before after fresh last is is_log counts refl world e here read write status text line.text met refl ra low wa refl line.wrote,
    gives,
  )
    where
      let_go : LetGo log_count since firsts (log_counts last.indexers) log_faults
      let_go = record { lasts = lasts; later = gives.later; counts_are = gives.counts_are; sum_is = sums }

      after : After
      after = record {
        kept = kept;
        store_faults = store_faults;
        log_faults = log_counts last.indexers;
        left = here;
        read_faults = read_count input;
        written = (before.written ++ text) ++ line.text;
        write_faults = write_count output;
      }
