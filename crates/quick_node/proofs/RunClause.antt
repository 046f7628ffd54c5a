-- What a call did for `run` before its last line, and that line, are what the top call's clause says.
use Rattle.std.proofs.Common.{◌≡◌, ◌⊎◌, ℕ, zero, suc, ◌<◌, ◌≤◌, List, [], ◌∷◌, ◌++◌, length, map, sum, refl, sym, ap, ◌∙◌, subst, inl, inr, append-nil, append_assoc, arith}
use Rattle.std.specs.Fmt.{digits}
use Rattle.std.specs.List.{All, AllByRecursion, AllZip}
use Rattle.std.specs.Prelude.{Option, Some, None, Ok, Err, Result, ⊤, min}
use Rattle.byte_fields.specs.Causes.{Rose}
use Rattle.command_words.specs.declared.run.RunOptions.{RunOptions as Asked}
use Rattle.meta_journal.specs.declared.entry.Entry.{Entry}
use Rattle.object_store.specs.Store.{State}
use Rattle.source_log.specs.Log.{IsLog, Log}
use Rattle.index_config.specs.declared.config.IndexConfig.{IndexConfig}
use Rattle.index_world.specs.Calls.{Unread, faulted, no_memory, store_fault, not_read}
use Rattle.index_world.specs.Calls as calls
use Rattle.index_world.specs.Core.{Core, IsConfigured, KeepsFor, Nobody, journal_of, last_count, with_unread}
use Rattle.index_world.specs.Loading.{IsUnread}
use Rattle.index_world.specs.World.{GoesFor, IsWorld}
use Rattle.index_world.specs.declared.world_error.WorldError.{WorldError}
use Rattle.index_world.specs.declared.world_error.WorldError.TheVariants as errors
use Rattle.thread_run.specs.declared.run_end.RunOptions.{RunOptions}
use Rattle.node_run.specs.Node.{Node}
use Rattle.node_run.specs.Standing.{GivesLogs, LetGo}
use Rattle.call_laws.proofs.CallMoves.{Grows, grows_on}
use Rattle.run_plan.specs.declared.clients.Request.{Request}
use Rattle.quick_node.specs.Ending.{EndsSo, ended_status, last_line}
use Rattle.input_lines.specs.Requests.{HasRead, IsFault, Reads}
use Rattle.quick_node.specs.Runs.{Did, End, IsShown, Opened, Read, Ran, RunSays, Runs, Said, SaidAll, SaidSome, Unread as Unmade, reading_error, said_text, by_reading, no_index, opening_failed, options_of, out_of_memory, reading_status, status_of, write_failed}
use Rattle.quick_node.specs.Saying.{EndsSaying, RanOn, SaidAlone, SaysSome, SaysUpTo, end_of}
use Rattle.quick_node.specs.Serve.{After, Before, IsCalm, IsFresh, IsPrefixOf, Opens, Returns, ShowsAfter, WroteLine}
use Rattle.quick_node.specs.declared.error_line.End.{End as Ended}
use Rattle.quick_node.specs.declared.error_line.End.TheVariants as ended
use Rattle.input_lines.specs.declared.requests.ReadEnd.{ReadEnd}
use Rattle.input_lines.specs.declared.requests.ReadEnd.TheVariants as reads
use Rattle.quick_node.proofs.BeforeLastLine.{fault_line, none_line, silent, silent_short}
use Rattle.quick_node.proofs.DriveClause.{new_moment, new_sure, new_undoomed, new_unmarked, unread_front}
use Rattle.quick_node.proofs.Exact.{not_faulted, not_none, still_not_failed}
use Rattle.quick_node.proofs.NodeAtEnd.{opens_moves}
use Rattle.quick_node.proofs.Onces.{are_left, configured_on, covers_at, holds_once}
use Rattle.input_lines.proofs.RequestsInOneWay.{requests_in_one_way}
use Rattle.quick_node.proofs.Searching.{prefix_on}
use Rattle.quick_node.proofs.Short.{opens_short}

-- ---- the last line of what a run says

pub said_alone : (before mid after status : ℕ) (end : Ended) → mid ≤ after → EndsSaying before mid end → (status ≡ ended_status end) ⊎ (status ≡ 11) → SaidAlone before after status
said_alone before mid after status end later ends (inr short) = inr (inr short)
said_alone before mid after status ended.Done later ends (inl is) = inl is
said_alone before mid after status ended.BadWords later ends (inl is) = absurd ends
said_alone before mid after status (ended.BadLine number) later ends (inl is) = absurd ends
said_alone before mid after status ended.ClientsOver later ends (inl is) = absurd ends
said_alone before mid after status ended.LineOver later ends (inl is) = absurd ends
said_alone before mid after status ended.InputOver later ends (inl is) = absurd ends
said_alone before mid after status ended.RequestsOver later ends (inl is) = absurd ends
said_alone before mid after status ended.ConfigOver later ends (inl is) = absurd ends
said_alone before mid after status (ended.NotOpened error) later ends (inl is) = absurd ends
said_alone before mid after status (ended.NotMade error) later ends (inl is) = absurd ends
said_alone before mid after status ended.ReadFault later ends (inl is) = absurd ends
said_alone before mid after status ended.WriteFault later ends (inl is) = inr (inl (is, omega (arith, later, ends)))
said_alone before mid after status ended.Memory later ends (inl is) = inr (inr is)

-- they have no last line
pub said_silent : (before mid : ℕ) (end : Ended) → EndsSaying before mid end → last_line end ≡ []
said_silent before mid ended.Done ends = refl
said_silent before mid ended.BadWords ends = absurd ends
said_silent before mid (ended.BadLine number) ends = absurd ends
said_silent before mid ended.ClientsOver ends = absurd ends
said_silent before mid ended.LineOver ends = absurd ends
said_silent before mid ended.InputOver ends = absurd ends
said_silent before mid ended.RequestsOver ends = absurd ends
said_silent before mid ended.ConfigOver ends = absurd ends
said_silent before mid (ended.NotOpened error) ends = absurd ends
said_silent before mid (ended.NotMade error) ends = absurd ends
said_silent before mid ended.ReadFault ends = absurd ends
said_silent before mid ended.WriteFault ends = refl
said_silent before mid ended.Memory ends = refl

pub said_rose : (before mid after : ℕ) (end : Ended) → mid ≤ after → EndsSaying before mid end → end ≡ ended.WriteFault → Rose before after
said_rose before mid after end later ends is = let rose : Rose before mid = subst (EndsSaying before mid) is ends in omega (arith, rose, later)

-- and so nothing is written behind what was said
pub nothing_behind : (before mid after status : ℕ) (end : Ended) (text : List ℕ) → EndsSaying before mid end →
    ((status ≡ ended_status end) × WroteLine mid after (last_line end) text) ⊎ ((status ≡ 11) × (text ≡ [])) → text ≡ []
nothing_behind before mid after status end text ends (inl w) = silent mid after text (subst (λ line. WroteLine mid after line text) (said_silent before mid end ends) w.1)
nothing_behind before mid after status end text ends (inr short) = short.1

-- ---- where nothing failed

whole_unfailed : (options : _) (before : Before) (after : After) (opened last : Core) (text : List ℕ) (end : ReadEnd) → Read options before after opened last text end →
    (requests : List Request) × HasRead before.input after.left requests end × (IsFault end → Rose before.read_faults after.read_faults)
whole_unfailed options before after opened last text reads.Whole r = (r.ran.requests, r.ran.read, λ fault. absurd fault)
whole_unfailed options before after opened last text (reads.BadLine number) r = (r.requests, r.read, r.failed)
whole_unfailed options before after opened last text reads.RequestsOver r = (r.requests, r.read, r.failed)
whole_unfailed options before after opened last text reads.ClientsOver r = (r.requests, r.read, r.failed)
whole_unfailed options before after opened last text reads.LineOver r = (r.requests, r.read, r.failed)
whole_unfailed options before after opened last text reads.InputOver r = (r.requests, r.read, r.failed)
whole_unfailed options before after opened last text reads.Fault r = (r.requests, r.read, r.failed)

module _ (asked : Asked) (history : List Entry) (before : Before) (after : After) (fresh : Node) (last : Core) (is : IsFresh before history fresh) (shown : IsShown after last) where
  exact_run : IsCalm before after → (end : End) (text : List ℕ) → Did (options_of asked) before after fresh last text end → 0 < length history → (requests : List Request) (read : ReadEnd) → ¬ (IsFault read) →
      Reads before.input requests read → (status_of end ≡ reading_status read) ⊎ (status_of end ≡ 11)
  exact_run calm (by_reading end) text did some requests read live reads =
      let w = whole_unfailed (options_of asked) before after did.node.core last text end did.came in
      let live' : ¬ (IsFault end) = λ fault. still_not_failed before.read_faults after.read_faults calm.input (w.2 fault) in
      inl (ap reading_status (requests_in_one_way before.input w.0 requests end read live' live w.1.reads reads).1)
  exact_run calm no_index text did some requests read live reads = absurd (not_none history before fresh (record fresh { core = last }) is some did.0)
  exact_run calm (opening_failed low high) text did some requests read live reads =
      absurd (not_faulted history before fresh (record fresh { core = last }) is after shown.store_count calm (store_fault low high) did.0)
  exact_run calm write_failed text did some requests read live reads = absurd (still_not_failed before.write_faults after.write_faults calm.output did.1)
  exact_run calm out_of_memory text did some requests read live reads = inr refl

-- ---- the last line of a reading that was not whole

pub some_is : (a b : Ended) → ◌≡◌ {A = Option Ended} (Some a) (Some b) → a ≡ b
some_is a b e = cc

pub none_some : (e : Ended) → ◌≡◌ {A = Option Ended} None (Some e) → ⊥
none_some e is = cc

pub whole_is : (end : ReadEnd) → end_of end ≡ None → end ≡ reads.Whole
whole_is reads.Whole is = refl
whole_is (reads.BadLine number) is = absurd (none_some _ (sym is))
whole_is reads.RequestsOver is = absurd (none_some _ (sym is))
whole_is reads.ClientsOver is = absurd (none_some _ (sym is))
whole_is reads.LineOver is = absurd (none_some _ (sym is))
whole_is reads.InputOver is = absurd (none_some _ (sym is))
whole_is reads.Fault is = absurd (none_some _ (sym is))

reading_line : (end : ReadEnd) (e : Ended) → end_of end ≡ Some e → last_line e ≡ reading_error end
unfolding digits
reading_line reads.Whole e is = absurd (none_some e is)
reading_line (reads.BadLine number) e is = ap last_line (sym (some_is (ended.BadLine number) e is))
reading_line reads.RequestsOver e is = ap last_line (sym (some_is ended.RequestsOver e is))
reading_line reads.ClientsOver e is = ap last_line (sym (some_is ended.ClientsOver e is))
reading_line reads.LineOver e is = ap last_line (sym (some_is ended.LineOver e is))
reading_line reads.InputOver e is = ap last_line (sym (some_is ended.InputOver e is))
reading_line reads.Fault e is = ap last_line (sym (some_is ended.ReadFault e is))

reading_ends : (end : ReadEnd) (e : Ended) → end_of end ≡ Some e → ended_status e ≡ reading_status end
reading_ends reads.Whole e is = absurd (none_some e is)
reading_ends (reads.BadLine number) e is = ap ended_status (sym (some_is (ended.BadLine number) e is))
reading_ends reads.RequestsOver e is = ap ended_status (sym (some_is ended.RequestsOver e is))
reading_ends reads.ClientsOver e is = ap ended_status (sym (some_is ended.ClientsOver e is))
reading_ends reads.LineOver e is = ap ended_status (sym (some_is ended.LineOver e is))
reading_ends reads.InputOver e is = ap ended_status (sym (some_is ended.InputOver e is))
reading_ends reads.Fault e is = ap ended_status (sym (some_is ended.ReadFault e is))

-- ---- the clause

-- what was read of a reading that was not whole
read_as : (options : RunOptions) (before : Before) (after : After) (opened last : Core) (text : List ℕ) (end : ReadEnd) (e : Ended) → end_of end ≡ Some e → Unmade before after opened last text end →
    Read options before after opened last text end
read_as options before after opened last text reads.Whole e is u = absurd (none_some e is)
read_as options before after opened last text (reads.BadLine number) e is u = u
read_as options before after opened last text reads.RequestsOver e is u = u
read_as options before after opened last text reads.ClientsOver e is u = u
read_as options before after opened last text reads.LineOver e is u = u
read_as options before after opened last text reads.InputOver e is u = u
read_as options before after opened last text reads.Fault e is u = u

-- a core that stays goes on
pub goes_still : (core : Core) → GoesFor Nobody core core
goes_still core = record {
  grown = ([], sym (append-nil core.history));
  faults = omega arith;
  moment = omega arith;
  keeps = record {
    configured = λ config is. is;
    unused = λ number kept is. is;
    uploaded = λ number bytes is. is;
    shown = λ number bytes is. is;
    staged = λ number delta facts is. is;
    given_up = λ number is. is;
  };
  planned = λ until number bytes is. is;
}

-- what was said up to an end is a front of all
front_of_says : (said : Said) (text : List ℕ) (end : Ended) → SaysUpTo said text end → IsPrefixOf text (said_text said)
front_of_says said text ended.Done u = ([], sym u.1 ∙ sym (append-nil text))
front_of_says said text ended.BadWords u = absurd u
front_of_says said text (ended.BadLine number) u = absurd u
front_of_says said text ended.ClientsOver u = absurd u
front_of_says said text ended.LineOver u = absurd u
front_of_says said text ended.InputOver u = absurd u
front_of_says said text ended.RequestsOver u = absurd u
front_of_says said text ended.ConfigOver u = absurd u
front_of_says said text (ended.NotOpened error) u = absurd u
front_of_says said text (ended.NotMade error) u = absurd u
front_of_says said text ended.ReadFault u = absurd u
front_of_says said text ended.WriteFault u = u
front_of_says said text ended.Memory u = u

module _ (asked : Asked) (history : List Entry) (before : Before) (after : After) (fresh : Node) (last : Core) (is : IsFresh before history fresh) (is_log : IsLog before.log)
    (store_count : last.store_faults ≡ after.store_faults) (world : IsWorld after.kept last before.log) (text : List ℕ) (written : after.written ≡ before.written ++ text) where
  abbrev options : RunOptions
  options = options_of asked

  shown : IsShown after last
  shown = record { store_count = store_count; stands = world.stands_for }

  begins_grown : (core : Core) → Grows fresh.core core → IsPrefixOf history core.history
  begins_grown core g = subst (λ h. IsPrefixOf h core.history) (ap (λ n. n.core.history) is.is) g

  opened_grown : (Came : Core → Type 0) → Opened fresh last Came → IsPrefixOf history last.history
  opened_grown Came o = begins_grown last (grows_on fresh.core o.node.core last (opens_moves fresh (Ok tt) o.node o.opens).later.grows o.goes_on.grown)

  unopened_grown : (why : Unread) → Opens fresh (Err why) (record fresh { core = last }) → IsPrefixOf history last.history
  unopened_grown why o = begins_grown last (opens_moves fresh (Err why) (record fresh { core = last }) o).later.grows

  did_grown : (end : End) → Did options before after fresh last text end → IsPrefixOf history last.history
  did_grown (by_reading end) did = opened_grown (λ opened. Read options before after opened last text end) did
  did_grown no_index did = unopened_grown calls.no_index did.0
  did_grown (opening_failed low high) did = unopened_grown (not_read (faulted (store_fault low high))) did.0
  did_grown write_failed did = opened_grown (λ opened. SaidSome options before after opened last text) did.0
  did_grown out_of_memory (inl none) = begins_grown last ([], ap (λ (c : Core). c.history) none.0 ∙ sym (append-nil fresh.core.history))
  did_grown out_of_memory (inr (inl unread)) = unopened_grown (not_read no_memory) unread.0
  did_grown out_of_memory (inr (inr opened)) = opened_grown (λ opened. (text ≡ []) ⊎ SaidSome options before after opened last text) opened

  runs_with : (status : ℕ) (end : End) → status ≡ status_of end → Did options before after fresh last text end → Runs asked history before after status
  runs_with status end status_is did = record {
    end = end;
    status_is = status_is;
    text = text;
    written = written;
    exit = journal_of last;
    index = world.index;
    goes_on = on;
    once = holds_once after.kept (journal_of last) before.log is_log world.index;
    always = λ revision. covers_at revision (journal_of last) before.log is_log world.index.stands.legal;
    left = are_left after.kept (journal_of last) before.log world.index;
    configured = configured_on history (journal_of last) on world.index.stands.legal;
    fresh = fresh;
    is_fresh = is;
    last = last;
    shown = shown;
    exit_is = refl;
    did = did;
    exact = λ calm some requests read live reads.
        subst (λ s. (s ≡ reading_status read) ⊎ (s ≡ 11)) (sym status_is) (exact_run asked history before after fresh last is shown calm end text did some requests read live reads);
  }
    where
      on : IsPrefixOf history (journal_of last)
      on = prefix_on history last.history (journal_of last) (did_grown end did) (unread_front last.history last.standing)

  -- ---- by what was met

  -- nothing was done for want of memory
  pub runs_unread : (status : ℕ) → status ≡ 11 → last ≡ fresh.core → text ≡ [] → Runs asked history before after status
  runs_unread status short still none = runs_with status out_of_memory short (inl (still, none))

  module _ (opened : Node) (opens : Opens fresh (Ok tt) opened) (counted : fresh.core.store_faults ≤ opened.core.store_faults) (goes_on : GoesFor Nobody opened.core last) where
    opened_on : (Came : Core → Type 0) → Came opened.core → Opened fresh last Came
    opened_on Came came = record { node = opened; opens = opens; counted = counted; goes_on = goes_on; came = came }

    -- there was no memory, and nothing was written
    pub runs_short : (status : ℕ) → status ≡ 11 → text ≡ [] → Runs asked history before after status
    runs_short status short none = runs_with status out_of_memory short (inr (inr (opened_on (λ opened. (text ≡ []) ⊎ SaidSome options before after opened last text) (inl none))))

    -- a run was made
    module _ (requests : List Request) (read : HasRead before.input after.left requests reads.Whole) where
      abbrev pub Holds : Said → Type 0
      Holds said = (config : IndexConfig) × IsConfigured config opened.core × RunSays config before.log opened.core last options before.log_faults after.log_faults requests said

      ran_as : (said : Said) → Holds said → Ran options before after opened.core last said
      ran_as said h = record { config = h.0; configured = h.1; requests = requests; read = read; says = h.2 }

      some_as : (said : Said) (end : Ended) → Holds said → SaysUpTo said text end → SaidSome options before after opened.core last text
      some_as said end h u = record { said = said; ran = ran_as said h; front = front_of_says said text end u }

      short_as : (said : Said) (end : Ended) (status : ℕ) → Holds said → SaysUpTo said text end → status ≡ 11 → Runs asked history before after status
      short_as said end status h u short =
          runs_with status out_of_memory short (inr (inr (opened_on (λ opened. (text ≡ []) ⊎ SaidSome options before after opened last text) (inr (some_as said end h u)))))

      said_ends : (said : Said) (end : Ended) (status : ℕ) → Holds said → SaysUpTo said text end → (end ≡ ended.WriteFault → Rose before.write_faults after.write_faults) → status ≡ ended_status end →
          Runs asked history before after status
      said_ends said ended.Done status h u rose is =
          runs_with status (by_reading reads.Whole) is
          (opened_on (λ opened. Read options before after opened last text reads.Whole) (record { said = said; ran = ran_as said h; told = u.0; text_is = u.1 }))
      said_ends said ended.BadWords status h u rose is = absurd u
      said_ends said (ended.BadLine number) status h u rose is = absurd u
      said_ends said ended.ClientsOver status h u rose is = absurd u
      said_ends said ended.LineOver status h u rose is = absurd u
      said_ends said ended.InputOver status h u rose is = absurd u
      said_ends said ended.RequestsOver status h u rose is = absurd u
      said_ends said ended.ConfigOver status h u rose is = absurd u
      said_ends said (ended.NotOpened error) status h u rose is = absurd u
      said_ends said (ended.NotMade error) status h u rose is = absurd u
      said_ends said ended.ReadFault status h u rose is = absurd u
      said_ends said ended.WriteFault status h u rose is =
          runs_with status write_failed is (opened_on (λ opened. SaidSome options before after opened last text) (some_as said ended.WriteFault h u), rose refl)
      said_ends said ended.Memory status h u rose is = short_as said ended.Memory status h u is

      pub runs_ran : (end : Ended) (status : ℕ) → SaysSome Holds text end → (end ≡ ended.WriteFault → Rose before.write_faults after.write_faults) → (status ≡ ended_status end) ⊎ (status ≡ 11) →
          Runs asked history before after status
      runs_ran end status (inl none) rose (inl is) = runs_short status (is ∙ ap ended_status none.0) none.1
      runs_ran end status (inl none) rose (inr short) = runs_short status short none.1
      runs_ran end status (inr said) rose (inl is) = said_ends said.0 end status said.1 said.2 rose is
      runs_ran end status (inr said) rose (inr short) = short_as said.0 end status said.1 said.2 short

    -- the reading was not whole
    module _ (end : ReadEnd) (e : Ended) (ends : end_of end ≡ Some e) (requests : List Request) (read : HasRead before.input after.left requests end)
        (failed : IsFault end → Rose before.read_faults after.read_faults) (still : last ≡ opened.core) where
      pub runs_failed : (status : ℕ) → ((status ≡ ended_status e) × WroteLine before.write_faults after.write_faults (last_line e) text) ⊎ ((status ≡ 11) × (text ≡ [])) → Runs asked history before after status
      runs_failed status (inr short) = runs_short status short.0 short.1
      runs_failed status (inl wrote) =
          runs_with status (by_reading end) (wrote.0 ∙ reading_ends end e ends)
          (opened_on (λ opened. Read options before after opened last text end)
          (read_as options before after opened.core last text end e ends
          (record {
            requests = requests;
            read = read;
            failed = failed;
            still = still;
            line = subst (λ line. WroteLine before.write_faults after.write_faults line text) (reading_line end e ends) wrote.1;
          })))

  -- no index was opened
  module _ (why : Unread) (opens : Opens fresh (Err why) (record fresh { core = last })) where
    unopened_short : (status : ℕ) → status ≡ 11 → text ≡ [] → Runs asked history before after status
    unopened_short status short none =
        runs_with status out_of_memory short
        (inr (inl (opens_short fresh (record fresh { core = last }) why (new_moment history before fresh is) (new_sure history before fresh is) (new_unmarked history before fresh is) (new_undoomed history before fresh is) opens, none)))

    unopened_ends : (error : WorldError) → IsUnread error why → (status : ℕ) → status ≡ ended_status (ended.NotOpened error) → WroteLine before.write_faults after.write_faults (last_line (ended.NotOpened error)) text →
        Runs asked history before after status
    unopened_ends (errors.Memory refused) u status is line = unopened_short status is (silent_short (ended.NotOpened (errors.Memory refused)) before.write_faults after.write_faults text refl line)
    unopened_ends (errors.Refused refusal) u status is line = absurd u
    unopened_ends (errors.StoreFault low high) u status is line =
        runs_with status (opening_failed low high) is
        (subst (λ w. Opens fresh (Err w) (record fresh { core = last })) u opens, subst (λ l. WroteLine before.write_faults after.write_faults l text) (fault_line low high) line)
    unopened_ends (errors.Missing key) u status is line = absurd u
    unopened_ends (errors.Corrupt key) u status is line = absurd u
    unopened_ends (errors.Foreign key) u status is line = absurd u
    unopened_ends errors.Full u status is line = absurd u
    unopened_ends (errors.Expired planned_at reached) u status is line = absurd u
    unopened_ends errors.NoIndex u status is line =
        runs_with status no_index is (subst (λ w. Opens fresh (Err w) (record fresh { core = last })) u opens, subst (λ l. WroteLine before.write_faults after.write_faults l text) none_line line)
    unopened_ends errors.IndexExists u status is line = absurd u
    unopened_ends (errors.BadConfig bad) u status is line = absurd u

    pub runs_unopened : (error : WorldError) → IsUnread error why → (status : ℕ) →
        ((status ≡ ended_status (ended.NotOpened error)) × WroteLine before.write_faults after.write_faults (last_line (ended.NotOpened error)) text) ⊎ ((status ≡ 11) × (text ≡ [])) →
        Runs asked history before after status
    runs_unopened error u status (inl wrote) = unopened_ends error u status wrote.0 wrote.1
    runs_unopened error u status (inr short) = unopened_short status short.0 short.1

-- ---- the objects behind the call tell it

-- want of memory has no line
pub memory_silent : (before after status : ℕ) (text : List ℕ) → ((status ≡ 11) × WroteLine before after (last_line ended.Memory) text) ⊎ ((status ≡ 11) × (text ≡ [])) → (status ≡ 11) × (text ≡ [])
memory_silent before after status text (inl w) = (w.0, silent_short ended.Memory before after text refl w.1)
memory_silent before after status text (inr short) = short

pub all_each : {X : Type 0} (P : X → Type 0) (xs : List X) → All P xs → AllByRecursion P xs
all_each P [] h = tt
all_each P (x ∷ xs) h = (h zero x (omega arith), all_each P xs (λ k d lt. h (suc k) d (omega (arith, lt))))

module _ {S L R W : Type 0} (told : S → Option State) (count : S → ℕ) (log_count : L → ℕ) (since : L → L → Type 0) (left : R → Option (List ℕ)) (read_count : R → ℕ) (taken : W → Option (List ℕ)) (write_count : W → ℕ) where
  abbrev pub after_of : (kept : State) (store_faults : ℕ) (lasts : List L) (input : R) (written : List ℕ) (output : W) → After
  after_of kept store_faults lasts input written output = record {
    kept = kept;
    store_faults = store_faults;
    log_faults = map log_count lasts;
    left = left input;
    read_faults = read_count input;
    written = written;
    write_faults = write_count output;
  }

  pub run_returned : (Holds : After → Type 0) (store : S) (store_faults log_faults : ℕ) (logs lasts : List L) (input : R) (output : W) (kept : State) (written : List ℕ) →
      told store ≡ Some kept → count store ≡ store_faults → AllZip since logs lasts → log_faults ≡ min (sum (map log_count lasts)) last_count → taken output ≡ Some written →
      Holds (after_of kept store_faults lasts input written output) → Returns told count log_count since left read_count taken write_count store store_faults log_faults logs lasts input output Holds
  run_returned Holds store store_faults log_faults logs lasts input output kept written tells counts later sums is holds = (
    after_of kept store_faults lasts input written output,
    record {
      kept = tells;
      store_count = counts;
      reported = refl;
      let_go = record { lasts = lasts; later = later; counts_are = refl; sum_is = sums };
      left_is = refl;
      read_faults = refl;
      written = is;
      write_faults = refl;
    },
    holds,
    record { later = later; counts_are = refl },
  )
