-- What a report did before its last line, and that line, are what its clause says.
use Rattle.std.proofs.Common.{◌≡◌, ◌⊎◌, ℕ, ◌<◌, ◌≤◌, List, [], ◌∷◌, ◌++◌, length, map, sum, refl, sym, ap, ◌∙◌, subst, inl, inr, append_assoc, append-nil, arith}
use Rattle.std.specs.Prelude.{Option, Some, min}
use Rattle.meta_journal.specs.declared.entry.Entry.{Entry}
use Rattle.object_store.specs.Store.{State, HasLanded}
use Rattle.source_log.specs.Log.{IsLog}
use Rattle.index_world.specs.Core.{last_count}
use Rattle.index_world.specs.Index.{IsIndexOf}
use Rattle.index_world.specs.declared.world_error.WorldError.{WorldError}
use Rattle.index_world.specs.declared.world_error.WorldError.TheVariants as errors
use Rattle.index_world.proofs.Journals.{once, one-journal}
use Rattle.node_run.specs.Standing.{GivesLogs}
use Rattle.quick_node.specs.Ending.{EndsSo, ended_status, last_line}
use Rattle.quick_node.specs.Reporting.{IsReport, NotOpened, EndsReport, ReportsUpTo, Reports}
use Rattle.quick_node.specs.Serve.{IsPrefixOf, Before, After, WroteLine, IsCalm, ShowsAfter}
use Rattle.quick_node.specs.declared.error_line.End.{End as Ended}
use Rattle.quick_node.specs.declared.error_line.End.TheVariants as ended
use Rattle.quick_node.specs.declared.reporting.Report.{Report}
use Rattle.quick_node.proofs.CreateClause.{no_rise, line_of, silent}
use Rattle.quick_node.proofs.CreateLeaves.{nothing_landed}
use Rattle.quick_node.proofs.Onces.{holds_once, covers_at, are_left}
use Rattle.quick_node.proofs.Reached.{landed_stand}

-- ---- the last line is written behind what was written

ends_on : (asked : Report) (history : List Entry) (before : Before) (store mid written : ℕ) (exit : List Entry) (said : List ℕ) (end : Ended) → mid ≤ written →
    EndsReport asked history before store mid exit said end → EndsReport asked history before store written exit said end
ends_on asked history before store mid written exit said ended.Done on e = e
ends_on asked history before store mid written exit said ended.BadWords on e = absurd e
ends_on asked history before store mid written exit said (ended.BadLine number) on e = absurd e
ends_on asked history before store mid written exit said ended.ClientsOver on e = absurd e
ends_on asked history before store mid written exit said ended.LineOver on e = absurd e
ends_on asked history before store mid written exit said ended.InputOver on e = absurd e
ends_on asked history before store mid written exit said ended.RequestsOver on e = absurd e
ends_on asked history before store mid written exit said ended.ConfigOver on e = absurd e
ends_on asked history before store mid written exit said (ended.NotOpened error) on e = e
ends_on asked history before store mid written exit said (ended.NotMade error) on e = absurd e
ends_on asked history before store mid written exit said ended.ReadFault on e = absurd e
ends_on asked history before store mid written exit said ended.WriteFault on e = let rose = e.0 in (omega (arith, rose, on), e.1)
ends_on asked history before store mid written exit said ended.Memory on e = e

-- ---- where nothing was late

same_journal : (old new : State) (history exit : List Entry) (before : Before) → new ≡ old → IsIndexOf old history before.log → IsIndexOf new exit before.log → exit ≡ history
same_journal old new history exit before same i j = one-journal once old 0 exit history (subst (λ (s : State). IsIndexOf s exit before.log) same j).stands.journal i.stands.journal

stays : (history exit : List Entry) (before : Before) (new : State) → IsIndexOf before.kept history before.log → IsIndexOf new exit before.log → HasLanded before.kept new → before.kept.late ≡ [] → (new ≡ before.kept) × (exit ≡ history)
stays history exit before new i j lands none =
    let same : new ≡ before.kept = nothing_landed before.kept new none lands in
    (same, same_journal before.kept new history exit before same i j)

-- ---- statuses

some_of_none : (read exit : List Entry) → 0 < length read → IsPrefixOf read exit → exit ≡ [] → ⊥
some_of_none [] exit some p none = absurd (omega (arith, some))
some_of_none (e ∷ es) exit some p none = cc (p.1, none)

none_of_some : (history : List Entry) → 0 < length history → history ≡ [] → ⊥
none_of_some history some none = let e = ap length none in omega (arith, some, e)

module _ (asked : Report) (history : List Entry) (before : Before) (after : After) (exit : List Entry) (said last : List ℕ) (written : after.written ≡ before.written ++ (said ++ last)) where
  abbrev EndsAs : Ended → Type 0
  EndsAs end = EndsReport asked history before after.store_faults after.write_faults exit said end

  abbrev IsSaid : Type 0
  IsSaid = (text : List ℕ) × IsReport asked history exit text × (after.written ≡ before.written ++ text)

  not_opened_0 : (error : WorldError) → 0 ≡ ended_status (ended.NotOpened error) → ⊥
  not_opened_0 (errors.Memory e) z = omega (arith, z)
  not_opened_0 (errors.Refused refusal) z = omega (arith, z)
  not_opened_0 (errors.StoreFault low high) z = omega (arith, z)
  not_opened_0 (errors.Missing key) z = omega (arith, z)
  not_opened_0 (errors.Corrupt key) z = omega (arith, z)
  not_opened_0 (errors.Foreign key) z = omega (arith, z)
  not_opened_0 errors.Full z = omega (arith, z)
  not_opened_0 (errors.Expired planned_at reached) z = omega (arith, z)
  not_opened_0 errors.NoIndex z = omega (arith, z)
  not_opened_0 errors.IndexExists z = omega (arith, z)
  not_opened_0 (errors.BadConfig bad) z = omega (arith, z)

  said_by : (end : Ended) → 0 ≡ ended_status end → WroteLine before.write_faults after.write_faults (last_line end) last → EndsAs end → IsSaid
  said_by ended.Done z line e =
      (said, e, written ∙ ap (λ (t : List ℕ). before.written ++ t) (ap (λ (t : List ℕ). said ++ t) (silent before.write_faults after.write_faults last line) ∙ append-nil said))
  said_by ended.BadWords z line e = absurd e
  said_by (ended.BadLine number) z line e = absurd e
  said_by ended.ClientsOver z line e = absurd e
  said_by ended.LineOver z line e = absurd e
  said_by ended.InputOver z line e = absurd e
  said_by ended.RequestsOver z line e = absurd e
  said_by ended.ConfigOver z line e = absurd e
  said_by (ended.NotOpened error) z line e = absurd (not_opened_0 error z)
  said_by (ended.NotMade error) z line e = absurd e
  said_by ended.ReadFault z line e = absurd e
  said_by ended.WriteFault z line e = absurd (omega (arith, z))
  said_by ended.Memory z line e = absurd (omega (arith, z))

  -- ---- where nothing failed

  module _ (calm : IsCalm before after) where
    unopened_some : (error : WorldError) → NotOpened history before after.store_faults error → 0 < length history → ended_status (ended.NotOpened error) ≡ 11
    unopened_some (errors.Memory e) n some = refl
    unopened_some (errors.Refused refusal) n some = absurd n
    unopened_some (errors.StoreFault low high) n some = absurd (no_rise before.store_faults after.store_faults calm.store n.2)
    unopened_some (errors.Missing key) n some = absurd n
    unopened_some (errors.Corrupt key) n some = absurd n
    unopened_some (errors.Foreign key) n some = absurd n
    unopened_some errors.Full n some = absurd n
    unopened_some (errors.Expired planned_at reached) n some = absurd n
    unopened_some errors.NoIndex n some = absurd (none_of_some history some n)
    unopened_some errors.IndexExists n some = absurd n
    unopened_some (errors.BadConfig bad) n some = absurd n

    unopened_none : (error : WorldError) → NotOpened history before after.store_faults error → (ended_status (ended.NotOpened error) ≡ 8) ⊎ (ended_status (ended.NotOpened error) ≡ 11)
    unopened_none (errors.Memory e) n = inr refl
    unopened_none (errors.Refused refusal) n = absurd n
    unopened_none (errors.StoreFault low high) n = absurd (no_rise before.store_faults after.store_faults calm.store n.2)
    unopened_none (errors.Missing key) n = absurd n
    unopened_none (errors.Corrupt key) n = absurd n
    unopened_none (errors.Foreign key) n = absurd n
    unopened_none errors.Full n = absurd n
    unopened_none (errors.Expired planned_at reached) n = absurd n
    unopened_none errors.NoIndex n = inl refl
    unopened_none errors.IndexExists n = absurd n
    unopened_none (errors.BadConfig bad) n = absurd n

    exact_by : (end : Ended) → EndsAs end → 0 < length history → (ended_status end ≡ 0) ⊎ (ended_status end ≡ 11)
    exact_by ended.Done e some = inl refl
    exact_by ended.BadWords e some = absurd e
    exact_by (ended.BadLine number) e some = absurd e
    exact_by ended.ClientsOver e some = absurd e
    exact_by ended.LineOver e some = absurd e
    exact_by ended.InputOver e some = absurd e
    exact_by ended.RequestsOver e some = absurd e
    exact_by ended.ConfigOver e some = absurd e
    exact_by (ended.NotOpened error) e some = inr (unopened_some error e.0 some)
    exact_by (ended.NotMade error) e some = absurd e
    exact_by ended.ReadFault e some = absurd e
    exact_by ended.WriteFault e some = absurd (no_rise before.write_faults after.write_faults calm.output e.0)
    exact_by ended.Memory e some = inr refl

    empty_by : (end : Ended) → EndsAs end → exit ≡ [] → (ended_status end ≡ 8) ⊎ (ended_status end ≡ 11)
    empty_by ended.Done e none = absurd (some_of_none e.read exit e.some e.up_to none)
    empty_by ended.BadWords e none = absurd e
    empty_by (ended.BadLine number) e none = absurd e
    empty_by ended.ClientsOver e none = absurd e
    empty_by ended.LineOver e none = absurd e
    empty_by ended.InputOver e none = absurd e
    empty_by ended.RequestsOver e none = absurd e
    empty_by ended.ConfigOver e none = absurd e
    empty_by (ended.NotOpened error) e none = unopened_none error e.0
    empty_by (ended.NotMade error) e none = absurd e
    empty_by ended.ReadFault e none = absurd e
    empty_by ended.WriteFault e none = absurd (no_rise before.write_faults after.write_faults calm.output e.0)
    empty_by ended.Memory e none = inr refl

  abbrev LineIs : ℕ → Ended → Type 0
  LineIs status end = ((status ≡ ended_status end) × WroteLine before.write_faults after.write_faults (last_line end) last) ⊎ ((status ≡ 11) × (last ≡ []))

  said_of : (status : ℕ) (end : Ended) → EndsAs end → LineIs status end → status ≡ 0 → IsSaid
  said_of status end e (inl line) z = said_by end (sym z ∙ line.0) line.1 e
  said_of status end e (inr short) z = let eleven = short.0 in absurd (omega (arith, z, eleven))

  or_short : (status s : ℕ) (end : Ended) → LineIs status end → (ended_status end ≡ s) ⊎ (ended_status end ≡ 11) → (status ≡ s) ⊎ (status ≡ 11)
  or_short status s end (inr short) by = inr short.0
  or_short status s end (inl line) (inl is) = inl (line.0 ∙ is)
  or_short status s end (inl line) (inr is) = inr (line.0 ∙ is)

-- ---- the whole

reports_so : (asked : Report) (history : List Entry) (before : Before) (after : After) (told : Option State) (content content' : Option (List ℕ)) (mid status : ℕ) (end : Ended) → IsLog before.log →
    IsIndexOf before.kept history before.log → told ≡ Some after.kept → content' ≡ Some after.written → before.write_faults ≤ mid → mid ≤ after.write_faults →
    ReportsUpTo asked history before told content after.store_faults mid end →
    ((held : List ℕ) → content ≡ Some held → EndsSo end held content' mid after.write_faults status) → Reports asked history before after status
reports_so asked history before after told content content' mid status end is_log first shows shown low high u writes =
    let both_kept : ◌≡◌ {A = Option State} (Some u.kept) (Some after.kept) = sym u.tells ∙ shows in
    let kept : u.kept ≡ after.kept = cc both_kept in
    let index = subst (λ (s : State). IsIndexOf s u.exit before.log) kept u.index in
    let landed : HasLanded before.kept after.kept = subst (HasLanded before.kept) kept u.landed in
    let w = writes (before.written ++ u.said) u.holds in
    let both : ◌≡◌ {A = Option (List ℕ)} (Some after.written) (Some ((before.written ++ u.said) ++ w.text)) = sym shown ∙ w.written in
    let is : after.written ≡ (before.written ++ u.said) ++ w.text = cc both in
    let written : after.written ≡ before.written ++ (u.said ++ w.text) = is ∙ append_assoc before.written u.said w.text in
    let ends = ends_on asked history before after.store_faults mid after.write_faults u.exit u.said end high u.ends in
    let line = line_of before after mid status end w.text low w.wrote in
    record {
      landed = landed;
      exit = u.exit;
      index = index;
      goes_on = u.goes_on;
      same = stays history u.exit before after.kept first index landed;
      once = holds_once after.kept u.exit before.log is_log index;
      always = λ revision. covers_at revision u.exit before.log is_log index.stands.legal;
      along = λ revision le. record {
        files = landed_stand before.kept after.kept history u.exit before.log first index landed revision le;
        covers = covers_at revision u.exit before.log is_log index.stands.legal;
      };
      left = are_left after.kept u.exit before.log index;
      end = end;
      said = u.said;
      ends = ends;
      last = w.text;
      written = written;
      line = line;
      reported = said_of asked history before after u.exit u.said w.text written status end ends line;
      exact = λ calm some. or_short asked history before after u.exit u.said w.text written status 0 end line (exact_by asked history before after u.exit u.said w.text written calm end ends some);
      empty = λ calm none. or_short asked history before after u.exit u.said w.text written status 8 end line (empty_by asked history before after u.exit u.said w.text written calm end ends none);
    }

-- ---- the objects behind the call tell it

module _ {S L R W : Type 0} (told : S → Option State) (count : S → ℕ) (log_count : L → ℕ) (since : L → L → Type 0) (left : R → Option (List ℕ)) (read_count : R → ℕ) (taken : W → Option (List ℕ)) (write_count : W → ℕ) where
  pub reported_after : (asked : Report) (history : List Entry) (before : Before) → IsLog before.log → IsIndexOf before.kept history before.log → (end : Ended) (store : S) (store_faults log_faults status : ℕ) (firsts : List L) (input : R) (mid output : W) →
      ReportsUpTo asked history before (told store) (taken mid) (count store) (write_count mid) end → store_faults ≡ count store → (lasts : List L) → GivesLogs log_count since firsts lasts before.log_faults →
      log_faults ≡ min (sum (map log_count lasts)) last_count → before.write_faults ≤ write_count mid → write_count mid ≤ write_count output →
      ((held : List ℕ) → taken mid ≡ Some held → EndsSo end held (taken output) (write_count mid) (write_count output) status) →
      (after : After) × ShowsAfter told count log_count since left read_count taken write_count store store_faults log_faults firsts input output after × Reports asked history before after status × GivesLogs log_count since firsts lasts after.log_faults
  reported_after asked history before is_log first end store store_faults log_faults status firsts input mid output u counted lasts gives sums low high writes = (
    after,
    record {
      kept = u.tells;
      store_count = refl;
      reported = counted;
      let_go = record { lasts = lasts; later = gives.later; counts_are = gives.counts_are; sum_is = sums };
      left_is = refl;
      read_faults = refl;
      written = w.written;
      write_faults = refl;
    },
    reports_so asked history before after (told store) (taken mid) (taken output) (write_count mid) status end is_log first u.tells w.written low high u writes,
    gives,
  )
    where
      w : EndsSo end (before.written ++ u.said) (taken output) (write_count mid) (write_count output) status
      w = writes (before.written ++ u.said) u.holds

      after : After
      after =
          record {
            kept = u.kept;
            store_faults = count store;
            log_faults = before.log_faults;
            left = left input;
            read_faults = read_count input;
            written = (before.written ++ u.said) ++ w.text;
            write_faults = write_count output;
          }
