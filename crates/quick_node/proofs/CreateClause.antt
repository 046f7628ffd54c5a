-- What the call did before its last line, and that line, are what the clause of `create` says.
use Rattle.std.proofs.Common.{◌≡◌, ◌⊎◌, ℕ, ◌<◌, ◌≤◌, Bool, true, false, List, [], ◌∷◌, ◌++◌, length, map, sum, refl, sym, ap, ◌∙◌, subst, inl, inr, append_assoc, append-nil, arith, IsOk}
use Rattle.std.proofs.lemmas.Bool.Decides.{nat_tests}
use Rattle.std.specs.FinMap.{get}
use Rattle.std.specs.Prelude.{Option, Some, Result, Ok, Err, min, nat_lt, if◌then◌else◌}
use Rattle.byte_fields.specs.Causes.{Rose}
use Rattle.index_config.specs.Answer.{config_answer}
use Rattle.index_config.specs.declared.config.IndexConfig.{IndexConfig}
use Rattle.index_config.specs.declared.config_error.ConfigError.{ConfigError}
use Rattle.meta_journal.specs.declared.entry.Entry.{Entry}
use Rattle.object_store.specs.Store.{State}
use Rattle.source_log.specs.Log.{IsLog}
use Rattle.index_world.specs.Index.{IsIndexOf}
use Rattle.index_world.proofs.StoreKeys.{true_is_false}
use Rattle.index_world.specs.declared.world_error.WorldError.{WorldError}
use Rattle.index_world.specs.declared.world_error.WorldError.TheVariants as errors
use Rattle.index_world.specs.Core.{last_count}
use Rattle.node_run.specs.Standing.{GivesLogs}
use Rattle.quick_node.specs.Creating.{created_line, IsMade, NotMade, EndsCreate, CreatesUpTo, Creates, counts_at, text_status, journal_status, create_status}
use Rattle.quick_node.specs.Ending.{EndsSo, ended_status, last_line}
use Rattle.quick_node.specs.Reading.{max_config}
use Rattle.quick_node.specs.Serve.{IsPrefixOf, Before, After, WroteLine, StoodStill, IsCalm, ShowsAfter}
use Rattle.quick_node.specs.declared.error_line.End.{End as Ended}
use Rattle.quick_node.specs.Once.{AreStanding}
use Rattle.quick_node.proofs.Onces.{holds_once, covers_at, are_left}
use Rattle.quick_node.specs.declared.error_line.End.TheVariants as ended

-- ---- counts

pub no_rise : (before after : ℕ) → StoodStill before after → Rose before after → ⊥
no_rise before after still rose = let same = still.0 in let low = still.1 in omega (arith, same, low, rose)

-- the last line is written behind what was written
ends_on : (history : List Entry) (before : Before) (moment : ℕ) (kept : State) (store read mid written : ℕ) (exit : List Entry) (said : List ℕ) (end : Ended) → mid ≤ written →
    EndsCreate history before moment kept (counts_at store read mid) exit said end → EndsCreate history before moment kept (counts_at store read written) exit said end
ends_on history before moment kept store read mid written exit said ended.Done on e = e
ends_on history before moment kept store read mid written exit said ended.BadWords on e = absurd e
ends_on history before moment kept store read mid written exit said (ended.BadLine number) on e = absurd e
ends_on history before moment kept store read mid written exit said ended.ClientsOver on e = absurd e
ends_on history before moment kept store read mid written exit said ended.LineOver on e = absurd e
ends_on history before moment kept store read mid written exit said ended.InputOver on e = absurd e
ends_on history before moment kept store read mid written exit said ended.RequestsOver on e = absurd e
ends_on history before moment kept store read mid written exit said ended.ConfigOver on e = e
ends_on history before moment kept store read mid written exit said (ended.NotOpened error) on e = absurd e
ends_on history before moment kept store read mid written exit said (ended.NotMade error) on e = e
ends_on history before moment kept store read mid written exit said ended.ReadFault on e = e
ends_on history before moment kept store read mid written exit said ended.WriteFault on e = let rose = e.2 in (e.0, e.1, omega (arith, rose, on), e.3)
ends_on history before moment kept store read mid written exit said ended.Memory on e = e

line_on : (low mid written : ℕ) (line text : List ℕ) → low ≤ mid → WroteLine mid written line text → WroteLine low written line text
line_on low mid written line text on (inl is) = inl is
line_on low mid written line text on (inr front) = let rose = front.0 in inr (omega (arith, rose, on), front.1)

-- ---- status 0

front_of_none : (text : List ℕ) → IsPrefixOf text [] → text ≡ []
front_of_none [] p = refl
front_of_none (c ∷ text) p = cc p.1

pub silent : (low written : ℕ) (text : List ℕ) → WroteLine low written [] text → text ≡ []
silent low written text (inl is) = is
silent low written text (inr front) = front_of_none text front.1

module _ (history : List Entry) (before : Before) (moment : ℕ) (after : After) (exit : List Entry) (said last : List ℕ) (written : after.written ≡ before.written ++ (said ++ last)) where
  made_line : WroteLine before.write_faults after.write_faults [] last → said ≡ created_line → after.written ≡ before.written ++ created_line
  made_line line says =
      written ∙ ap (λ (t : List ℕ). before.written ++ t) (ap (λ (t : List ℕ). said ++ t) (silent before.write_faults after.write_faults last line) ∙ append-nil said ∙ says)

  abbrev EndsAs : Ended → Type 0
  EndsAs end = EndsCreate history before moment after.kept (counts_at after.store_faults after.read_faults after.write_faults) exit said end

  not_made_0 : (error : WorldError) → 0 ≡ ended_status (ended.NotMade error) → ⊥
  not_made_0 (errors.Memory e) z = omega (arith, z)
  not_made_0 (errors.Refused refusal) z = omega (arith, z)
  not_made_0 (errors.StoreFault low high) z = omega (arith, z)
  not_made_0 (errors.Missing key) z = omega (arith, z)
  not_made_0 (errors.Corrupt key) z = omega (arith, z)
  not_made_0 (errors.Foreign key) z = omega (arith, z)
  not_made_0 errors.Full z = omega (arith, z)
  not_made_0 (errors.Expired planned_at reached) z = omega (arith, z)
  not_made_0 errors.NoIndex z = omega (arith, z)
  not_made_0 errors.IndexExists z = omega (arith, z)
  not_made_0 (errors.BadConfig bad) z = omega (arith, z)

  made_by : (end : Ended) → 0 ≡ ended_status end → WroteLine before.write_faults after.write_faults (last_line end) last → EndsAs end → IsMade history before.input moment exit × (after.written ≡ before.written ++ created_line)
  made_by ended.Done z line e = (e.1, made_line line e.2)
  made_by ended.BadWords z line e = absurd e
  made_by (ended.BadLine number) z line e = absurd e
  made_by ended.ClientsOver z line e = absurd e
  made_by ended.LineOver z line e = absurd e
  made_by ended.InputOver z line e = absurd e
  made_by ended.RequestsOver z line e = absurd e
  made_by ended.ConfigOver z line e = absurd (omega (arith, z))
  made_by (ended.NotOpened error) z line e = absurd e
  made_by (ended.NotMade error) z line e = absurd (not_made_0 error z)
  made_by ended.ReadFault z line e = absurd (omega (arith, z))
  made_by ended.WriteFault z line e = absurd (omega (arith, z))
  made_by ended.Memory z line e = absurd (omega (arith, z))

  -- ---- where nothing failed

  short_status : length before.input ≤ max_config → create_status history before.input ≡ journal_status history before.input
  short_status short = by (nat_lt max_config (length before.input)) (grind (short, arith, nat_tests))
    where
      by : (b : Bool) → b ≡ false → (if b then 10 else journal_status history before.input) ≡ journal_status history before.input
      by true e = absurd (true_is_false e)
      by false e = refl

  long_status : max_config < length before.input → create_status history before.input ≡ 10
  long_status long = by (nat_lt max_config (length before.input)) (grind (long, arith, nat_tests))
    where
      by : (b : Bool) → b ≡ true → (if b then 10 else journal_status history before.input) ≡ 10
      by true e = refl
      by false e = absurd (true_is_false (sym e))

  empty_status : history ≡ [] → journal_status history before.input ≡ text_status (config_answer before.input)
  empty_status none = ap (λ (es : List Entry). journal_status es before.input) none

  some_status : (es : List Entry) → 0 < length es → journal_status es before.input ≡ 9
  some_status [] some = absurd (omega (arith, some))
  some_status (e ∷ es) some = refl

  ok_status : (r : Result IndexConfig ConfigError) → IsOk r → text_status r ≡ 0
  ok_status (Ok config) h = refl
  ok_status (Err error) h = absurd (true_is_false (sym h))

  module _ (calm : IsCalm before after) (none : before.kept.late ≡ []) where
    unmade_status : (error : WorldError) → length before.input ≤ max_config → NotMade history before after.kept after.store_faults exit error →
        (ended_status (ended.NotMade error) ≡ create_status history before.input) ⊎ (ended_status (ended.NotMade error) ≡ 11)
    unmade_status (errors.Memory e) short n = inr refl
    unmade_status (errors.Refused refusal) short n = absurd n
    unmade_status (errors.StoreFault low high) short n = absurd (no_rise before.store_faults after.store_faults calm.store n.2)
    unmade_status (errors.Missing key) short n = absurd n
    unmade_status (errors.Corrupt key) short n = absurd n
    unmade_status (errors.Foreign key) short n = absurd n
    unmade_status errors.Full short n = absurd n
    unmade_status (errors.Expired planned_at reached) short n = absurd n
    unmade_status errors.NoIndex short n = absurd n
    unmade_status errors.IndexExists short n = inl (sym (short_status short ∙ some_status history (n.1 none)))
    unmade_status (errors.BadConfig bad) short n = inl (sym (short_status short ∙ empty_status n.0 ∙ ap text_status n.1))

    exact_by : (end : Ended) → EndsAs end → (ended_status end ≡ create_status history before.input) ⊎ (ended_status end ≡ 11)
    exact_by ended.Done e = inl (sym (short_status e.0 ∙ empty_status e.1.vacant ∙ ok_status (config_answer before.input) e.1.config))
    exact_by ended.BadWords e = absurd e
    exact_by (ended.BadLine number) e = absurd e
    exact_by ended.ClientsOver e = absurd e
    exact_by ended.LineOver e = absurd e
    exact_by ended.InputOver e = absurd e
    exact_by ended.RequestsOver e = absurd e
    exact_by ended.ConfigOver e = inl (sym (long_status e.0))
    exact_by (ended.NotOpened error) e = absurd e
    exact_by (ended.NotMade error) e = unmade_status error e.0 e.1
    exact_by ended.ReadFault e = absurd (no_rise before.read_faults after.read_faults calm.input e.0)
    exact_by ended.WriteFault e = absurd (no_rise before.write_faults after.write_faults calm.output e.2)
    exact_by ended.Memory e = inr refl

  abbrev LineIs : ℕ → Ended → Type 0
  LineIs status end = ((status ≡ ended_status end) × WroteLine before.write_faults after.write_faults (last_line end) last) ⊎ ((status ≡ 11) × (last ≡ []))

  made_of : (status : ℕ) (end : Ended) → EndsAs end → LineIs status end → status ≡ 0 → IsMade history before.input moment exit × (after.written ≡ before.written ++ created_line)
  made_of status end e (inl line) z = made_by end (sym z ∙ line.0) line.1 e
  made_of status end e (inr short) z = let eleven = short.0 in absurd (omega (arith, z, eleven))

  exact_of : (status : ℕ) (end : Ended) → EndsAs end → LineIs status end → IsCalm before after → before.kept.late ≡ [] → (status ≡ create_status history before.input) ⊎ (status ≡ 11)
  exact_of status end e (inr short) calm none = inr short.0
  exact_of status end e (inl line) calm none = by (exact_by calm none end e)
    where
      by : (ended_status end ≡ create_status history before.input) ⊎ (ended_status end ≡ 11) → (status ≡ create_status history before.input) ⊎ (status ≡ 11)
      by (inl is) = inl (line.0 ∙ is)
      by (inr is) = inr (line.0 ∙ is)

-- ---- the whole

pub line_of : (before : Before) (after : After) (mid status : ℕ) (end : Ended) (text : List ℕ) → before.write_faults ≤ mid → ((status ≡ ended_status end) × WroteLine mid after.write_faults (last_line end) text) ⊎ ((status ≡ 11) × (text ≡ [])) →
    ((status ≡ ended_status end) × WroteLine before.write_faults after.write_faults (last_line end) text) ⊎ ((status ≡ 11) × (text ≡ []))
line_of before after mid status end text on (inl line) = inl (line.0, line_on before.write_faults mid after.write_faults (last_line end) text on line.1)
line_of before after mid status end text on (inr short) = inr short

pub creates_so : (history : List Entry) (before : Before) (moment : ℕ) (after : After) (told : Option State) (content content' : Option (List ℕ)) (mid status : ℕ) (end : Ended) → IsLog before.log → told ≡ Some after.kept → content' ≡ Some after.written →
    before.write_faults ≤ mid → mid ≤ after.write_faults → CreatesUpTo history before moment told content (counts_at after.store_faults after.read_faults mid) end →
    ((held : List ℕ) → content ≡ Some held → EndsSo end held content' mid after.write_faults status) → Creates history before moment after status
creates_so history before moment after told content content' mid status end is_log shows shown low high u writes =
    let same : ◌≡◌ {A = Option State} (Some u.kept) (Some after.kept) = sym u.tells ∙ shows in
    let kept : u.kept ≡ after.kept = cc same in
    let index = subst (λ (s : State). IsIndexOf s u.exit before.log) kept u.index in
    let w = writes (before.written ++ u.said) u.written in
    let both : ◌≡◌ {A = Option (List ℕ)} (Some after.written) (Some ((before.written ++ u.said) ++ w.text)) = sym shown ∙ w.written in
    let is : after.written ≡ (before.written ++ u.said) ++ w.text = cc both in
    let written : after.written ≡ before.written ++ (u.said ++ w.text) = is ∙ append_assoc before.written u.said w.text in
    let ends = ends_on history before moment after.kept after.store_faults after.read_faults mid after.write_faults u.exit u.said end high
    (subst (λ (s : State). EndsCreate history before moment s (counts_at after.store_faults after.read_faults mid) u.exit u.said end) kept u.ends) in
    let line = line_of before after mid status end w.text low w.wrote in
    record {
      exit = u.exit;
      index = index;
      goes_on = u.goes_on;
      once = holds_once after.kept u.exit before.log is_log index;
      always = λ revision. covers_at revision u.exit before.log is_log index.stands.legal;
      along = λ revision le. record {
        files = subst (λ (s : State). AreStanding (get s.objects) revision u.exit before.log) kept (u.along revision le);
        covers = covers_at revision u.exit before.log is_log index.stands.legal;
      };
      left = are_left after.kept u.exit before.log index;
      end = end;
      said = u.said;
      ends = ends;
      last = w.text;
      written = written;
      line = line;
      made = made_of history before moment after u.exit u.said w.text written status end ends line;
      exact = exact_of history before moment after u.exit u.said w.text written status end ends line;
    }

-- ---- the objects behind the call tell it

module _ {S L R W : Type 0} (told : S → Option State) (count : S → ℕ) (log_count : L → ℕ) (since : L → L → Type 0) (left : R → Option (List ℕ)) (read_count : R → ℕ) (taken : W → Option (List ℕ)) (write_count : W → ℕ) where
  pub created_after : (history : List Entry) (before : Before) (moment : ℕ) → IsLog before.log → (end : Ended) (store : S) (store_faults log_faults status : ℕ) (firsts : List L) (input : R) (mid output : W) →
      CreatesUpTo history before moment (told store) (taken mid) (counts_at (count store) (read_count input) (write_count mid)) end → store_faults ≡ count store → (lasts : List L) → GivesLogs log_count since firsts lasts before.log_faults →
      log_faults ≡ min (sum (map log_count lasts)) last_count → before.write_faults ≤ write_count mid → write_count mid ≤ write_count output →
      ((held : List ℕ) → taken mid ≡ Some held → EndsSo end held (taken output) (write_count mid) (write_count output) status) →
      (after : After) × ShowsAfter told count log_count since left read_count taken write_count store store_faults log_faults firsts input output after × Creates history before moment after status × GivesLogs log_count since firsts lasts after.log_faults
  created_after history before moment is_log end store store_faults log_faults status firsts input mid output u counted lasts gives sums low high writes = (
    after,
    record {
      kept = u.tells;
      store_count = refl;
      reported = counted;
      let_go = record { lasts = lasts; later = gives.later; counts_are = gives.counts_are; sum_is = sums };
      left_is = refl;
      read_faults = refl;
      written = w.written;
      write_faults = refl;
    },
    creates_so history before moment after (told store) (taken mid) (taken output) (write_count mid) status end is_log u.tells w.written low high u writes,
    gives,
  )
    where
      w : EndsSo end (before.written ++ u.said) (taken output) (write_count mid) (write_count output) status
      w = writes (before.written ++ u.said) u.written

      after : After
      after =
          record {
            kept = u.kept;
            store_faults = count store;
            log_faults = before.log_faults;
            left = left input;
            read_faults = read_count input;
            written = (before.written ++ u.said) ++ w.text;
            write_faults = write_count output;
          }
