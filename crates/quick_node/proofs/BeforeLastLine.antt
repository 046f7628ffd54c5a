-- What a call did before its last line.
use Rattle.std.proofs.Common.{◌≡◌, ◌⊎◌, ℕ, ◌+◌, ◌≤◌, false, List, [], ◌∷◌, ◌++◌, length, refl, sym, ap, ◌∙◌, subst, inl, inr, append-nil}
use Rattle.std.specs.Fmt.{digits}
use Rattle.std.specs.List.{AllByRecursion}
use Rattle.std.specs.Prelude.{Option, Some, Ok, Err, codes, decimal, if◌then◌else◌}
use Rattle.meta_store.specs.History.{history, moment_of}
use Rattle.index_world.specs.Calls.{no_memory, store_fault, faulted, Unread, not_read}
use Rattle.index_world.specs.Calls as calls
use Rattle.index_world.specs.Loading.{IsUnread}
use Rattle.index_world.specs.declared.world_error.WorldError.{WorldError}
use Rattle.index_world.specs.declared.world_error.WorldError.TheVariants as errors
use Rattle.node_run.specs.Lines.{printed}
use Rattle.node_run.specs.Node.{Node, Line, Outcome}
use Rattle.node_run.specs.Telling.{MayTell}
use Rattle.node_run.specs.Turns.{Turns}
use Rattle.index_world.specs.Saying.{words}
use Rattle.quick_node.specs.Ending.{ended_status, is_silent, cause_words, last_line, EndsSo}
use Rattle.input_lines.specs.Reading.{raw_lines}
use Rattle.quick_node.specs.Reading.{Ending, stopped, ReadsFrom, Reads}
use Rattle.quick_node.specs.Running.{Counts, IsRunEnd, HasRunEnd, HasRun, HasWritten, Runs}
use Rattle.quick_node.specs.Serve.{CutShort, WroteMost, Before, After, End, by_reading, no_index, opening_failed, read_failed, write_failed, out_of_memory, status_of, error_line, error_of, WroteLine, Wrote, HasEnd, Opens, Answers, Unopened, Lives, BeginsAlong, Along}
use Rattle.quick_node.specs.declared.error_line.End.{End as Ended}
use Rattle.quick_node.specs.declared.error_line.End.TheVariants as ended
use Rattle.quick_node.proofs.DriveRun.{run_ends, run_lives}
use Rattle.quick_node.proofs.Short.{opens_short}

-- So much was written, and this node is left, and this of the input. The counts of reading and of writing stand so.
pub record Met (before : Before) (fresh : Node) (e : Ended) (left : Option (List ℕ)) (read write : ℕ) (text : List ℕ) (last : Node) : Type 0 where
  pub end : End
  pub lines : List Line
  pub outcomes : List Outcome
  pub status_is : ended_status e ≡ status_of end
  pub ends : (after : After) → after.left ≡ left → read ≤ after.read_faults → write ≤ after.write_faults → HasEnd before after lines end
  pub wrote : (low high : ℕ) (piece : List ℕ) → WroteLine low high (last_line e) piece → Wrote low high end outcomes (text ++ piece)
  pub lives : Lives before end fresh lines outcomes last
  pub along : Along fresh lines outcomes last
  pub tell : AllByRecursion MayTell outcomes
  pub printed_all : (text ≡ printed outcomes) ⊎ Answers fresh lines outcomes last
  -- and the same where there is no memory for the last line
  pub reads : Reads (length before.log_faults) before.input lines stopped
  pub front : WroteMost outcomes text
  pub short : Lives before out_of_memory fresh lines outcomes last

-- ---- readings that stopped

stop_from : (readers total at : ℕ) (before : List Line) (raws : List (List ℕ)) (lines : List Line) (ending : Ending) →
    ReadsFrom readers total at before raws lines ending → ReadsFrom readers total at before raws lines stopped
stop_from readers total at before [] [] ending r = inr refl
stop_from readers total at before [] (line ∷ lines) ending r = absurd r
stop_from readers total at before (raw ∷ raws) [] ending r = tt
stop_from readers total at before (raw ∷ raws) (line ∷ lines) ending r =
    (r.0, r.1, r.2, stop_from readers total (at + length raw + 1) (before ++ line ∷ []) raws lines ending r.3)

none_from : (readers total at : ℕ) (before : List Line) (raws : List (List ℕ)) → ReadsFrom readers total at before raws [] stopped
none_from readers total at before [] = inr refl
none_from readers total at before (raw ∷ raws) = tt

run_stops : (readers : ℕ) (input : List ℕ) (left : Option (List ℕ)) (counts : Counts) (lines : List Line) (end : End) → HasRunEnd readers input left counts lines end → Reads readers input lines stopped
run_stops readers input left counts lines (by_reading ending) e = stop_from readers (length input) 0 [] (raw_lines input) lines ending e.1
run_stops readers input left counts lines no_index e = absurd e
run_stops readers input left counts lines (opening_failed low high) e = absurd e
run_stops readers input left counts lines read_failed e = e.0
run_stops readers input left counts lines write_failed e = e.0
run_stops readers input left counts lines out_of_memory e = e

-- ---- a run

run_status : (e : Ended) (end : End) → IsRunEnd e end → ended_status e ≡ status_of end
run_status ended.Done end is = sym (ap status_of is)
run_status ended.BadWords end is = absurd is
run_status (ended.BadLine number) end is = sym (ap status_of is)
run_status ended.ClientsOver end is = sym (ap status_of is)
run_status ended.LineOver end is = sym (ap status_of is)
run_status ended.InputOver end is = sym (ap status_of is)
run_status ended.RequestsOver end is = absurd is
run_status ended.ConfigOver end is = absurd is
run_status (ended.NotOpened error) end is = absurd is
run_status (ended.NotMade error) end is = absurd is
run_status ended.ReadFault end is = sym (ap status_of is)
run_status ended.WriteFault end is = sym (ap status_of is)
run_status ended.Memory end is = sym (ap status_of is)

run_line : (e : Ended) (end : End) → IsRunEnd e end → last_line e ≡ error_of end
unfolding digits
run_line ended.Done end is = sym (ap error_of is)
run_line ended.BadWords end is = absurd is
run_line (ended.BadLine number) end is = sym (ap error_of is)
run_line ended.ClientsOver end is = sym (ap error_of is)
run_line ended.LineOver end is = sym (ap error_of is)
run_line ended.InputOver end is = sym (ap error_of is)
run_line ended.RequestsOver end is = absurd is
run_line ended.ConfigOver end is = absurd is
run_line (ended.NotOpened error) end is = absurd is
run_line (ended.NotMade error) end is = absurd is
run_line ended.ReadFault end is = sym (ap error_of is)
run_line ended.WriteFault end is = sym (ap error_of is)
run_line ended.Memory end is = sym (ap error_of is)

pub fault_line : (a b : ℕ) → last_line (ended.NotOpened (errors.StoreFault a b)) ≡ error_of (opening_failed a b)
unfolding digits
fault_line a b = refl

pub none_line : last_line (ended.NotOpened errors.NoIndex) ≡ error_of no_index
unfolding digits
none_line = refl

words_line : last_line ended.BadWords ≡ error_line (codes "1" ∷ codes "badwords" ∷ [])
unfolding digits
words_line = refl

-- other words
pub wrote_words : (held : List ℕ) (content : Option (List ℕ)) (before after status : ℕ) → EndsSo ended.BadWords held content before after status →
    (text : List ℕ) × (content ≡ Some (held ++ text))
    × (((status ≡ 1) × WroteLine before after (error_line (codes "1" ∷ codes "badwords" ∷ [])) text) ⊎ ((status ≡ 11) × (text ≡ [])))
wrote_words held content before after status w = (w.text, w.written, by w.wrote)
  where
    by : ((status ≡ 1) × WroteLine before after (last_line ended.BadWords) w.text) ⊎ ((status ≡ 11) × (w.text ≡ [])) →
        ((status ≡ 1) × WroteLine before after (error_line (codes "1" ∷ codes "badwords" ∷ [])) w.text) ⊎ ((status ≡ 11) × (w.text ≡ []))
    by (inl l) = inl (l.0, subst (λ line. WroteLine before after line w.text) words_line l.1)
    by (inr none) = inr none

front_none : (piece rest : List ℕ) → [] ≡ piece ++ rest → piece ≡ []
front_none [] rest e = refl
front_none (c ∷ cs) rest e = cc

-- of no line nothing is written
pub silent : (low high : ℕ) (piece : List ℕ) → WroteLine low high [] piece → piece ≡ []
silent low high piece (inl e) = e
silent low high piece (inr w) = let rest = w.1 in front_none piece rest.0 rest.1

nothing_more : (text piece : List ℕ) → piece ≡ [] → text ++ piece ≡ text
nothing_more text piece none = ap (λ l. text ++ l) none ∙ append-nil text

pub printed_on : (outcomes : List Outcome) (text piece : List ℕ) (A : Type 0) → (text ≡ printed outcomes) ⊎ A → piece ≡ [] → (text ++ piece ≡ printed outcomes) ⊎ A
printed_on outcomes text piece A (inl all) none = inl (nothing_more text piece none ∙ all)
printed_on outcomes text piece A (inr a) none = inr a

-- status 11 has no last line
pub silent_short : (e : Ended) (low high : ℕ) (piece : List ℕ) → ended_status e ≡ 11 → WroteLine low high (last_line e) piece → piece ≡ []
silent_short e low high piece short w =
    silent low high piece
    (subst (λ line. WroteLine low high line piece) (ap (λ s. if is_silent s then [] else words (codes "error" ∷ decimal s ∷ cause_words e) ++ 10 ∷ []) short) w)

pub most_on : (outcomes : List Outcome) (text piece : List ℕ) → WroteMost outcomes text → piece ≡ [] → WroteMost outcomes (text ++ piece)
most_on outcomes text piece w none = subst (λ t. WroteMost outcomes t) (sym (nothing_more text piece none)) w

run_wrote : (end : End) (outcomes : List Outcome) (text : List ℕ) → HasWritten end text outcomes → (low high : ℕ) (piece : List ℕ) → WroteLine low high (error_of end) piece →
    Wrote low high end outcomes (text ++ piece)
run_wrote (by_reading ending) outcomes text w low high piece l = record { last = piece; is = ap (λ t. t ++ piece) w; wrote = l }
run_wrote no_index outcomes text w low high piece l = absurd w
run_wrote (opening_failed a b) outcomes text w low high piece l = absurd w
run_wrote read_failed outcomes text w low high piece l = record { last = piece; is = ap (λ t. t ++ piece) w; wrote = l }
run_wrote write_failed outcomes text w low high piece l = subst (λ t. CutShort outcomes t) (sym (nothing_more text piece (silent low high piece l))) w
run_wrote out_of_memory outcomes text w low high piece l = most_on outcomes text piece w (silent low high piece l)

run_front : (end : End) (outcomes : List Outcome) (text : List ℕ) → HasWritten end text outcomes → WroteMost outcomes text
run_front (by_reading ending) outcomes text w = inl w
run_front no_index outcomes text w = absurd w
run_front (opening_failed a b) outcomes text w = absurd w
run_front read_failed outcomes text w = inl w
run_front write_failed outcomes text w = inr w
run_front out_of_memory outcomes text w = w

module _ (before : Before) (fresh opened : Node) (opens : Opens fresh (Ok tt) opened) (begun : BeginsAlong fresh opened) where
  answered : (lines : List Line) (outcomes : List Outcome) (last : Node) → Turns opened lines outcomes last → Lives before out_of_memory fresh lines outcomes last
  answered lines outcomes last turns = run_lives before fresh opened opens out_of_memory lines outcomes last (inl turns)

  run_short : (end : End) (lines : List Line) (outcomes : List Outcome) (last : Node) → HasRun (length before.log_faults) before.input end opened lines outcomes last →
      Lives before out_of_memory fresh lines outcomes last
  run_short (by_reading ending) lines outcomes last did = answered lines outcomes last did
  run_short no_index lines outcomes last did = absurd did
  run_short (opening_failed a b) lines outcomes last did = absurd did
  run_short read_failed lines outcomes last did = answered lines outcomes last did
  run_short write_failed lines outcomes last did = answered lines outcomes last did
  run_short out_of_memory lines outcomes last did = run_lives before fresh opened opens out_of_memory lines outcomes last did

  run_printed : (lines : List Line) (outcomes : List Outcome) (last : Node) (text : List ℕ) → (text ≡ printed outcomes) ⊎ Turns opened lines outcomes last →
      (text ≡ printed outcomes) ⊎ Answers fresh lines outcomes last
  run_printed lines outcomes last text (inl all) = inl all
  run_printed lines outcomes last text (inr turns) = inr (record { opened = opened; opens = opens; turns = turns })

  -- of a run
  pub met_run : (Stands : Node → Type 0) (content left : Option (List ℕ)) (counts : Counts) (e : Ended) → counts.read_before ≡ before.read_faults → counts.write_before ≡ before.write_faults →
      (r : Runs Stands (length before.log_faults) before.input opened before.written content left counts e) → Met before fresh e left counts.read_after counts.write_after r.text r.last
  met_run Stands content left counts e rb wb r = record {
    end = r.end;
    lines = r.lines;
    outcomes = r.outcomes;
    status_is = run_status e r.end r.is;
    ends = λ after same ra wa. run_ends before after counts r.lines r.end rb ra wb wa (subst (λ l. HasRunEnd (length before.log_faults) before.input l counts r.lines r.end) (sym same) r.ends);
    wrote = λ low high piece l. run_wrote r.end r.outcomes r.text r.wrote low high piece (subst (λ line. WroteLine low high line piece) (run_line e r.end r.is) l);
    lives = run_lives before fresh opened opens r.end r.lines r.outcomes r.last r.did;
    along = record { entry = begun.entry; behind = inr (record { opened = opened; opens = opens; reaches = begun.reaches; turns = r.along }) };
    tell = r.tell;
    printed_all = run_printed r.lines r.outcomes r.last r.text r.printed_all;
    reads = run_stops (length before.log_faults) before.input left counts r.lines r.end r.ends;
    front = run_front r.end r.outcomes r.text r.wrote;
    short = run_short r.end r.lines r.outcomes r.last r.did;
  }

  -- of an opened world for which no node was started
  pub met_unstarted : (left : Option (List ℕ)) (read write : ℕ) → Met before fresh ended.Memory left read write [] opened
  met_unstarted left read write = record {
    end = out_of_memory;
    lines = [];
    outcomes = [];
    status_is = refl;
    ends = λ after same ra wa. none;
    wrote = λ low high piece l. inl (silent low high piece l);
    lives = lives;
    along = record { entry = begun.entry; behind = inl (record { no_lines = refl; no_outcomes = refl; reaches = begun.reaches }) };
    tell = tt;
    printed_all = inl refl;
    reads = none;
    front = inl refl;
    short = lives;
  }
    where
      none : Reads (length before.log_faults) before.input [] stopped
      none = none_from (length before.log_faults) (length before.input) 0 [] (raw_lines before.input)

      lives : Lives before out_of_memory fresh [] [] opened
      lives = answered [] [] opened refl

-- ---- a store that wasn't opened

-- for want of memory, before anything was done
pub met_unread : (before : Before) (fresh : Node) → Along fresh [] [] fresh → (left : Option (List ℕ)) (read write : ℕ) → Met before fresh ended.Memory left read write [] fresh
met_unread before fresh along left read write = record {
  end = out_of_memory;
  lines = [];
  outcomes = [];
  status_is = refl;
  ends = λ after same ra wa. none;
  wrote = λ low high piece l. inl (silent low high piece l);
  lives = inl (refl, refl, refl);
  along = along;
  tell = tt;
  printed_all = inl refl;
  reads = none;
  front = inl refl;
  short = inl (refl, refl, refl);
}
  where
    none : Reads (length before.log_faults) before.input [] stopped
    none = none_from (length before.log_faults) (length before.input) 0 [] (raw_lines before.input)

module _ (before : Before) (fresh last : Node) (moment : fresh.core.moment ≡ moment_of (history fresh.core.history)) (unsure : fresh.core.unsure ≡ false) (marks : fresh.core.marks ≡ []) (doomed : fresh.core.doomed ≡ []) (along : Along fresh [] [] last) (left : Option (List ℕ)) (read write : ℕ) where
  unopened : (why : Unread) → Opens fresh (Err why) last → Unopened fresh [] [] why last
  unopened why opens = record { no_lines = refl; no_outcomes = refl; opens = opens }

  unopened_short : (why : Unread) → Opens fresh (Err why) last → Lives before out_of_memory fresh [] [] last
  unopened_short why opens = inr (inl (unopened (not_read no_memory) (opens_short fresh last why moment unsure marks doomed opens)))

  none_read : Reads (length before.log_faults) before.input [] stopped
  none_read = none_from (length before.log_faults) (length before.input) 0 [] (raw_lines before.input)

  -- by its error
  pub met_unopened : (error : WorldError) (why : Unread) → IsUnread error why → Opens fresh (Err why) last → Met before fresh (ended.NotOpened error) left read write [] last
  met_unopened (errors.Memory refused) why is opens = record {
    end = out_of_memory;
    lines = [];
    outcomes = [];
    status_is = refl;
    ends = λ after same ra wa. none_read;
    wrote = λ low high piece l. inl (silent low high piece l);
    lives = unopened_short why opens;
    along = along;
    tell = tt;
    printed_all = inl refl;
    reads = none_read;
    front = inl refl;
    short = unopened_short why opens;
  }
  met_unopened (errors.Refused refusal) why is opens = absurd is
  met_unopened (errors.StoreFault a b) why is opens = record {
    end = opening_failed a b;
    lines = [];
    outcomes = [];
    status_is = refl;
    ends = λ after same ra wa. refl;
    wrote = λ low high piece l. record { last = piece; is = refl; wrote = subst (λ line. WroteLine low high line piece) (fault_line a b) l };
    lives = unopened (not_read (faulted (store_fault a b))) (subst (λ w. Opens fresh (Err w) last) is opens);
    along = along;
    tell = tt;
    printed_all = inl refl;
    reads = none_read;
    front = inl refl;
    short = unopened_short why opens;
  }
  met_unopened (errors.Missing key) why is opens = absurd is
  met_unopened (errors.Corrupt key) why is opens = absurd is
  met_unopened (errors.Foreign key) why is opens = absurd is
  met_unopened errors.Full why is opens = absurd is
  met_unopened (errors.Expired planned_at reached) why is opens = absurd is
  met_unopened errors.NoIndex why is opens = record {
    end = no_index;
    lines = [];
    outcomes = [];
    status_is = refl;
    ends = λ after same ra wa. refl;
    wrote = λ low high piece l. record { last = piece; is = refl; wrote = subst (λ line. WroteLine low high line piece) none_line l };
    lives = unopened calls.no_index (subst (λ w. Opens fresh (Err w) last) is opens);
    along = along;
    tell = tt;
    printed_all = inl refl;
    reads = none_read;
    front = inl refl;
    short = unopened_short why opens;
  }
  met_unopened errors.IndexExists why is opens = absurd is
  met_unopened (errors.BadConfig bad) why is opens = absurd is
