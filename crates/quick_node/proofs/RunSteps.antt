-- A run over the lines of an input, from one line to the next and to its end.
use Rattle.std.proofs.Common.{◌≡◌, ◌⊎◌, ℕ, suc, ◌+◌, ◌<◌, ◌≤◌, Bool, true, false, List, [], ◌∷◌, ◌++◌, length, refl, sym, ap, ◌∙◌, subst, inl, inr, arith, append_assoc, length-append}
use Rattle.std.proofs.lemmas.List.{append-nil, length-map}
use Rattle.std.proofs.lemmas.Bool.{leb-true}
use Rattle.std.specs.declared.alloc.AllocError.{AllocError}
use Rattle.std.specs.Prelude.{◌≢◌, Option, Some, None, Result, Ok, Err, IsErr, IfOk}
use Rattle.byte_fields.specs.Causes.{Rose}
use Rattle.node_run.specs.declared.drive.Accepts.TheVariants as accepts
use Rattle.node_run.specs.Calm.{log_counts}
use Rattle.node_run.specs.Lines.{Spells, outcome_text, printed}
use Rattle.node_run.specs.Node.{Node, Line, At, Assign, StepIndexer, RestartIndexer, RestartClient, StepMerger, RestartMerger, StepDeleter, RestartDeleter, StepCollector, RestartCollector, RestartNode, Open, StepClient, Outcome}
use Rattle.node_run.specs.Standing.{accepts_of}
use Rattle.node_run.specs.Telling.{MayTell}
use Rattle.node_run.specs.Turns.{Turn}
use Rattle.index_world.proofs.StoreChanges.{All-snoc}
use Rattle.node_run.proofs.Moving.{turns_go_on}
use Rattle.node_run.proofs.LogCounts.{NoneFell, turn_counted}
use Rattle.quick_node.specs.declared.error_line.End.{End as Ended}
use Rattle.quick_node.specs.declared.error_line.End.TheVariants as ended
use Rattle.input_lines.specs.declared.lines.Next.{Next}
use Rattle.input_lines.specs.declared.lines.Next.TheVariants as next
use Rattle.input_lines.specs.Pieces.{ComesLine, Comes}
use Rattle.input_lines.specs.Reading.{raw_lines, with_client_name, max_clients}
use Rattle.quick_node.specs.Reading.{Fit, fits, falls_or_unknown, too_many_clients, fit_if, fit_of, names_in, last_moment, Ending, all_read, bad_line, clients_over, line_over, input_over, stopped, IsBad, Reads}
use Rattle.quick_node.specs.Running.{AreNamed, HasAnswered, HasRead, IsGoing, Does, IsNotTaken, WroteFront, EndsLine, TakesLine, IsRunEnd, Counts, Runs, done_behind, GoesOrEnds, RunsOrShort}
use Rattle.quick_node.specs.Collects.{LineCollects}
use Rattle.quick_node.specs.Once.{Reaches}
use Rattle.quick_node.specs.Serve.{TurnsAlong, by_reading, read_failed, write_failed, out_of_memory}
use Rattle.quick_node.proofs.Clocks.{turn_ticks}
use Rattle.quick_node.proofs.Fitted.{accepts_as, line_fits}
use Rattle.quick_node.proofs.Names.{turn_named, names_go_on, moments_go_on}
use Rattle.quick_node.proofs.Onward.{no_line_read, fails_behind, reads_stopped, reads_all, reads_here, reads_more}

-- ---- what a line that fits leaves

yes_fits : (f : Fit) → accepts_as f ≡ accepts.Yes → f ≡ fits
yes_fits fits e = refl
yes_fits falls_or_unknown e = cc
yes_fits too_many_clients e = cc

bad_falls : (f : Fit) → accepts_as f ≡ accepts.BadLine → f ≡ falls_or_unknown
bad_falls fits e = cc
bad_falls falls_or_unknown e = refl
bad_falls too_many_clients e = cc

many_are : (f : Fit) → accepts_as f ≡ accepts.TooManyClients → f ≡ too_many_clients
many_are fits e = cc
many_are falls_or_unknown e = cc
many_are too_many_clients e = refl

same_long : (xs ys : List ℕ) → NoneFell xs ys → length ys ≡ length xs
same_long [] [] h = refl
same_long [] (y ∷ ys) h = absurd h
same_long (x ∷ xs) [] h = absurd h
same_long (x ∷ xs) (y ∷ ys) h = ap suc (same_long xs ys h.1)

room_left : (b : Bool) → fit_if b too_many_clients ≡ fits → b ≡ true
room_left true e = refl
room_left false e = cc

few_more : (readers : ℕ) (lines : List Line) (line : Line) → length (names_in [] lines) ≤ max_clients → fit_of readers lines line ≡ fits →
    length (names_in (names_in [] lines) (line ∷ [])) ≤ max_clients
few_more readers lines (At moment) few f = few
few_more readers lines (Assign i parts) few f = few
few_more readers lines (StepIndexer i) few f = few
few_more readers lines (RestartIndexer i) few f = few
few_more readers lines (RestartClient name) few f = leb-true (length (with_client_name name (names_in [] lines))) max_clients (room_left _ f)
few_more readers lines StepMerger few f = few
few_more readers lines RestartMerger few f = few
few_more readers lines StepDeleter few f = few
few_more readers lines RestartDeleter few f = few
few_more readers lines StepCollector few f = few
few_more readers lines RestartCollector few f = few
few_more readers lines RestartNode few f = few
few_more readers lines (Open name text) few f = leb-true (length (with_client_name name (names_in [] lines))) max_clients (room_left _ f)
few_more readers lines (StepClient name) few f = leb-true (length (with_client_name name (names_in [] lines))) max_clients (room_left _ f)

pub none_answered : (node : Node) → node.core.clock ≡ 0 → node.clients ≡ [] → HasAnswered (length node.indexers) [] node
none_answered node clock clients =
    record {
      readers_are = refl;
      clock = clock;
      clients = subst (λ cs. AreNamed [] cs) (sym clients) (record { same = λ name. refl; long = refl });
      few = omega arith;
    }

answered_more : (readers : ℕ) (lines : List Line) (node : Node) (line : Line) (outcome : Outcome) (last : Node) → HasAnswered readers lines node →
    fit_of readers lines line ≡ fits → Turn node line (Some outcome) last → HasAnswered readers (lines ++ line ∷ []) last
answered_more readers lines node line outcome last has f turn =
    record {
      readers_are =
          sym (length-map last.indexers (λ i. i.log_faults)) ∙ same_long (log_counts node.indexers) (log_counts last.indexers) (turn_counted node line (Some outcome) last turn)
          ∙ length-map node.indexers (λ i. i.log_faults) ∙ has.readers_are;
      clock = turn_ticks node line outcome last turn ∙ ap (λ m. last_moment m (line ∷ [])) has.clock ∙ sym (moments_go_on 0 lines line);
      clients = subst (λ ns. AreNamed ns last.clients) (sym (names_go_on [] lines line)) (turn_named (names_in [] lines) node line outcome last has.clients turn);
      few = subst (λ ns. length ns ≤ max_clients) (sym (names_go_on [] lines line)) (few_more readers lines line has.few f);
    }

printed_on : (outcomes : List Outcome) (outcome : Outcome) → printed (outcomes ++ outcome ∷ []) ≡ printed outcomes ++ printed (outcome ∷ [])
printed_on [] outcome = refl
printed_on (o ∷ outcomes) outcome =
    ap (λ l. outcome_text o ++ (10 ∷ l)) (printed_on outcomes outcome) ∙ sym (append_assoc (outcome_text o) (10 ∷ printed outcomes) (printed (outcome ∷ [])))

pub rose_earlier : (a b c d : ℕ) → a ≤ b → Rose b c → c ≤ d → Rose a d
rose_earlier a b c d g r h = omega (arith, g, r, h)

-- ---- a run that goes on

-- a line more leaves its files
along_on : (node mid last : Node) (lines : List Line) (line : Line) (outcomes : List Outcome) (outcome : Outcome) → TurnsAlong node lines outcomes mid → Turn mid line (Some outcome) last →
    Reaches mid.core last.core mid.log → LineCollects mid.core.history last.core.history (Some outcome) → TurnsAlong node (lines ++ line ∷ []) (outcomes ++ outcome ∷ []) last
along_on node mid last [] line [] outcome ran turn reaches collects = (
  last,
  subst (λ n. Turn n line (Some outcome) last) ran turn,
  subst (λ n. Reaches n.core last.core n.log) ran reaches,
  subst (λ (n : Node). LineCollects n.core.history last.core.history (Some outcome)) ran collects,
  refl,
)
along_on node mid last [] line (o ∷ os) outcome ran turn reaches collects = absurd ran
along_on node mid last (l ∷ lines) line [] outcome ran turn reaches collects = absurd ran
along_on node mid last (l ∷ lines) line (o ∷ os) outcome ran turn reaches collects =
    (ran.0, ran.1, ran.2, ran.3, along_on ran.0 mid last lines line os outcome ran.4 turn reaches collects)

pub begins : (Stands : Node → Type 0) (input : List ℕ) (begun : Node) (held : List ℕ) (content left : Option (List ℕ)) → begun.core.clock ≡ 0 → begun.clients ≡ [] →
    Stands begun → left ≡ Some input → content ≡ Some held → IsGoing Stands (length begun.indexers) input begun held content left [] 0 0
begins Stands input begun held content left clock clients stands told written =
    record {
      lines = [];
      outcomes = [];
      mid = begun;
      turns = refl;
      along = refl;
      tell = tt;
      has = none_answered begun clock clients;
      stands = stands;
      count = refl;
      behind = input;
      left_is = told;
      read = no_line_read (length begun.indexers) input input refl;
      written = written ∙ ap Some (sym (append-nil held));
    }

module _ (Stands : Node → Type 0) (readers : ℕ) (input : List ℕ) (begun : Node) (held : List ℕ) (content left : Option (List ℕ)) (hand : List ℕ) (taken number : ℕ)
    (going : IsGoing Stands readers input begun held content left hand taken number) where
  abbrev rest : List ℕ
  rest = hand ++ going.behind

  -- a run that ends here without a line more
  ends_here : (Stands' : Node → Type 0) (content' left' : Option (List ℕ)) (counts : Counts) (e : Ended) (ending : Ending) → Stands' going.mid → content' ≡ content →
      IsRunEnd e (by_reading ending) → ending ≢ stopped → Reads readers input going.lines ending → Runs Stands' readers input begun held content' left' counts e
  ends_here Stands' content' left' counts e ending stands same is live reads =
      record {
        end = by_reading ending;
        is = is;
        lines = going.lines;
        outcomes = going.outcomes;
        ends = (live, reads);
        last = going.mid;
        did = going.turns;
        along = inl going.along;
        tell = going.tell;
        stands = stands;
        text = printed going.outcomes;
        written = same ∙ going.written;
        wrote = refl;
        printed_all = inl refl;
      }

  pub ends_short : (Stands' : Node → Type 0) (content' left' : Option (List ℕ)) (counts : Counts) → Stands' going.mid → content' ≡ content →
      Runs Stands' readers input begun held content' left' counts ended.Memory
  ends_short Stands' content' left' counts stands same =
      record {
        end = out_of_memory;
        is = refl;
        lines = going.lines;
        outcomes = going.outcomes;
        ends = reads_stopped readers input going.lines taken rest going.read;
        last = going.mid;
        did = inl going.turns;
        along = inl going.along;
        tell = going.tell;
        stands = stands;
        text = printed going.outcomes;
        written = same ∙ going.written;
        wrote = inl refl;
        printed_all = inl refl;
      }

  pub ends_by_fault : (n : Next) (line : List ℕ) (taken' : ℕ) (hand' behind' : List ℕ) (counts : Counts) → n ≡ next.Fault → Comes n taken rest line taken' (hand' ++ behind') → hand' ≡ [] →
      Rose counts.read_before counts.read_after → Runs Stands readers input begun held content (Some behind') counts ended.ReadFault
  ends_by_fault n line taken' hand' behind' counts is comes none rose =
      let c : Comes next.Fault taken rest line taken' (hand' ++ behind') = subst (λ v. Comes v taken rest line taken' (hand' ++ behind')) is comes in
      record {
        end = read_failed;
        is = refl;
        lines = going.lines;
        outcomes = going.outcomes;
        ends = (
          reads_stopped readers input going.lines taken rest going.read,
          rose,
          fails_behind readers input going.lines taken rest going.read line behind' (c.0 ∙ ap (λ h. line ++ (h ++ behind')) none) c.1,
        );
        last = going.mid;
        did = going.turns;
        along = inl going.along;
        tell = going.tell;
        stands = going.stands;
        text = printed going.outcomes;
        written = going.written;
        wrote = refl;
        printed_all = inl refl;
      }

  not_stopped-all : all_read ≢ stopped
  not_stopped-all e = cc

  not_stopped-bad : (n : ℕ) → bad_line n ≢ stopped
  not_stopped-bad n e = cc

  not_stopped-clients : clients_over ≢ stopped
  not_stopped-clients e = cc

  not_stopped-line : line_over ≢ stopped
  not_stopped-line e = cc

  not_stopped-input : input_over ≢ stopped
  not_stopped-input e = cc

  pub ends_at_end : (n : Next) (line : List ℕ) (taken' : ℕ) (rest' : List ℕ) (left' : Option (List ℕ)) (counts : Counts) → n ≡ next.End → Comes n taken rest line taken' rest' →
      Runs Stands readers input begun held content left' counts ended.Done
  ends_at_end n line taken' rest' left' counts is comes =
      let none : rest ≡ [] = subst (λ v. Comes v taken rest line taken' rest') is comes in
      ends_here Stands content left' counts ended.Done all_read going.stands refl refl not_stopped-all (reads_all readers input going.lines taken rest going.read none)

  pub ends_at_line : (n : Next) (line : List ℕ) (taken' : ℕ) (rest' : List ℕ) (left' : Option (List ℕ)) (counts : Counts) → n ≡ next.LineOver → Comes n taken rest line taken' rest' →
      Runs Stands readers input begun held content left' counts ended.LineOver
  ends_at_line n line taken' rest' left' counts is comes =
      let c : Comes next.LineOver taken rest line taken' rest' = subst (λ v. Comes v taken rest line taken' rest') is comes in
      ends_here Stands content left' counts ended.LineOver line_over going.stands refl refl not_stopped-line
      (reads_here readers input going.lines taken rest going.read c.0 c.1 c.2 line_over c.3)

  pub ends_at_input : (n : Next) (line : List ℕ) (taken' : ℕ) (rest' : List ℕ) (left' : Option (List ℕ)) (counts : Counts) → n ≡ next.InputOver → Comes n taken rest line taken' rest' →
      Runs Stands readers input begun held content left' counts ended.InputOver
  ends_at_input n line taken' rest' left' counts is comes =
      let c : Comes next.InputOver taken rest line taken' rest' = subst (λ v. Comes v taken rest line taken' rest') is comes in
      ends_here Stands content left' counts ended.InputOver input_over going.stands refl refl not_stopped-input
      (reads_here readers input going.lines taken rest going.read c.0 c.1 c.2 input_over c.3)

  -- the next line was read
  module _ (raw : List ℕ) (taken' : ℕ) (hand' behind' : List ℕ) (left' : Option (List ℕ)) (comes : ComesLine taken rest raw taken' (hand' ++ behind'))
      (told : left' ≡ Some behind') (more : taken < taken') where
    module _ (Stands' : Node → Type 0) (line : Line) (spells : Spells raw line) (takes : accepts_of going.mid line ≡ accepts.Yes) where
      line_is_fit : fit_of readers going.lines line ≡ fits
      line_is_fit = yes_fits (fit_of readers going.lines line) (sym (line_fits readers going.lines going.mid going.has line) ∙ takes)

      read_more : HasRead readers input (going.lines ++ line ∷ []) taken' (hand' ++ behind')
      read_more =
          reads_more readers input going.lines taken rest going.read raw (raw_lines (hand' ++ behind')) comes.0 line taken' (hand' ++ behind') refl comes.1 comes.2 comes.3 more
          spells line_is_fit

    -- it was answered
    pub goes_on : (Stands' : Node → Type 0) (content' : Option (List ℕ)) (number' before after : ℕ) → number' ≡ number + 1 →
        TakesLine Stands' raw number' going.mid (held ++ printed going.outcomes) content' before after (Ok None) →
        IsGoing Stands' readers input begun held content' left' hand' taken' number'
    goes_on Stands' content' number' before after next_number t =
        let d = t.1 in
        record {
          lines = going.lines ++ d.line ∷ [];
          outcomes = going.outcomes ++ t.0 ∷ [];
          mid = d.last;
          turns = turns_go_on begun going.mid d.last going.lines d.line going.outcomes t.0 going.turns d.turn;
          along = along_on begun going.mid d.last going.lines d.line going.outcomes t.0 going.along d.turn d.reaches d.collects;
          tell = All-snoc MayTell going.outcomes t.0 going.tell d.tells;
          has = answered_more readers going.lines going.mid d.line t.0 d.last going.has (line_is_fit Stands' d.line d.spells d.taken) d.turn;
          stands = d.stands;
          count = omega (arith, next_number, going.count, length-append going.lines (d.line ∷ []));
          behind = behind';
          left_is = told;
          read = read_more Stands' d.line d.spells d.taken;
          written = t.2 ∙ ap Some (append_assoc held (printed going.outcomes) (printed (t.0 ∷ [])) ∙ ap (λ l. held ++ l) (sym (printed_on going.outcomes t.0)));
        }

    module _ (Stands' : Node → Type 0) (content' : Option (List ℕ)) (number' before after : ℕ) (next_number : number' ≡ number + 1) (counts : Counts)
        (earlier : counts.write_before ≤ before) (later : after ≤ counts.write_after) where
      abbrev Ends : Ended → Type 0
      Ends e = Runs Stands' readers input begun held content' left' counts e

      ends_bad : (n : ℕ) → n ≡ number' → Stands' going.mid → content' ≡ Some (held ++ printed going.outcomes) → IsBad readers going.lines raw → Ends (ended.BadLine n)
      ends_bad n same stands written bad =
          ends_here Stands' content' left' counts (ended.BadLine n) (bad_line n) stands (written ∙ sym going.written) refl (not_stopped-bad n)
          (reads_here readers input going.lines taken rest going.read raw (raw_lines (hand' ++ behind')) comes.0 (bad_line n)
          (comes.1, omega (arith, same, next_number, going.count), bad))

      not_taken_falls : IsNotTaken raw going.mid accepts.BadLine → IsBad readers going.lines raw
      not_taken_falls t =
          inr (t.0, t.1, bad_falls (fit_of readers going.lines t.0) (sym (line_fits readers going.lines going.mid going.has t.0) ∙ t.2))

      is_bad : ((line : Line) → Spells raw line → ⊥) ⊎ IsNotTaken raw going.mid accepts.BadLine → IsBad readers going.lines raw
      is_bad (inl none) = inl none
      is_bad (inr t) = not_taken_falls t

      ends_many : Stands' going.mid → content' ≡ Some (held ++ printed going.outcomes) → IsNotTaken raw going.mid accepts.TooManyClients → Ends ended.ClientsOver
      ends_many stands written t =
          ends_here Stands' content' left' counts ended.ClientsOver clients_over stands (written ∙ sym going.written) refl not_stopped-clients
          (reads_here readers input going.lines taken rest going.read raw (raw_lines (hand' ++ behind')) comes.0 clients_over
          (comes.1, (t.0, t.1, many_are (fit_of readers going.lines t.0) (sym (line_fits readers going.lines going.mid going.has t.0) ∙ t.2))))

      ends_unwritten : (outcome : Outcome) → Does Stands' raw going.mid (Some outcome) → WroteFront (held ++ printed going.outcomes) content' outcome → Rose before after →
          Ends ended.WriteFault
      ends_unwritten outcome d w rose =
          record {
            end = write_failed;
            is = refl;
            lines = going.lines ++ d.line ∷ [];
            outcomes = going.outcomes ++ outcome ∷ [];
            ends = (
              reads_stopped readers input (going.lines ++ d.line ∷ []) taken' (hand' ++ behind') (read_more Stands' d.line d.spells d.taken),
              rose_earlier counts.write_before before after counts.write_after earlier rose later,
            );
            last = d.last;
            did = turns_go_on begun going.mid d.last going.lines d.line going.outcomes outcome going.turns d.turn;
            along = inl (along_on begun going.mid d.last going.lines d.line going.outcomes outcome going.along d.turn d.reaches d.collects);
            tell = All-snoc MayTell going.outcomes outcome going.tell d.tells;
            stands = d.stands;
            text = printed going.outcomes ++ w.0;
            written = w.2 ∙ ap Some (append_assoc held (printed going.outcomes) w.0);
            wrote = record { whole = going.outcomes; last = outcome; are = refl; front = w.0; rest = w.1; line = w.3; is = refl };
            printed_all = inr (turns_go_on begun going.mid d.last going.lines d.line going.outcomes outcome going.turns d.turn);
          }

      -- it ended the run
      pub ends_with : (e : Ended) → EndsLine Stands' raw number' going.mid (held ++ printed going.outcomes) content' before after e → Ends e
      ends_with ended.Done t = absurd t
      ends_with ended.BadWords t = absurd t
      ends_with (ended.BadLine n) t = ends_bad n t.0 t.1 t.2 (is_bad t.3)
      ends_with ended.ClientsOver t = ends_many t.0 t.1 t.2
      ends_with ended.LineOver t = absurd t
      ends_with ended.InputOver t = absurd t
      ends_with ended.RequestsOver t = absurd t
      ends_with ended.ConfigOver t = absurd t
      ends_with (ended.NotOpened error) t = absurd t
      ends_with (ended.NotMade error) t = absurd t
      ends_with ended.ReadFault t = absurd t
      ends_with ended.WriteFault t = ends_unwritten t.0 t.1 t.2 t.3
      ends_with ended.Memory t = absurd t

      short_by : (said : Option Outcome) → Does Stands' raw going.mid said → content' ≡ Some (held ++ printed going.outcomes) → Ends ended.Memory
      short_by None d written =
          record {
            end = out_of_memory;
            is = refl;
            lines = going.lines;
            outcomes = going.outcomes;
            ends = reads_stopped readers input going.lines taken rest going.read;
            last = d.last;
            did = inr (record {
              mid = going.mid;
              turns = going.turns;
              line = d.line;
              read = reads_stopped readers input (going.lines ++ d.line ∷ []) taken' (hand' ++ behind') (read_more Stands' d.line d.spells d.taken);
              turn = d.turn;
            });
            along = inr (going.mid, going.along, (d.line, d.turn, d.reaches));
            tell = going.tell;
            stands = d.stands;
            text = printed going.outcomes;
            written = written;
            wrote = inl refl;
            printed_all = inl refl;
          }
      short_by (Some outcome) d written =
          record {
            end = out_of_memory;
            is = refl;
            lines = going.lines ++ d.line ∷ [];
            outcomes = going.outcomes ++ outcome ∷ [];
            ends = reads_stopped readers input (going.lines ++ d.line ∷ []) taken' (hand' ++ behind') (read_more Stands' d.line d.spells d.taken);
            last = d.last;
            did = inl (turns_go_on begun going.mid d.last going.lines d.line going.outcomes outcome going.turns d.turn);
            along = inl (along_on begun going.mid d.last going.lines d.line going.outcomes outcome going.along d.turn d.reaches d.collects);
            tell = All-snoc MayTell going.outcomes outcome going.tell d.tells;
            stands = d.stands;
            text = printed going.outcomes;
            written = written;
            wrote = inr (record { whole = going.outcomes; last = outcome; are = refl; front = []; rest = printed (outcome ∷ []); line = refl; is = sym (append-nil (printed going.outcomes)) });
            printed_all = inr (turns_go_on begun going.mid d.last going.lines d.line going.outcomes outcome going.turns d.turn);
          }

      -- there was no memory for it
      pub ends_memory : (refused : AllocError) → TakesLine Stands' raw number' going.mid (held ++ printed going.outcomes) content' before after (Err refused) → Ends ended.Memory
      ends_memory refused t = by t.1
        where
          by : Stands' going.mid ⊎ ((said : Option Outcome) × Does Stands' raw going.mid said) → Ends ended.Memory
          by (inl stands) = ends_short Stands' content' left' counts stands (t.0 ∙ sym going.written)
          by (inr d) = short_by d.0 d.1 t.0

      pub goes_or_ends : (r : Result (Option Ended) AllocError) → TakesLine Stands' raw number' going.mid (held ++ printed going.outcomes) content' before after r →
          GoesOrEnds Stands' readers input begun held content' left' hand' taken' (number + 1) counts r
      goes_or_ends (Ok None) t = goes_on Stands' content' (number + 1) before after refl (subst (λ k. TakesLine Stands' raw k going.mid (held ++ printed going.outcomes) content' before after (Ok None)) next_number t)
      goes_or_ends (Ok (Some e)) t = ends_with e t
      goes_or_ends (Err refused) t = ends_memory refused t

  pub came_line : (n : Next) (line : List ℕ) (taken' : ℕ) (rest' : List ℕ) → n ≡ next.Line → Comes n taken rest line taken' rest' → ComesLine taken rest line taken' rest'
  came_line n line taken' rest' is comes = subst (λ v. Comes v taken rest line taken' rest') is comes

  pub came_last : (n : Next) (line : List ℕ) (taken' : ℕ) (rest' : List ℕ) → n ≡ next.Last → Comes n taken rest line taken' rest' → ComesLine taken rest line taken' rest' × (rest' ≡ [])
  came_last n line taken' rest' is comes = subst (λ v. Comes v taken rest line taken' rest') is comes

  -- the next line was read, and it did this
  pub line_came : (raw raw' : List ℕ) (taken' : ℕ) (hand' behind' : List ℕ) (left' : Option (List ℕ)) (Stands' : Node → Type 0) (content' : Option (List ℕ))
      (number' before after : ℕ) (counts : Counts) (r : Result (Option Ended) AllocError) → ComesLine taken rest raw taken' (hand' ++ behind') → left' ≡ Some behind' →
      taken < taken' → raw' ≡ raw → number' ≡ number + 1 → counts.write_before ≤ before → after ≤ counts.write_after →
      TakesLine Stands' raw' number' going.mid (held ++ printed going.outcomes) content' before after r →
      GoesOrEnds Stands' readers input begun held content' left' hand' taken' (number + 1) counts r
  line_came raw raw' taken' hand' behind' left' Stands' content' number' before after counts r comes told more same next_number earlier later t =
      goes_or_ends raw taken' hand' behind' left' comes told more Stands' content' number' before after next_number
      counts earlier later r (subst (λ l. TakesLine Stands' l number' going.mid (held ++ printed going.outcomes) content' before after r) same t)

false_is_true : false ≡ true → ⊥
false_is_true e = cc

pub ends_in_short : (Stands : Node → Type 0) (readers : ℕ) (input : List ℕ) (begun : Node) (held : List ℕ) (content left : Option (List ℕ)) (hand : List ℕ) (taken number : ℕ) (counts : Counts)
    (r : Result (Option Ended) AllocError) → IsErr r → Runs Stands readers input begun held content left counts ended.Memory →
    GoesOrEnds Stands readers input begun held content left hand taken number counts r
ends_in_short Stands readers input begun held content left hand taken number counts (Ok x) e run = absurd (false_is_true e)
ends_in_short Stands readers input begun held content left hand taken number counts (Err refused) e run = run

pub some_not_none : (e : Ended) → Some e ≡ None → ⊥
some_not_none e f = cc

some_list : (a b : List ℕ) → Some a ≡ Some b → a ≡ b
some_list a b e = cc

-- the run is done behind the last line, of which nothing is left
pub done_or_ends : (Stands : Node → Type 0) (readers : ℕ) (input : List ℕ) (begun : Node) (held : List ℕ) (content left : Option (List ℕ)) (hand behind : List ℕ) (taken number : ℕ)
    (counts : Counts) (r : Result (Option Ended) AllocError) → left ≡ Some behind → hand ++ behind ≡ [] → GoesOrEnds Stands readers input begun held content left hand taken number counts r →
    GoesOrEnds Stands readers input begun held content left hand taken number counts (done_behind r)
done_or_ends Stands readers input begun held content left hand behind taken number counts (Ok None) told none going =
    ends_at_end Stands readers input begun held content left hand taken number going next.End [] taken [] left counts refl
    (ap (λ l. hand ++ l) (some_list going.behind behind (sym going.left_is ∙ told)) ∙ none)
done_or_ends Stands readers input begun held content left hand behind taken number counts (Ok (Some e)) told none ends = ends
done_or_ends Stands readers input begun held content left hand behind taken number counts (Err refused) told none ends = ends

pub never_goes_on : (r : Result (Option Ended) AllocError) (P : Type 0) → IfOk (done_behind r) (λ end. end ≡ None → P)
never_goes_on (Ok None) P = λ e. absurd (some_not_none ended.Done e)
never_goes_on (Ok (Some end)) P = λ e. absurd (some_not_none end e)
never_goes_on (Err refused) P = tt

pub if_ok_any : {A E : Type 0} (r : Result A E) (P : A → Type 0) → ((a : A) → P a) → IfOk r P
if_ok_any (Ok a) P h = h a
if_ok_any (Err e) P h = tt

pub if_ok_err : {A E : Type 0} (r : Result A E) (P : A → Type 0) → IsErr r → IfOk r P
if_ok_err (Ok a) P e = absurd (false_is_true e)
if_ok_err (Err x) P e = tt

pub run_in_short : (Stands : Node → Type 0) (readers : ℕ) (input : List ℕ) (begun : Node) (held : List ℕ) (content left : Option (List ℕ)) (counts : Counts)
    (r : Result Ended AllocError) → IsErr r → Runs Stands readers input begun held content left counts ended.Memory → RunsOrShort Stands readers input begun held content left counts r
run_in_short Stands readers input begun held content left counts (Ok x) e run = absurd (false_is_true e)
run_in_short Stands readers input begun held content left counts (Err refused) e run = run

pub went_on : (Stands : Node → Type 0) (readers : ℕ) (input : List ℕ) (begun : Node) (held : List ℕ) (content left : Option (List ℕ)) (hand : List ℕ) (taken number : ℕ) (counts : Counts)
    (o : Option Ended) → o ≡ None → GoesOrEnds Stands readers input begun held content left hand taken number counts (Ok o) →
    IsGoing Stands readers input begun held content left hand taken number
went_on Stands readers input begun held content left hand taken number counts None is g = g
went_on Stands readers input begun held content left hand taken number counts (Some e) is g = absurd (some_not_none e is)

pub same_number : (Stands : Node → Type 0) (readers : ℕ) (input : List ℕ) (begun : Node) (held : List ℕ) (content left : Option (List ℕ)) (hand : List ℕ) (taken number number' : ℕ) →
    number' ≡ number → IsGoing Stands readers input begun held content left hand taken number → IsGoing Stands readers input begun held content left hand taken number'
same_number Stands readers input begun held content left hand taken number number' e g =
    subst (λ n. IsGoing Stands readers input begun held content left hand taken n) (sym e) g

pub begins_with : (Stands : Node → Type 0) (input : List ℕ) (begun : Node) (held : List ℕ) (content left : Option (List ℕ)) (hand : List ℕ) (taken : ℕ) → hand ≡ [] → taken ≡ 0 →
    begun.core.clock ≡ 0 → begun.clients ≡ [] → Stands begun → left ≡ Some input → content ≡ Some held →
    IsGoing Stands (length begun.indexers) input begun held content left hand taken 0
begins_with Stands input begun held content left hand taken none zero clock clients stands told written =
    subst (λ h. IsGoing Stands (length begun.indexers) input begun held content left h taken 0) (sym none)
    (subst (λ n. IsGoing Stands (length begun.indexers) input begun held content left [] n 0) (sym zero)
    (begins Stands input begun held content left clock clients stands told written))

some_same : (a b : Ended) → Some a ≡ Some b → a ≡ b
some_same a b e = cc

none_not_some : (e : Ended) → None ≡ Some e → ⊥
none_not_some e f = cc

pub ended_by : (Stands : Node → Type 0) (readers : ℕ) (input : List ℕ) (begun : Node) (held : List ℕ) (content left : Option (List ℕ)) (hand : List ℕ) (taken number : ℕ) (counts : Counts)
    (o : Option Ended) (e : Ended) → o ≡ Some e → GoesOrEnds Stands readers input begun held content left hand taken number counts (Ok o) →
    Runs Stands readers input begun held content left counts e
ended_by Stands readers input begun held content left hand taken number counts None e is g = absurd (none_not_some e is)
ended_by Stands readers input begun held content left hand taken number counts (Some f) e is g =
    subst (λ x. Runs Stands readers input begun held content left counts x) (some_same f e is) g
