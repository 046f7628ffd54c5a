-- Whatever lands and fails, behind each line the moment is that of the clock or of the greatest entry, whichever is later.
use Rattle.std.proofs.Common.{◌≡◌, ℕ, zero, suc, ◌≤◌, Bool, true, false, List, ◌∷◌, refl, sym, ap, ◌∙◌, subst, arith}
use Rattle.std.specs.Prelude.{◌||◌, Option, Some, None, Result, Ok, Err, ⊤}
use Rattle.meta_journal.specs.Places.{split_key}
use Rattle.meta_journal.specs.declared.entry.Entry.{Entry}
use Rattle.split_states.specs.declared.rows.Row.{Row}
use Rattle.index_world.specs.Calls.{Effect, done_at_once, done_late, done_never, is_at_once, Call, Fate, Gives, Made, made, exists, failed, Trouble, no_memory, Unmade, troubled, asked_and_looked, asked_clock, asked_moment, asking, and_then_by, begun, create_at_end, deleted_by, entry_of, fence_of, file_deleted, get_at_end, got_at, last_create, loaded, made_at, made_behind, may_append, may_fail, or_short, risen, settle_made, settle_making, settle_with, settled, settled_and_copied, taken_unless, tried, troubled_by, unless_short}
use Rattle.index_world.specs.Collecting.{Offer, adopted_offer, answered_by, appended_if, doom_call, doom_next, doomed_by, first_offer, is_swept, last_offer, list_call, next_doomed, nothing, offer_unless, removal_offer, stale_offer, sweep_call, sweep_if, swept_unless, transact_if, with_doomed}
use Rattle.index_world.specs.Core.{Core}
use Rattle.split_collector.specs.Outcomes.{Outcome as CollectorOutcome}
use Rattle.split_collector.specs.Steps.{CallLuck, CollectorLuck as CollectingLuck, alone, end_at, ends_behind, first_fate, max_calls, other_fates, step_collector, turned}
use Rattle.split_collector.specs.Turns.{Turn as CollectorTurn, ended, to_doom, to_list, to_mark, to_remove, to_sweep}
use Rattle.upkeep_run.specs.declared.work.Aim.TheVariants.{Deleting, Merging}
use Rattle.node_run.specs.Node.{Node, Line, At, Assign, StepIndexer, RestartIndexer, RestartClient, StepMerger, RestartMerger, StepDeleter, RestartDeleter, StepCollector, RestartCollector, RestartNode, Open, StepClient, Outcome}
use Rattle.node_run.specs.Turns.{LineLuck, client_named, client_turn_by, collecting_luck, collector_turn_by, full_turn, indexer_at, indexer_turn_by, indexing_luck, or_quiet, searching_luck, turn_by, with_deleter, with_merger, worker_turn_by, working_luck, Turn}
use Rattle.index_world.proofs.Worlds.{same-landed}
use Rattle.call_laws.proofs.CollectingMoves.{answered_same, unmade_same}
use Rattle.node_run.proofs.Moving.{assign_same, open_same, restart_same}
use Rattle.quick_node.proofs.Files.{Fits, IsTimed, One, begun_still, client_few, create_fits, create_still, get_one, got_still, indexer_few, last_by, loaded_few, settled_one, timed_asked, timed_same, timed_taken}
use Rattle.quick_node.proofs.Working.{worker_works}

-- ---- the collector's calls

abbrev Times : {E A : Type 0} → Gives E A → Type 0
Times given = IsTimed given.core

same_timed : (a b : Core) → b ≡ a → IsTimed a → IsTimed b
same_timed a b e t = subst IsTimed (sym e) t

or_short_timed : {E A : Type 0} (b : Bool) (e : E) (call : Call) (core : Core) (given : Gives E A) → IsTimed core → Times given → Times (or_short b e call core given)
or_short_timed true e call core given t g = (begun_still call core).timed t
or_short_timed false e call core given t g = g

then_timed : {E A B : Type 0} (r : Result A E) (core : Core) (next : Core → Gives E B) → IsTimed core → ((c : Core) → IsTimed c → Times (next c)) → Times (and_then_by r core next)
then_timed (Ok a) core next t n = n core t
then_timed (Err e) core next t n = t

asking_timed : {E A : Type 0} (b : Bool) (e : E) (core : Core) (next : Core → Gives E A) → IsTimed core → ((c : Core) → IsTimed c → Times (next c)) → Times (asking b e core next)
asking_timed true e core next t n = t
asking_timed false e core next t n = n (asked_clock core) (timed_asked core t)

unmade_timed : {A : Type 0} (r : Result A Trouble) (core : Core) → IsTimed core → Times (troubled_by r core)
unmade_timed r core t = same_timed core (troubled_by r core).core (unmade_same r core) t

nothing_timed : {B : Type 0} (short : Bool) (none : B) (core : Core) → IsTimed core → Times (nothing short none core)
nothing_timed true none core t = t
nothing_timed false none core t = t

module _ {B : Type 0} (none : B) (offered : Core → Option (Offer B)) where
  last_offer_timed : (call : Call) (count : ℕ) (offer : Option (Offer B)) (core : Core) → IsTimed core → Times (last_offer call count none offer core)
  last_offer_timed call count None core t = nothing_timed call.short none core t
  last_offer_timed call count (Some offer) core t =
      let given = last_create call count offer.act core in
      same_timed given.core (answered_by offer.answer given.answer given.core).core (answered_same offer.answer given.answer given.core) ((last_by One tt call count offer.act core tt).timed t)

  adopted_timed : (get again : Call) (count : ℕ) (offer : Offer B) (entry : Entry) (m : Made) (core : Core) → Fits m entry core → IsTimed core → Times (adopted_offer get again count none offered offer entry m core)
  adopted_timed get again count offer entry made core f t = timed_taken entry core t
  adopted_timed get again count offer entry (exists other) core f t =
      let given = get_at_end get other count core in
      then_timed (troubled_by given.answer given.core).answer (troubled_by given.answer given.core).core (λ c. last_offer again count none (offered c) c)
      (unmade_timed given.answer given.core ((get_one get other count core f).timed t)) (λ c k. last_offer_timed again count (offered c) c k)
  adopted_timed get again count offer entry failed core f t = t

  module _ (first second third : Call) where
    unless_timed : (r : Result ⊤ Unmade) (offer : Offer B) (core : Core) → IsTimed core → Times (offer_unless r first second third none offered offer core)
    unless_timed (Err e) offer core t = t
    unless_timed (Ok done) offer core t =
        let entry = entry_of offer.act core in
        adopted_timed second third core.store_faults offer entry (create_at_end first entry core).answer (create_at_end first entry core).core (create_fits first entry core) ((create_still first entry core).timed t)

    first_timed : (offer : Option (Offer B)) (core : Core) → IsTimed core → Times (first_offer offer first second third none offered core)
    first_timed None core t = nothing_timed first.short none core t
    first_timed (Some offer) core t = or_short_timed first.short (troubled no_memory) first core _ t (unless_timed (may_append offer.act core) offer core t)

    transact_timed : (b : Bool) (core : Core) → IsTimed core → Times (transact_if b first second third none offered core)
    transact_timed true core t =
        let given = settled first second core in
        then_timed (troubled_by given.answer given.core).answer (troubled_by given.answer given.core).core (λ c. last_offer third core.store_faults none (offered c) c)
        (unmade_timed given.answer given.core ((settled_one first second core).timed t)) (λ c k. last_offer_timed third core.store_faults (offered c) c k)
    transact_timed false core t = first_timed (offered core) core t

  offered_timed : (fate : Fate) (core : Core) → IsTimed core → Times (appended_if fate none offered core)
  offered_timed fate core t = asking_timed fate.unasked (troubled no_memory) core _ t (λ c k. transact_timed fate.first fate.second fate.third c.unsure c k)

deleted_timed : (fails at_once : Bool) (count : ℕ) (key : List ℕ) (core : Core) → IsTimed core → Times (deleted_by fails at_once count key core)
deleted_timed true true count key core t = timed_same core (deleted_by true true count key core).core refl refl t
deleted_timed true false count key core t = t
deleted_timed false at_once count key core t = timed_same core (deleted_by false at_once count key core).core refl refl t

file_deleted_timed : (call : Call) (key : List ℕ) (core : Core) → IsTimed core → Times (file_deleted call key core)
file_deleted_timed call key core t = deleted_timed (may_fail call core.store_faults) (is_at_once call.effect) core.store_faults key (begun call core) ((begun_still call core).timed t)

doomed_timed : (number : ℕ) (r : Result ⊤ Trouble) (core : Core) → IsTimed core → Times (doomed_by number r core)
doomed_timed number (Ok done) core t = timed_same core (with_doomed number core) refl refl t
doomed_timed number (Err e) core t = t

doom_next_timed : (row : Option Row) (call : Call) (core : Core) → IsTimed core → Times (doom_next row call core)
doom_next_timed None call core t = t
doom_next_timed (Some row) call core t =
    let given = file_deleted call (split_key row.number) core in doomed_timed row.number given.answer given.core (file_deleted_timed call (split_key row.number) core t)

doom_timed : (fate : Fate) (core : Core) → IsTimed core → Times (doom_call fate core)
doom_timed fate core t = asking_timed fate.unasked no_memory core _ t (λ c k. doom_next_timed (next_doomed c) fate.first c k)

sweep_if_timed : (b : Bool) (call : Call) (number : ℕ) (core : Core) → IsTimed core → Times (sweep_if b call number core)
sweep_if_timed false call number core t = t
sweep_if_timed true call number core t =
    let given = file_deleted call (split_key number) core in
    same_timed given.core (answered_by true given.answer given.core).core (answered_same true given.answer given.core) (file_deleted_timed call (split_key number) core t)

sweep_timed : (unasked : Bool) (number : ℕ) (fate : Fate) (core : Core) → IsTimed core → Times (swept_unless unasked number fate core)
sweep_timed true number fate core t = t
sweep_timed false number fate core t = sweep_if_timed (is_swept core number) fate.first number core t

called_timed : (turn : CollectorTurn (Option CollectorOutcome)) (luck : CallLuck) (core : Core) → IsTimed core → IsTimed (turned turn luck core).core
called_timed to_mark luck core t = offered_timed 0 stale_offer luck.fate core t
called_timed to_doom luck core t = let given = doom_call luck.fate core in unmade_timed given.answer given.core (doom_timed luck.fate core t)
called_timed to_remove luck core t = offered_timed 0 removal_offer luck.fate core t
called_timed (to_list behind) luck core t =
    let given = list_call luck.fate core in unmade_timed given.answer given.core ((got_still luck.fate.first.short core.store_faults luck.fate.first core).timed t)
called_timed (to_sweep number next) luck core t =
    let given = sweep_call number luck.fate core in unmade_timed given.answer given.core (sweep_timed luck.fate.unasked number luck.fate core t)
called_timed (ended outcome) luck core t = t

alone_timed : (count : ℕ) (turn : CollectorTurn (Option CollectorOutcome)) (fates : List Fate) (ends : List (List ℕ)) (core : Core) → IsTimed core → IsTimed (alone count turn fates ends core).core
alone_timed zero turn fates ends core t = t
alone_timed (suc count) turn fates ends core t =
    let luck : CallLuck = record { fate = first_fate fates; end = end_at turn ends } in
    let left = turned turn luck core in
    alone_timed count left.turn (other_fates fates) (ends_behind turn ends) left.core (called_timed turn luck core t)

collector_timed : (luck : CollectingLuck) (core : Core) → IsTimed core → IsTimed (step_collector luck core).core
collector_timed luck core t = alone_timed (max_calls luck) to_mark (luck.world ∷ luck.more) luck.ends core t

-- ---- behind a call that asks the clock

begun_moment : (call : Call) (core : Core) → (begun call core).moment ≡ core.moment
begun_moment call core = (same-landed call.lands (record core { store_faults = risen core.store_faults call.rises })).moment

tried_moment : (b : Effect) (standing : Option Entry) (entry : Entry) (core : Core) → (tried b standing entry core).moment ≡ core.moment
tried_moment done_at_once None entry core = refl
tried_moment done_at_once (Some other) entry core = refl
tried_moment done_late standing entry core = refl
tried_moment done_never standing entry core = refl

behind_moment : (standing : Option Entry) (entry : Entry) (core : Core) → (made_behind standing entry core).core.moment ≡ core.moment
behind_moment None entry core = refl
behind_moment (Some other) entry core = refl

made_moment : (b : Bool) (c : Effect) (entry : Entry) (core : Core) → (made_at b c entry core).core.moment ≡ core.moment
made_moment true c entry core = tried_moment c core.standing entry core
made_moment false c entry core = behind_moment core.standing entry core

create_moment : (call : Call) (entry : Entry) (core : Core) → (create_at_end call entry core).core.moment ≡ core.moment
create_moment call entry core = made_moment (may_fail call core.store_faults) call.effect entry (begun call core) ∙ begun_moment call core

module _ (least : ℕ) where
  taken_late : (b unsure : Bool) (entry : Entry) (core : Core) → least ≤ core.moment → least ≤ (taken_unless b unsure entry core).core.moment
  taken_late true unsure entry core le = le
  taken_late false unsure entry core le = omega (arith, le)

  got_late : (b : Bool) (call : Call) (count : ℕ) (entry : Entry) (core : Core) → least ≤ core.moment → least ≤ (got_at b call count entry core).core.moment
  got_late true call count entry core le = le
  got_late false call count entry core le = taken_late call.short (core.unsure || is_at_once call.effect) entry core le

  get_late : (call : Call) (entry : Entry) (count : ℕ) (core : Core) → least ≤ core.moment → least ≤ (get_at_end call entry count core).core.moment
  get_late call entry count core le =
      got_late (may_fail call core.store_faults) call count entry (begun call core) (let e = begun_moment call core in omega (arith, e, le))

  settle_made_late : (get : Call) (count : ℕ) (fence : Entry) (m : Made) (core : Core) → least ≤ core.moment → least ≤ (settle_made get count fence m core).core.moment
  settle_made_late get count fence made core le = taken_late get.short true fence core le
  settle_made_late get count fence (exists entry) core le = get_late get entry count core le
  settle_made_late get count fence failed core le = le

  unless_short_late : (b : Bool) (core : Core) → least ≤ core.moment → least ≤ (unless_short b core).core.moment
  unless_short_late true core le = le
  unless_short_late false core le = le

  settle_late : (b : Bool) (first second : Call) (core : Core) → least ≤ core.moment → least ≤ (settle_with b first second core).core.moment
  settle_late false first second core le = unless_short_late first.short core le
  settle_late true first second core le = by first.short
    where
      by : (b : Bool) → least ≤ (or_short b no_memory first core (settle_making second core.store_faults (fence_of core) (create_at_end first (fence_of core) core))).core.moment
      by true = let e = begun_moment first core in omega (arith, e, le)
      by false =
          let making = create_at_end first (fence_of core) core in
          settle_made_late second core.store_faults (fence_of core) making.answer making.core (let e = create_moment first (fence_of core) core in omega (arith, e, le))

  copied_late : (r : Result ⊤ Trouble) (core : Core) (b : Bool) → least ≤ core.moment → least ≤ (and_then_by r core (λ c. unless_short b c)).core.moment
  copied_late (Ok done) core b le = unless_short_late b core le
  copied_late (Err e) core b le = le

err_not_ok : (e : Trouble) → ◌≡◌ {A = Result ⊤ Trouble} (Err e) (Ok tt) → ⊥
err_not_ok e same = cc

-- a plan that was made asked the clock
pub asked_late : (fate : Fate) (core : Core) → IsTimed core → (asked_and_looked fate core).answer ≡ Ok tt → core.clock ≤ (asked_and_looked fate core).core.moment
asked_late fate core t ok = by fate.unasked ok
  where
    by : (b : Bool) → (asking b no_memory core (λ c. settled_and_copied fate c)).answer ≡ Ok tt → core.clock ≤ (asking b no_memory core (λ c. settled_and_copied fate c)).core.moment
    by true e = absurd (err_not_ok no_memory e)
    by false e =
        let asked = ap (λ b. asked_moment b core.moment core.clock) t.asks in
        let given = settled fate.first fate.second (asked_clock core) in
        copied_late core.clock given.answer given.core fate.third.short (settle_late core.clock core.unsure fate.first fate.second (asked_clock core) (omega (arith, asked)))

-- ---- a line

-- a moment that a line sets is none earlier than the clock's
abbrev pub Rises : ℕ → Line → Type 0
Rises clock (At moment) = clock ≤ moment
Rises clock line = ⊤

module _ (luck : LineLuck) (node : Node) (t : IsTimed node.core) where
  at_timed : (moment : ℕ) → node.core.clock ≤ moment → IsTimed (record (node.core) { clock = moment })
  at_timed moment le = let low = t.least in let high = t.most in record { asks = t.asks; least = low; most = omega (arith, le, high) }

  indexer_timed : (down : Bool) (i : ℕ) → IsTimed (indexer_turn_by down luck i node).node.core
  indexer_timed true i = t
  indexer_timed false i = (indexer_few (indexing_luck luck) node.log node.core (indexer_at node.indexers i)).timed t

  client_timed : (down : Bool) (name : List ℕ) → IsTimed (client_turn_by down luck name node).node.core
  client_timed true name = t
  client_timed false name = (client_few (searching_luck luck) node.log (client_named name node.clients) node.core).timed t

  merger_timed : (down : Bool) → IsTimed (worker_turn_by down Merging node.merger with_merger luck node).node.core
  merger_timed true = t
  merger_timed false = (worker_works (working_luck luck) node.log node.core Merging node.merger).timed t

  deleter_timed : (down : Bool) → IsTimed (worker_turn_by down Deleting node.deleter with_deleter luck node).node.core
  deleter_timed true = t
  deleter_timed false = (worker_works (working_luck luck) node.log node.core Deleting node.deleter).timed t

  gathering_timed : (down : Bool) → IsTimed (collector_turn_by down luck node).node.core
  gathering_timed true = t
  gathering_timed false = collector_timed (collecting_luck luck) node.core t

  full_timed : (line : Line) → Rises node.core.clock line → IsTimed (full_turn luck node line).node.core
  full_timed (At moment) le = at_timed moment le
  full_timed (Assign i names) le = let indexer = indexer_at node.indexers i in same_timed node.core _ (assign_same indexer.place i names indexer node) t
  full_timed (StepIndexer i) le = indexer_timed node.down i
  full_timed (RestartIndexer i) le = t
  full_timed (RestartClient name) le = t
  full_timed StepMerger le = merger_timed node.down
  full_timed RestartMerger le = t
  full_timed StepDeleter le = deleter_timed node.down
  full_timed RestartDeleter le = t
  full_timed StepCollector le = gathering_timed node.down
  full_timed RestartCollector le = t
  full_timed RestartNode le = let given = loaded luck.world node.core in same_timed given.core _ (restart_same given.answer given.core node) ((loaded_few luck.world node.core).timed t)
  full_timed (Open name text) le = let client = client_named name node.clients in same_timed node.core _ (open_same client.request name text client node) t
  full_timed (StepClient name) le = client_timed node.down name

none_is_some : (outcome : Outcome) → None ≡ Some outcome → ⊥
none_is_some outcome e = cc

-- THE MOMENT behind a line that was answered
pub turn_timed : (node : Node) (line : Line) (outcome : Outcome) (last : Node) → IsTimed node.core → Rises node.core.clock line → Turn node line (Some outcome) last → IsTimed last.core
turn_timed node line outcome last t le turn = early turn.luck.early turn.is
  where
    quiet_by : (b : Bool) → or_quiet b line (full_turn turn.luck node line) ≡ record { said = Some outcome; node = last } → IsTimed last.core
    quiet_by true e = absurd (none_is_some outcome (ap (λ r. r.said) e))
    quiet_by false e = subst (λ r. IsTimed r.node.core) e (full_timed turn.luck node t line le)

    early : (b : Bool) → turn_by b turn.luck node line ≡ record { said = Some outcome; node = last } → IsTimed last.core
    early true e = absurd (none_is_some outcome (ap (λ r. r.said) e))
    early false e = quiet_by turn.luck.short e
