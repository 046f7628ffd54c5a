-- What the calls of a merger or a delete worker say of the journal: an entry that was made is the last one; one that was refused may not come behind
-- what was taken in; and the rows of a merger's plan are those that the policy chooses.
use Rattle.std.proofs.Common.{◌≡◌, ◌⊎◌, ◌≢◌, ℕ, zero, suc, ◌+◌, ◌<◌, ◌≤◌, ◌==◌, ◌&&◌, Bool, true, false, cond, List, [], ◌∷◌, ◌++◌, length, take, option_map, max, min, refl, sym, ap, ◌∙◌, subst, inl, inr, arith, ne_eqb}
use Rattle.std.proofs.Math.Seq.{take-length}
use Rattle.std.proofs.lemmas.Bool.{and_from, eq-eqb, eqb-false, le-leb, le-ltb, ltb-false, or_parts}
use Rattle.std.proofs.lemmas.List.{length-append}
use Rattle.std.specs.List.{AllByRecursion}
use Rattle.std.specs.Prelude.{◌||◌, Option, Some, None, Result, Ok, Err, IsOk, IsSomeAnd, ⊤, Contains, filter, nat_le, nat_lt, slice_get}
use Rattle.std.specs.Option.{option_or}
use Rattle.std.specs.Ordering.{is_lt}
use Rattle.index_config.proofs.Ranges.{accepted-ranges}
use Rattle.index_config.specs.Accepted.{IsBetween, HasPolicyRanges, HasRanges}
use Rattle.index_config.specs.declared.config.IndexConfig.{IndexConfig}
use Rattle.index_config.specs.declared.config.Policy.{Policy}
use Rattle.index_config.specs.declared.config.Policy.TheVariants.{StableLog, LimitMerge, NoMerge}
use Rattle.merge_policy.specs.Choice.{is_candidate, is_of_level, level_rows, max_merge_factor, merge_factor, row_order}
use Rattle.merge_policy.specs.Chosen.{fits_split, fitting, given, in_order, least_given, level_count, with_row}
use Rattle.meta_journal.specs.declared.entry.Act.{Act}
use Rattle.meta_journal.specs.declared.entry.Act.TheVariants.{Replace, Stage}
use Rattle.meta_journal.specs.declared.entry.Entry.{Entry}
use Rattle.meta_store.proofs.Answered.{answered}
use Rattle.meta_store.proofs.Numbers.{each_found, fresh_spans, history-snoc}
use Rattle.meta_store.proofs.RowLists.{EachNumberOnce, the_row}
use Rattle.meta_store.proofs.Sound.{sound}
use Rattle.meta_store.specs.Answers as answers
use Rattle.meta_store.specs.History.{history, last_number, last_opstamp, moment_of, stamp_of}
use Rattle.meta_store.specs.History.History.{◌▸◌}
use Rattle.meta_store.specs.Planning.{config_fits, is_within, policy_fits, rows_for, rows_of}
use Rattle.meta_store.specs.Readings.{config_of, reading_of}
use Rattle.meta_store.specs.Rows.{rows}
use Rattle.meta_store.specs.State.{Legal, MayCome, MayFollow, state_of}
use Rattle.meta_store.specs.declared.config.Config.{Config}
use Rattle.meta_store.specs.declared.planning.Choice.TheVariants as choices
use Rattle.meta_store.specs.declared.refusal.Refusal.{Refusal}
use Rattle.meta_store.specs.declared.refusal.Refusal.TheVariants.{MomentBack, NotNext, TooManyRows, UptoAhead}
use Rattle.meta_store.specs.declared.refusal.Refusal.TheVariants.{State as BadState}
use Rattle.source_checkpoint.specs.Deltas.{answer_to_delta, spans_of, then_answer}
use Rattle.source_checkpoint.specs.declared.delta.Part.{Part}
use Rattle.split_states.specs.Answers.{AreApart, IsIn, IsRow, Repeats, answer_to_replace}
use Rattle.split_states.specs.Rows.{row_at}
use Rattle.split_states.specs.declared.facts.RowFacts.{RowFacts}
use Rattle.split_states.specs.declared.refusal.StateRefusal.{StateRefusal}
use Rattle.split_states.specs.declared.rows.Row.{Row}
use Rattle.split_states.specs.declared.rows.RowState.{RowState}
use Rattle.split_states.specs.declared.rows.RowState.TheVariants.{Marked, Published, Staged}
use Rattle.index_world.specs.Calls.{Call, Fate, Gives, Made, made, exists, failed, Trouble, no_memory, Unmade, refused, troubled, adopted_made, and_then_by, answer_behind, appended, asked_clock, asking, create_at_end, entry_of, first_unless, full_answer, get_at_end, last_create, last_made, last_unless, or_full, or_short, settled, transact, troubled_by}
use Rattle.index_world.specs.Config.{reads}
use Rattle.index_world.specs.Configuration.{config_or, configuration, index_of}
use Rattle.index_world.specs.Core.{Core}
use Rattle.index_world.specs.Gate.{stage_act}
use Rattle.index_world.specs.Index.{HasStaged, max_entries}
use Rattle.index_world.proofs.Asking.{Begun, begun_history}
use Rattle.index_world.proofs.Configured.{configured_read}
use Rattle.index_world.proofs.InHand.{HasStaged-new}
use Rattle.index_world.proofs.Numbers.{revision_is}
use Rattle.index_world.proofs.StoreKeys.{none_some}
use Rattle.call_laws.proofs.CallMoves.{Grows, get_moves, grows_on, settled_moves, same_grows, troubled_moves}
use Rattle.upkeep_run.proofs.Idling.{merge_none}
use Rattle.upkeep_run.proofs.PlannedRows.{FitIf, least_fit, named}
use Rattle.upkeep_run.specs.Places.{row_numbers}
use Rattle.upkeep_run.specs.Steps.{rows_in}
use Rattle.upkeep_run.specs.declared.work.Aim.TheVariants.{Merging}
use Rattle.quick_node.specs.Replaces.{IsCrowded, IsHindered, IsRefused, chosen_by}
use Rattle.quick_node.proofs.Files.{create_still}
use Rattle.quick_node.proofs.Prefixes.{last_at, longer}

-- ---- an entry

-- It was made behind what was taken in, of that; or it was refused, behind what is taken in now.
abbrev pub Appends : (Core → Act) → Core → Result ⊤ Unmade → Core → Type 0
Appends act start (Ok done) core = (c : Core) × Grows start c × (core.history ≡ c.history ++ entry_of (act c) c ∷ [])
Appends act start (Err (refused refusal)) core = Grows start core × (answer_behind core.history (entry_of (act core) core) ≡ Err refusal)
Appends act start (Err (troubled trouble)) core = ⊤

module _ (act : Core → Act) where
  abbrev Made_behind : Core → Gives Unmade ⊤ → Type 0
  Made_behind start given = Appends act start given.answer given.core

  short_appends : (start : Core) (b : Bool) (call : Call) (core : Core) (given : Gives Unmade ⊤) → Made_behind start given → Made_behind start (or_short b (troubled no_memory) call core given)
  short_appends start true call core given m = tt
  short_appends start false call core given m = m

  last_made_appends : (start c : Core) → Grows start c → (count : ℕ) (m : Made) (core : Core) → core.history ≡ c.history → Made_behind start (last_made count (entry_of (act c) c) m core)
  last_made_appends start c g count made core e = (c, g, ap (λ (es : List Entry). es ++ entry_of (act c) c ∷ []) e)
  last_made_appends start c g count (exists other) core e = tt
  last_made_appends start c g count failed core e = tt

  full_appends : (start : Core) (b : Bool) (call : Call) (count : ℕ) (core : Core) → Grows start core → Made_behind start (last_unless (full_answer b) call count (act core) core)
  full_appends start true call count core g = tt
  full_appends start false call count core g =
      let making = create_at_end call (entry_of (act core) core) core in last_made_appends start core g count making.answer making.core (create_still call (entry_of (act core) core) core).history

  answer_appends : (start : Core) (r : Result (Unit {0}) Refusal) (call : Call) (count : ℕ) (core : Core) → Grows start core → answer_behind core.history (entry_of (act core) core) ≡ r →
      Made_behind start (last_unless (or_full r core) call count (act core) core)
  answer_appends start (Err refusal) call count core g e = (g, e)
  answer_appends start (Ok done) call count core g e = full_appends start (nat_le max_entries (length core.history)) call count core g

  last_appends : (start : Core) (call : Call) (count : ℕ) (core : Core) → Grows start core → Made_behind start (last_create call count (act core) core)
  last_appends start call count core g =
      short_appends start call.short call core _ (answer_appends start (answer_behind core.history (entry_of (act core) core)) call count core g refl)

  then_appends : (start : Core) (r : Result ⊤ Unmade) (core : Core) (call : Call) (count : ℕ) → Grows start core → ((refusal : Refusal) → r ≡ Err (refused refusal) → ⊥) →
      Made_behind start (and_then_by r core (λ c. last_create call count (act c) c))
  then_appends start (Ok done) core call count g never = last_appends start call count core g
  then_appends start (Err (refused refusal)) core call count g never = absurd (never refusal refl)
  then_appends start (Err (troubled trouble)) core call count g never = tt

  never_refused : (r : Result ⊤ Trouble) (core : Core) (refusal : Refusal) → (troubled_by r core).answer ≡ Err (refused refusal) → ⊥
  never_refused (Ok done) core refusal e = cc
  never_refused (Err trouble) core refusal e = cc

  adopted_appends : (start c : Core) → Grows start c → (get again : Call) (count : ℕ) (m : Made) (core : Core) → core.history ≡ c.history → Made_behind start (adopted_made get again count act (entry_of (act c) c) m core)
  adopted_appends start c g get again count made core e = (c, g, ap (λ (es : List Entry). es ++ entry_of (act c) c ∷ []) e)
  adopted_appends start c g get again count (exists other) core e =
      let given = get_at_end get other count core in
      then_appends start (troubled_by given.answer given.core).answer (troubled_by given.answer given.core).core again count
      (grows_on start given.core (troubled_by given.answer given.core).core
      (grows_on start core given.core (grows_on start c core g (same_grows c core e)) (get_moves get other count core).later.grows) (troubled_moves given.answer given.core).later.grows)
      (never_refused given.answer given.core)
  adopted_appends start c g get again count failed core e = tt

  module _ (start : Core) (first second third : Call) where
    unless_full : (b : Bool) (core : Core) → Grows start core → Made_behind start (first_unless (full_answer b) first second third act core)
    unless_full true core g = tt
    unless_full false core g =
        let making = create_at_end first (entry_of (act core) core) core in
        adopted_appends start core g second third core.store_faults making.answer making.core (create_still first (entry_of (act core) core) core).history

    unless_refused : (r : Result (Unit {0}) Refusal) (core : Core) → Grows start core → answer_behind core.history (entry_of (act core) core) ≡ r → Made_behind start (first_unless (or_full r core) first second third act core)
    unless_refused (Err refusal) core g e = (g, e)
    unless_refused (Ok done) core g e = unless_full (nat_le max_entries (length core.history)) core g

    transact_appends : (b : Bool) (core : Core) → Grows start core → Made_behind start (transact b first second third act core)
    transact_appends true core g =
        let given = settled first second core in
        then_appends start (troubled_by given.answer given.core).answer (troubled_by given.answer given.core).core third core.store_faults
        (grows_on start given.core (troubled_by given.answer given.core).core (grows_on start core given.core g (settled_moves first second core).later.grows) (troubled_moves given.answer given.core).later.grows)
        (never_refused given.answer given.core)
    transact_appends false core g = short_appends start first.short first core _ (unless_refused (answer_behind core.history (entry_of (act core) core)) core g refl)

  pub appended_says : (fate : Fate) (core : Core) → Made_behind core (appended fate act core)
  appended_says fate core = by fate.unasked
    where
      by : (b : Bool) → Made_behind core (asking b (troubled no_memory) core (λ c. transact c.unsure fate.first fate.second fate.third act c))
      by true = tt
      by false = transact_appends core fate.first fate.second fate.third core.unsure (asked_clock core) (same_grows core (asked_clock core) refl)

-- ---- where an entry that was made stands

-- an entry of this act came to stand in the journal of a core, behind that of another
pub record StandsAt (start core : Core) (act : Act) : Type 0 where
  pub place : ℕ
  pub least : length start.history ≤ place
  pub below : place < length core.history
  pub entry : Entry
  pub there : slice_get core.history place ≡ Some entry
  pub is : entry.act ≡ act

pub made_stands : (act : Core → Act) (start core : Core) (a : Appends act start (Ok tt) core) → StandsAt start core (act a.0)
made_stands act start core a =
    let new = entry_of (act a.0) a.0 in
    let long : length core.history ≡ length a.0.history + 1 = ap length a.2 ∙ length-append a.0.history (new ∷ []) in
    record {
      place = length a.0.history;
      least = longer start.history a.0.history a.1;
      below = omega (arith, long);
      entry = new;
      there = ap (λ (es : List Entry). slice_get es (length a.0.history)) a.2 ∙ last_at a.0.history new;
      is = refl;
    }

-- a row was staged without records of its own
pub record StagesNow (start core : Core) (facts : RowFacts) : Type 0 where
  pub stands : StandsAt start core (Stage (last_number (history core.history)) [] facts)
  pub staged : HasStaged core.history (last_number (history core.history)) [] facts

pub stages_now : (facts : RowFacts) (start core : Core) → Legal reads (history core.history) → Appends (stage_act [] facts) start (Ok tt) core → StagesNow start core facts
stages_now facts start core legal a = record {
  stands = subst (λ (n : ℕ). StandsAt start core (Stage n [] facts)) (sym number_is) (made_stands (stage_act [] facts) start core a);
  staged = subst (λ (n : ℕ). HasStaged core.history n [] facts) (sym number_is)
      (subst (λ (es : List Entry). HasStaged es (last_number (history c.history) + 1) [] facts) (sym a.2)
      (HasStaged-new c.history c.moment (last_number (history c.history) + 1) [] facts both.0 both.1));
}
  where
    c : Core
    c = a.0

    new : Entry
    new = entry_of (stage_act [] facts c) c

    both : Legal reads (history c.history ▸ new)
    both = subst (Legal reads) (history-snoc c.history new) (subst (λ (es : List Entry). Legal reads (history es)) a.2 legal)

    number_is : last_number (history core.history) ≡ last_number (history c.history) + 1
    number_is =
        let next : max (last_number (history c.history)) (last_number (history c.history) + 1) ≡ last_number (history c.history) + 1 = omega arith in
        ap (λ (es : List Entry). last_number (history es)) a.2 ∙ ap last_number (history-snoc c.history new) ∙ next

-- ---- a Replace that is refused

in_or : (state : RowState) (list : List Row) (n : ℕ) → IsIn state list n ⊎ (IsIn state list n → ⊥)
in_or state list n = by (row_at list n)
  where
    same : (a b : RowState) → (a ≡ b) ⊎ (a ≡ b → ⊥)
    same Staged Staged = inl refl
    same Staged Published = inr (λ e. cc)
    same Staged Marked = inr (λ e. cc)
    same Published Staged = inr (λ e. cc)
    same Published Published = inl refl
    same Published Marked = inr (λ e. cc)
    same Marked Staged = inr (λ e. cc)
    same Marked Published = inr (λ e. cc)
    same Marked Marked = inl refl

    as_row : (row : Row) → (row.state ≡ state) ⊎ (row.state ≡ state → ⊥) → ((row.state ≡ state) × ⊤) ⊎ ((row.state ≡ state) × ⊤ → ⊥)
    as_row row (inl e) = inl (e, tt)
    as_row row (inr other) = inr (λ h. other h.0)

    by : (o : Option Row) → IsSomeAnd o (λ row. (row.state ≡ state) × ⊤) ⊎ (IsSomeAnd o (λ row. (row.state ≡ state) × ⊤) → ⊥)
    by None = inr (λ h. h)
    by (Some row) = as_row row (same row.state state)

-- each of these rows is published, or one is not
each_or : (list : List Row) (old : List ℕ) → AllByRecursion (IsIn Published list) old ⊎ ((one : ℕ) × Contains old one × (IsIn Published list one → ⊥))
each_or list [] = inl tt
each_or list (n ∷ old) = by (in_or Published list n) (each_or list old)
  where
    by : IsIn Published list n ⊎ (IsIn Published list n → ⊥) → AllByRecursion (IsIn Published list) old ⊎ ((one : ℕ) × Contains old one × (IsIn Published list one → ⊥)) →
        AllByRecursion (IsIn Published list) (n ∷ old) ⊎ ((one : ℕ) × Contains (n ∷ old) one × (IsIn Published list one → ⊥))
    by (inl here) (inl rest) = inl (here, rest)
    by (inl here) (inr r) = inr (r.0, (suc r.1.0, (let l = r.1.1 in omega (arith, l)), r.1.2), r.2)
    by (inr other) rest = inr (n, (0, omega arith, refl), other)

false_is_true : false ≡ true → ⊥
false_is_true e = cc

ok_is_err : (refusal : Refusal) → ◌≡◌ {A = Result (Unit {0}) Refusal} (Ok tt) (Err refusal) → ⊥
ok_is_err refusal e = cc

refusal_same : (a b : Refusal) → ◌≡◌ {A = Result (Unit {0}) Refusal} (Err a) (Err b) → a ≡ b
refusal_same a b e = cc

abbrev Refused_so : List Row → ℕ → List ℕ → Refusal → Type 0
Refused_so list n old refusal = (reason : StateRefusal) × (answer_to_replace list n old ≡ Err reason) × (refusal ≡ BadState reason)

abbrev Crowded_so : List Row → Refusal → Type 0
Crowded_so list refusal = (100000 ≤ length list) × (refusal ≡ TooManyRows (length list))

no_ok : (refusal : Refusal) (r : Result (Unit {0}) Refusal) → r ≡ Err refusal → IsOk r → ⊥
no_ok refusal (Ok done) e ok = absurd (err_apart done refusal e)
  where
    err_apart : (done : Unit {0}) (e : Refusal) → ◌≡◌ {A = Result (Unit {0}) Refusal} (Ok done) (Err e) → ⊥
    err_apart done e same = cc
no_ok refusal (Err other) e ok = false_is_true ok

-- an answer behind a configuration, where the moment doesn't fall
module _ (es : List Entry) (moment : ℕ) (legal : Legal reads (history es)) (some : 0 < length es) (late : moment_of (history es) ≤ moment) where
  pub begun_here : Begun (history es)
  begun_here = begun_history (history es) legal (let r = revision_is es in omega (arith, r, some))

  abbrev Answering : (act : Act) → Option Config → Result (Unit {0}) Refusal
  Answering act c = answers.answer_by (reading_of reads c act) c (state_of reads (history es)) moment act

  pub answer_here : (act : Act) → answer_behind es (record { moment = moment; act = act }) ≡ Answering act (Some begun_here.config)
  answer_here act =
      ap (λ (b : Bool). then_answer (cond b (Err (MomentBack moment (moment_of (history es)))) (Ok tt)) (Answering act (config_of reads (history es)))) (le-ltb moment (moment_of (history es)) late)
      ∙ ap (Answering act) begun_here.is

  -- by what the rows answer
  pub state_refuses : (upto : ℕ) (refusal : Refusal) (r : Result (Unit {0}) StateRefusal) → upto ≤ last_opstamp (history es) →
      then_answer (answers.in_state r) (answers.answer_to_upto upto (last_opstamp (history es))) ≡ Err refusal → (reason : StateRefusal) × (r ≡ Err reason) × (refusal ≡ BadState reason)
  state_refuses upto refusal (Ok done) known e =
      absurd (ok_is_err refusal (ap (λ (b : Bool). cond b (Err (UptoAhead upto (last_opstamp (history es)))) (Ok tt)) (sym (le-ltb (last_opstamp (history es)) upto known)) ∙ e))
  state_refuses upto refusal (Err reason) known e = (reason, refl, refusal_same refusal (BadState reason) (sym e))

  pub is_refused : (n : ℕ) (old : List ℕ) (upto : ℕ) (refusal : Refusal) → upto ≤ last_opstamp (history es) → answer_behind es (record { moment = moment; act = Replace n old upto }) ≡ Err refusal →
      IsRefused (length es) es n old refusal
  is_refused n old upto refusal known e =
      subst (λ (xs : List Entry). Refused_so (rows (history xs)) n old refusal) (sym (take-length es))
      (state_refuses upto refusal (answer_to_replace (rows (history es)) n old) known (sym (answer_here (Replace n old upto)) ∙ e))

  pub is_crowded : (delta : List Part) (facts : RowFacts) (refusal : Refusal) → delta ≡ [] → answer_behind es (record { moment = moment; act = Stage (last_number (history es) + 1) delta facts }) ≡ Err refusal →
      IsCrowded (length es) es refusal
  is_crowded delta facts refusal none e =
      subst (λ (xs : List Entry). Crowded_so (rows (history xs)) refusal) (sym (take-length es)) (by (nat_lt (length (rows (history es))) 100000) refl (staged_rows ∙ e))
    where
      next : ℕ
      next = last_number (history es) + 1

      rest : Result (Unit {0}) Refusal
      rest = then_answer (answers.in_delta (answer_to_delta [] delta)) (answers.answer_to_rows (length (rows (history es))))

      staged_rows : answers.answer_to_rows (length (rows (history es))) ≡ answer_behind es (record { moment = moment; act = Stage next delta facts })
      staged_rows =
          ap (λ (d : List Part). then_answer (answers.in_delta (answer_to_delta [] d)) (answers.answer_to_rows (length (rows (history es))))) (sym none)
          ∙ ap (λ (b : Bool). then_answer (cond b (Ok tt) (Err (NotNext next next))) rest) (sym (eq-eqb next next refl))
          ∙ sym (answer_here (Stage next delta facts))

      by : (b : Bool) → nat_lt (length (rows (history es))) 100000 ≡ b → answers.answer_to_rows (length (rows (history es))) ≡ Err refusal → Crowded_so (rows (history es)) refusal
      by true t k = absurd (ok_is_err refusal (ap (λ (b : Bool). cond b (Ok tt) (Err (TooManyRows (length (rows (history es)))))) (sym t) ∙ k))
      by false t k =
          (ltb-false (length (rows (history es))) 100000 t, refusal_same refusal (TooManyRows (length (rows (history es)))) (sym (ap (λ (b : Bool). cond b (Ok tt) (Err (TooManyRows (length (rows (history es)))))) (sym t) ∙ k)))

module _ (es : List Entry) (moment n : ℕ) (old : List ℕ) (upto : ℕ) (facts : RowFacts) (legal : Legal reads (history es)) (some : 0 < length es) (late : moment_of (history es) ≤ moment) (known : upto ≤ last_opstamp (history es))
    (staged : HasStaged es n [] facts) (any : old ≢ []) (apart : AreApart old) where
  abbrev here : List Row
  here = rows (history es)

  abbrev entry : Entry
  entry = record { moment = moment; act = Replace n old upto }

  begun_es : Begun (history es)
  begun_es = begun_history (history es) legal (let r = revision_is es in omega (arith, r, some))

  -- a row that is staged for a replacement has no spans
  is_fresh : IsIn Staged here n → IsRow Staged (λ row. row.spans ≡ []) here n
  is_fresh h =
      let r = the_row (row_at here n) (λ row. (row.state ≡ Staged) × ⊤) h in
      subst (λ (o : Option Row). IsSomeAnd o (λ row. (row.state ≡ Staged) × (row.spans ≡ []))) (sym r.1)
      (r.2.0, fresh_spans reads (history es) n r.0 legal r.1 r.2.0 ∙ ap (spans_of (stamp_of (history es) n)) staged.noted)

  may_come : IsIn Staged here n → AllByRecursion (IsIn Published here) old → MayFollow (reading_of reads (config_of reads (history es)) (Replace n old upto)) (state_of reads (history es)) entry
  may_come h all = (
    late,
    subst (λ (c : Option Config). MayCome (reading_of reads c (Replace n old upto)) c (state_of reads (history es)) moment (Replace n old upto)) (sym begun_es.is) ((is_fresh h, (any, apart, all)), known),
  )

  -- A REPLACE THAT IS REFUSED: the row isn't staged, or one of the others isn't published
  pub is_hindered : (refusal : Refusal) → answer_behind es entry ≡ Err refusal → IsHindered (length es) es n old
  is_hindered refusal e = subst (λ (xs : List Entry). Hindered (rows (history xs))) (sym (take-length es)) (by (in_or Staged here n) (each_or here old))
    where
      Hindered : List Row → Type 0
      Hindered list = (IsIn Staged list n → ⊥) ⊎ ((one : ℕ) × Contains old one × (IsIn Published list one → ⊥))

      by : IsIn Staged here n ⊎ (IsIn Staged here n → ⊥) → AllByRecursion (IsIn Published here) old ⊎ ((one : ℕ) × Contains old one × (IsIn Published here one → ⊥)) → Hindered here
      by (inr other) each = inl other
      by (inl h) (inr one) = inr one
      by (inl h) (inl all) =
          absurd (no_ok refusal (answer_behind es entry) e ((answered (reading_of reads (config_of reads (history es)) (Replace n old upto)) (state_of reads (history es)) entry tt).1 (may_come h all)))

-- ---- the numbers of the rows that are chosen are apart

or_false : (a b : Bool) → a ≡ false → b ≡ false → (a || b) ≡ false
or_false false false e f = refl
or_false false true e f = f
or_false true b e f = e

-- none of these rows has this number
abbrev Lacks : List Row → ℕ → Type 0
Lacks list n = Repeats (row_numbers list) n ≡ false

abbrev Apart : List Row → Type 0
Apart list = AreApart (row_numbers list)

absent_lacks : (list : List Row) (n : ℕ) → row_at list n ≡ None → Lacks list n
absent_lacks [] n e = refl
absent_lacks (row ∷ list) n e = by (row.number == n) refl (absent_lacks list n)
  where
    by : (b : Bool) → (row.number == n) ≡ b → (row_at list n ≡ None → Lacks list n) → Lacks (row ∷ list) n
    by true t rest = let bad : Some row ≡ None = rw t at e in absurd (none_some row (sym bad))
    by false t rest = let there : row_at list n ≡ None = rw t at e in or_false (row.number == n) (Repeats (row_numbers list) n) t (rest there)

once_apart : (list : List Row) → EachNumberOnce list → Apart list
once_apart [] once = tt
once_apart (row ∷ list) once = (absent_lacks list row.number once.0, once_apart list once.1)

module _ (test : Row → Bool) where
  filter_lacks : (list : List Row) (n : ℕ) → Lacks list n → Lacks (filter test list) n
  filter_lacks [] n e = refl
  filter_lacks (row ∷ list) n e = let p = or_parts (row.number == n) (Repeats (row_numbers list) n) e in by (test row) p.0 (filter_lacks list n p.1)
    where
      by : (b : Bool) → (row.number == n) ≡ false → Lacks (filter test list) n → Lacks (cond b (row ∷ filter test list) (filter test list)) n
      by true away rest = or_false (row.number == n) (Repeats (row_numbers (filter test list)) n) away rest
      by false away rest = rest

  filter_apart : (list : List Row) → Apart list → Apart (filter test list)
  filter_apart [] a = tt
  filter_apart (row ∷ list) a = by (test row) (filter_lacks list row.number a.0) (filter_apart list a.1)
    where
      by : (b : Bool) → Lacks (filter test list) row.number → Apart (filter test list) → Apart (cond b (row ∷ filter test list) (filter test list))
      by true lacks rest = (lacks, rest)
      by false lacks rest = rest

with_lacks : (row : Row) (list : List Row) (n : ℕ) → (row.number == n) ≡ false → Lacks list n → Lacks (with_row row list) n
with_lacks row [] n e lacks = or_false (row.number == n) false e refl
with_lacks row (other ∷ list) n e lacks =
    let p = or_parts (other.number == n) (Repeats (row_numbers list) n) lacks in by (is_lt (row_order row other)) p.0 (with_lacks row list n e p.1)
  where
    by : (b : Bool) → (other.number == n) ≡ false → Lacks (with_row row list) n → Lacks (cond b (row ∷ other ∷ list) (other ∷ with_row row list)) n
    by true away rest = or_false (row.number == n) (Repeats (row_numbers (other ∷ list)) n) e lacks
    by false away rest = or_false (other.number == n) (Repeats (row_numbers (with_row row list)) n) away rest

with_apart : (row : Row) (list : List Row) → Lacks list row.number → Apart list → Apart (with_row row list)
with_apart row [] lacks a = (refl, tt)
with_apart row (other ∷ list) lacks a =
    let p = or_parts (other.number == row.number) (Repeats (row_numbers list) row.number) lacks in
    let away : (row.number == other.number) ≡ false = ne_eqb row.number other.number (λ e. eqb-false other.number row.number p.0 (sym e)) in
    by (is_lt (row_order row other)) (with_lacks row list other.number away a.0) (with_apart row list p.1 a.1)
  where
    by : (b : Bool) → Lacks (with_row row list) other.number → Apart (with_row row list) → Apart (cond b (row ∷ other ∷ list) (other ∷ with_row row list))
    by true before rest = (lacks, a)
    by false before rest = (before, rest)

order_lacks : (list : List Row) (n : ℕ) → Lacks list n → Lacks (in_order list) n
order_lacks [] n e = refl
order_lacks (row ∷ list) n e = let p = or_parts (row.number == n) (Repeats (row_numbers list) n) e in with_lacks row (in_order list) n p.0 (order_lacks list n p.1)

order_apart : (list : List Row) → Apart list → Apart (in_order list)
order_apart [] a = tt
order_apart (row ∷ list) a = with_apart row (in_order list) (order_lacks list row.number a.0) (order_apart list a.1)

take_lacks : (k : ℕ) (list : List Row) (n : ℕ) → Lacks list n → Lacks (take k list) n
take_lacks zero list n e = refl
take_lacks (suc k) [] n e = refl
take_lacks (suc k) (row ∷ list) n e =
    let p = or_parts (row.number == n) (Repeats (row_numbers list) n) e in or_false (row.number == n) (Repeats (row_numbers (take k list)) n) p.0 (take_lacks k list n p.1)

take_apart : (k : ℕ) (list : List Row) → Apart list → Apart (take k list)
take_apart zero list a = tt
take_apart (suc k) [] a = tt
take_apart (suc k) (row ∷ list) a = (take_lacks k list row.number a.0, take_apart k list a.1)

fitting_apart : (most : ℕ) (list : List Row) → Apart list → Apart (fitting most list)
fitting_apart zero list a = tt
fitting_apart (suc n) list a = by (fits_split (take (suc n) list)) (fitting_apart n list a)
  where
    by : (b : Bool) → Apart (fitting n list) → Apart (cond b (take (suc n) list) (fitting n list))
    by true rest = take_apart (suc n) list a
    by false rest = rest

abbrev ApartIf : Option (List Row) → Type 0
ApartIf None = ⊤
ApartIf (Some list) = Apart list

module _ (policy : Policy) (target now : ℕ) (list : List Row) (a : Apart list) where
  given_apart : (k : ℕ) → ApartIf (given policy target now list k)
  given_apart k = by (nat_le (merge_factor policy) (length level) && nat_le 2 (length (fitting (min (max_merge_factor policy) (length level)) level)))
    where
      level : List Row
      level = in_order (level_rows policy target now list k)

      by : (b : Bool) → ApartIf (cond b (Some (fitting (min (max_merge_factor policy) (length level)) level)) None)
      by true =
          fitting_apart (min (max_merge_factor policy) (length level)) level
          (order_apart (level_rows policy target now list k) (filter_apart (is_of_level policy k) (filter (is_candidate policy target now) list) (filter_apart (is_candidate policy target now) list a)))
      by false = tt

  or_apart : (x y : Option (List Row)) → ApartIf x → ApartIf y → ApartIf (option_or x y)
  or_apart None y p q = q
  or_apart (Some rows) y p q = p

  least_apart : (k count : ℕ) → ApartIf (least_given policy target now list k count)
  least_apart k zero = tt
  least_apart k (suc count) = or_apart (given policy target now list k) (least_given policy target now list (suc k) count) (given_apart k) (least_apart (suc k) count)

-- ---- the rows of a plan

-- the numbers of each configuration that was accepted fit
within : (least most n : ℕ) → IsBetween least most n → is_within least most n ≡ true
within least most n h = and_from (nat_le least n) (nat_le n most) (le-leb least n h.0) (le-leb n most h.1)

policy_is : (p : Policy) → HasPolicyRanges p → policy_fits p ≡ true
policy_is (StableLog least factor greatest period) h =
    and_from (is_within 1 16777216 least) (is_within 2 100 factor && (is_within factor 100 greatest && nat_le period 2147483647)) (within 1 16777216 least h.0)
    (and_from (is_within 2 100 factor) (is_within factor 100 greatest && nat_le period 2147483647) (within 2 100 factor h.1)
    (and_from (is_within factor 100 greatest) (nat_le period 2147483647) (within factor 100 greatest h.2) (le-leb period 2147483647 h.3)))
policy_is (LimitMerge factor greatest ops period) h =
    and_from (is_within 2 100 factor) (is_within factor 100 greatest && (is_within 1 100 ops && nat_le period 2147483647)) (within 2 100 factor h.0)
    (and_from (is_within factor 100 greatest) (is_within 1 100 ops && nat_le period 2147483647) (within factor 100 greatest h.1)
    (and_from (is_within 1 100 ops) (nat_le period 2147483647) (within 1 100 ops h.2) (le-leb period 2147483647 h.3)))
policy_is NoMerge h = refl

config_is_fit : (config : IndexConfig) → HasRanges config → config_fits config ≡ true
config_is_fit config h = and_from (policy_fits config.policy) (is_within 1 16777216 config.docs_target) (policy_is config.policy h.policy) (within 1 16777216 config.docs_target h.docs_target)

module _ (core : Core) (legal : Legal reads (history core.history)) (some : 0 < length core.history) where
  begun_core : Begun (history core.history)
  begun_core = begun_history (history core.history) legal (let r = revision_is core.history in omega (arith, r, some))

  abbrev all : List Row
  all = rows (history core.history)

  abbrev config : IndexConfig
  config = begun_core.config.settings.index

  configured : configuration core.history ≡ Some config
  configured = ap index_of begun_core.is

  fit : config_fits config ≡ true
  fit = let r = configured_read core.history config configured in config_is_fit config (accepted-ranges r.0 config r.1)

  abbrev picked : Option (List Row)
  picked = least_given config.policy config.docs_target core.moment (rows (history core.history)) 0 (level_count (rows (history core.history)))

  chosen_is : chosen_by (config_or (configuration core.history)) core.moment core.history ≡ option_map row_numbers picked
  chosen_is = ap (λ (o : Option IndexConfig). chosen_by (config_or o) core.moment core.history) configured

  rows_are : rows_in Merging core ≡ rows_of all (option_map row_numbers picked)
  rows_are =
      ap (λ (c : Option Config). rows_for c choices.Merge core.moment (last_opstamp (history core.history)) (rows (history core.history))) begun_core.is
      ∙ ap (λ b. cond b (rows_of (rows (history core.history)) (option_map row_numbers picked)) []) fit

  own : AllByRecursion (λ row. row_at (rows (history core.history)) row.number ≡ Some row) (rows (history core.history))
  own = each_found (rows (history core.history)) (sound reads (history core.history) legal).held.apart

  abbrev FoundIf : Option (List Row) → Type 0
  FoundIf o = FitIf (max_merge_factor config.policy) (λ row. row_at (rows (history core.history)) row.number ≡ Some row) o

  all_found : FoundIf picked
  all_found =
      least_fit (λ row. row_at (rows (history core.history)) row.number ≡ Some row) (λ row. row_at (rows (history core.history)) row.number ≡ Some row) config.policy config.docs_target core.moment (rows (history core.history))
      (λ row shown p. p) own 0 (level_count (rows (history core.history)))

  all_apart : ApartIf picked
  all_apart = least_apart config.policy config.docs_target core.moment (rows (history core.history)) (once_apart (rows (history core.history)) (sound reads (history core.history) legal).held.apart) 0 (level_count (rows (history core.history)))

  -- its rows, where it has some, are those that are chosen, and no two have one number
  pub record Picks (list : List Row) : Type 0 where
    pub chosen : chosen_by (config_or (configuration core.history)) core.moment core.history ≡ Some (row_numbers list)
    pub apart : AreApart (row_numbers list)

  picks_by : (o : Option (List Row)) → picked ≡ o → FoundIf o → ApartIf o → (list : List Row) → rows_of all (option_map row_numbers o) ≡ list → list ≢ [] → Picks list
  picks_by None e found apart list is any = absurd (any (sym is))
  picks_by (Some merged) e found apart list is any =
      let same : merged ≡ list = sym (named (rows (history core.history)) merged found.0) ∙ is in
      record {
        chosen = chosen_is ∙ ap (option_map row_numbers) e ∙ ap (λ (l : List Row). Some (row_numbers l)) same;
        apart = subst Apart same apart;
      }

  pub picks : (list : List Row) → rows_in Merging core ≡ list → list ≢ [] → Picks list
  picks list is any = picks_by picked refl all_found all_apart list (sym rows_are ∙ is) any

  -- where it has none, none is chosen
  pub picks_none : rows_in Merging core ≡ [] → chosen_by (config_or (configuration core.history)) core.moment core.history ≡ None
  picks_none none = chosen_is ∙ (merge_none core begun_core.config legal begun_core.is fit).0 none
