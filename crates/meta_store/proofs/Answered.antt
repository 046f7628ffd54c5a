-- The answer to an entry is Ok exactly where its condition holds.
use Rattle.std.proofs.Common.{◌≡◌, ◌≢◌, ℕ, ◌+◌, ◌≤◌, ◌==◌, ◌||◌, ◌↔◌, Bool, true, false, List, [], ◌∷◌, ◌++◌, length, map, Option, Some, None, Result, Ok, Err, IsOk, IsSomeAnd, refl, ap, sym, subst, ◌∙◌, inl, inr, arith, eqb-true, eq-eqb, nat_lt, nat_le, Ordering}
use Rattle.std.specs.Prelude.{⊤, ℤ, pos, ◌+ℤ◌, ◌-ℤ◌, ◌≤ℤ◌, ◌<ℤ◌, MatchOption, IsSome}
use Rattle.std.specs.List.{AllByRecursion}
use Rattle.std.specs.Ordering.{int_cmp, is_gt, MatchOrdering}
use Rattle.std.specs.Cmp.{int_ranks}
use Rattle.std.specs.declared.cmp.Ordering.TheVariants.{Less, Equal, Greater}
use Rattle.std.proofs.lemmas.Int.{ints}
use Rattle.std.proofs.lemmas.Bool.{cases_Bool, or_parts, false≢true, ltb-false, ltb-true, leb-true, false_from_ne_true}
use Rattle.std.proofs.Common.{le-leb, le-ltb, lt-ltb}
use Rattle.std.proofs.lemmas.List.{length-map}
use Rattle.source_checkpoint.proofs.Answering.{ok_then, then_ok, ok_unless, unless_ok, ok_where, where_ok, delta_answer, admit_answer}
use Rattle.split_states.specs.declared.facts.Times.{Times}
use Rattle.split_states.specs.declared.facts.RowFacts.{RowFacts}
use Rattle.split_states.specs.declared.rows.Row.{Row}
use Rattle.split_states.specs.declared.rows.RowState.{RowState}
use Rattle.split_states.specs.declared.rows.RowState.TheVariants.{Staged, Published, Marked}
use Rattle.split_states.specs.declared.refusal.StateRefusal.{StateRefusal}
use Rattle.source_checkpoint.specs.declared.delta.StaleDelta.{StaleDelta}
use Rattle.source_checkpoint.specs.declared.span.Span.{Span}
use Rattle.source_checkpoint.specs.Deltas.{range_of, MayAdmit, answer_to_delta, answer_to_admit}
use Rattle.source_checkpoint.specs.Checkpoints.{checkpoint_at}
use Rattle.split_states.specs.Rows.{row_at, row_spans, row_ranges}
use Rattle.split_states.specs.Answers.{IsRow, IsIn, Repeats, AreApart, MayPublish, MayReplace, MayRaise, MayMark, MayRemove, MayRetire, IsOld, where_staged, where_published, where_marked, where_found, answer_to_spans as answer_to_some_spans, answer_to_no_spans, answer_to_grace, answer_to_publish, answer_to_new, answer_to_raise, answer_to_some, answer_to_old, answer_to_each_old, answer_to_replace, answer_to_mark, answer_to_remove, answer_to_times, answer_to_age, answer_to_retire}
use Rattle.delete_tasks.specs.Ledger.{last_of}
use Rattle.meta_journal.specs.declared.entry.Act.{Act}
use Rattle.meta_journal.specs.declared.entry.Entry.{Entry}
use Rattle.meta_journal.specs.declared.entry.Act.TheVariants.{Fence, Create, Stage, Publish, Replace, Raise, MarkStaged, Remove, Retire, Task as AddTask}
use Rattle.index_config.specs.declared.config_error.ConfigError.{ConfigError}
use Rattle.query_ast.specs.Sought.{Sought}
use Rattle.query_reader.specs.declared.refusal.QueryError.{QueryError}
use Rattle.meta_store.specs.Said.{Said}
use Rattle.meta_store.specs.declared.config.Settings.{Settings}
use Rattle.meta_store.specs.declared.config.Config.{Config}
use Rattle.meta_store.specs.State.{State, Begins, Follows, MayCome, MayFollow}
use Rattle.meta_store.specs.Answers.{in_delta, in_state, answer_to_moment, answer_to_next, answer_to_upto, answer_to_task, answer_to_config, answer_to_tasks, answer_to_rows, answer_to_spans, answer_to_each, answer_to_found, answer_at_start, answer_behind, answer_by, answer_to, HasNumbers}

abbrev StateAnswer : Type 0
StateAnswer = Result (Unit {0}) StateRefusal

both_some : {X : Type 0} (o : Option X) (P Q : X → Type 0) → ((x : X) → P x → Q x) → IsSomeAnd o P → IsSomeAnd o Q
both_some None P Q f h = h
both_some (Some x) P Q f h = f x h

found_ok : (n : ℕ) (next : Row → StateAnswer) (o : Option Row) → IsOk (where_found n next o) → IsSomeAnd o (λ row. IsOk (next row))
found_ok n next None h = absurd (false≢true h)
found_ok n next (Some row) h = h

ok_found : (n : ℕ) (next : Row → StateAnswer) (o : Option Row) → IsSomeAnd o (λ row. IsOk (next row)) → IsOk (where_found n next o)
ok_found n next None h = absurd h
ok_found n next (Some row) h = h

staged_ok : (n : ℕ) (next : Row → StateAnswer) (state : RowState) (row : Row) → IsOk (where_staged n next state row) → (state ≡ Staged) × IsOk (next row)
staged_ok n next Staged row h = (refl, h)
staged_ok n next Published row h = absurd (false≢true h)
staged_ok n next Marked row h = absurd (false≢true h)

ok_staged : (n : ℕ) (next : Row → StateAnswer) (state : RowState) (row : Row) → state ≡ Staged → IsOk (next row) → IsOk (where_staged n next state row)
ok_staged n next Staged row e h = h
ok_staged n next Published row e h = cc e
ok_staged n next Marked row e h = cc e

published_ok : (n : ℕ) (next : Row → StateAnswer) (state : RowState) (row : Row) → IsOk (where_published n next state row) → (state ≡ Published) × IsOk (next row)
published_ok n next Staged row h = absurd (false≢true h)
published_ok n next Published row h = (refl, h)
published_ok n next Marked row h = absurd (false≢true h)

ok_published : (n : ℕ) (next : Row → StateAnswer) (state : RowState) (row : Row) → state ≡ Published → IsOk (next row) → IsOk (where_published n next state row)
ok_published n next Staged row e h = cc e
ok_published n next Published row e h = h
ok_published n next Marked row e h = cc e

marked_ok : (n : ℕ) (next : Row → StateAnswer) (state : RowState) (row : Row) → IsOk (where_marked n next state row) → (state ≡ Marked) × IsOk (next row)
marked_ok n next Staged row h = absurd (false≢true h)
marked_ok n next Published row h = absurd (false≢true h)
marked_ok n next Marked row h = (refl, h)

ok_marked : (n : ℕ) (next : Row → StateAnswer) (state : RowState) (row : Row) → state ≡ Marked → IsOk (next row) → IsOk (where_marked n next state row)
ok_marked n next Staged row e h = cc e
ok_marked n next Published row e h = cc e
ok_marked n next Marked row e h = h

spans_ok : (n : ℕ) (spans : List Span) → IsOk (answer_to_some_spans n spans) → spans ≢ []
spans_ok n [] h = absurd (false≢true h)
spans_ok n (s ∷ spans) h = λ e. cc e

ok_spans : (n : ℕ) (spans : List Span) → spans ≢ [] → IsOk (answer_to_some_spans n spans)
ok_spans n [] h = absurd (h refl)
ok_spans n (s ∷ spans) h = refl

none_ok : (n : ℕ) (spans : List Span) → IsOk (answer_to_no_spans n spans) → spans ≡ []
none_ok n [] h = refl
none_ok n (s ∷ spans) h = absurd (false≢true h)

ok_none : (n : ℕ) (spans : List Span) → spans ≡ [] → IsOk (answer_to_no_spans n spans)
ok_none n [] h = refl
ok_none n (s ∷ spans) h = cc h

grace_ok : (n since grace now : ℕ) → IsOk (answer_to_grace n since grace now) → since + grace ≤ now
grace_ok n since grace now h = ltb-false now (since + grace) (ok_unless (nat_lt now (since + grace)) _ _ h).0

ok_grace : (n since grace now : ℕ) → since + grace ≤ now → IsOk (answer_to_grace n since grace now)
ok_grace n since grace now h = unless_ok (nat_lt now (since + grace)) _ _ (le-ltb now (since + grace) h) refl

publish_ok : (rows : List Row) (n : ℕ) → IsOk (answer_to_publish rows n) → MayPublish rows n
publish_ok rows n h = both_some (row_at rows n) _ _ (λ row k. let s = staged_ok n (λ r. answer_to_some_spans n r.spans) row.state row k in (s.0, spans_ok n row.spans s.1)) (found_ok n _ (row_at rows n) h)

ok_publish : (rows : List Row) (n : ℕ) → MayPublish rows n → IsOk (answer_to_publish rows n)
ok_publish rows n h = ok_found n _ (row_at rows n) (both_some (row_at rows n) _ _ (λ row k. ok_staged n (λ r. answer_to_some_spans n r.spans) row.state row k.0 (ok_spans n row.spans k.1)) h)

new_ok : (rows : List Row) (n : ℕ) → IsOk (answer_to_new rows n) → IsRow Staged (λ row. row.spans ≡ []) rows n
new_ok rows n h = both_some (row_at rows n) _ _ (λ row k. let s = staged_ok n (λ r. answer_to_no_spans n r.spans) row.state row k in (s.0, none_ok n row.spans s.1)) (found_ok n _ (row_at rows n) h)

ok_new : (rows : List Row) (n : ℕ) → IsRow Staged (λ row. row.spans ≡ []) rows n → IsOk (answer_to_new rows n)
ok_new rows n h = ok_found n _ (row_at rows n) (both_some (row_at rows n) _ _ (λ row k. ok_staged n (λ r. answer_to_no_spans n r.spans) row.state row k.0 (ok_none n row.spans k.1)) h)

raise_ok : (rows : List Row) (n : ℕ) → IsOk (answer_to_raise rows n) → MayRaise rows n
raise_ok rows n h = both_some (row_at rows n) _ _ (λ row k. ((published_ok n (λ r. Ok tt) row.state row k).0, tt)) (found_ok n _ (row_at rows n) h)

ok_raise : (rows : List Row) (n : ℕ) → MayRaise rows n → IsOk (answer_to_raise rows n)
ok_raise rows n h = ok_found n _ (row_at rows n) (both_some (row_at rows n) _ _ (λ row k. ok_published n (λ r. Ok tt) row.state row k.0 refl) h)

mark_ok : (rows : List Row) (n now grace : ℕ) → IsOk (answer_to_mark rows n now grace) → MayMark now grace rows n
mark_ok rows n now grace h = both_some (row_at rows n) _ _ (λ row k. let s = staged_ok n (λ r. answer_to_grace n r.staged_at grace now) row.state row k in (s.0, grace_ok n row.staged_at grace now s.1)) (found_ok n _ (row_at rows n) h)

ok_mark : (rows : List Row) (n now grace : ℕ) → MayMark now grace rows n → IsOk (answer_to_mark rows n now grace)
ok_mark rows n now grace h = ok_found n _ (row_at rows n) (both_some (row_at rows n) _ _ (λ row k. ok_staged n (λ r. answer_to_grace n r.staged_at grace now) row.state row k.0 (ok_grace n row.staged_at grace now k.1)) h)

remove_ok : (rows : List Row) (n now grace : ℕ) → IsOk (answer_to_remove rows n now grace) → MayRemove now grace rows n
remove_ok rows n now grace h = both_some (row_at rows n) _ _ (λ row k. let s = marked_ok n (λ r. answer_to_grace n r.marked_at grace now) row.state row k in (s.0, grace_ok n row.marked_at grace now s.1)) (found_ok n _ (row_at rows n) h)

ok_remove : (rows : List Row) (n now grace : ℕ) → MayRemove now grace rows n → IsOk (answer_to_remove rows n now grace)
ok_remove rows n now grace h = ok_found n _ (row_at rows n) (both_some (row_at rows n) _ _ (λ row k. ok_marked n (λ r. answer_to_grace n r.marked_at grace now) row.state row k.0 (ok_grace n row.marked_at grace now k.1)) h)

-- times
not_above : (x y : ℤ) (r : Ordering) → MatchOrdering r (x <ℤ y) (x ≡ y) (y <ℤ x) → is_gt r ≡ false → x ≤ℤ y
not_above x y Less h k = omega (arith, ints, h)
not_above x y Equal h k = omega (arith, ints, h)
not_above x y Greater h k = absurd (false≢true (sym k))

is_below : (x y : ℤ) (r : Ordering) → MatchOrdering r (x <ℤ y) (x ≡ y) (y <ℤ x) → x ≤ℤ y → is_gt r ≡ false
is_below x y Less h k = refl
is_below x y Equal h k = refl
is_below x y Greater h k = absurd (omega (arith, ints, h, k))

times_ok : (n now period : ℕ) (times : Option Times) → IsOk (answer_to_times n (pos now -ℤ pos period) times) → MatchOption times ⊤ (λ t. (t.greatest +ℤ pos period) ≤ℤ pos now)
times_ok n now period None h = tt
times_ok n now period (Some t) h =
    let bound : ℤ = pos now -ℤ pos period in
    let below : t.greatest ≤ℤ (pos now -ℤ pos period) = not_above t.greatest bound (int_cmp t.greatest bound) (int_ranks t.greatest bound) (ok_unless (is_gt (int_cmp t.greatest bound)) _ _ h).0 in
    omega (arith, ints, below)

ok_times : (n now period : ℕ) (times : Option Times) → MatchOption times ⊤ (λ t. (t.greatest +ℤ pos period) ≤ℤ pos now) → IsOk (answer_to_times n (pos now -ℤ pos period) times)
ok_times n now period None h = refl
ok_times n now period (Some t) h =
    let bound : ℤ = pos now -ℤ pos period in
    let below : t.greatest ≤ℤ (pos now -ℤ pos period) = omega (arith, ints, h) in
    unless_ok (is_gt (int_cmp t.greatest bound)) _ _ (is_below t.greatest bound (int_cmp t.greatest bound) (int_ranks t.greatest bound) below) refl

age_ok : (n now period : ℕ) (facts : RowFacts) → IsOk (answer_to_age n (pos now -ℤ pos period) facts) → IsOld now period facts
age_ok n now period facts h = elim (cases_Bool (facts.docs == 0)) [
  | inl same ↦ inl (eqb-true facts.docs 0 same)
  | inr other ↦ inr (times_ok n now period facts.times (rw other at h))
]

ok_age : (n now period : ℕ) (facts : RowFacts) → IsOld now period facts → IsOk (answer_to_age n (pos now -ℤ pos period) facts)
ok_age n now period facts h = elim (cases_Bool (facts.docs == 0)) [
  | inl same ↦ rw same refl
  | inr other ↦ rw other (elim h [
    | inl none ↦ absurd (false≢true (sym other ∙ eq-eqb facts.docs 0 none))
    | inr times ↦ ok_times n now period facts.times times
  ])
]

retire_ok : (rows : List Row) (n now : ℕ) (period : Option ℕ) → IsOk (answer_to_retire rows n now period) → MayRetire now period rows n
retire_ok rows n now None h = absurd (false≢true h)
retire_ok rows n now (Some period) h = both_some (row_at rows n) _ _ (λ row k. let s = published_ok n (λ r. answer_to_age n (pos now -ℤ pos period) r.facts) row.state row k in (s.0, age_ok n now period row.facts s.1)) (found_ok n _ (row_at rows n) h)

ok_retire : (rows : List Row) (n now : ℕ) (period : Option ℕ) → MayRetire now period rows n → IsOk (answer_to_retire rows n now period)
ok_retire rows n now None h = absurd h
ok_retire rows n now (Some period) h = ok_found n _ (row_at rows n) (both_some (row_at rows n) _ _ (λ row k. ok_published n (λ r. answer_to_age n (pos now -ℤ pos period) r.facts) row.state row k.0 (ok_age n now period row.facts k.1)) h)

-- lists of numbers
each_ok : (f : ℕ → StateAnswer) (P : ℕ → Type 0) (numbers : List ℕ) → ((n : ℕ) → IsOk (f n) → P n) → IsOk (answer_to_each f numbers) → AllByRecursion P numbers
each_ok f P [] g h = tt
each_ok f P (n ∷ numbers) g h =
    let both = ok_then (f n) (answer_to_each f numbers) h in
    (g n both.0, each_ok f P numbers g both.1)

ok_each : (f : ℕ → StateAnswer) (P : ℕ → Type 0) (numbers : List ℕ) → ((n : ℕ) → P n → IsOk (f n)) → AllByRecursion P numbers → IsOk (answer_to_each f numbers)
ok_each f P [] g h = refl
ok_each f P (n ∷ numbers) g h = then_ok (f n) (answer_to_each f numbers) (g n h.0) (ok_each f P numbers g h.1)

or_false : (a b : Bool) → a ≡ false → b ≡ false → (a || b) ≡ false
or_false a b h k = rw (h, k) refl

turned : (a b : ℕ) → (a == b) ≡ false → (b == a) ≡ false
turned a b h = false_from_ne_true (b == a) (λ t. false≢true (sym h ∙ eq-eqb a b (sym (eqb-true b a t))))

abbrev IsNew : List ℕ → ℕ → Type 0
IsNew before n = Repeats before n ≡ false

push_parts : (before : List ℕ) (m n : ℕ) → Repeats (before ++ m ∷ []) n ≡ false → (Repeats before n ≡ false) × ((m == n) ≡ false)
push_parts [] m n h = (refl, (or_parts (m == n) false h).0)
push_parts (b ∷ before) m n h =
    let parts = or_parts (b == n) (Repeats (before ++ m ∷ []) n) h in
    let rest = push_parts before m n parts.1 in
    (or_false (b == n) (Repeats before n) parts.0 rest.0, rest.1)

parts_push : (before : List ℕ) (m n : ℕ) → Repeats before n ≡ false → (m == n) ≡ false → Repeats (before ++ m ∷ []) n ≡ false
parts_push [] m n h k = or_false (m == n) false k refl
parts_push (b ∷ before) m n h k =
    let parts = or_parts (b == n) (Repeats before n) h in
    or_false (b == n) (Repeats (before ++ m ∷ []) n) parts.0 (parts_push before m n parts.1 k)

behind_new : (m : ℕ) (before numbers : List ℕ) → AllByRecursion (IsNew (before ++ m ∷ [])) numbers → Repeats numbers m ≡ false
behind_new m before [] h = refl
behind_new m before (n ∷ numbers) h = or_false (n == m) (Repeats numbers m) (turned m n (push_parts before m n h.0).1) (behind_new m before numbers h.1)

before_new : (m : ℕ) (before numbers : List ℕ) → AllByRecursion (IsNew (before ++ m ∷ [])) numbers → AllByRecursion (IsNew before) numbers
before_new m before [] h = tt
before_new m before (n ∷ numbers) h = ((push_parts before m n h.0).0, before_new m before numbers h.1)

new_both : (m : ℕ) (before numbers : List ℕ) → AllByRecursion (IsNew before) numbers → Repeats numbers m ≡ false → AllByRecursion (IsNew (before ++ m ∷ [])) numbers
new_both m before [] h k = tt
new_both m before (n ∷ numbers) h k =
    let both = or_parts (n == m) (Repeats numbers m) k in
    (parts_push before m n h.0 (turned n m both.0), new_both m before numbers h.1 both.1)

old_ok : (rows : List Row) (before old : List ℕ) → IsOk (answer_to_each_old rows before old) → AreApart old × AllByRecursion (IsIn Published rows) old × AllByRecursion (IsNew before) old
old_ok rows before [] h = (tt, tt, tt)
old_ok rows before (n ∷ old) h =
    let both = ok_then (answer_to_old rows before n) (answer_to_each_old rows (before ++ n ∷ []) old) h in
    let here = ok_unless (Repeats before n) _ _ both.0 in
    let rest = old_ok rows (before ++ n ∷ []) old both.1 in
    ((behind_new n before old rest.2, rest.0), (raise_ok rows n here.1, rest.1), (here.0, before_new n before old rest.2))

ok_old : (rows : List Row) (before old : List ℕ) → AreApart old → AllByRecursion (IsIn Published rows) old → AllByRecursion (IsNew before) old → IsOk (answer_to_each_old rows before old)
ok_old rows before [] a p b = refl
ok_old rows before (n ∷ old) a p b =
    then_ok (answer_to_old rows before n) (answer_to_each_old rows (before ++ n ∷ []) old) (unless_ok (Repeats before n) _ _ b.0 (ok_raise rows n p.0))
    (ok_old rows (before ++ n ∷ []) old a.1 p.1 (new_both n before old b.1 a.0))

all_new : (numbers : List ℕ) → AllByRecursion (IsNew []) numbers
all_new [] = tt
all_new (n ∷ numbers) = (refl, all_new numbers)

some_ok : (old : List ℕ) → IsOk (answer_to_some old) → old ≢ []
some_ok [] h = absurd (false≢true h)
some_ok (n ∷ old) h = λ e. cc e

ok_some : (old : List ℕ) → old ≢ [] → IsOk (answer_to_some old)
ok_some [] h = absurd (h refl)
ok_some (n ∷ old) h = refl

replace_ok : (rows : List Row) (new : ℕ) (old : List ℕ) → IsOk (answer_to_replace rows new old) → MayReplace rows new old
replace_ok rows new old h =
    let first = ok_then (answer_to_new rows new) _ h in
    let next = ok_then (answer_to_some old) (answer_to_each_old rows [] old) first.1 in
    let rest = old_ok rows [] old next.1 in
    (new_ok rows new first.0, (some_ok old next.0, rest.0, rest.1))

ok_replace : (rows : List Row) (new : ℕ) (old : List ℕ) → MayReplace rows new old → IsOk (answer_to_replace rows new old)
ok_replace rows new old m =
    then_ok (answer_to_new rows new) _ (ok_new rows new m.0)
    (then_ok (answer_to_some old) (answer_to_each_old rows [] old) (ok_some old m.1.0) (ok_old rows [] old m.1.1 m.1.2 (all_new old)))

-- the parts of an answer
state_ok : (a : StateAnswer) → IsOk (in_state a) → IsOk a
state_ok (Ok u) h = refl
state_ok (Err e) h = absurd (false≢true h)

ok_state : (a : StateAnswer) → IsOk a → IsOk (in_state a)
ok_state (Ok u) h = refl
ok_state (Err e) h = absurd (false≢true h)

delta_ok : (a : Result (Unit {0}) StaleDelta) → IsOk (in_delta a) → IsOk a
delta_ok (Ok u) h = refl
delta_ok (Err e) h = absurd (false≢true h)

ok_delta : (a : Result (Unit {0}) StaleDelta) → IsOk a → IsOk (in_delta a)
ok_delta (Ok u) h = refl
ok_delta (Err e) h = absurd (false≢true h)

found_publish : (s : State) (n : ℕ) (o : Option Row) → row_at s.rows n ≡ o → IsOk (answer_to_found s n o) → MayPublish s.rows n × MayAdmit (row_ranges s.rows n) (checkpoint_at s.checkpoints) × (s.span_count + length (row_ranges s.rows n) ≤ 1000000)
found_publish s n None e h = absurd (false≢true h)
found_publish s n (Some row) e h =
    let ranges : row_ranges s.rows n ≡ map range_of row.spans = ap (λ (o : Option Row). map range_of (row_spans o)) e in
    let first = ok_then (in_delta (answer_to_admit (checkpoint_at s.checkpoints) [] (map range_of row.spans))) _ h in
    let next = ok_then (in_state (answer_to_publish s.rows n)) (answer_to_spans (s.span_count + length row.spans)) first.1 in
    let may : MayAdmit (map range_of row.spans) (checkpoint_at s.checkpoints) = (admit_answer (checkpoint_at s.checkpoints) (map range_of row.spans)).0 (delta_ok _ first.0) in
    let few : s.span_count + length row.spans ≤ 1000000 = leb-true (s.span_count + length row.spans) 1000000 (ok_where (nat_le (s.span_count + length row.spans) 1000000) _ next.1) in
    let count = length-map row.spans range_of in
    (publish_ok s.rows n (state_ok _ next.0), subst (λ d. MayAdmit d (checkpoint_at s.checkpoints)) (sym ranges) may, rw ranges (omega (arith, few, count)))

publish_found : (s : State) (n : ℕ) (o : Option Row) → row_at s.rows n ≡ o → MayPublish s.rows n → MayAdmit (row_ranges s.rows n) (checkpoint_at s.checkpoints) → s.span_count + length (row_ranges s.rows n) ≤ 1000000 → IsOk (answer_to_found s n o)
publish_found s n None e p m few = absurd (subst (λ (o : Option Row). IsSomeAnd o (λ row. (row.state ≡ Staged) × (row.spans ≢ []))) e p)
publish_found s n (Some row) e p m few =
    let ranges : row_ranges s.rows n ≡ map range_of row.spans = ap (λ (o : Option Row). map range_of (row_spans o)) e in
    let may : MayAdmit (map range_of row.spans) (checkpoint_at s.checkpoints) = subst (λ d. MayAdmit d (checkpoint_at s.checkpoints)) ranges m in
    let count = length-map row.spans range_of in
    let low : s.span_count + length row.spans ≤ 1000000 = omega (arith, few, count, ap length ranges) in
    then_ok (in_delta (answer_to_admit (checkpoint_at s.checkpoints) [] (map range_of row.spans))) _ (ok_delta _ ((admit_answer (checkpoint_at s.checkpoints) (map range_of row.spans)).1 may))
    (then_ok (in_state (answer_to_publish s.rows n)) (answer_to_spans (s.span_count + length row.spans)) (ok_state _ (ok_publish s.rows n p))
    (where_ok (nat_le (s.span_count + length row.spans) 1000000) _ (le-leb (s.span_count + length row.spans) 1000000 low)))

upto_ok : (upto last : ℕ) → IsOk (answer_to_upto upto last) → upto ≤ last
upto_ok upto last h = ltb-false last upto (ok_unless (nat_lt last upto) _ _ h).0

ok_upto : (upto last : ℕ) → upto ≤ last → IsOk (answer_to_upto upto last)
ok_upto upto last h = unless_ok (nat_lt last upto) _ _ (le-ltb last upto h) refl

task_ok : (said : Result Sought QueryError) → IsOk (answer_to_task said) → IsOk said
task_ok (Ok query) h = refl
task_ok (Err error) h = absurd (false≢true h)

ok_task : (said : Result Sought QueryError) → IsOk said → IsOk (answer_to_task said)
ok_task (Ok query) h = refl
ok_task (Err error) h = absurd (false≢true h)

behind_ok : (reading : Said) (settings : Settings) (s : State) (m : ℕ) (act : Act) → HasNumbers act → IsOk (answer_behind reading settings s m act) → Follows reading settings s m act
behind_ok reading settings s m Fence g h = tt
behind_ok reading settings s m (Create config) g h = absurd (false≢true h)
behind_ok reading settings s m (Stage number delta facts) g h =
    let first = ok_then (answer_to_next number (s.last_number + 1)) _ h in
    let next = ok_then (in_delta (answer_to_delta [] delta)) (answer_to_rows (length s.rows)) first.1 in
    (eqb-true number (s.last_number + 1) (ok_where (number == s.last_number + 1) _ first.0), (delta_answer delta).0 (delta_ok _ next.0), ltb-true (length s.rows) 100000 (ok_where (nat_lt (length s.rows) 100000) _ next.1))
behind_ok reading settings s m (Publish number) g h = found_publish s number (row_at s.rows number) refl h
behind_ok reading settings s m (Replace new old upto) g h =
    let both = ok_then (in_state (answer_to_replace s.rows new old)) (answer_to_upto upto (s.last_opstamp)) h in
    (replace_ok s.rows new old (state_ok _ both.0), upto_ok upto (s.last_opstamp) both.1)
behind_ok reading settings s m (Raise number upto) g h =
    let both = ok_then (in_state (answer_to_raise s.rows number)) (answer_to_upto upto (s.last_opstamp)) h in
    (raise_ok s.rows number (state_ok _ both.0), upto_ok upto (s.last_opstamp) both.1)
behind_ok reading settings s m (AddTask opstamp text fields times) g h =
    let first = ok_then (answer_to_next opstamp (s.last_opstamp + 1)) _ h in
    let next = ok_then (answer_to_task reading.query) (answer_to_tasks (length s.tasks)) first.1 in
    (eqb-true opstamp (s.last_opstamp + 1) (ok_where (opstamp == s.last_opstamp + 1) _ first.0), task_ok reading.query next.0, ltb-true (length s.tasks) 10000 (ok_where (nat_lt (length s.tasks) 10000) _ next.1))
behind_ok reading settings s m (MarkStaged numbers) g h = each_ok (λ n. answer_to_mark s.rows n m settings.index.staged_grace) (MayMark m settings.index.staged_grace s.rows) numbers (λ n. mark_ok s.rows n m settings.index.staged_grace) (state_ok _ h)
behind_ok reading settings s m (Remove numbers) g h = each_ok (λ n. answer_to_remove s.rows n m settings.index.deletion_grace) (MayRemove m settings.index.deletion_grace s.rows) numbers (λ n. remove_ok s.rows n m settings.index.deletion_grace) (state_ok _ h)
behind_ok reading settings s m (Retire numbers) g h =
    (g.0, g.1, each_ok (λ n. answer_to_retire s.rows n m settings.period) (MayRetire m settings.period s.rows) numbers (λ n. retire_ok s.rows n m settings.period) (state_ok _ h))

ok_behind : (reading : Said) (settings : Settings) (s : State) (m : ℕ) (act : Act) → Follows reading settings s m act → IsOk (answer_behind reading settings s m act)
ok_behind reading settings s m Fence f = refl
ok_behind reading settings s m (Create config) f = absurd f
ok_behind reading settings s m (Stage number delta facts) f =
    then_ok (answer_to_next number (s.last_number + 1)) _ (where_ok (number == s.last_number + 1) _ (eq-eqb number (s.last_number + 1) f.0))
    (then_ok (in_delta (answer_to_delta [] delta)) (answer_to_rows (length s.rows)) (ok_delta _ ((delta_answer delta).1 f.1)) (where_ok (nat_lt (length s.rows) 100000) _ (lt-ltb (length s.rows) 100000 f.2)))
ok_behind reading settings s m (Publish number) f = publish_found s number (row_at s.rows number) refl f.0 f.1 f.2
ok_behind reading settings s m (Replace new old upto) f =
    then_ok (in_state (answer_to_replace s.rows new old)) (answer_to_upto upto (s.last_opstamp)) (ok_state _ (ok_replace s.rows new old f.0)) (ok_upto upto (s.last_opstamp) f.1)
ok_behind reading settings s m (Raise number upto) f =
    then_ok (in_state (answer_to_raise s.rows number)) (answer_to_upto upto (s.last_opstamp)) (ok_state _ (ok_raise s.rows number f.0)) (ok_upto upto (s.last_opstamp) f.1)
ok_behind reading settings s m (AddTask opstamp text fields times) f =
    then_ok (answer_to_next opstamp (s.last_opstamp + 1)) _ (where_ok (opstamp == s.last_opstamp + 1) _ (eq-eqb opstamp (s.last_opstamp + 1) f.0))
    (then_ok (answer_to_task reading.query) (answer_to_tasks (length s.tasks)) (ok_task reading.query f.1) (where_ok (nat_lt (length s.tasks) 10000) _ (lt-ltb (length s.tasks) 10000 f.2)))
ok_behind reading settings s m (MarkStaged numbers) f = ok_state _ (ok_each (λ n. answer_to_mark s.rows n m settings.index.staged_grace) (MayMark m settings.index.staged_grace s.rows) numbers (λ n. ok_mark s.rows n m settings.index.staged_grace) f)
ok_behind reading settings s m (Remove numbers) f = ok_state _ (ok_each (λ n. answer_to_remove s.rows n m settings.index.deletion_grace) (MayRemove m settings.index.deletion_grace s.rows) numbers (λ n. ok_remove s.rows n m settings.index.deletion_grace) f)
ok_behind reading settings s m (Retire numbers) f = ok_state _ (ok_each (λ n. answer_to_retire s.rows n m settings.period) (MayRetire m settings.period s.rows) numbers (λ n. ok_retire s.rows n m settings.period) f.2)

config_ok : (said : Result Settings ConfigError) → IsOk (answer_to_config said) → IsOk said
config_ok (Ok settings) h = refl
config_ok (Err error) h = absurd (false≢true h)

ok_config : (said : Result Settings ConfigError) → IsOk said → IsOk (answer_to_config said)
ok_config (Ok settings) h = refl
ok_config (Err error) h = absurd (false≢true h)

start_ok : (reading : Said) (act : Act) → IsOk (answer_at_start reading act) → Begins reading act
start_ok reading Fence h = absurd (false≢true h)
start_ok reading (Create config) h = config_ok reading.config h
start_ok reading (Stage number delta facts) h = absurd (false≢true h)
start_ok reading (Publish number) h = absurd (false≢true h)
start_ok reading (Replace new old upto) h = absurd (false≢true h)
start_ok reading (Raise number upto) h = absurd (false≢true h)
start_ok reading (AddTask opstamp text fields times) h = absurd (false≢true h)
start_ok reading (MarkStaged numbers) h = absurd (false≢true h)
start_ok reading (Remove numbers) h = absurd (false≢true h)
start_ok reading (Retire numbers) h = absurd (false≢true h)

ok_start : (reading : Said) (act : Act) → Begins reading act → IsOk (answer_at_start reading act)
ok_start reading Fence h = absurd h
ok_start reading (Create config) h = ok_config reading.config h
ok_start reading (Stage number delta facts) h = absurd h
ok_start reading (Publish number) h = absurd h
ok_start reading (Replace new old upto) h = absurd h
ok_start reading (Raise number upto) h = absurd h
ok_start reading (AddTask opstamp text fields times) h = absurd h
ok_start reading (MarkStaged numbers) h = absurd h
ok_start reading (Remove numbers) h = absurd h
ok_start reading (Retire numbers) h = absurd h

come_ok : (reading : Said) (c : Option Config) (s : State) (m : ℕ) (act : Act) → HasNumbers act → IsOk (answer_by reading c s m act) → MayCome reading c s m act
come_ok reading None s m act g h = start_ok reading act h
come_ok reading (Some config) s m act g h = behind_ok reading config.settings s m act g h

ok_come : (reading : Said) (c : Option Config) (s : State) (m : ℕ) (act : Act) → MayCome reading c s m act → IsOk (answer_by reading c s m act)
ok_come reading None s m act f = ok_start reading act f
ok_come reading (Some config) s m act f = ok_behind reading config.settings s m act f

pub answered : (reading : Said) (s : State) (e : Entry) → HasNumbers e.act → IsOk (answer_to reading s e) ↔ MayFollow reading s e
answered reading s e g = (
  (λ h. let both = ok_then (answer_to_moment e.moment s.moment) _ h in
      (ltb-false e.moment s.moment (ok_unless (nat_lt e.moment s.moment) _ _ both.0).0, come_ok reading s.config s e.moment e.act g both.1)),
  (λ f. then_ok (answer_to_moment e.moment s.moment) _ (unless_ok (nat_lt e.moment s.moment) _ _ (le-ltb e.moment s.moment f.0) refl) (ok_come reading s.config s e.moment e.act f.1)),
)
