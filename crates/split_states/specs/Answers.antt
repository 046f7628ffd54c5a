-- Which change a row allows: the conditions, and the answers with their order of refusals.
use Rattle.std.specs.Prelude.{ℕ, ℤ, pos, ◌≡◌, ◌≢◌, ◌+◌, ◌+ℤ◌, ◌-ℤ◌, ◌≤ℤ◌, ◌≤◌, ◌==◌, ◌⊎◌, Bool, false, List, [], ◌∷◌, ◌++◌, if◌then◌else◌, ⊤, Option, Some, None, IsSomeAnd, MatchOption, Result, Ok, Err, nat_lt}
use Rattle.std.specs.List.{list_any, AllByRecursion}
use Rattle.std.specs.Ordering.{is_gt, int_cmp}
use Rattle.source_checkpoint.specs.declared.span.Span.{Span}
use Rattle.source_checkpoint.specs.Deltas.{then_answer}
use Rattle.split_states.specs.declared.facts.Times.{Times}
use Rattle.split_states.specs.declared.rows.RowState.TheVariants.{Staged, Published, Marked}
use Rattle.split_states.specs.declared.refusal.StateRefusal.{StateRefusal}
use Rattle.split_states.specs.declared.refusal.StateRefusal.TheVariants.{NoRow, NotStaged, NotPublished, NotMarked, InGrace, WrongAim, DoubledRow, NoOldRow, TooYoung, NoRetention}
use Rattle.split_states.specs.Rows.{Row, RowState, RowFacts, row_at}

-- a row of this number stands, in this state, and this is so of it
abbrev pub IsRow : RowState → (Row → Type 0) → List Row → ℕ → Type 0
IsRow state P rows n = IsSomeAnd (row_at rows n) (λ row. (row.state ≡ state) × P row)

abbrev pub IsIn : RowState → List Row → ℕ → Type 0
IsIn state rows n = IsRow state (λ row. ⊤) rows n

abbrev pub Repeats : List ℕ → ℕ → Bool
Repeats numbers n = list_any (λ m. m == n) numbers

-- no number comes twice
abbrev pub AreApart : List ℕ → Type 0
AreApart [] = ⊤
AreApart (n ∷ numbers) = (Repeats numbers n ≡ false) × AreApart numbers

-- the conditions
abbrev pub MayPublish : List Row → ℕ → Type 0
MayPublish rows n = IsRow Staged (λ row. row.spans ≢ []) rows n

abbrev pub MayReplace : List Row → ℕ → List ℕ → Type 0
MayReplace rows new old = IsRow Staged (λ row. row.spans ≡ []) rows new × ((old ≢ []) × AreApart old × AllByRecursion (IsIn Published rows) old)

abbrev pub MayRaise : List Row → ℕ → Type 0
MayRaise rows n = IsIn Published rows n

abbrev pub MayMark : (now grace : ℕ) → List Row → ℕ → Type 0
MayMark now grace rows n = IsRow Staged (λ row. row.staged_at + grace ≤ now) rows n

abbrev pub MayRemove : (now grace : ℕ) → List Row → ℕ → Type 0
MayRemove now grace rows n = IsRow Marked (λ row. row.marked_at + grace ≤ now) rows n

-- no documents, no times, or a greatest time that is a period old
abbrev pub IsOld : (now period : ℕ) → RowFacts → Type 0
IsOld now period facts = (facts.docs ≡ 0) ⊎ MatchOption facts.times ⊤ (λ times. (times.greatest +ℤ pos period) ≤ℤ pos now)

abbrev pub MayRetire : (now : ℕ) → Option ℕ → List Row → ℕ → Type 0
MayRetire now None rows n = ⊥
MayRetire now (Some period) rows n = IsRow Published (λ row. IsOld now period row.facts) rows n

-- the answers: where the row stands and is in the state, the next question is asked
abbrev pub where_staged : ℕ → (Row → Result (Unit {0}) StateRefusal) → RowState → Row → Result (Unit {0}) StateRefusal
where_staged n next Staged row = next row
where_staged n next Published row = Err (NotStaged n)
where_staged n next Marked row = Err (NotStaged n)

abbrev pub where_published : ℕ → (Row → Result (Unit {0}) StateRefusal) → RowState → Row → Result (Unit {0}) StateRefusal
where_published n next Staged row = Err (NotPublished n)
where_published n next Published row = next row
where_published n next Marked row = Err (NotPublished n)

abbrev pub where_marked : ℕ → (Row → Result (Unit {0}) StateRefusal) → RowState → Row → Result (Unit {0}) StateRefusal
where_marked n next Staged row = Err (NotMarked n)
where_marked n next Published row = Err (NotMarked n)
where_marked n next Marked row = next row

abbrev pub where_found : ℕ → (Row → Result (Unit {0}) StateRefusal) → Option Row → Result (Unit {0}) StateRefusal
where_found n next None = Err (NoRow n)
where_found n next (Some row) = next row

abbrev pub answer_to_spans : ℕ → List Span → Result (Unit {0}) StateRefusal
answer_to_spans n [] = Err (WrongAim n)
answer_to_spans n (s ∷ spans) = Ok tt

abbrev pub answer_to_no_spans : ℕ → List Span → Result (Unit {0}) StateRefusal
answer_to_no_spans n [] = Ok tt
answer_to_no_spans n (s ∷ spans) = Err (WrongAim n)

abbrev pub answer_to_grace : ℕ → (since grace now : ℕ) → Result (Unit {0}) StateRefusal
answer_to_grace n since grace now = if nat_lt now (since + grace) then Err (InGrace n (since + grace) now) else Ok tt

abbrev pub answer_to_publish : List Row → ℕ → Result (Unit {0}) StateRefusal
answer_to_publish rows n = where_found n (λ row. where_staged n (λ r. answer_to_spans n r.spans) row.state row) (row_at rows n)

abbrev pub answer_to_new : List Row → ℕ → Result (Unit {0}) StateRefusal
answer_to_new rows n = where_found n (λ row. where_staged n (λ r. answer_to_no_spans n r.spans) row.state row) (row_at rows n)

abbrev pub answer_to_raise : List Row → ℕ → Result (Unit {0}) StateRefusal
answer_to_raise rows n = where_found n (λ row. where_published n (λ r. Ok tt) row.state row) (row_at rows n)

abbrev pub answer_to_some : List ℕ → Result (Unit {0}) StateRefusal
answer_to_some [] = Err NoOldRow
answer_to_some (n ∷ old) = Ok tt

abbrev pub answer_to_old : List Row → (before : List ℕ) → ℕ → Result (Unit {0}) StateRefusal
answer_to_old rows before n = if Repeats before n then Err (DoubledRow n) else answer_to_raise rows n

abbrev pub answer_to_each_old : List Row → (before : List ℕ) → List ℕ → Result (Unit {0}) StateRefusal
answer_to_each_old rows before [] = Ok tt
answer_to_each_old rows before (n ∷ old) = then_answer (answer_to_old rows before n) (answer_to_each_old rows (before ++ n ∷ []) old)

abbrev pub answer_to_replace : List Row → ℕ → List ℕ → Result (Unit {0}) StateRefusal
answer_to_replace rows new old = then_answer (answer_to_new rows new) (then_answer (answer_to_some old) (answer_to_each_old rows [] old))

abbrev pub answer_to_mark : List Row → (n now grace : ℕ) → Result (Unit {0}) StateRefusal
answer_to_mark rows n now grace = where_found n (λ row. where_staged n (λ r. answer_to_grace n r.staged_at grace now) row.state row) (row_at rows n)

abbrev pub answer_to_remove : List Row → (n now grace : ℕ) → Result (Unit {0}) StateRefusal
answer_to_remove rows n now grace = where_found n (λ row. where_marked n (λ r. answer_to_grace n r.marked_at grace now) row.state row) (row_at rows n)

abbrev pub answer_to_times : ℕ → (bound : ℤ) → Option Times → Result (Unit {0}) StateRefusal
answer_to_times n bound None = Ok tt
answer_to_times n bound (Some times) = if is_gt (int_cmp times.greatest bound) then Err (TooYoung n times.greatest bound) else Ok tt

abbrev pub answer_to_age : ℕ → (bound : ℤ) → RowFacts → Result (Unit {0}) StateRefusal
answer_to_age n bound facts = if facts.docs == 0 then Ok tt else answer_to_times n bound facts.times

abbrev pub answer_to_retire : List Row → (n now : ℕ) → Option ℕ → Result (Unit {0}) StateRefusal
answer_to_retire rows n now None = Err NoRetention
answer_to_retire rows n now (Some period) =
    where_found n (λ row. where_published n (λ r. answer_to_age n (pos now -ℤ pos period) r.facts) row.state row) (row_at rows n)
