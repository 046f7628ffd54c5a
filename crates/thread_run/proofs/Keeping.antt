-- What holds of a core by what was taken in, by its moment and by whether its clock is asked holds behind each call of the world, where it
-- does behind an entry that is taken in and behind the asking.
use Rattle.std.proofs.Common.{◌≡◌, ℕ, List, refl, ap, Bool, true, false}
use Rattle.std.specs.Prelude.{Option, Some, None, Result, Ok, Err, ⊤, ◌||◌, is_some, nat_le}
use Rattle.meta_journal.specs.declared.entry.Act.{Act}
use Rattle.meta_journal.specs.declared.entry.Entry.{Entry}
use Rattle.index_world.proofs.Worlds.{same-landed}
use Rattle.index_world.specs.Calls.{Effect, done_at_once, done_late, done_never, is_at_once, Fate, Call, Trouble, Unmade, Gives, Made, made, exists, failed, risen, may_fail, begun, tried, made_behind, made_at, create_at_end, taken_in, or_short, unless_short, asked_clock, asking, and_then_by, taken_unless, got_at, get_at_end, settle_made, settle_with, settled, fence_of, entry_of, may_append, last_made, last_unless, last_create, troubled_by, adopted_made, first_unless, transact, appended, looked, asked_and_looked, file_by, file_made, got_file, file_got, Grace, unless_over, fetched}
use Rattle.index_world.specs.Core.{Core, file_at}

module _ (P : Core → Type 0) (same : (a b : Core) → b.history ≡ a.history → b.moment ≡ a.moment → b.frozen ≡ a.frozen → P a → P b)
    (taken : (entry : Entry) (core : Core) → P core → P (taken_in entry core)) (asks : (core : Core) → P core → P (asked_clock core)) where
  pub begun_keeps : (call : Call) (core : Core) → P core → P (begun call core)
  begun_keeps call core p =
      let s = same-landed call.lands (record core { store_faults = risen core.store_faults call.rises }) in
      same core (begun call core) s.history s.moment (ap (λ (k : ℕ × Bool). k.1) s.clock) p

  -- ---- creates and gets at the end

  tried_keeps : (effect : Effect) (standing : Option Entry) (entry : Entry) (core : Core) → P core → P (tried effect standing entry core)
  tried_keeps done_at_once None entry core p = same core _ refl refl refl p
  tried_keeps done_at_once (Some other) entry core p = same core _ refl refl refl p
  tried_keeps done_late standing entry core p = same core _ refl refl refl p
  tried_keeps done_never standing entry core p = same core _ refl refl refl p

  behind_keeps : (standing : Option Entry) (entry : Entry) (core : Core) → P core → P (made_behind standing entry core).core
  behind_keeps None entry core p = same core _ refl refl refl p
  behind_keeps (Some other) entry core p = p

  made_keeps : (b : Bool) (effect : Effect) (entry : Entry) (core : Core) → P core → P (made_at b effect entry core).core
  made_keeps true effect entry core p = tried_keeps effect core.standing entry core p
  made_keeps false effect entry core p = behind_keeps core.standing entry core p

  pub create_keeps : (call : Call) (entry : Entry) (core : Core) → P core → P (create_at_end call entry core).core
  create_keeps call entry core p = made_keeps (may_fail call core.store_faults) call.effect entry (begun call core) (begun_keeps call core p)

  taken_unless_keeps : (b unsure : Bool) (entry : Entry) (core : Core) → P core → P (taken_unless b unsure entry core).core
  taken_unless_keeps true unsure entry core p = same core _ refl refl refl p
  taken_unless_keeps false unsure entry core p = taken entry core p

  or_short_keeps : {E A : Type 0} (b : Bool) (e : E) (call : Call) (core : Core) (given : Gives E A) → P core → P given.core → P (or_short b e call core given).core
  or_short_keeps true e call core given p q = begun_keeps call core p
  or_short_keeps false e call core given p q = q

  asking_keeps : {E A : Type 0} (b : Bool) (e : E) (core : Core) (next : Core → Gives E A) → P core → ((c : Core) → P c → P (next c).core) → P (asking b e core next).core
  asking_keeps true e core next p n = p
  asking_keeps false e core next p n = n (asked_clock core) (asks core p)

  then_keeps : {E A B : Type 0} (r : Result A E) (core : Core) (next : Core → Gives E B) → P core → ((c : Core) → P c → P (next c).core) → P (and_then_by r core next).core
  then_keeps (Ok a) core next p n = n core p
  then_keeps (Err e) core next p n = p

  got_keeps : (b : Bool) (call : Call) (count : ℕ) (entry : Entry) (core : Core) → P core → P (got_at b call count entry core).core
  got_keeps true call count entry core p = same core _ refl refl refl p
  got_keeps false call count entry core p = taken_unless_keeps call.short (core.unsure || is_at_once call.effect) entry core p

  pub get_keeps : (call : Call) (entry : Entry) (count : ℕ) (core : Core) → P core → P (get_at_end call entry count core).core
  get_keeps call entry count core p = got_keeps (may_fail call core.store_faults) call count entry (begun call core) (begun_keeps call core p)

  -- ---- settling and appending

  settle_made_keeps : (get : Call) (count : ℕ) (fence : Entry) (m : Made) (core : Core) → P core → P (settle_made get count fence m core).core
  settle_made_keeps get count fence made core p = taken_unless_keeps get.short true fence core p
  settle_made_keeps get count fence (exists entry) core p = get_keeps get entry count core p
  settle_made_keeps get count fence failed core p = p

  unless_short_keeps : (b : Bool) (core : Core) → P core → P (unless_short b core).core
  unless_short_keeps true core p = p
  unless_short_keeps false core p = p

  settle_keeps : (b : Bool) (first second : Call) (core : Core) → P core → P (settle_with b first second core).core
  settle_keeps false first second core p = unless_short_keeps first.short core p
  settle_keeps true first second core p =
      let making = create_at_end first (fence_of core) core in
      or_short_keeps first.short _ first core _ p (settle_made_keeps second core.store_faults (fence_of core) making.answer making.core (create_keeps first (fence_of core) core p))

  pub settled_keeps : (first second : Call) (core : Core) → P core → P (settled first second core).core
  settled_keeps first second core p = settle_keeps core.unsure first second core p

  last_made_keeps : (count : ℕ) (entry : Entry) (m : Made) (core : Core) → P core → P (last_made count entry m core).core
  last_made_keeps count entry made core p = taken entry core p
  last_made_keeps count entry (exists other) core p = p
  last_made_keeps count entry failed core p = p

  last_unless_keeps : (r : Result ⊤ Unmade) (call : Call) (count : ℕ) (act : Act) (core : Core) → P core → P (last_unless r call count act core).core
  last_unless_keeps (Err e) call count act core p = p
  last_unless_keeps (Ok done) call count act core p =
      let making = create_at_end call (entry_of act core) core in last_made_keeps count (entry_of act core) making.answer making.core (create_keeps call (entry_of act core) core p)

  last_keeps : (call : Call) (count : ℕ) (act : Act) (core : Core) → P core → P (last_create call count act core).core
  last_keeps call count act core p = or_short_keeps call.short _ call core _ p (last_unless_keeps (may_append act core) call count act core p)

  pub troubled_keeps : {A : Type 0} (r : Result A Trouble) (core : Core) → P core → P (troubled_by r core).core
  troubled_keeps (Ok a) core p = p
  troubled_keeps (Err e) core p = p

  module _ (act : Core → Act) where
    then_last : (r : Result ⊤ Trouble) (core : Core) (call : Call) (count : ℕ) → P core → P (and_then_by (troubled_by r core).answer (troubled_by r core).core (λ c. last_create call count (act c) c)).core
    then_last r core call count p =
        then_keeps (troubled_by r core).answer (troubled_by r core).core (λ c. last_create call count (act c) c) (troubled_keeps r core p) (λ c q. last_keeps call count (act c) c q)

    adopted_keeps : (get again : Call) (count : ℕ) (entry : Entry) (m : Made) (core : Core) → P core → P (adopted_made get again count act entry m core).core
    adopted_keeps get again count entry made core p = taken entry core p
    adopted_keeps get again count entry (exists other) core p =
        let given = get_at_end get other count core in then_last given.answer given.core again count (get_keeps get other count core p)
    adopted_keeps get again count entry failed core p = p

    first_keeps : (r : Result ⊤ Unmade) (first second third : Call) (core : Core) → P core → P (first_unless r first second third act core).core
    first_keeps (Err e) first second third core p = p
    first_keeps (Ok done) first second third core p =
        let making = create_at_end first (entry_of (act core) core) core in
        adopted_keeps second third core.store_faults (entry_of (act core) core) making.answer making.core (create_keeps first (entry_of (act core) core) core p)

    transact_keeps : (b : Bool) (first second third : Call) (core : Core) → P core → P (transact b first second third act core).core
    transact_keeps true first second third core p =
        let given = settled first second core in then_last given.answer given.core third core.store_faults (settled_keeps first second core p)
    transact_keeps false first second third core p = or_short_keeps first.short _ first core _ p (first_keeps (may_append (act core) core) first second third core p)

    pub appended_keeps : (fate : Fate) (core : Core) → P core → P (appended fate act core).core
    appended_keeps fate core p = asking_keeps fate.unasked _ core _ p (λ c q. transact_keeps c.unsure fate.first fate.second fate.third c q)

  -- ---- the other calls of a worker

  looked_keeps : (fate : Fate) (core : Core) → P core → P (looked fate core).core
  looked_keeps fate core p =
      let given = settled fate.first fate.second core in
      then_keeps given.answer given.core _ (settled_keeps fate.first fate.second core p) (λ c q. unless_short_keeps fate.third.short c q)

  pub asked_and_looked_keeps : (fate : Fate) (core : Core) → P core → P (asked_and_looked fate core).core
  asked_and_looked_keeps fate core p = asking_keeps fate.unasked _ core _ p (λ c q. looked_keeps fate c q)

  file_by_keeps : (b : Bool) (effect : Effect) (d : Bool) (count : ℕ) (key bytes : List ℕ) (core : Core) → P core → P (file_by b effect d count key bytes core).core
  file_by_keeps true done_at_once true count key bytes core p = p
  file_by_keeps true done_at_once false count key bytes core p = same core _ refl refl refl p
  file_by_keeps true done_late d count key bytes core p = same core _ refl refl refl p
  file_by_keeps true done_never d count key bytes core p = p
  file_by_keeps false effect true count key bytes core p = p
  file_by_keeps false effect false count key bytes core p = same core _ refl refl refl p

  pub file_made_keeps : (call : Call) (key bytes : List ℕ) (core : Core) → P core → P (file_made call key bytes core).core
  file_made_keeps call key bytes core p =
      or_short_keeps call.short _ call core _ p
      (file_by_keeps (may_fail call core.store_faults) call.effect (is_some (file_at (begun call core).files key)) core.store_faults key bytes (begun call core) (begun_keeps call core p))

  got_file_keeps : (b : Bool) (count : ℕ) (core : Core) → P core → P (got_file b count core).core
  got_file_keeps true count core p = p
  got_file_keeps false count core p = p

  file_got_keeps : (call : Call) (core : Core) → P core → P (file_got call core).core
  file_got_keeps call core p = or_short_keeps call.short _ call core _ p (got_file_keeps (may_fail call core.store_faults) core.store_faults (begun call core) (begun_keeps call core p))

  unless_over_keeps : (over : Bool) (planned_at : ℕ) (core : Core) (otherwise : Gives Trouble ⊤) → P core → P otherwise.core → P (unless_over over planned_at core otherwise).core
  unless_over_keeps true planned_at core otherwise p q = p
  unless_over_keeps false planned_at core otherwise p q = q

  pub fetched_keeps : (grace : Grace) (fate : Fate) (core : Core) → P core → P (fetched grace fate core).core
  fetched_keeps grace fate core p =
      asking_keeps fate.unasked _ core _ p (λ c q. unless_over_keeps (nat_le grace.until c.moment) grace.planned_at c (file_got fate.first c) q (file_got_keeps fate.first c q))
