-- Whatever lands and fails, the calls by which an index is collected move the core as other calls of the world do.
use Rattle.std.proofs.Common.{◌≡◌, ℕ, List, refl, Bool, true, false}
use Rattle.std.specs.Prelude.{Option, Some, None, Result, Ok, Err, ⊤}
use Rattle.meta_journal.specs.Places.{split_key}
use Rattle.meta_journal.specs.declared.entry.Entry.{Entry}
use Rattle.split_states.specs.declared.rows.Row.{Row}
use Rattle.index_world.specs.Calls.{Call, is_at_once, Fate, Made, made, exists, failed, Trouble, Unmade, as_unmade, begun, deleted_by, entry_of, file_deleted, get_at_end, may_append, may_fail, settled, troubled_by}
use Rattle.index_world.specs.Collecting.{Offer, adopted_offer, answered_by, appended_if, doom_call, doom_next, doomed_by, first_offer, last_offer, next_doomed, nothing, offer_unless, sweep_if, swept_unless, transact_if, is_swept}
use Rattle.index_world.specs.Core.{Core}
use Rattle.call_laws.proofs.CallMoves.{Moves, kept, same, stays, moves_on, begun_moves, create_moves, taken_moves, get_moves, or_short_moves, asking_moves, then_moves, settled_moves, last_moves, troubled_moves}

-- ---- an entry where the state offers one

pub answered_same : {E A B : Type 0} (b : B) (r : Result A E) (core : Core) → (answered_by b r core).core ≡ core
answered_same b (Ok a) core = refl
answered_same b (Err e) core = refl

nothing_moves : {B : Type 0} (short : Bool) (none : B) (core : Core) → Moves core (nothing short none core).core
nothing_moves true none core = stays refl
nothing_moves false none core = stays refl

last_offer_moves : {B : Type 0} (call : Call) (before : ℕ) (none : B) (offer : Option (Offer B)) (core : Core) → Moves core (last_offer call before none offer core).core
last_offer_moves call before none None core = nothing_moves call.short none core
last_offer_moves call before none (Some offer) core = moves_on (last_moves call before offer.act core) (same (answered_same offer.answer _ _))

adopted_offer_moves : {B : Type 0} (get again : Call) (before : ℕ) (none : B) (offered : Core → Option (Offer B)) (offer : Offer B) (entry : Entry) (m : Made) (core : Core) →
    Moves core (adopted_offer get again before none offered offer entry m core).core
adopted_offer_moves get again before none offered offer entry made core = taken_moves entry core
adopted_offer_moves get again before none offered offer entry (exists other) core =
    then_moves (as_unmade (get_at_end get other before core)).answer _ (moves_on (get_moves get other before core) (troubled_moves _ _)) (λ c. last_offer_moves again before none (offered c) c)
adopted_offer_moves get again before none offered offer entry failed core = stays refl

offer_unless_moves : {B : Type 0} (r : Result ⊤ Unmade) (first second third : Call) (none : B) (offered : Core → Option (Offer B)) (offer : Offer B) (core : Core) →
    Moves core (offer_unless r first second third none offered offer core).core
offer_unless_moves (Err e) first second third none offered offer core = stays refl
offer_unless_moves (Ok done) first second third none offered offer core =
    moves_on (create_moves first (entry_of offer.act core) core) (adopted_offer_moves second third _ none offered offer _ _ _)

first_offer_moves : {B : Type 0} (offer : Option (Offer B)) (first second third : Call) (none : B) (offered : Core → Option (Offer B)) (core : Core) →
    Moves core (first_offer offer first second third none offered core).core
first_offer_moves None first second third none offered core = nothing_moves first.short none core
first_offer_moves (Some offer) first second third none offered core =
    or_short_moves first.short _ _ _ (offer_unless_moves (may_append offer.act core) first second third none offered offer core)

transact_if_moves : {B : Type 0} (b : Bool) (first second third : Call) (none : B) (offered : Core → Option (Offer B)) (core : Core) →
    Moves core (transact_if b first second third none offered core).core
transact_if_moves true first second third none offered core =
    then_moves (as_unmade (settled first second core)).answer _ (moves_on (settled_moves first second core) (troubled_moves _ _)) (λ c. last_offer_moves third core.store_faults none (offered c) c)
transact_if_moves false first second third none offered core = first_offer_moves (offered core) first second third none offered core

pub appended_if_moves : {B : Type 0} (fate : Fate) (none : B) (offered : Core → Option (Offer B)) (core : Core) → Moves core (appended_if fate none offered core).core
appended_if_moves fate none offered core =
    asking_moves fate.unasked _ _ (λ c. transact_if_moves c.unsure fate.first fate.second fate.third none offered c)

-- ---- deletes

pub deleted_kept : (fails at_once : Bool) (before : ℕ) (key : List ℕ) (core : Core) → kept (deleted_by fails at_once before key core).core ≡ kept core
deleted_kept true true before key core = refl
deleted_kept true false before key core = refl
deleted_kept false at_once before key core = refl

file_deleted_moves : (call : Call) (key : List ℕ) (core : Core) → Moves core (file_deleted call key core).core
file_deleted_moves call key core =
    moves_on (begun_moves call core) (stays (deleted_kept (may_fail call core.store_faults) (is_at_once call.effect) core.store_faults key (begun call core)))

pub doomed_kept : (number : ℕ) (r : Result ⊤ Trouble) (core : Core) → kept (doomed_by number r core).core ≡ kept core
doomed_kept number (Ok done) core = refl
doomed_kept number (Err e) core = refl

doom_next_moves : (row : Option Row) (call : Call) (core : Core) → Moves core (doom_next row call core).core
doom_next_moves None call core = stays refl
doom_next_moves (Some row) call core = moves_on (file_deleted_moves call (split_key row.number) core) (stays (doomed_kept row.number _ _))

pub doom_moves : (fate : Fate) (core : Core) → Moves core (doom_call fate core).core
doom_moves fate core = asking_moves fate.unasked _ _ (λ c. doom_next_moves (next_doomed c) fate.first c)

sweep_if_moves : (b : Bool) (call : Call) (number : ℕ) (core : Core) → Moves core (sweep_if b call number core).core
sweep_if_moves false call number core = stays refl
sweep_if_moves true call number core = moves_on (file_deleted_moves call (split_key number) core) (same (answered_same true _ _))

pub sweep_moves : (unasked : Bool) (number : ℕ) (fate : Fate) (core : Core) → Moves core (swept_unless unasked number fate core).core
sweep_moves true number fate core = stays refl
sweep_moves false number fate core = sweep_if_moves (is_swept core number) fate.first number core

pub unmade_same : {A : Type 0} (r : Result A Trouble) (core : Core) → (troubled_by r core).core ≡ core
unmade_same (Ok a) core = refl
unmade_same (Err e) core = refl
