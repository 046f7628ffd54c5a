-- What an entry that the state offers says where it fails, and where there was none.
use Rattle.std.proofs.Common.{◌≡◌, ℕ, ◌≤◌, Bool, true, false, length, refl, sym, subst}
use Rattle.std.proofs.lemmas.Bool.{leb-true}
use Rattle.std.specs.Prelude.{Option, Some, None, Result, Ok, Err, ⊤, nat_le}
use Rattle.meta_journal.specs.declared.entry.Entry.{Entry}
use Rattle.meta_store.specs.declared.refusal.Refusal.{Refusal}
use Rattle.index_world.specs.Calls.{Call, Fate, store_fault, is_foreign, is_full, is_expired, Gives, gives, Made, made, exists, failed, Trouble, faulted, no_memory, Unmade, refused, troubled, and_then_by, answer_behind, asked_clock, asking, begun, create_at_end, entry_of, full_answer, get_at_end, last_create, last_made, last_unless, may_append, may_fail, or_full, or_short, settle_with, settled, troubled_by}
use Rattle.index_world.specs.Collecting.{Offer, adopted_offer, answered_by, appended_if, first_offer, last_offer, nothing, offer_unless, transact_if}
use Rattle.index_world.specs.Core.{Core}
use Rattle.index_world.specs.Index.{max_entries}
use Rattle.call_laws.proofs.CallTells.{Gave, IsLowCore, IsNotThere, IsSettled, IsStoreTrouble, MadeLow, Settles, begun_settled, create_low, get_settles, made_none, settles}

-- the store failed, or the journal is full
abbrev pub FullAt : Core → Trouble → Type 0
FullAt core (faulted (store_fault before now)) = ⊤
FullAt core (faulted (is_foreign key)) = ⊥
FullAt core (faulted is_full) = max_entries ≤ length core.history
FullAt core (faulted (is_expired planned_at now)) = ⊥
FullAt core no_memory = ⊤

pub full_of_store : (core : Core) (trouble : Trouble) → IsStoreTrouble trouble → FullAt core trouble
full_of_store core (faulted (store_fault before now)) own = tt
full_of_store core (faulted (is_foreign key)) own = absurd own
full_of_store core (faulted is_full) own = absurd own
full_of_store core (faulted (is_expired planned_at now)) own = absurd own
full_of_store core no_memory own = tt

-- Why an entry fails: it was refused that the state offered of what was taken in then; or the store failed, or the journal is full.
abbrev pub Unoffers : {B A : Type 0} → (Core → Option (Offer B)) → Core → Result A Unmade → Type 0
Unoffers offered core (Ok a) = ⊤
Unoffers {B} offered core (Err (refused refusal)) = (offer : Offer B) × (offered core ≡ Some offer) × (answer_behind core.history (entry_of offer.act core) ≡ Err refusal)
Unoffers offered core (Err (troubled trouble)) = FullAt core trouble

ok_err : {A : Type 0} (unmade : Unmade) (a : A) → ◌≡◌ {A = Result A Unmade} (Err unmade) (Ok a) → ⊥
ok_err unmade a e = cc

ok_same : {A : Type 0} (a b : A) → ◌≡◌ {A = Result A Unmade} (Ok a) (Ok b) → a ≡ b
ok_same a b e = cc

module _ {B : Type 0} (none : B) (offered : Core → Option (Offer B)) (never : (core : Core) (offer : Offer B) → offered core ≡ Some offer → offer.answer ≡ none → ⊥) where
  -- It says why it fails. And where it answers that there was none, none is offered of what was taken in then.
  pub record Offers (given : Gives Unmade B) : Type 0 where
    pub says : Unoffers offered given.core given.answer
    pub none_left : given.answer ≡ Ok none → offered given.core ≡ None

  abbrev Fails : Core → Unmade → Type 0
  Fails core unmade = Unoffers {B = B} {A = B} offered core (Err unmade)

  fails : (unmade : Unmade) (core : Core) → Fails core unmade → Offers (gives (Err unmade) core)
  fails unmade core f = record { says = f; none_left = λ e. absurd (ok_err unmade none e) }

  does : (offer : Offer B) (core past : Core) → offered past ≡ Some offer → Offers (gives (Ok offer.answer) core)
  does offer core past is = record { says = tt; none_left = λ e. absurd (never past offer is (ok_same offer.answer none e)) }

  has_none : (short : Bool) (core : Core) → offered core ≡ None → Offers (nothing short none core)
  has_none true core is = fails (troubled no_memory) core tt
  has_none false core is = record { says = tt; none_left = λ e. is }

  short_offers : (short : Bool) (call : Call) (core : Core) (given : Gives Unmade B) → Offers given → Offers (or_short short (troubled no_memory) call core given)
  short_offers true call core given o = fails (troubled no_memory) (begun call core) tt
  short_offers false call core given o = o

  store_fails_so : (trouble : Trouble) (core : Core) → IsStoreTrouble trouble → Fails core (troubled trouble)
  store_fails_so trouble core own = full_of_store core trouble own

  -- ---- the last create

  module _ (offer : Offer B) where
    -- what was created is what was offered
    abbrev Creates : Core → Gives Unmade ⊤ → Type 0
    Creates past given = Offers (answered_by offer.answer given.answer given.core)

    last_made_offers : (before : ℕ) (entry : Entry) (m : Made) (core past : Core) → offered past ≡ Some offer → IsNotThere m → Creates past (last_made before entry m core)
    last_made_offers before entry made core past is not = does offer _ past is
    last_made_offers before entry (exists other) core past is not = absurd not
    last_made_offers before entry failed core past is not = fails _ core tt

    last_full_offers : (full : Bool) (call : Call) (before : ℕ) (core : Core) → nat_le max_entries (length core.history) ≡ full → offered core ≡ Some offer → IsSettled core → Creates core (last_unless (full_answer full) call before offer.act core)
    last_full_offers true call before core e is s = fails (troubled (faulted is_full)) core (leb-true max_entries (length core.history) e)
    last_full_offers false call before core e is s =
        let entry = entry_of offer.act core in
        let making = create_at_end call entry core in
        last_made_offers before entry making.answer making.core core is (made_none (may_fail call core.store_faults) call.effect entry (begun call core) (begun_settled call core s).none)

    last_by_offers : (r : Result (Unit {0}) Refusal) (call : Call) (before : ℕ) (core : Core) → answer_behind core.history (entry_of offer.act core) ≡ r → offered core ≡ Some offer → IsSettled core →
        Creates core (last_unless (or_full r core) call before offer.act core)
    last_by_offers (Err refusal) call before core e is s = fails (refused refusal) core (offer, is, e)
    last_by_offers (Ok done) call before core e is s = last_full_offers (nat_le max_entries (length core.history)) call before core refl is s

    last_create_offers : (call : Call) (before : ℕ) (core : Core) → offered core ≡ Some offer → IsSettled core → Creates core (last_create call before offer.act core)
    last_create_offers call before core is s = by call.short
      where
        by : (short : Bool) → Creates core (or_short short (troubled no_memory) call core (last_unless (may_append offer.act core) call before offer.act core))
        by true = fails (troubled no_memory) (begun call core) tt
        by false = last_by_offers (answer_behind core.history (entry_of offer.act core)) call before core refl is s

  last_offers : (o : Option (Offer B)) (call : Call) (before : ℕ) (core : Core) → offered core ≡ o → IsSettled core → Offers (last_offer call before none o core)
  last_offers None call before core is s = has_none call.short core is
  last_offers (Some offer) call before core is s = last_create_offers offer call before core is s

  then_offers : (r : Result ⊤ Trouble) (core : Core) (call : Call) (before : ℕ) → Gave IsStoreTrouble IsSettled r core →
      Offers (and_then_by (troubled_by r core).answer (troubled_by r core).core (λ c. last_offer call before none (offered c) c))
  then_offers (Ok done) core call before s = last_offers (offered core) call before core refl s
  then_offers (Err trouble) core call before s = fails (troubled trouble) core (store_fails_so trouble core s)

  -- ---- where nothing is unsure

  adopted_offers : (get again : Call) (before : ℕ) (offer : Offer B) (entry : Entry) (m : Made) (core past : Core) → offered past ≡ Some offer → MadeLow m core → Offers (adopted_offer get again before none offered offer entry m core)
  adopted_offers get again before offer entry made core past is low = does offer _ past is
  adopted_offers get again before offer entry (exists other) core past is low =
      let given = get_at_end get other before core in then_offers given.answer given.core again before (get_settles get other before core low)
  adopted_offers get again before offer entry failed core past is low = fails _ core tt

  full_offers : (full : Bool) (first second third : Call) (offer : Offer B) (core : Core) → nat_le max_entries (length core.history) ≡ full → offered core ≡ Some offer → IsLowCore core →
      Offers (offer_unless (full_answer full) first second third none offered offer core)
  full_offers true first second third offer core e is low = fails (troubled (faulted is_full)) core (leb-true max_entries (length core.history) e)
  full_offers false first second third offer core e is low =
      let entry = entry_of offer.act core in
      let making = create_at_end first entry core in
      adopted_offers second third core.store_faults offer entry making.answer making.core core is (create_low first entry core low)

  unless_offers : (r : Result (Unit {0}) Refusal) (first second third : Call) (offer : Offer B) (core : Core) → answer_behind core.history (entry_of offer.act core) ≡ r → offered core ≡ Some offer → IsLowCore core →
      Offers (offer_unless (or_full r core) first second third none offered offer core)
  unless_offers (Err refusal) first second third offer core e is low = fails (refused refusal) core (offer, is, e)
  unless_offers (Ok done) first second third offer core e is low = full_offers (nat_le max_entries (length core.history)) first second third offer core refl is low

  first_offers : (o : Option (Offer B)) (first second third : Call) (core : Core) → offered core ≡ o → IsLowCore core → Offers (first_offer o first second third none offered core)
  first_offers None first second third core is low = has_none first.short core is
  first_offers (Some offer) first second third core is low =
      short_offers first.short first core _ (unless_offers (answer_behind core.history (entry_of offer.act core)) first second third offer core refl is low)

  transact_offers : (unsure : Bool) (first second third : Call) (core : Core) → core.unsure ≡ unsure → IsLowCore core → Offers (transact_if unsure first second third none offered core)
  transact_offers true first second third core unsure low =
      let given = settled first second core in
      then_offers given.answer given.core third core.store_faults (subst (λ b. Settles (settle_with b first second core)) (sym unsure) (settles first second core low))
  transact_offers false first second third core unsure low = first_offers (offered core) first second third core refl low

  -- AN ENTRY WHERE THE STATE OFFERS ONE
  pub appended_offers : (fate : Fate) (core : Core) → IsLowCore core → Offers (appended_if fate none offered core)
  appended_offers fate core low = by fate.unasked
    where
      by : (unasked : Bool) → Offers (asking unasked (troubled no_memory) core (λ c. transact_if c.unsure fate.first fate.second fate.third none offered c))
      by true = fails (troubled no_memory) core tt
      by false = transact_offers core.unsure fate.first fate.second fate.third (asked_clock core) refl low
