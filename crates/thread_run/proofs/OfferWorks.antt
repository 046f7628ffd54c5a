-- An entry that the state offered is the last one of the history where it was made.
use Rattle.std.proofs.Common.{◌≡◌, ◌⊎◌, inl, inr, ℕ, ◌≤◌, Bool, true, false, List, [], ◌∷◌, ◌++◌, length, refl, sym, subst, arith}
use Rattle.std.specs.Prelude.{Option, Some, None, Result, Ok, Err, ⊤}
use Rattle.meta_journal.specs.declared.entry.Act.{Act}
use Rattle.meta_journal.specs.declared.entry.Entry.{Entry}
use Rattle.index_world.specs.Calls.{Call, Fate, Gives, Made, made, exists, failed, Trouble, no_memory, Unmade, troubled, and_then_by, asked_clock, asking, create_at_end, entry_of, get_at_end, last_create, last_made, last_unless, may_append, or_short, settled, troubled_by}
use Rattle.index_world.specs.Collecting.{Offer, adopted_offer, answered_by, appended_if, first_offer, last_offer, nothing, offer_unless, transact_if}
use Rattle.index_world.specs.Core.{Core}
use Rattle.root_search.proofs.Stretches.{longer}
use Rattle.root_search.proofs.TaskCalls.{Grows, created_same, get_grows, settled_grows}

module _ {B : Type 0} (none : B) (offered : Core → Option (Offer B)) (IsOf : Act → B → Type 0) (fits : (core : Core) (offer : Offer B) → offered core ≡ Some offer → IsOf offer.act offer.answer) (least : ℕ) where
  -- the last entry is one of this kind, behind so many at least
  pub record AtEnd (after : Core) (b : B) : Type 0 where
    pub earlier : List Entry
    pub entry : Entry
    pub whole : after.history ≡ earlier ++ entry ∷ []
    pub from : least ≤ length earlier
    pub is : IsOf entry.act b

  -- by its answer: there was none, or such an entry was made
  abbrev pub MadeBy : Result B Unmade → Core → Type 0
  MadeBy (Ok b) core = (b ≡ none) ⊎ AtEnd core b
  MadeBy (Err unmade) core = ⊤

  abbrev Makes : Gives Unmade B → Type 0
  Makes given = MadeBy given.answer given.core

  abbrev IsLong : Core → Type 0
  IsLong core = least ≤ length core.history

  long_on : (core after : Core) → Grows core after → IsLong core → IsLong after
  long_on core after g low = let up = longer core.history after.history g in omega (arith, up, low)

  nothing_makes : (short : Bool) (core : Core) → Makes (nothing short none core)
  nothing_makes true core = tt
  nothing_makes false core = inl refl

  short_makes : (short : Bool) (call : Call) (core : Core) (given : Gives Unmade B) → Makes given → Makes (or_short short (troubled no_memory) call core given)
  short_makes true call core given m = tt
  short_makes false call core given m = m

  module _ (offer : Offer B) where
    abbrev Creates : Gives Unmade ⊤ → Type 0
    Creates given = Makes (answered_by offer.answer given.answer given.core)

    last_made_makes : (before : ℕ) (entry : Entry) (m : Made) (core : Core) → IsLong core → IsOf entry.act offer.answer → Creates (last_made before entry m core)
    last_made_makes before entry made core low is = inr (record { earlier = core.history; entry = entry; whole = refl; from = low; is = is })
    last_made_makes before entry (exists other) core low is = tt
    last_made_makes before entry failed core low is = tt

    last_by_makes : (r : Result ⊤ Unmade) (call : Call) (before : ℕ) (core : Core) → IsLong core → IsOf offer.act offer.answer → Creates (last_unless r call before offer.act core)
    last_by_makes (Err unmade) call before core low is = tt
    last_by_makes (Ok done) call before core low is =
        let entry = entry_of offer.act core in
        let making = create_at_end call entry core in
        last_made_makes before entry making.answer making.core (subst (λ (es : List Entry). least ≤ length es) (sym (created_same call entry core)) low) is

    last_create_makes : (call : Call) (before : ℕ) (core : Core) → IsLong core → IsOf offer.act offer.answer → Creates (last_create call before offer.act core)
    last_create_makes call before core low is = by call.short
      where
        by : (short : Bool) → Creates (or_short short (troubled no_memory) call core (last_unless (may_append offer.act core) call before offer.act core))
        by true = tt
        by false = last_by_makes (may_append offer.act core) call before core low is

  last_makes : (o : Option (Offer B)) (call : Call) (before : ℕ) (core : Core) → offered core ≡ o → IsLong core → Makes (last_offer call before none o core)
  last_makes None call before core is low = nothing_makes call.short core
  last_makes (Some offer) call before core is low = last_create_makes offer call before core low (fits core offer is)

  then_makes : (r : Result ⊤ Trouble) (core : Core) (call : Call) (before : ℕ) → IsLong core → Makes (and_then_by (troubled_by r core).answer (troubled_by r core).core (λ c. last_offer call before none (offered c) c))
  then_makes (Ok done) core call before low = last_makes (offered core) call before core refl low
  then_makes (Err trouble) core call before low = tt

  adopted_makes : (get again : Call) (before : ℕ) (offer : Offer B) (entry : Entry) (m : Made) (core : Core) → IsOf entry.act offer.answer → IsLong core → Makes (adopted_offer get again before none offered offer entry m core)
  adopted_makes get again before offer entry made core is low = inr (record { earlier = core.history; entry = entry; whole = refl; from = low; is = is })
  adopted_makes get again before offer entry (exists other) core is low =
      let given = get_at_end get other before core in then_makes given.answer given.core again before (long_on core given.core (get_grows get other before core) low)
  adopted_makes get again before offer entry failed core is low = tt

  unless_makes : (r : Result ⊤ Unmade) (first second third : Call) (offer : Offer B) (core : Core) → IsOf offer.act offer.answer → IsLong core → Makes (offer_unless r first second third none offered offer core)
  unless_makes (Err unmade) first second third offer core is low = tt
  unless_makes (Ok done) first second third offer core is low =
      let entry = entry_of offer.act core in
      let making = create_at_end first entry core in
      adopted_makes second third core.store_faults offer entry making.answer making.core is (subst (λ (es : List Entry). least ≤ length es) (sym (created_same first entry core)) low)

  first_makes : (o : Option (Offer B)) (first second third : Call) (core : Core) → offered core ≡ o → IsLong core → Makes (first_offer o first second third none offered core)
  first_makes None first second third core is low = nothing_makes first.short core
  first_makes (Some offer) first second third core is low = short_makes first.short first core _ (unless_makes (may_append offer.act core) first second third offer core (fits core offer is) low)

  transact_makes : (unsure : Bool) (first second third : Call) (core : Core) → IsLong core → Makes (transact_if unsure first second third none offered core)
  transact_makes true first second third core low =
      let given = settled first second core in
      then_makes given.answer given.core third core.store_faults (long_on core given.core (settled_grows core.unsure first second core) low)
  transact_makes false first second third core low = first_makes (offered core) first second third core refl low

  -- AN ENTRY WHERE THE STATE OFFERS ONE
  pub appended_makes : (fate : Fate) (core : Core) → IsLong core → Makes (appended_if fate none offered core)
  appended_makes fate core low = by fate.unasked
    where
      by : (unasked : Bool) → Makes (asking unasked (troubled no_memory) core (λ c. transact_if c.unsure fate.first fate.second fate.third none offered c))
      by true = tt
      by false = transact_makes core.unsure fate.first fate.second fate.third (asked_clock core) low
