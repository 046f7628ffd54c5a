-- What a call needs of the index is carried to its turn.
use Rattle.std.proofs.Common.{◌≤◌, ℕ, List, [], ◌∷◌, subst}
use Rattle.std.specs.Prelude.{Option}
use Rattle.meta_journal.specs.declared.entry.Entry.{Entry}
use Rattle.meta_store.specs.History.{history, last_opstamp}
use Rattle.meta_store.specs.Ledgers.{ledger}
use Rattle.meta_store.specs.Left.{HasMarks}
use Rattle.meta_store.specs.State.{Legal}
use Rattle.source_log.specs.Log.{Log}
use Rattle.index_world.specs.Alike.{AreAlike}
use Rattle.index_world.specs.Config.{reads}
use Rattle.index_world.specs.Core.{Core, IsUnusedIn, Nobody}
use Rattle.index_world.specs.Replacing.{AreFetchedIn, DropsNone, IsMadeOf, WerePlanned, joined}
use Rattle.index_world.specs.World.{GoesFor, WorldStands}
use Rattle.index_world.proofs.Agreement.{alike_of}
use Rattle.index_world.proofs.JournalLaws.{legal_history}
use Rattle.index_world.proofs.Replaced.{raisable_on, replaceable_on}
use Rattle.shared_gate.specs.Acts.{publishable, raisable, replaceable, unused_at}
use Rattle.shared_gate.specs.Recording.{Always, clocked_at}
use Rattle.shared_gate.specs.Sharing.{Seat, SeatBegins, SeatOwns, SeatStands, last_core}
use Rattle.shared_gate.specs.SharedLaws.{clock_goes}
use Rattle.shared_gate.specs.declared.recorded.Recorded.{Recorded}
use Rattle.shared_gate.proofs.Owners.{IsLent, Met, meets}

-- WHAT IS NEEDED OF A CORE stays where others act and where the clock is asked, and holds of each core of one world.
pub record Stays (Given : Log → Core → Type 0) : Type 0 where
  pub on : (core after : Core) (log : Log) → Legal reads (history after.history) → GoesFor Nobody core after → Given log core → Given log after
  pub alike : (core other : Core) (log : Log) → AreAlike core other → Given log core → Given log other

pub always_stays : Stays Always
always_stays = record { on = λ core after log legal goes given. tt; alike = λ core other log same given. tt }

pub publishable_stays : (number : ℕ) → Stays (publishable number)
publishable_stays number = record {
  on = λ core after log legal goes p. record {
    config = p.config;
    configured = goes.keeps.configured p.config p.configured;
    delta = p.delta;
    facts = p.facts;
    bytes = p.bytes;
    staged = goes.keeps.staged number p.delta p.facts p.staged;
    made = p.made;
    uploaded = goes.keeps.uploaded number p.bytes p.uploaded;
  };
  alike = λ core other log same p. record {
    config = p.config;
    configured = same.configured p.config p.configured;
    delta = p.delta;
    facts = p.facts;
    bytes = p.bytes;
    staged = same.staged number p.delta p.facts p.staged;
    made = p.made;
    uploaded = same.uploaded number p.bytes p.uploaded;
  };
}

fetched_alike : (core other : Core) → AreAlike core other → (numbers : List ℕ) (files : List (List ℕ)) → AreFetchedIn core numbers files → AreFetchedIn other numbers files
fetched_alike core other same [] [] f = tt
fetched_alike core other same [] (bytes ∷ files) f = absurd f
fetched_alike core other same (n ∷ numbers) [] f = absurd f
fetched_alike core other same (n ∷ numbers) (bytes ∷ files) f = (same.uploaded n bytes f.0, fetched_alike core other same numbers files f.1)

pub replaceable_stays : (number : ℕ) (old : List ℕ) (upto : ℕ) → Stays (replaceable number old upto)
replaceable_stays number old upto = record {
  on = λ core after log legal goes p. replaceable_on Nobody core after goes.grown.0 goes.grown.1 legal goes.keeps log number old upto p;
  alike = λ core other log same p. record {
    config = p.config;
    configured = same.configured p.config p.configured;
    facts = p.facts;
    bytes = p.bytes;
    files = p.files;
    marks = p.marks;
    staged = same.staged number [] p.facts p.staged;
    uploaded = same.uploaded number p.bytes p.uploaded;
    fetched = fetched_alike core other same old p.files p.fetched;
    planned = subst (λ (h : List Entry). WerePlanned h old p.marks) same.history p.planned;
    known = subst (λ (h : List Entry). upto ≤ last_opstamp (history h)) same.history p.known;
    made = subst (λ (h : List Entry). IsMadeOf p.config log (ledger reads (history h)).tasks upto (joined p.marks) p.files p.facts p.bytes) same.history p.made;
  };
}

pub raisable_stays : (number upto : ℕ) → Stays (raisable number upto)
raisable_stays number upto = record {
  on = λ core after log legal goes p. raisable_on Nobody core after goes.grown.0 goes.grown.1 legal goes.keeps number upto p;
  alike = λ core other log same p. record {
    config = p.config;
    configured = same.configured p.config p.configured;
    bytes = p.bytes;
    marks = p.marks;
    fetched = same.uploaded number p.bytes p.fetched;
    planned = subst (λ (h : List Entry). HasMarks h number p.marks) same.history p.planned;
    known = subst (λ (h : List Entry). upto ≤ last_opstamp (history h)) same.history p.known;
    none = subst (λ (h : List Entry). DropsNone p.config (ledger reads (history h)).tasks upto p.marks p.bytes) same.history p.none;
  };
}

-- ---- at the lent world

module _ {Lock S K L : Type 0} (told : L → Option Log) (seat : Seat Lock S L) (lent : Recorded S K L) where
  -- what is needed is carried to the turn
  pub record Carries (Given : Log → Core → Type 0) : Type 0 where
    pub onto : (core : Core) (log : Log) → SeatStands told seat core log → (met : Met told seat lent core log) → Given log core → Given log (last_core core met.steps)
    pub clocked : (core : Core) (log : Log) (clock : ℕ) → WorldStands lent.world core log → Given log core → Given log (clocked_at clock core)
    pub alike : (core other : Core) (log : Log) → AreAlike core other → Given log core → Given log other

  pub carries : (Given : Log → Core → Type 0) → Stays Given → Carries Given
  carries Given stays = record {
    onto = λ core log s met given. stays.on core (last_core core met.steps) log (legal_history met.stands.kept (last_core core met.steps) log met.stands.world) met.goes given;
    clocked = λ core log clock s given. stays.on core (clocked_at clock core) log (legal_history s.kept core log s.world) (clock_goes Nobody core clock) given;
    alike = stays.alike;
  }

  unused_clocked : (core : Core) (clock number : ℕ) → IsUnusedIn core number → IsUnusedIn (clocked_at clock core) number
  unused_clocked core clock number u = record { staged = u.staged; unshown = u.unshown; absent = u.absent; not_late = u.not_late }

  -- an own number is free at its turn
  pub carries_unused : (number : ℕ) → SeatOwns seat number → Carries (unused_at number)
  carries_unused number own = record {
    onto = λ core log s met given. met.owned number own given;
    clocked = λ core log clock s given. unused_clocked core clock number given;
    alike = λ core other log same given. same.unused number given;
  }

  -- so it holds of each core of the lent world
  pub sure_of : IsLent told seat lent → (Given : Log → Core → Type 0) → Carries Given → ((log : Log) → SeatBegins told seat log → (core : Core) × SeatStands told seat core log × Given log core)
      → (log : Log) → SeatBegins told seat log → (core : Core) → WorldStands lent.world core log → Given log core
  sure_of l Given c begun log b core s =
      let first = begun log b in
      let met = meets told seat lent l first.0 log first.1 in
      let there = c.onto first.0 log first.1 met first.2 in
      c.alike (last_core first.0 met.steps) core log (alike_of lent.world (last_core first.0 met.steps) core log log met.stands s) there
