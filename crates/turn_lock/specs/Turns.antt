-- The rule of the table, and what each step tells.
use Rattle.std.specs.Prelude.{◌≡◌, ◌≢◌, ◌⊎◌, ℕ, ◌+◌, ◌-◌, ◌%◌, ◌^◌, ◌<◌, ◌≤◌, true, false, eqb, List, [], ◌∷◌, ◌++◌, length, slice_get, Option, Some, None}
use mathlib.Core.Option.{none, some}
use mathlib.Core.Option as maybe
use mathlib.Core.List.{IsPrefix}
use lib.ListN.{get_elem?}
use Rattle.atomic_table.specs.Table.{State, Me, Step}
use Rattle.turn_lock.specs.declared.view.View.{View}
use Rattle.turn_lock.specs.Counts.{total, one_if, times, below, run_of, longer, AllBelow}

abbrev pub has_ticket_of : ℕ → Option ℕ → ℕ
has_ticket_of t None = 0
has_ticket_of t (Some u) = one_if (eqb t u)

abbrev pub count_of : Option ℕ → ℕ
count_of None = 0
count_of (Some u) = 1

module _ {T E : Type 0} where
  abbrev pub has_ticket : ℕ → View T E → ℕ
  has_ticket t v = has_ticket_of t v.ticket

  abbrev pub waits : View T E → ℕ
  waits v = count_of v.ticket

  abbrev pub holds_slot : View T E → ℕ
  holds_slot v = one_if v.holding

  -- what is so of each view: `served` is the ticket that is served, and `log` the history
  pub record IsWell (rests : ℕ → E → ℕ) (start : T) (log : List E) (served : ℕ) (v : View T E) : Type 0 where
    pub seen : IsPrefix v.seen log
    pub told : IsPrefix v.told log
    pub holder : v.holding ≡ true → (v.ticket ≡ Some served) × (v.seen ≡ log)
    pub alive : v.spent ≡ false → (v.left < v.parts) × (v.start ≡ Some start)
    pub over : v.spent ≡ true → (v.parts ≡ 0) × (v.ticket ≡ None) × (v.places ≡ [])
    -- each event at its places rests on one of its places
    pub resting : (k : ℕ) (e : E) → 0 < times k v.places → slice_get log k ≡ Some e → 0 < times (rests k e) v.places

-- the words 0 and 1 are the numbers of tickets drawn and served, and word 2 is the length of the history
abbrev pub words_of : {E : Type 0} → ℕ → ℕ → List E → List ℕ
words_of drawn served log = (drawn % 2 ^ 64) ∷ (served % 2 ^ 64) ∷ length log ∷ []

-- one view holds the slot
abbrev pub IsOut : {W : Type 0} → List (maybe.Option (Option W)) → ℕ → Type 0
IsOut homes held = (held ≡ 1) × (homes ≡ none ∷ [])

module _ {W T E : Type 0} (start_of : W → T) (history : W → List E) (stands : W → Type 0) where
  -- the value at home stands for the history, and nobody holds it
  abbrev pub IsHome : T → List E → List (maybe.Option (Option W)) → ℕ → Type 0
  IsHome start log homes held = (held ≡ 0) × ((x : W) × (homes ≡ some (Some x) ∷ []) × (start_of x ≡ start) × (history x ≡ log) × stands x)

module _ {W T E : Type 0} (start_of : W → T) (history : W → List E) (stands : W → Type 0) (rests : ℕ → E → ℕ) where
  pub record Kept (start : T) (passes : ℕ) (s : State (Option W) (View T E)) : Type 0 where
    pub drawn : ℕ
    pub served : ℕ
    pub log : List E
    pub words : s.words ≡ words_of drawn served log
    -- the tickets are the numbers from the served one up to the drawn one, each once
    pub tickets : (t : ℕ) → total (has_ticket t) s.views + below t served ≡ below t drawn
    pub waiting : total waits s.views + served ≡ drawn
    pub few : length s.views + total (λ (v : View T E). v.left) s.views ≤ passes
    pub small : passes < 2 ^ 32
    pub parts : total (λ (v : View T E). v.parts) s.views ≡ passes
    -- each place of the history is a place of one view, once
    pub places : (k : ℕ) → total (λ (v : View T E). times k v.places) s.views ≡ below k (length log)
    pub slot : IsHome start_of history stands start log s.homes (total holds_slot s.views) ⊎ IsOut s.homes (total holds_slot s.views)
    pub each : (id : ℕ) (v : View T E) → get_elem? s.views id ≡ some v → IsWell rests start log served v

module _ {T E : Type 0} where
  abbrev pub first_view : T → List E → ℕ → View T E
  first_view start log passes = record {
    start = Some start;
    seen = log;
    told = [];
    places = run_of 0 (length log);
    ticket = None;
    holding = false;
    parts = passes;
    left = passes - 1;
    spent = false;
  }

  abbrev pub spent_view : View T E
  spent_view = record { start = None; seen = []; told = []; places = []; ticket = None; holding = false; parts = 0; left = 0; spent = true }

  abbrev pub waiting_with : ℕ → View T E → View T E
  waiting_with t v = record v { ticket = Some t }

  abbrev pub holding_at : List E → View T E → View T E
  holding_at log v = record v { seen = log; holding = true }

  -- the history has become `log`, and what is new is the view's own
  abbrev pub grown_to : List E → View T E → View T E
  grown_to log v = record v { seen = log; places = v.places ++ run_of (length v.seen) (length log - length v.seen) }

  abbrev pub rested : View T E → View T E
  rested v = record v { ticket = None; holding = false }

  abbrev pub informed : View T E → View T E
  informed v = record v { seen = longer v.seen v.told; told = [] }

  abbrev pub left_of : View T E → View T E
  left_of v = record v { parts = v.parts - 1; left = v.left - 1 }

  abbrev pub right_of : View T E → View T E
  right_of v = record v { told = []; places = []; ticket = None; holding = false; parts = 1; left = 0 }

  abbrev pub joined : View T E → View T E → View T E
  joined v w = record v { told = w.seen; places = v.places ++ w.places; parts = v.parts + w.parts }

abbrev Know : Type 0 → Type 0 → Type 0 → Type 0
Know W T E = Me (Option W) (View T E)

module _ {W T E : Type 0} where
  abbrev pub drew : Step (Option W) → Know W T E → ℕ → Know W T E → Type 0
  drew st m n m' = (t : ℕ) × (n ≡ t % 2 ^ 64) × (m' ≡ (waiting_with t m.0, m.1))

  abbrev pub Took : (W → T) → (W → List E) → (W → Type 0) → (ℕ → E → ℕ) → Know W T E → Know W T E → Type 0
  Took start_of history stands rests m m' = (x : W) × (m' ≡ (holding_at (history x) m.0, (0, Some x) ∷ [])) × (m.0.start ≡ Some (start_of x)) × IsPrefix m.0.seen (history x) × stands x × ((k : ℕ) (e : E) → AllBelow (length m.0.seen) m.0.places → length m.0.seen ≤ k → slice_get (history x) k ≡ Some e → times (rests k e) m.0.places ≡ 0)

  abbrev pub looked : (W → T) → (W → List E) → (W → Type 0) → (ℕ → E → ℕ) → Step (Option W) → Know W T E → ℕ → Know W T E → Type 0
  looked start_of history stands rests st m n m' = (t : ℕ) → m.0.ticket ≡ Some t → (n ≡ t % 2 ^ 64 → Took start_of history stands rests m m') × (n ≢ t % 2 ^ 64 → m' ≡ m)

  abbrev pub appended : (W → List E) → Step (Option W) → Know W T E → ℕ → Know W T E → Type 0
  appended history st m n m' = (x : W) → m.1 ≡ (0, Some x) ∷ [] → m' ≡ (grown_to (history x) m.0, m.1)

  abbrev pub passed_on : Step (Option W) → Know W T E → ℕ → Know W T E → Type 0
  passed_on st m n m' = m' ≡ (rested m.0, [])

  abbrev pub took_in : Step (Option W) → Know W T E → ℕ → Know W T E → Type 0
  took_in st m n m' = (m' ≡ (informed m.0, m.1)) × IsPrefix m.0.seen (longer m.0.seen m.0.told) × IsPrefix m.0.told (longer m.0.seen m.0.told) × ((place : ℕ) → times place m'.0.places ≤ 1)
