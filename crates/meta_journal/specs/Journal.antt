-- What the calls of a journal answer, and what they leave.
use Rattle.std.specs.Prelude.{◌≡◌, ◌⊎◌, ℕ, ◌+◌, Bool, List, true, false, Option, Some, None, Result, Ok, Err, IsSome, ⊤}
use Rattle.byte_fields.specs.Causes.{Rose}
use Rattle.object_store.specs.Store.{State, HasLanded, LandsThen, Creates}
use Rattle.object_store.specs.declared.store.CreateError.{CreateError}
use Rattle.object_store.specs.declared.store.CreateError.TheVariants as creates
use Rattle.meta_journal.specs.declared.entry.Entry.{Entry}
use Rattle.meta_journal.specs.declared.entry.Act.TheVariants as acts
use Rattle.meta_journal.specs.declared.journal_error.JournalError.{JournalError}
use Rattle.meta_journal.specs.declared.journal_error.JournalError.TheVariants.{Memory, Adopted, StoreFault, Foreign, Corrupt, Full, Missing}
use Rattle.meta_journal.specs.declared.place.JournalPlace.{JournalPlace}
use Rattle.meta_journal.specs.declared.place.JournalPlace.TheVariants.{Sure, Unsure, Given}
use Rattle.meta_journal.specs.Spelling.{spelling, Spells, CanSpell}
use Rattle.meta_journal.specs.Places.{meta_key, numbered, HasEntry}
use Rattle.meta_journal.specs.Reading.{entry_of}
use Rattle.meta_journal.specs.declared.entry_error.EntryError.{EntryError}

-- a journal: how many entries were taken in, which is the next number, what is known of the place there,
-- and whether a place was settled since `settle` was last called
pub record Numbered : Type 0 where
  pub next : ℕ
  pub place : JournalPlace
  pub settled : Bool

-- the greatest number of entries
abbrev pub max_entries : ℕ
max_entries = 10000000

abbrev pub fence : ℕ → Entry
fence moment = record { moment = moment; act = acts.Fence }

-- no entry is spelled so
abbrev pub IsNoEntry : List ℕ → Type 0
IsNoEntry bytes = (e : Entry) → CanSpell e → Spells bytes e → ⊥

-- reading them meets a fault
abbrev pub HasFault : List ℕ → Type 0
HasFault bytes = (fault : EntryError) × (entry_of bytes ≡ Err fault)

-- the object with a number stands, and is no entry
pub record IsCorrupt (s : State) (n : ℕ) (key : List ℕ) : Type 0 where
  pub key_is : key ≡ meta_key n
  pub bytes : List ℕ
  pub stands : numbered s n ≡ Some bytes
  pub is_none : IsNoEntry bytes
  pub fault : HasFault bytes

pub record IsMissing (s : State) (n : ℕ) (key : List ℕ) : Type 0 where
  pub key_is : key ≡ meta_key n
  pub absent : numbered s n ≡ None

-- what the bytes of an object are read as
abbrev pub DecodesTo : List ℕ → List ℕ → Result Entry JournalError → Type 0
DecodesTo bytes key (Ok e) = CanSpell e × Spells bytes e
DecodesTo bytes key (Err (Corrupt k)) = (k ≡ key) × IsNoEntry bytes × HasFault bytes
DecodesTo bytes key (Err (Memory a)) = ⊤
DecodesTo bytes key (Err (Missing k)) = ⊥
DecodesTo bytes key (Err (StoreFault before after)) = ⊥
DecodesTo bytes key (Err (Adopted e)) = ⊥
DecodesTo bytes key (Err (Foreign k)) = ⊥
DecodesTo bytes key (Err Full) = ⊥

-- the refusals of a read, and of settling
abbrev pub IsOfRead : JournalError → Type 0
IsOfRead (Memory a) = ⊤
IsOfRead (StoreFault before after) = ⊤
IsOfRead (Corrupt key) = ⊤
IsOfRead (Missing key) = ⊤
IsOfRead (Adopted e) = ⊥
IsOfRead (Foreign key) = ⊥
IsOfRead Full = ⊥

-- a fault of the store is told with both counts, and only where the count rose
abbrev pub FaultIs : ℕ → ℕ → JournalError → Type 0
FaultIs before now (StoreFault b a) = (b ≡ before) × (a ≡ now) × Rose before now
FaultIs before now (Missing key) = ⊤
FaultIs before now (Corrupt key) = ⊤
FaultIs before now (Memory a) = ⊤
FaultIs before now (Adopted e) = ⊤
FaultIs before now (Foreign key) = ⊤
FaultIs before now Full = ⊤

-- what a read of the object with a number says of it
abbrev pub ReadSays : ℕ → Result Entry JournalError → State → Type 0
ReadSays n (Ok e) new = HasEntry new n e
ReadSays n (Err (Missing key)) new = IsMissing new n key
ReadSays n (Err (Corrupt key)) new = IsCorrupt new n key
ReadSays n (Err (StoreFault before after)) new = ⊤
ReadSays n (Err (Memory a)) new = ⊤
ReadSays n (Err (Adopted e)) new = ⊥
ReadSays n (Err (Foreign key)) new = ⊥
ReadSays n (Err Full) new = ⊥

-- the entry with a number was asked for: late creates may have landed, and nothing else changed
abbrev pub ReadsEntry : ℕ → Result Entry JournalError → State → State → Type 0
ReadsEntry n r old new = HasLanded old new × ReadSays n r new

-- an entry was tried at a number
abbrev pub Tries : ℕ → Entry → Result (Unit {0}) CreateError → State → State → Type 0
Tries n e answer = LandsThen (Creates (meta_key n) (spelling e) answer)

abbrev pub created : Result (Unit {0}) CreateError
created = Ok tt

abbrev pub create_failed : Result (Unit {0}) CreateError
create_failed = Err creates.Failed

-- the store failed: in the create of the entry, or in the read of what stands at its number
abbrev pub Faults : ℕ → Entry → State → State → Type 0
Faults n e old new = Tries n e create_failed old new ⊎ (HasLanded old new × IsSome (numbered new n))

-- What an append leaves, by its answer. Only Ok and a fault may have made the object; all else is landings.
abbrev pub Appends : ℕ → Entry → Result ℕ JournalError → State → State → Type 0
Appends n e (Ok m) old new = (m ≡ n) × Tries n e created old new
Appends n e (Err (Adopted f)) old new = HasLanded old new × HasEntry new n f
Appends n e (Err (StoreFault before after)) old new = Faults n e old new
Appends n e (Err (Foreign key)) old new = HasLanded old new × (key ≡ meta_key n) × IsSome (numbered new n)
Appends n e (Err (Corrupt key)) old new = HasLanded old new × IsCorrupt new n key
Appends n e (Err (Memory a)) old new = HasLanded old new
Appends n e (Err Full) old new = new ≡ old
Appends n e (Err (Missing key)) old new = ⊥

-- what is said of a number at which a create answered that it stands
abbrev pub Adopts : ℕ → JournalError → State → State → Type 0
Adopts n (Adopted f) old new = HasLanded old new × HasEntry new n f
Adopts n (StoreFault before after) old new = HasLanded old new
Adopts n (Foreign key) old new = HasLanded old new × (key ≡ meta_key n)
Adopts n (Corrupt key) old new = HasLanded old new × IsCorrupt new n key
Adopts n (Missing key) old new = HasLanded old new × IsMissing new n key
Adopts n (Memory a) old new = HasLanded old new
Adopts n Full old new = ⊥

-- the refusals of an append below the limit
abbrev pub IsOfAppend : Bool → JournalError → Type 0
IsOfAppend settled (Adopted f) = settled ≡ false
IsOfAppend settled (Foreign key) = settled ≡ true
IsOfAppend settled (StoreFault before after) = ⊤
IsOfAppend settled (Corrupt key) = ⊤
IsOfAppend settled (Missing key) = ⊤
IsOfAppend settled (Memory a) = ⊤
IsOfAppend settled Full = ⊥

-- a place that is taken is adopted, and is foreign behind a place that was settled
abbrev pub IsTaken : Bool → JournalError → Type 0
IsTaken settled (Adopted f) = settled ≡ false
IsTaken settled (Foreign key) = settled ≡ true
IsTaken settled (StoreFault before after) = ⊤
IsTaken settled (Corrupt key) = ⊤
IsTaken settled (Missing key) = ⊤
IsTaken settled (Memory a) = ⊤
IsTaken settled Full = ⊤

-- what trying a fence at a number leaves, by its answer
abbrev pub SettlesAt : ℕ → ℕ → Result Entry JournalError → State → State → Type 0
SettlesAt n moment (Ok f) old new = ((f ≡ fence moment) × Tries n (fence moment) created old new) ⊎ (HasLanded old new × HasEntry new n f)
SettlesAt n moment (Err (StoreFault before after)) old new = Faults n (fence moment) old new
SettlesAt n moment (Err (Corrupt key)) old new = HasLanded old new × IsCorrupt new n key
SettlesAt n moment (Err (Memory a)) old new = HasLanded old new
SettlesAt n moment (Err (Missing key)) old new = ⊥
SettlesAt n moment (Err (Adopted f)) old new = ⊥
SettlesAt n moment (Err (Foreign key)) old new = ⊥
SettlesAt n moment (Err Full) old new = ⊥

-- what settling leaves, by its answer: where nothing is unsure nothing changes
abbrev pub Settles : ℕ → ℕ → Result (Option Entry) JournalError → State → State → Type 0
Settles n moment (Ok None) old new = new ≡ old
Settles n moment (Ok (Some f)) old new = SettlesAt n moment (Ok f) old new
Settles n moment (Err x) old new = SettlesAt n moment (Err x) old new

-- ---- the place behind each answer

abbrev pub place_refused : JournalPlace → JournalError → JournalPlace
place_refused p (StoreFault before after) = Unsure
place_refused p (Adopted e) = Given
place_refused p (Missing key) = p
place_refused p (Corrupt key) = p
place_refused p (Foreign key) = p
place_refused p (Memory a) = p
place_refused p Full = p

abbrev pub place_read : JournalPlace → Result Entry JournalError → JournalPlace
place_read p (Ok e) = Given
place_read p (Err e) = place_refused p e

abbrev pub place_appended : Result ℕ JournalError → JournalPlace
place_appended (Ok n) = Sure
place_appended (Err e) = place_refused Sure e

abbrev pub place_settled : JournalPlace → Result (Option Entry) JournalError → JournalPlace
place_settled p (Ok None) = Sure
place_settled p (Ok (Some e)) = Given
place_settled p (Err e) = place_refused p e

abbrev pub next_appended : ℕ → Result ℕ JournalError → ℕ
next_appended n (Ok m) = n + 1
next_appended n (Err e) = n
