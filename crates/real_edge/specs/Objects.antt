-- The objects that a disk has.
use Rattle.std.specs.Prelude.{◌≡◌, ◌≢◌, ◌⊎◌, ℕ, List, [], Bool, true, false, Option, Some, None, Result, Ok, Err, OnOk}
use Rattle.std.specs.FinMap as finmap
use Rattle.byte_fields.specs.declared.calls.Failed.{Failed}
use Rattle.object_store.specs.declared.store.CreateError.{CreateError}
use Rattle.object_store.specs.declared.store.CreateError.TheVariants as creates
use Rattle.object_store.specs.Store.{Objects, State, Creates, Deletes}
use Rattle.real_edge.specs.declared.faults.Trouble.{Trouble}
use Rattle.real_edge.specs.declared.disk.MakeError.{MakeError}
use Rattle.real_edge.specs.declared.disk.MakeError.TheVariants as makes
use Rattle.real_edge.specs.Disk.{Files, IsSafe}
use Rattle.real_edge.specs.Names.{is_object}

abbrev pub objects_of : Files → Objects
objects_of files = finmap.retain_keys files is_object

-- The files whose names are keys. Nothing lands late.
abbrev pub state_of : Files → State
state_of files = record { objects = objects_of files; late = [] }

-- What a store tells, by the files that are seen and those that a crash leaves: the objects that are seen, until a change of them could
-- not be put on the disk. Behind that the store does nothing any more, and its objects are those that a crash leaves.
abbrev pub state_in : Option Files → (is_lost : Bool) → Files → Option State
state_in None is_lost crashed = None
state_in (Some files) false crashed = Some (state_of files)
state_in (Some files) true crashed = Some (state_of crashed)

-- what a make is to whoever creates
abbrev pub create_answer : Result (Unit {0}) MakeError → Result (Unit {0}) CreateError
create_answer (Ok done) = Ok done
create_answer (Err makes.Exists) = Err creates.Exists
create_answer (Err (makes.Failed t)) = Err creates.Failed
create_answer (Err (makes.Memory e)) = Err (creates.Memory e)

abbrev pub delete_answer : Result (Unit {0}) Trouble → Result (Unit {0}) Failed
delete_answer (Ok done) = Ok done
delete_answer (Err t) = Err record {}

-- what comes of a link, and of the removal of the name beside
abbrev pub both_of : Result (Unit {0}) MakeError → Result (Unit {0}) Trouble → Result (Unit {0}) MakeError
both_of (Ok done) (Ok gone) = Ok done
both_of (Ok done) (Err t) = Err (makes.Failed t)
both_of (Err makes.Exists) (Ok gone) = Err makes.Exists
both_of (Err makes.Exists) (Err t) = Err (makes.Failed t)
both_of (Err (makes.Failed t)) removed = Err (makes.Failed t)
both_of (Err (makes.Memory e)) removed = Err (makes.Memory e)

-- and of the sync behind them
abbrev pub made_of : Result (Unit {0}) MakeError → Result (Unit {0}) Trouble → Result (Unit {0}) MakeError
made_of (Ok done) (Ok synced) = Ok done
made_of (Ok done) (Err t) = Err (makes.Failed t)
made_of (Err makes.Exists) (Ok synced) = Err makes.Exists
made_of (Err makes.Exists) (Err t) = Err (makes.Failed t)
made_of (Err (makes.Failed t)) synced = Err (makes.Failed t)
made_of (Err (makes.Memory e)) (Ok synced) = Err (makes.Memory e)
made_of (Err (makes.Memory e)) (Err t) = Err (makes.Failed t)

-- what comes of a removal, and of the sync behind it
abbrev pub taken_of : Result (Unit {0}) Trouble → Result (Unit {0}) Trouble → Result (Unit {0}) Trouble
taken_of (Ok gone) synced = synced
taken_of (Err t) synced = Err t

-- ---- what a crash may leave of the objects

-- A CRASH LEAVES, of the objects, what is seen.
abbrev pub IsSure : (Files → Type 0) → Files → Type 0
IsSure left files = (c : Files) → left c → (q : List ℕ) → is_object q ≡ true → finmap.get c q ≡ finmap.get files q

-- under this name a crash leaves what is seen
abbrev pub IsSeenAt : List ℕ → (Files → Type 0) → Files → Type 0
IsSeenAt name left files = (c : Files) → left c → finmap.get c name ≡ finmap.get files name

-- what a crash may leave shows, of the objects, no more than before
abbrev pub ShowsNoMore : (Files → Type 0) → (Files → Type 0) → Type 0
ShowsNoMore before after = (c : Files) → after c → (d : Files) × before d × ((q : List ℕ) → is_object q ≡ true → finmap.get c q ≡ finmap.get d q)

-- from one left before, of the objects: under this name stands what stood there, or what is said
pub record Showing (name : List ℕ) (Turned : Option (List ℕ) → Type 0) (d c : Files) : Type 0 where
  pub others : (q : List ℕ) → is_object q ≡ true → q ≢ name → finmap.get c q ≡ finmap.get d q
  pub here : is_object name ≡ true → (finmap.get c name ≡ finmap.get d name) ⊎ Turned (finmap.get c name)

abbrev pub ShowsTurn : List ℕ → (Option (List ℕ) → Type 0) → (Files → Type 0) → (Files → Type 0) → Type 0
ShowsTurn name Turned before after = (c : Files) → after c → (d : Files) × before d × Showing name Turned d c

-- a name that none had has these bytes
abbrev pub Comes : List ℕ → List ℕ → Files → Option (List ℕ) → Type 0
Comes name content old x = (finmap.get old name ≡ None) × (x ≡ Some content)

abbrev pub Goes : Option (List ℕ) → Type 0
Goes x = x ≡ None

-- ---- the calls

-- no object came, went or changed, and no crash brings more of them
pub record KeepsObjects (before after : Files → Type 0) (old new : Files) : Type 0 where
  pub same : (q : List ℕ) → is_object q ≡ true → finmap.get new q ≡ finmap.get old q
  pub left : ShowsNoMore before after

-- a call leaves each object that no crash would have taken
abbrev pub KeepsSafe : (Files → Type 0) → (Files → Type 0) → Type 0
KeepsSafe before after = (name content : List ℕ) → is_object name ≡ true → IsSafe before name content → IsSafe after name content

-- the file beside stands, and no object came or went
pub record Made (name content : List ℕ) (before after : Files → Type 0) (old new : Files) : Type 0 where
  pub has : finmap.get new name ≡ Some content
  pub keeps : KeepsObjects before after old new

-- where nothing was lost before, a crash leaves what is seen, unless it is lost now
abbrev pub StaysSure : (is_lost : Bool) → (Files → Type 0) → (Files → Type 0) → Files → Files → Type 0
StaysSure is_lost before after old new = is_lost ≡ false → IsSure before old → IsSure after new

-- what a create did: to the objects, and to what a crash may leave
pub record Places (name content : List ℕ) (result : Result (Unit {0}) MakeError) (is_lost : Bool) (before after : Files → Type 0) (old new : Files) : Type 0 where
  pub creates : Creates name content (create_answer result) (state_of old) (state_of new)
  pub others : (q : List ℕ) → is_object q ≡ true → q ≢ name → finmap.get new q ≡ finmap.get old q
  pub on_disk : OnOk result (IsSafe after name content)
  pub keeps : KeepsSafe before after
  pub turns : ShowsTurn name (Comes name content old) before after
  pub sure : StaysSure is_lost before after old new
  pub fails : is_lost ≡ true → (t : Trouble) × (result ≡ Err (makes.Failed t))

-- behind an `Ok` no crash takes the object, and each object that no crash would have taken stays so, whatever the answer
pub record IsPlaced (name content : List ℕ) (result : Result (Unit {0}) CreateError) (before after : Files → Type 0) : Type 0 where
  pub on_disk : OnOk result (IsSafe after name content)
  pub keeps : KeepsSafe before after

-- behind an `Ok` no crash brings the object back, and each other that no crash would have taken stays so, whatever the answer
pub record IsTaken {E : Type 0} (name : List ℕ) (result : Result (Unit {0}) E) (before after : Files → Type 0) : Type 0 where
  pub gone : OnOk result ((c : Files) → after c → finmap.get c name ≡ None)
  pub keeps : (q content : List ℕ) → is_object q ≡ true → q ≢ name → IsSafe before q content → IsSafe after q content

-- what a removal did: to the objects, and to what a crash may leave
pub record Takes (name : List ℕ) (result : Result (Unit {0}) Trouble) (is_lost : Bool) (before after : Files → Type 0) (old new : Files) : Type 0 where
  pub deletes : Deletes name (delete_answer result) (state_of old) (state_of new)
  pub others : (q : List ℕ) → is_object q ≡ true → q ≢ name → finmap.get new q ≡ finmap.get old q
  pub taken : IsTaken name result before after
  pub turns : ShowsTurn name Goes before after
  pub sure : StaysSure is_lost before after old new
  pub fails : is_lost ≡ true → (t : Trouble) × (result ≡ Err t)
