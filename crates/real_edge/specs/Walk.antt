-- What a walk over the names of a disk still comes to.
use Rattle.std.specs.Prelude.{◌≡◌, ℕ, ◌⊎◌, ◌++◌, ◌∷◌, [], Bool, ◌&&◌, ◌||◌, true, false, nat_eq, List, Contains, Option, Some, None, IsSome}
use Rattle.std.specs.List.{starts_with, list_any}
use Rattle.std.specs.Ordering.{nat_cmp, is_lt, eq_by_cmp}
use Rattle.std.specs.Cmp.Lexicographic.{slice_cmp}
use Rattle.std.specs.FinMap as finmap
use Rattle.object_store.specs.Store.{is_wanted, listed}
use Rattle.real_edge.specs.declared.waiting.Wait.{Wait}
use Rattle.real_edge.specs.declared.folder_walk.Walk.{Walk}
use Rattle.real_edge.specs.Disk.{Files, Begins}
use Rattle.real_edge.specs.Names.{is_object}
use Rattle.real_edge.specs.Objects.{objects_of}

-- A name leads to the file of that name, and to those of its folder; a folder's name, which ends in a slash, to those that begin with it.
abbrev pub LeadsBy : Bool → List ℕ → List ℕ → Type 0
LeadsBy true w q = Begins w q
LeadsBy false w q = (q ≡ w) ⊎ Begins (w ++ 47 ∷ []) q

abbrev pub Leads : Wait → List ℕ → Type 0
Leads w q = LeadsBy w.is_folder w.key q

-- an object with a prefix and behind a key, where there is one
pub record IsSought (prefix : List ℕ) (after : Option (List ℕ)) (files : Files) (q : List ℕ) : Type 0 where
  pub stands : IsSome (finmap.get files q)
  pub object : is_object q ≡ true
  pub wanted : is_wanted prefix after q ≡ true

-- each object that is sought is led to by one that waits
abbrev pub Covers : List ℕ → Option (List ℕ) → List Wait → Files → Type 0
Covers prefix after waiting files = (q : List ℕ) → IsSought prefix after files q → (w : Wait) × Contains waiting w × Leads w q

abbrev pub IsCovering : Walk → Files → Type 0
IsCovering walk files = Covers walk.prefix walk.after walk.waiting files

-- a name leads to a file
abbrev pub leads_by : Bool → List ℕ → List ℕ → Bool
leads_by true w q = starts_with nat_eq q w
leads_by false w q = eq_by_cmp (slice_cmp nat_cmp) q w || starts_with nat_eq q (w ++ 47 ∷ [])

-- the same as `IsCovering`, by a test
abbrev pub IsLed : Walk → Files → Type 0
IsLed walk files = (q : List ℕ) → IsSought walk.prefix walk.after files q → list_any (λ w. leads_by w.is_folder w.key q) walk.waiting ≡ true

-- the keys that are still to be given
abbrev pub left_of : Walk → Files → List (List ℕ)
left_of walk files = listed walk.prefix walk.after (objects_of files)

-- a key is given, and the walk goes on behind it; or none is, and what is sought stays
abbrev pub Gives : Bool → List ℕ → Walk → Walk → Files → Type 0
Gives true key old new files = (left_of old files ≡ key ∷ left_of new files) × IsCovering new files
Gives false key old new files = (new.after ≡ old.after) × IsCovering new files

-- Keys are added to those that were given, and the walk goes on behind them; or there is no name more, and none is left.
abbrev pub Goes : Bool → List (List ℕ) → List (List ℕ) → Walk → Walk → Files → Type 0
Goes true keys keys' old new files = (keys ++ left_of old files ≡ keys' ++ left_of new files) × IsCovering new files
Goes false keys keys' old new files = (keys' ≡ keys) × (left_of old files ≡ []) × IsCovering new files

-- keys that begin with a folder may be behind a key, where there is one
abbrev pub may_be_behind : Option (List ℕ) → List ℕ → Bool
may_be_behind None folder = true
may_be_behind (Some after) folder = starts_with nat_eq after folder || is_lt (slice_cmp nat_cmp after folder)

-- keys that begin with a folder may have a prefix and be behind a key
abbrev pub may_have : List ℕ → Option (List ℕ) → List ℕ → Bool
may_have prefix after folder = (starts_with nat_eq folder prefix || starts_with nat_eq prefix folder) && may_be_behind after folder

-- each object that is sought, and is led to by a name, is led to by one of these
abbrev pub Meets : List ℕ → Option (List ℕ) → List ℕ → List Wait → Type 0
Meets prefix after name found = (q : List ℕ) → is_object q ≡ true → is_wanted prefix after q ≡ true → LeadsBy false name q → (w : Wait) × Contains found w × Leads w q

-- the same of those in the folder of the name
abbrev pub MeetsWithin : List ℕ → Option (List ℕ) → List ℕ → List Wait → Type 0
MeetsWithin prefix after name found = (q : List ℕ) → is_object q ≡ true → is_wanted prefix after q ≡ true → Begins (name ++ 47 ∷ []) q → (w : Wait) × Contains found w × Leads w q

-- each object that is sought begins with a folder, or is led to by one that waits
abbrev pub CoversWith : List ℕ → Option (List ℕ) → List ℕ → List Wait → Files → Type 0
CoversWith prefix after folder waiting files = (q : List ℕ) → IsSought prefix after files q → Begins folder q ⊎ ((w : Wait) × Contains waiting w × Leads w q)

abbrev pub option_list : Option Wait → List Wait
option_list None = []
option_list (Some w) = w ∷ []
