-- What a store holds, and what its calls do to it.
use Rattle.std.specs.Prelude.{◌≡◌, ℕ, ◌+◌, ◌-◌, ◌^◌, min, ◌⊎◌, Bool, ◌&&◌, true, List, [], ◌∷◌, ◌++◌, length, take, drop, filter, Contains, Option, Some, None, Result, Ok, Err, IsSome, slice_get, remove, ⊤}
use Rattle.std.specs.List.{starts_with}
use Rattle.std.specs.Prelude.{nat_eq}
use Rattle.std.specs.Ordering.{nat_cmp, is_lt}
use Rattle.std.specs.Cmp.Lexicographic.{slice_cmp}
use Rattle.std.specs.FinMap as map
use Rattle.byte_fields.specs.declared.calls.Failed.{Failed}
use Rattle.object_store.specs.declared.store.CreateError.{CreateError}
use Rattle.object_store.specs.declared.store.CreateError.TheVariants as creates
use Rattle.object_store.specs.declared.store.GetError.{GetError}
use Rattle.object_store.specs.declared.store.GetError.TheVariants as gets
use Rattle.object_store.specs.declared.store.ListError.{ListError}
use Rattle.object_store.specs.declared.store.Piece.{Piece}

-- objects by their keys, in the order of the keys
abbrev pub Objects : Type 0
Objects = map.FinMap (slice_cmp nat_cmp) (List ℕ)

-- the objects, and the creates that failed and may still take effect
pub record State : Type 0 where
  pub objects : Objects
  pub late : List (List ℕ × List ℕ)

-- one late create leaves the list: it becomes an object where its key is absent, and where it stands it is over
abbrev pub land_where : Option (List ℕ) → List ℕ × List ℕ → ℕ → State → State
land_where None object place s = record { objects = map.insert s.objects object.0 object.1; late = remove s.late place }
land_where (Some standing) object place s = record { objects = s.objects; late = remove s.late place }

abbrev pub land_one : Option (List ℕ × List ℕ) → ℕ → State → State
land_one None place s = s
land_one (Some object) place s = land_where (map.get s.objects object.0) object place s

-- the late creates at these places of the list land, one after another
abbrev pub landed : List ℕ → State → State
landed [] s = s
landed (place ∷ places) s = landed places (land_one (slice_get s.late place) place s)

-- some late creates have landed, named by their places; what is not named stays
abbrev pub HasLanded : State → State → Type 0
HasLanded old new = (places : List ℕ) × (new ≡ landed places old)

-- What landings leave: what stood stands, and what came was late.
pub record Lands (old new : State) : Type 0 where
  pub kept : (key content : List ℕ) → map.get old.objects key ≡ Some content → map.get new.objects key ≡ Some content
  pub come : (key content : List ℕ) → map.get new.objects key ≡ Some content → map.get old.objects key ≡ Some content ⊎ Contains old.late (key, content)
  pub late : (key content : List ℕ) → Contains new.late (key, content) → Contains old.late (key, content)

-- what is said of a store before and after, where it tells: a store that tells goes on to tell
abbrev pub WhereTold : Option State → Option State → (State → State → Type 0) → Type 0
WhereTold None new Says = ⊤
WhereTold (Some old) None Says = ⊥
WhereTold (Some old) (Some new) Says = Says old new

-- late creates may land, and then a call does its own work
abbrev pub LandsThen : (State → State → Type 0) → State → State → Type 0
LandsThen Work old new = (mid : State) × HasLanded old mid × Work mid new

-- what a call did, where the store tells
abbrev pub AfterLanding : Option State → Option State → (State → State → Type 0) → Type 0
AfterLanding old new Work = WhereTold old new (LandsThen Work)

-- the state with one more object
abbrev pub with_object : State → List ℕ → List ℕ → State
with_object s key content = record { objects = map.insert s.objects key content; late = s.late }

abbrev pub without_object : State → List ℕ → State
without_object s key = record { objects = map.remove s.objects key; late = s.late }

-- the state with one more late create
abbrev pub with_late : State → List ℕ → List ℕ → State
with_late s key content = record { objects = s.objects; late = s.late ++ (key, content) ∷ [] }

abbrev pub Creates : List ℕ → List ℕ → Result (Unit {0}) CreateError → State → State → Type 0
Creates key content (Ok done) old new = (map.get old.objects key ≡ None) × (new ≡ with_object old key content)
Creates key content (Err creates.Exists) old new = IsSome (map.get old.objects key) × (new ≡ old)
-- it takes effect at once where the key is absent, or may yet, or never will
Creates key content (Err creates.Failed) old new =
    ((map.get old.objects key ≡ None) × (new ≡ with_object old key content)) ⊎ ((new ≡ with_late old key content) ⊎ (new ≡ old))
Creates key content (Err (creates.Memory e)) old new = new ≡ old

-- the bytes from a place on, as many as there are up to a number, and the whole size
pub record IsPieceOf (bytes : List ℕ) (from len : ℕ) (piece : Piece) : Type 0 where
  pub bytes_are : piece.bytes ≡ take len (drop from bytes)
  pub size_is : piece.size ≡ length bytes

abbrev pub Finds : Option (List ℕ) → ℕ → ℕ → Result Piece GetError → Type 0
Finds (Some bytes) from len (Ok piece) = IsPieceOf bytes from len piece
Finds None from len (Ok piece) = ⊥
Finds found from len (Err gets.Absent) = found ≡ None
Finds found from len (Err gets.Failed) = ⊤
Finds found from len (Err (gets.Memory e)) = ⊤

-- a count of bytes stands still at its type's end
abbrev pub last_given : ℕ
last_given = 2 ^ 64 - 1

-- how many bytes were given, behind a read: those of its piece are added
abbrev pub given_more : Result Piece GetError → ℕ → ℕ
given_more (Ok piece) count = min (count + length piece.bytes) last_given
given_more (Err e) count = count

abbrev pub Gets : List ℕ → ℕ → ℕ → Result Piece GetError → State → State → Type 0
Gets key from len result old new = (new ≡ old) × Finds (map.get old.objects key) from len result

-- a failed delete took effect or never will
abbrev pub Deletes : List ℕ → Result (Unit {0}) Failed → State → State → Type 0
Deletes key (Ok done) old new = new ≡ without_object old key
Deletes key (Err e) old new = (new ≡ without_object old key) ⊎ (new ≡ old)

-- greater than a key, where there is one
abbrev pub is_behind : Option (List ℕ) → List ℕ → Bool
is_behind None key = true
is_behind (Some after) key = is_lt (slice_cmp nat_cmp after key)

-- a key with a prefix and behind a key
abbrev pub is_wanted : List ℕ → Option (List ℕ) → List ℕ → Bool
is_wanted prefix after key = starts_with nat_eq key prefix && is_behind after key

-- those keys, in the order of the bytes
abbrev pub listed : List ℕ → Option (List ℕ) → Objects → List (List ℕ)
listed prefix after objects = filter (is_wanted prefix after) (map.keys objects)

abbrev pub Lists : List ℕ → Option (List ℕ) → ℕ → Result (List (List ℕ)) ListError → State → State → Type 0
Lists prefix after max (Ok keys) old new = (new ≡ old) × (keys ≡ take max (listed prefix after old.objects))
Lists prefix after max (Err e) old new = new ≡ old
