-- A list of objects as entries in the order of their keys.
use Rattle.std.specs.Prelude.{◌≡◌, ℕ, ◌+◌, ◌<◌, ◌≤◌, not, List, [], ◌∷◌, length, map, Option, None, slice_index_or, All, IsTrue}
use Rattle.std.specs.declared.cmp.Ordering.TheVariants.{Less}
use Rattle.std.specs.Ordering.{nat_cmp, eq_by_cmp}
use Rattle.std.specs.Cmp.Lexicographic.{slice_cmp}
use Rattle.std.specs.FinMap.Entries.{put, find, by_order, where_key, is_sorted}
use Rattle.real_edge.specs.declared.shelf_files.Object.{Object}

abbrev pub entry : Object → List ℕ × List ℕ
entry o = (o.key, o.content)

abbrev pub entries : List Object → List (List ℕ × List ℕ)
entries objects = map entry objects

-- the keys rise
abbrev pub IsInOrder : List Object → Type 0
IsInOrder objects = IsTrue (is_sorted (slice_cmp nat_cmp) (entries objects))

-- the content under a key
abbrev pub found : List ℕ → List (List ℕ × List ℕ) → Option (List ℕ)
found key es = find (slice_cmp nat_cmp) key es

-- with an entry in its place
abbrev pub placed : List ℕ → List ℕ → List (List ℕ × List ℕ) → List (List ℕ × List ℕ)
placed key content es = put (slice_cmp nat_cmp) key content es

-- without a key
abbrev pub removed : List ℕ → List (List ℕ × List ℕ) → List (List ℕ × List ℕ)
removed key es = where_key (slice_cmp nat_cmp) (λ x. not (eq_by_cmp (slice_cmp nat_cmp) key x)) es

-- how many of the first keys are before a key
abbrev pub rank_of : List ℕ → List (List ℕ × List ℕ) → ℕ
rank_of key [] = 0
rank_of key (e ∷ es) = by_order (slice_cmp nat_cmp key e.0) 0 0 (rank_of key es + 1)

-- each of these keys is below a key
abbrev pub AllBelow : List ℕ → List Object → Type 0
AllBelow key objects = All (λ o. slice_cmp nat_cmp o.key key ≡ Less) objects

-- the key stands at this place of the list
pub record IsPlaceOf (key : List ℕ) (objects : List Object) (at : ℕ) : Type 0 where
  pub within : at < length objects
  pub key_is : (d : Object) → (slice_index_or objects at d).key ≡ key

-- the key stands nowhere in the list, and would go to this place
pub record IsGapOf (key : List ℕ) (objects : List Object) (at : ℕ) : Type 0 where
  pub absent : found key (entries objects) ≡ None
  pub rank_is : at ≡ rank_of key (entries objects)
  pub within : at ≤ length objects
