-- The searcher of a client's name among searchers.
use Rattle.std.specs.Prelude.{◌≡◌, ℕ, zero, suc, List, [], ◌∷◌, map, Option, Some, None, if◌then◌else◌, bytes_eq}
use Rattle.std.specs.BTreeMap.{is_at}
use Rattle.std.specs.Cmp.Lexicographic.{slice_cmp}
use Rattle.std.specs.List.{AllZip}
use Rattle.std.specs.Map.{lookup}
use Rattle.std.specs.Option.{option_map}
use Rattle.std.specs.Ordering.{nat_cmp}
use Rattle.source_log.specs.Log.{Log}
use Rattle.index_world.specs.Core.{Core}
use Rattle.root_search.specs.Searching.{SearcherStands}
use Rattle.root_search.specs.Steps.{Client}
use Rattle.root_search.specs.declared.searcher.Searcher.{Searcher}
use Rattle.node_run.specs.Turns.{client_named, with_client}

-- the first of this name stands at this place
abbrev pub NamedAt : List ℕ → List Searcher → ℕ → Type 0
NamedAt name [] place = ⊥
NamedAt name (searcher ∷ searchers) zero = searcher.client ≡ name
NamedAt name (searcher ∷ searchers) (suc place) = (searcher.client ≡ name → ⊥) × NamedAt name searchers place

-- the place of the first of these names that is this one
abbrev pub place_in : List ℕ → List (List ℕ) → Option ℕ
place_in name [] = None
place_in name (other ∷ names) = if bytes_eq other name then Some 0 else option_map suc (place_in name names)

abbrev pub names_of : List Client → List (List ℕ)
names_of clients = map (λ client. client.name) clients

-- a map has each of these names, and no other, at its place
abbrev pub HasPlaces : List (List ℕ × ℕ) → List (List ℕ) → Type 0
HasPlaces places names = (name : List ℕ) → lookup (is_at (slice_cmp nat_cmp name)) places ≡ place_in name names

-- behind these clients the client of this name is known, and its searcher stands at this place
pub record IsKnown (name : List ℕ) (searchers : List Searcher) (places : List (List ℕ × ℕ)) (before : List Client) (place : ℕ) (core : Core) (log : Log) : Type 0 where
  pub at : NamedAt name searchers place
  pub clients : AllZip (λ searcher client. SearcherStands searcher client core log) searchers (with_client (client_named name before) before)
  pub placed : HasPlaces places (names_of (with_client (client_named name before) before))
