-- What clients ask, by their requests.
use Rattle.std.specs.Prelude.{◌≡◌, ℕ, suc, List, [], ◌∷◌, map, Option, Some, None, if◌then◌else◌, ◌==◌, bytes_eq, slice_get}
use Rattle.std.specs.BTreeMap.{is_at}
use Rattle.std.specs.Cmp.Lexicographic.{slice_cmp}
use Rattle.std.specs.List.{AllZip}
use Rattle.std.specs.Map.{lookup}
use Rattle.std.specs.Option.{option_map}
use Rattle.std.specs.Ordering.{nat_cmp}
use Rattle.run_plan.specs.declared.clients.Asking.{Asking}
use Rattle.run_plan.specs.declared.clients.Request.{Request}

-- the place of the first of these names that is this one
abbrev pub place_in : List ℕ → List (List ℕ) → Option ℕ
place_in name [] = None
place_in name (other ∷ names) = if bytes_eq other name then Some 0 else option_map suc (place_in name names)

-- a map has each of these names, and no other, at its place
abbrev pub HasPlaces : List (List ℕ × ℕ) → List (List ℕ) → Type 0
HasPlaces places names = (name : List ℕ) → lookup (is_at (slice_cmp nat_cmp name)) places ≡ place_in name names

abbrev pub names_of : List Asking → List (List ℕ)
names_of askings = map (λ asking. asking.client) askings

-- of a list those that belong to one, where it is told to whom each belongs
abbrev pub picked : {A : Type 0} → ℕ → List ℕ → List A → List A
picked one [] xs = []
picked one (owner ∷ by) [] = []
picked one (owner ∷ by) (x ∷ xs) = if owner == one then x ∷ picked one by xs else picked one by xs

-- each request is asked by the client of its name, and each client asks the texts of its own requests, in their order
pub record AreAsked (requests : List Request) (askings : List Asking) (by : List ℕ) : Type 0 where
  pub places : AllZip (λ request place. place_in request.client (names_of askings) ≡ Some place) requests by
  pub texts : (place : ℕ) (asking : Asking) → slice_get askings place ≡ Some asking → asking.texts.items ≡ picked place by (map (λ request. request.text) requests)
