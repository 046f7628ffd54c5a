-- How many members an object and a list have.
use Rattle.std.proofs.Common.{◌≡◌, List, [], ◌∷◌, length, refl, ap}
use Rattle.std.specs.Prelude.{suc, String}
use Rattle.std.specs.declared.alloc.Global.{Global}
use Rattle.serde_json.specs.View.{items_view, members_view}
use Rattle.serde_json.specs.declared.value.Value.{Value}
use Rattle.search_api.specs.Aggregations.{count_items, count_members}

pub count_is_length : (entries : List (String Global × Value)) → count_members (members_view entries) ≡ length entries
count_is_length [] = refl
count_is_length (m ∷ ms) = ap suc (count_is_length ms)

pub items_are_length : (items : List Value) → count_items (items_view items) ≡ length items
items_are_length [] = refl
items_are_length (v ∷ vs) = ap suc (items_are_length vs)
