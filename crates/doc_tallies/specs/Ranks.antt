-- What a column's numbers say of the order of its documents.
use Rattle.std.specs.Prelude.{◌≡◌, ℕ, ◌-◌, Bool, true, false, List, Option, Some, None}
use Rattle.std.specs.List.{filter, filter_map}
use Rattle.std.specs.Option.{option_map}
use Rattle.doc_value.specs.declared.schema.Schema.{Schema}
use Rattle.fast_fields.specs.Readers.{first_number}
use Rattle.fast_fields.specs.declared.entries.Entry.{Entry}
use Rattle.split_bundle.specs.declared.placed.Placed.{Placed}
use Rattle.doc_tallies.specs.declared.hit_order.HitOrder.{HitOrder}
use Rattle.doc_tallies.specs.declared.near.SortColumn.{SortColumn}
use Rattle.doc_tallies.specs.Cells.{IsColumnFor}
use Rattle.doc_tallies.specs.Least.{few_before}

-- a number of a column as a key that rises along the order: itself upwards, counted from the greatest number of 64 bits downwards
abbrev pub key_of : Bool → ℕ → ℕ
key_of false n = n
key_of true n = 18446744073709551615 - n

-- the key of a document, if it has a value
abbrev pub key_at : Bool → List Entry → ℕ → Option ℕ
key_at descending entries n = option_map (key_of descending) (first_number n entries)

-- the keys of some documents
abbrev pub keys_of : Bool → List Entry → List ℕ → List ℕ
keys_of descending entries numbers = filter_map (key_at descending entries) numbers

-- those of some documents before whose keys fewer than so many stand
abbrev pub near_keys : Bool → List Entry → ℕ → List ℕ → List ℕ
near_keys descending entries wanted numbers = filter (λ n. few_before wanted (keys_of descending entries numbers) (key_at descending entries n)) numbers

-- the column by which an order sorts
pub record IsSortFor (s : Schema) (documents : List Placed) (order : Option HitOrder) (c : SortColumn) : Type 0 where
  pub by : HitOrder
  pub order_is : order ≡ Some by
  pub descending_is : c.descending ≡ by.descending
  pub is_for : IsColumnFor s documents by.field c.field

-- the same of one that there may be
abbrev pub IsSortOf : Schema → List Placed → Option HitOrder → Option SortColumn → Type 0
IsSortOf s documents order None = order ≡ None
IsSortOf s documents order (Some c) = IsSortFor s documents order c
