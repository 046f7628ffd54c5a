-- The documents that may be shown.
use Rattle.std.specs.Prelude.{ℕ, ◌==◌, Bool, false, nat_lt, List, [], Option, None, Some, slice_get, count_by, if◌then◌else◌}
use Rattle.std.specs.List.{filter}
use Rattle.std.specs.Option.{option_map_or}
use Rattle.std.specs.Ordering.{is_lt}
use Rattle.split_bundle.specs.declared.placed.Placed.{Placed}
use Rattle.doc_tallies.specs.declared.hit_order.HitOrder.{HitOrder}
use Rattle.doc_tallies.specs.Orders.{sort_cmp}
use Rattle.doc_tallies.specs.Picked.{picked}

-- one document is ahead of another: it comes before it by the order's value alone, wherever the two stand
abbrev pub is_ahead : HitOrder → Placed → Placed → Bool
is_ahead order a b = is_lt (sort_cmp (Some order) a.doc b.doc)

-- fewer than are wanted of the documents of some numbers are ahead of the one with this number
abbrev pub has_few_ahead : HitOrder → (wanted : ℕ) → List Placed → (numbers : List ℕ) → ℕ → Bool
has_few_ahead order wanted documents numbers n =
    option_map_or (λ d. nat_lt (count_by (λ x. is_ahead order x d) (picked numbers documents)) wanted) (slice_get documents n) false

-- the near ones of some numbers: all that may be among the first so many, and those that tie with the last of these
abbrev pub near : HitOrder → (wanted : ℕ) → List Placed → (numbers : List ℕ) → List ℕ
near order wanted documents numbers = filter (has_few_ahead order wanted documents numbers) numbers

-- the numbers whose documents may be shown: all where there is no order, and none where none are wanted
abbrev pub shown : Option HitOrder → (wanted : ℕ) → List Placed → (numbers : List ℕ) → List ℕ
shown None wanted documents numbers = if wanted == 0 then [] else numbers
shown (Some order) wanted documents numbers = near order wanted documents numbers
