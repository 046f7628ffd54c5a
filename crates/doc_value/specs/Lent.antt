-- What a list ends as, where a `&mut` to its items is returned.
use Rattle.std.specs.Prelude.{List, ◌++◌, take, drop, length}
use Rattle.std.specs.Borrow.{Lends, Fml, RattleType, MutBor, Array}
use Rattle.doc_value.specs.contracts.items.List.{the_row}

-- a list with the items that a borrow of it shows, which are as many
abbrev pub with_items : {T : Type 0} → List T → List T → List T
with_items before items = take (length before) (items ++ drop (length items) before)

-- once the borrow r ends, the items are those that r shows last
abbrev pub lends_slice : (T : RattleType) → MutBor (List T.Denot) → MutBor (List T.Denot) → Fml
lends_slice T v r = Lends (the_row T) (Array T 0) v r (with_items v.now)
