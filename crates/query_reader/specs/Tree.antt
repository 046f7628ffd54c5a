-- A query as it is written, without where it lies in memory.
use Rattle.std.specs.Prelude.{ℕ, zero, suc, Option, List, [], ◌∷◌}
use Rattle.query_reader.specs.declared.tree.Span.{Span}
use Rattle.query_reader.specs.declared.tree.Ask.{Ask}
use Rattle.query_reader.specs.declared.tree.Ask.TheVariants as written
use Rattle.query_reader.specs.Asking.{Asking}
use Rattle.query_reader.specs.Asking as asks
use Rattle.query_reader.specs.declared.tree.Raw.{Raw, Row_of-Raw, end_of-Raw, more_of-Raw}
use Rattle.query_reader.specs.declared.tree.Raw.TheVariants as raws

mutual
  pub data Tree : Type 0 where
    Leaf : Option Span → Asking → Tree
    Group : Tree → Tree
    Not : Tree → Tree
    And : Trees → Tree
    Or : Trees → Tree

  -- the members of an And or an Or, of which the last comes last
  pub data Trees : Type 0 where
    no_trees : Trees
    behind : Trees → Tree → Trees

abbrev pub view_ask : Ask → Asking
view_ask written.Any = asks.Any
view_ask (written.Word s) = asks.Word s
view_ask (written.Prefix s) = asks.Prefix s
view_ask (written.Quoted s) = asks.Quoted s
view_ask (written.Within n r) = asks.Within n r
view_ask (written.OneOf n v) = asks.OneOf n v.items

-- the members of an And, or the one that there is
abbrev pub and_tree : Trees → Tree
and_tree no_trees = And no_trees
and_tree (behind no_trees t) = t
and_tree (behind (behind ts u) t) = And (behind (behind ts u) t)

-- the members of an Or, or the one that there is
abbrev pub or_tree : Trees → Tree
or_tree no_trees = Or no_trees
or_tree (behind no_trees t) = t
or_tree (behind (behind ts u) t) = Or (behind (behind ts u) t)

abbrev pub trees_after : Trees → List Tree → Trees
trees_after done [] = done
trees_after done (t ∷ ts) = trees_after (behind done t) ts

abbrev mutual
  pub view : Raw → Tree
  view (raws.Leaf c) = Leaf c.field (view_ask c.ask)
  view (raws.Group' p a) = Group (view a)
  view (raws.Not' p a) = Not (view a)
  view (raws.And' shape row) = And (trees_after no_trees (view_row row))
  view (raws.Or' shape row) = Or (trees_after no_trees (view_row row))

  pub view_row : {m : _} → Row_of-Raw m → List Tree
  view_row end_of-Raw = []
  view_row (more_of-Raw t ts) = view t ∷ view_row ts

-- `NOT` n times
abbrev pub nots : ℕ → Tree → Tree
nots zero t = t
nots (suc n) t = nots n (Not t)
