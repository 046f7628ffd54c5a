-- Rows of a tree in memory, as lists.
use Rattle.std.proofs.Common.{◌≡◌, ℕ, ◌+◌, ◌<◌, List, [], ◌∷◌, ◌++◌, map, length, refl, ap, ◌∙◌, arith}
use Rattle.std.specs.Prelude.{slice_index_or}
use Rattle.query_reader.specs.Tree.{Tree, Trees, no_trees, behind, And, Or, view, view_row, trees_after, and_tree, or_tree}
use Rattle.query_reader.specs.declared.tree.Raw.{Raw, Row_of-Raw, end_of-Raw, more_of-Raw, items-the_row-Raw}

pub row_after : {n : _} (done : Trees) (k : Row_of-Raw n) → trees_after done (view_row k) ≡ trees_after done (map view (items-the_row-Raw n k))
row_after done end_of-Raw = refl
row_after done (more_of-Raw t k) = row_after (behind done (view t)) k

-- one more member
pub more_trees : (done : Trees) (xs : List Raw) (x : Raw) → trees_after done (map view (xs ++ x ∷ [])) ≡ behind (trees_after done (map view xs)) (view x)
more_trees done [] x = refl
more_trees done (y ∷ ys) x = more_trees (behind done (view y)) ys x

and_two : (done : Trees) (t u : Tree) (zs : List Raw) → And (trees_after (behind (behind done t) u) (map view zs)) ≡ and_tree (trees_after (behind (behind done t) u) (map view zs))
and_two done t u [] = refl
and_two done t u (z ∷ zs) = and_two (behind done t) u (view z) zs

-- several members are an And of their own
pub and_several : (xs : List Raw) → (length xs ≡ 1 → ⊥) → And (trees_after no_trees (map view xs)) ≡ and_tree (trees_after no_trees (map view xs))
and_several [] n = refl
and_several (x ∷ []) n = absurd (n refl)
and_several (x ∷ y ∷ zs) n = and_two no_trees (view x) (view y) zs

pub and_only : (xs : List Raw) (x : Raw) → length xs ≡ 1 → x ≡ slice_index_or xs 0 x → view x ≡ and_tree (trees_after no_trees (map view xs))
and_only [] x l e = absurd (omega (arith, l))
and_only (y ∷ []) x l e = ap view e
and_only (y ∷ z ∷ zs) x l e = absurd (omega (arith, l))

abbrev pub count : Trees → ℕ
count no_trees = 0
count (behind ts t) = count ts + 1

pub count_after : (done : Trees) (xs : List Raw) → count (trees_after done (map view xs)) ≡ count done + length xs
count_after done [] = omega arith
count_after done (x ∷ xs) = omega (arith, count_after (behind done (view x)) xs)

or_behind : (ts : Trees) (t : Tree) → 0 < count ts → Or (behind ts t) ≡ or_tree (behind ts t)
or_behind no_trees t l = absurd (omega (arith, l))
or_behind (behind ts u) t l = refl

pub or_more : (xs : List Raw) (x : Raw) → 0 < length xs → Or (trees_after no_trees (map view (xs ++ x ∷ []))) ≡ or_tree (behind (trees_after no_trees (map view xs)) (view x))
or_more xs x l = ap Or (more_trees no_trees xs x) ∙ or_behind (trees_after no_trees (map view xs)) (view x) (omega (arith, l, count_after no_trees xs))
