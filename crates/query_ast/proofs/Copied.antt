-- Lists of queries that are the same queries.
use Rattle.std.proofs.Common.{◌≡◌, ◌∙◌, sym, List, [], ◌∷◌, map, refl, ap}
use Rattle.query_ast.specs.Sought.{Sought, Soughts, no_more, more, view, view_row, view_all}
use Rattle.query_ast.specs.declared.query.Query.{Query, Row_of-Query, end_of-Query, more_of-Query, items-the_row-Query}

pub row_all : {n : _} (k : Row_of-Query n) → view_row k ≡ view_all (items-the_row-Query n k)
row_all end_of-Query = refl
row_all (more_of-Query q k) = ap (more (view q)) (row_all k)

-- queries one behind another
abbrev chained : List Sought → Soughts
chained [] = no_more
chained (q ∷ qs) = more q (chained qs)

chained_all : (qs : List Query) → view_all qs ≡ chained (map view qs)
chained_all [] = refl
chained_all (q ∷ qs) = ap (more (view q)) (chained_all qs)

pub same_all : (ps qs : List Query) → map view ps ≡ map view qs → view_all ps ≡ view_all qs
same_all ps qs h = chained_all ps ∙ ap chained h ∙ sym (chained_all qs)
