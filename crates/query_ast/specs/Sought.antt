-- A query, without where it lies in memory.
use Rattle.std.specs.Prelude.{ℕ, List, [], ◌∷◌}
use Rattle.query_ast.specs.declared.query.Item.{Item}
use Rattle.query_ast.specs.declared.query.Edge.{Edge}
use Rattle.query_ast.specs.declared.query.Query.{Query, Row_of-Query, end_of-Query, more_of-Query}
use Rattle.query_ast.specs.declared.query.Query.TheVariants as written

mutual
  pub data Sought : Type 0 where
    All : Sought
    Nothing : Sought
    Word : ℕ → List ℕ → Sought
    Quoted : ℕ → List ℕ → Sought
    Prefix : ℕ → List ℕ → Sought
    Exists : ℕ → Sought
    Range : ℕ → Edge → Edge → Sought
    AnyOf : ℕ → List Item → Sought
    Not : Sought → Sought
    And : Soughts → Sought
    Or : Soughts → Sought

  pub data Soughts : Type 0 where
    no_more : Soughts
    more : Sought → Soughts → Soughts

abbrev mutual
  -- the query that a tree in memory is
  pub view : Query → Sought
  view written.All = All
  view written.Nothing = Nothing
  view (written.Word n text) = Word n text
  view (written.Quoted n text) = Quoted n text
  view (written.Prefix n text) = Prefix n text
  view (written.Exists n) = Exists n
  view (written.Range n low high) = Range n low high
  view (written.AnyOf n items) = AnyOf n items
  view (written.Not' p q) = Not (view q)
  view (written.And' shape row) = And (view_row row)
  view (written.Or' shape row) = Or (view_row row)

  pub view_row : {m : _} → Row_of-Query m → Soughts
  view_row end_of-Query = no_more
  view_row (more_of-Query q qs) = more (view q) (view_row qs)

-- the same of a list
abbrev pub view_all : List Query → Soughts
view_all [] = no_more
view_all (q ∷ qs) = more (view q) (view_all qs)
