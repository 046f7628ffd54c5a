use Rattle.std.proofs.Common.{rules, ◌≡◌, refl, ap, ◌&&◌, ◌||◌, List}
use Rattle.query_ast.specs.Meaning.{meaning, all_hold, some_hold, all_in, some_in}
use Rattle.query_ast.specs.Sought.{view, view_row}
use Rattle.doc_value.specs.declared.schema.Schema.{Schema}
use Rattle.doc_value.specs.declared.doc.DocField.{DocField}
use Rattle.query_ast.specs.declared.query.Query.{Row_of-Query, end_of-Query, more_of-Query, items-the_row-Query, the_lemmas}
use Rattle.query_ast.proofs.matching.+matches.Goals as goal

all_row : {n : _} (s : Schema) (d : List DocField) (k : Row_of-Query n) → all_hold s d (view_row k) ≡ all_in s d (items-the_row-Query n k)
all_row s d end_of-Query = refl
all_row s d (more_of-Query q k) = ap (λ b. meaning s d (view q) && b) (all_row s d k)

some_row : {n : _} (s : Schema) (d : List DocField) (k : Row_of-Query n) → some_hold s d (view_row k) ≡ some_in s d (items-the_row-Query n k)
some_row s d end_of-Query = refl
some_row s d (more_of-Query q k) = ap (λ b. meaning s d (view q) || b) (some_row s d k)

pub matches-returns-in-And : goal.matches-returns-in-And
matches-returns-in-And t c = search (rules, all_row, the_lemmas)

pub matches-returns-in-Or : goal.matches-returns-in-Or
matches-returns-in-Or t c = search (rules, some_row, the_lemmas)
