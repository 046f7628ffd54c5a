use Rattle.std.proofs.Common.{rules, ◌≡◌, refl, ap, ◌&&◌, ◌||◌, List}
use Rattle.query_ast.specs.Pruning.{can_match, all_can, some_can, all_can_in, some_can_in}
use Rattle.query_ast.specs.Sought.{view, view_row}
use Rattle.doc_value.specs.declared.schema.Schema.{Schema}
use Rattle.doc_value.specs.declared.facts.FieldTags.{FieldTags}
use Rattle.query_ast.specs.declared.query.Query.{Row_of-Query, end_of-Query, more_of-Query, items-the_row-Query, the_lemmas}
use Rattle.query_ast.proofs.pruning.+may_match.Goals as goal

all_row : {n : _} (s : Schema) (d : List FieldTags) (k : Row_of-Query n) → all_can s d (view_row k) ≡ all_can_in s d (items-the_row-Query n k)
all_row s d end_of-Query = refl
all_row s d (more_of-Query q k) = ap (λ b. can_match s d (view q) && b) (all_row s d k)

some_row : {n : _} (s : Schema) (d : List FieldTags) (k : Row_of-Query n) → some_can s d (view_row k) ≡ some_can_in s d (items-the_row-Query n k)
some_row s d end_of-Query = refl
some_row s d (more_of-Query q k) = ap (λ b. can_match s d (view q) || b) (some_row s d k)

pub may_match-returns-in-And : goal.may_match-returns-in-And
may_match-returns-in-And t c = search (rules, all_row, the_lemmas)

pub may_match-returns-in-Or : goal.may_match-returns-in-Or
may_match-returns-in-Or t c = search (rules, some_row, the_lemmas)
