use Rattle.std.proofs.Common.{ℕ, List, length}
use Rattle.std.specs.Prelude.{All}
use Rattle.fast_fields.specs.Columns.{cells, SomeText}
use Rattle.fast_fields.specs.Texts.{IsCellText}
use Rattle.fast_fields.proofs.Gathered.{OneOfRows}
use Rattle.fast_fields.proofs.texts.gathered.Given as goal

abbrev pub invariant-loop-row : goal.invariant-loop-row
invariant-loop-row l = All (IsCellText (cells l.rows)) l.all.items × ((t : List ℕ) → SomeText (cells l.rest) t → SomeText (cells l.rows) t)
    × ((t : List ℕ) → SomeText (cells l.rows) t → OneOfRows l.rest l.all.items t)

abbrev pub decreases-loop-row : goal.decreases-loop-row
decreases-loop-row l = length l.rest
