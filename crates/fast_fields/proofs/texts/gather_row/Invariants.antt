use Rattle.std.proofs.Common.{ℕ, List, length}
use Rattle.std.specs.Prelude.{All}
use Rattle.fast_fields.specs.Columns.{Cell, cells_of, SomeText}
use Rattle.fast_fields.specs.Texts.{IsCellText}
use Rattle.fast_fields.proofs.Gathered.{OneOf}
use Rattle.fast_fields.proofs.texts.gather_row.Given as goal

abbrev pub invariant-loop-value : goal.invariant-loop-value
invariant-loop-value l = ((cs : List Cell) (document : ℕ) → All (IsCellText cs) l.fn.all.items → ((t : List ℕ) → SomeText (cells_of document l.values) t → SomeText cs t)
    → All (IsCellText cs) l.all.items × ((t : List ℕ) → SomeText (cells_of document l.rest) t → SomeText cs t))
    × ((document : ℕ) (t : List ℕ) → OneOf document l.values l.fn.all.items t → OneOf document l.rest l.all.items t)

abbrev pub decreases-loop-value : goal.decreases-loop-value
decreases-loop-value l = length l.rest
