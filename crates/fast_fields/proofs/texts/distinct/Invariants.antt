use Rattle.std.proofs.Common.{List}
use Rattle.std.specs.Prelude.{All}
use Rattle.fast_fields.specs.Columns.{Cell, AreTexts}
use Rattle.fast_fields.specs.Texts.{IsCellText, texts_in}
use Rattle.fast_fields.proofs.Gathered.{Distinct}
use Rattle.fast_fields.proofs.texts.distinct.Given as goal

abbrev pub invariant-loop-text : goal.invariant-loop-text
invariant-loop-text l = ((cs : List Cell) → All (IsCellText cs) l.sorted → AreTexts cs (texts_in l.texts.items)) × Distinct (texts_in l.sorted) l.text-index (texts_in l.texts.items)
