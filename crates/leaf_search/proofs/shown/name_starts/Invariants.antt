use Rattle.std.proofs.Common.{List, drop}
use Rattle.leaf_search.specs.FileRanges.{AddsParts}
use Rattle.leaf_search.specs.Shown.{OfEach, StartOf}
use Rattle.leaf_search.specs.declared.file_ranges.FileRange.{FileRange}
use Rattle.leaf_search.proofs.shown.name_starts.Given as goal

abbrev pub invariant-loop-number : goal.invariant-loop-number
invariant-loop-number l = (new : List FileRange) → AddsParts (OfEach StartOf (drop l.number-index l.numbers)) l.ranges new → AddsParts (OfEach StartOf l.numbers) l.fn.ranges new
