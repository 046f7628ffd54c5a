use Rattle.std.proofs.Common.{◌≡◌, ◌++◌, length}
use Rattle.fast_fields.specs.Texts.{texts_in}
use Rattle.split_build.specs.HeldColumns.{texts_of}
use Rattle.split_build.proofs.column_texts.rising.Given as goal

abbrev pub invariant-loop-name : goal.invariant-loop-name
invariant-loop-name l = texts_in l.all.items ++ texts_of l.rest ≡ texts_of l.names

abbrev pub decreases-loop-name : goal.decreases-loop-name
decreases-loop-name l = length l.rest
