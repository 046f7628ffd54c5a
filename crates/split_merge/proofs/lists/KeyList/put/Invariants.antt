use Rattle.std.proofs.Common.{true}
use Rattle.split_merge.specs.Numbering.{number_in}
use Rattle.split_merge.proofs.ListLemmas.{AddsThese, PutsList}
use Rattle.split_merge.proofs.lists.KeyList.put.Given as goal

abbrev pub invariant-loop-taken : goal.invariant-loop-taken
invariant-loop-taken l = PutsList true (AddsThese true (number_in l.numbers) l.fn.self l.self) l.taken l.last l.fn.cursor l.cursor
