use Rattle.std.proofs.Common.{◌≡◌, ◌++◌, true, List}
use Rattle.split_merge.specs.Joining.{Lists}
use Rattle.split_merge.specs.Numbering.{number_in}
use Rattle.split_merge.specs.declared.lists.Listed.{Listed}
use Rattle.split_merge.proofs.ListLemmas.{PutsList}
use Rattle.split_merge.proofs.lists.list_counts.Given as goal

abbrev pub invariant-loop-taken : goal.invariant-loop-taken
invariant-loop-taken l = record {
  front : (more : List Listed) × (l.entries.items ≡ l.fn.entries.items ++ more);
  taken : PutsList true (Lists (number_in l.numbers) l.fn.entries.items l.entries.items) l.taken l.last l.fn.cursor l.cursor;
}
