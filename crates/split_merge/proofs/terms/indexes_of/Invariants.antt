use Rattle.std.proofs.Common.{List, ◌++◌, drop}
use Rattle.std.specs.List.{AllZip}
use Rattle.doc_value.specs.declared.schema.Schema.{Schema}
use Rattle.term_dict.specs.declared.index.BlockStart.{BlockStart}
use Rattle.split_merge.specs.Walking.{IsIndexOf}
use Rattle.split_merge.proofs.terms.indexes_of.Given as goal

abbrev pub invariant-loop-number : goal.invariant-loop-number
invariant-loop-number l = record {
  only : (s : Schema) (rest : List (List BlockStart)) → AllZip (IsIndexOf s) (drop l.number l.views) rest → AllZip (IsIndexOf s) l.views (l.indexes.items ++ rest);
}
