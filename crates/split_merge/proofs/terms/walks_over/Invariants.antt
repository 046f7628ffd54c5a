use Rattle.std.proofs.Common.{List, None, ◌++◌, drop}
use Rattle.std.specs.List.{AllZip}
use Rattle.doc_value.specs.declared.schema.Schema.{Schema}
use Rattle.split_merge.specs.declared.key_walks.KeyWalk.{KeyWalk}
use Rattle.split_merge.specs.Walking.{IsIndexOf, IsWalkOf}
use Rattle.split_merge.proofs.terms.walks_over.Given as goal

abbrev pub invariant-loop-i : goal.invariant-loop-i
invariant-loop-i l = record {
  only : (s : Schema) → AllZip (IsIndexOf s) l.views l.indexes → (rest : List KeyWalk) → AllZip (IsWalkOf s None) (drop l.i l.views) rest → AllZip (IsWalkOf s None) l.views (l.walks.items ++ rest);
}
