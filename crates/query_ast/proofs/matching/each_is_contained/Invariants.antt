use Rattle.std.proofs.Common.{◌≡◌, drop}
use Rattle.query_ast.specs.Meaning.{each_stands}
use Rattle.query_ast.proofs.matching.each_is_contained.Given as goal

abbrev pub invariant-loop-t : goal.invariant-loop-t
invariant-loop-t l = each_stands l.field (drop l.t-index l.phrase) l.values ≡ each_stands l.field l.phrase l.values
