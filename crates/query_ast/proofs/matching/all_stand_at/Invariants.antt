use Rattle.std.proofs.Common.{◌≡◌, drop}
use Rattle.query_ast.specs.Meaning.{stands_at}
use Rattle.query_ast.proofs.matching.all_stand_at.Given as goal

abbrev pub invariant-loop-t : goal.invariant-loop-t
invariant-loop-t l = stands_at (drop l.t-index l.phrase) l.start l.from l.tokens ≡ stands_at l.phrase l.start l.from l.tokens
