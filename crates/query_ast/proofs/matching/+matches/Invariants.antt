use Rattle.std.proofs.Common.{◌≡◌, drop}
use Rattle.query_ast.specs.Meaning.{all_in, some_in}
use Rattle.query_ast.proofs.matching.+matches.Given as goal

abbrev pub invariant-all_match-loop-part : goal.invariant-all_match-loop-part
invariant-all_match-loop-part l =
    all_in l.schema l.doc (drop l.part-index l.parts) ≡ all_in l.schema l.doc l.parts

abbrev pub invariant-some_match-loop-part : goal.invariant-some_match-loop-part
invariant-some_match-loop-part l =
    some_in l.schema l.doc (drop l.part-index l.parts) ≡ some_in l.schema l.doc l.parts
