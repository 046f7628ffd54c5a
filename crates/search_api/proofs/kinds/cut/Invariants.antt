use Rattle.std.proofs.Common.{◌≡◌, ◌++◌, length}
use Rattle.std.specs.Str.{IsUtf8}
use Rattle.search_api.specs.Kinds.{cut}
use Rattle.search_api.proofs.kinds.cut.Given as goal

abbrev pub invariant-loop-path : goal.invariant-loop-path
invariant-loop-path l = record { cuts : cut l.text ≡ l.paths ++ cut l.left; is_text : IsUtf8 l.left }

abbrev pub decreases-loop-path : goal.decreases-loop-path
decreases-loop-path l = length l.left
