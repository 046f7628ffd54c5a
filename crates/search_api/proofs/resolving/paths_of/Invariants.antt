use Rattle.std.proofs.Common.{◌≡◌, ◌++◌, drop, map}
use Rattle.search_api.specs.Resolved.{path_at}
use Rattle.search_api.proofs.resolving.paths_of.Given as goal

abbrev pub invariant-loop-number : goal.invariant-loop-number
invariant-loop-number l = map (path_at l.fields) l.numbers ≡ l.paths ++ map (path_at l.fields) (drop l.number-index l.numbers)
