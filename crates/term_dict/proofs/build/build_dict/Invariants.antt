use Rattle.term_dict.proofs.Builds.{IsBuilt}
use Rattle.term_dict.proofs.build.build_dict.Given as goal

abbrev pub invariant-loop-number : goal.invariant-loop-number
invariant-loop-number l = IsBuilt l.area.items l.index l.terms l.number
