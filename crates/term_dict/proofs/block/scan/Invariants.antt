use Rattle.std.proofs.Common.{◌≡◌, ◌≤◌, ◌-◌, List, length, drop}
use Rattle.term_dict.specs.Terms.{AreTerms, area}
use Rattle.term_dict.specs.declared.term.Term.{Term}
use Rattle.term_dict.specs.Reading.{Passes}
use Rattle.term_dict.proofs.Scans.{IsRun}
use Rattle.term_dict.proofs.block.scan.Given as goal

abbrev pub invariant-loop-at : goal.invariant-loop-at
invariant-loop-at l = (l.at ≤ length l.bytes) × ((terms : List Term) → AreTerms terms → drop l.from l.bytes ≡ area terms → IsRun l.bytes l.at l.key terms)
    × Passes l.bytes l.from l.key l.at

abbrev pub decreases-loop-at : goal.decreases-loop-at
decreases-loop-at l = length l.bytes - l.at
