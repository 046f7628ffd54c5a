use Rattle.std.proofs.Common.{◌≡◌, take}
use Rattle.root_search.specs.Answer.{printed}
use Rattle.root_search.proofs.answers.printed_page.Given as goal

abbrev pub invariant-loop-hit : goal.invariant-loop-hit
invariant-loop-hit l = l.lines ≡ printed l.schema (take l.hit-index l.first)
