use Rattle.std.specs.List.{AllZip}
use Rattle.root_search.specs.Leaves.{GivesShare}
use Rattle.root_search.proofs.leaves.enough_shares.Given as goal

abbrev pub invariant-loop : goal.invariant-loop
invariant-loop l = AllZip (GivesShare l.schema l.request) l.views l.shares
