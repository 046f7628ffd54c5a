use Rattle.std.proofs.Common.{List}
use Rattle.root_search.specs.FetchedSplits.{IsParted}
use Rattle.root_search.specs.declared.fetched_splits.FetchedSplit.{FetchedSplit}
use Rattle.root_search.proofs.Parting.{AreSeen}
use Rattle.root_search.proofs.fetched_splits.views_of.Given as goal

abbrev pub invariant-loop-split : goal.invariant-loop-split
invariant-loop-split l = (parts : List FetchedSplit) → IsParted parts l.fn.footers.items l.splits → AreSeen parts l.splits l.split-index l.left.items l.views
