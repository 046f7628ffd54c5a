use Rattle.root_search.proofs.Joining.{leaf_counted}
use Rattle.root_search.proofs.leaves.leaf_of.Goals as goal

pub returns : goal.returns
returns c = record {
  only = c.leaf.ensures.only;
  there = c.leaf.ensures.there;
  counted = leaf_counted c.args.request.now c.leaf.result c.leaf.ensures.partial c.leaf.ensures.many;
  read = c.leaf.ensures.read;
  faults = c.leaf.ensures.faults;
}
