use Rattle.std.proofs.Common.{drop}
use Rattle.doc_sets.proofs.Steps.{none_behind}
use Rattle.leaf_search.proofs.ListParts.{next_blocks, no_blocks}
use Rattle.leaf_search.proofs.block_ranges.name_blocks.Goals as goal

pub loop-lookup-init : goal.loop-lookup-init
loop-lookup-init c = λ v s documents p new same part adds. adds

pub loop-lookup-preserved : goal.loop-lookup-preserved
loop-lookup-preserved c = λ v s documents p new same part adds.
    c.loop-lookup.invariant v s documents p new same part
    (next_blocks v s documents p c.args.lookups.now c.loop-lookup.lookup-index c.lookup-item.result c.loop-lookup.ranges c.name_lookup_blocks.new.ranges new c.loop-lookup-test.true c.lookup-item.is (c.in_ok-name_lookup_blocks.ensures v s documents p same part) adds)

pub returns : goal.returns
returns c = λ v s documents p same part.
    c.loop-lookup.invariant v s documents p c.loop-lookup.ranges same part
    (no_blocks v s documents p (drop c.loop-lookup.lookup-index c.args.lookups.now) c.loop-lookup.ranges (none_behind c.args.lookups.now c.loop-lookup.lookup-index c.loop-lookup-test.false))
