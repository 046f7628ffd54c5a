use Rattle.std.proofs.Common.{◌∙◌, ◌||◌, List, nat_eq, ap, sym, subst}
use Rattle.std.specs.List.{starts_with}
use Rattle.term_dict.specs.Bounds.{AreBlocks}
use Rattle.term_dict.specs.Keys.{is_below}
use Rattle.term_dict.specs.declared.index.BlockStart.{BlockStart}
use Rattle.split_bundle.specs.declared.footer.Footer.{Footer}
use Rattle.leaf_search.proofs.BlockParts.{next_named, none_between, walk_named}
use Rattle.leaf_search.proofs.block_ranges.name_walk_blocks.Goals as goal

pub loop-number-init : goal.loop-number-init
loop-number-init c = λ v s documents p new same part adds. adds

pub loop-number-preserved : goal.loop-number-preserved
loop-number-preserved c = λ v s documents p new same part adds.
    c.loop-number.invariant v s documents p new same part
    (next_named v s documents p part c.loop-number.number c.blocks_with-blocks.result.end c.loop-number.ranges c.name_block.new.ranges new c.loop-number-test.true (c.in_ok-name_block.ensures v s documents p same part) adds)

pub returns : goal.returns
returns c = λ v s documents p same part.
    let prefix = c.args.prefix.now in
    let start = c.blocks_with-blocks.result.start in
    let end = c.blocks_with-blocks.result.end in
    let blocks = subst (λ (ix : List BlockStart). AreBlocks ix prefix (λ first. is_below first prefix || starts_with nat_eq first prefix) start end) (c.index.ensures ∙ ap (λ (g : Footer). g.index) (sym same)) c.blocks_with-blocks.ensures.exact in
    walk_named v s documents p part prefix start end c.args.ranges.now c.loop-number.ranges blocks
    (c.loop-number.invariant v s documents p c.loop-number.ranges same part (none_between v s documents p part c.loop-number.number end c.loop-number.ranges c.loop-number-test.false))
