use Rattle.term_dict.proofs.Ranges.{prefixed}
use Rattle.term_dict.proofs.BoundsLemmas.{range_of_blocks, first_below, behind_unwanted, prefix_shuts}
use Rattle.term_dict.proofs.index.BlockIndex.blocks_with.Goals as goal

pub returns-clause-only : goal.returns-clause-only
returns-clause-only c bytes terms d =
    let prefix = c.args.prefix.now in
    let first = c.first_block.ensures in
    range_of_blocks prefix _ _ (prefixed prefix) terms c.first_block.result c.count_before.result
    (first_below bytes c.args.self.now terms prefix first.0 c.first_block.result d first.1 first.2)
    (behind_unwanted bytes c.args.self.now terms _ _ c.count_before.result d (prefix_shuts prefix) c.count_before.ensures)
