use Rattle.std.proofs.Common.{◌-◌, arith}
use Rattle.term_dict.proofs.BoundsLemmas.{in_no_block, in_block}
use Rattle.term_dict.proofs.index.BlockIndex.block_of.Goals as goal

pub returns-then-count-eq0-clause-only : goal.returns-then-count-eq0-clause-only
returns-then-count-eq0-clause-only c bytes terms d =
    in_no_block bytes c.args.self.now terms c.args.key.now c.count_up_to-count.result d
    (record { within = c.count_up_to-count.ensures.within; up_to = c.count_up_to-count.ensures.up_to; behind = c.count_up_to-count.ensures.behind }) c.if-count-eq0.true

pub returns-else-count-eq0-clause-only : goal.returns-else-count-eq0-clause-only
returns-else-count-eq0-clause-only c bytes terms d =
    in_block bytes c.args.self.now terms c.args.key.now c.count_up_to-count.result (c.count_up_to-count.result - 1) d
    (record { within = c.count_up_to-count.ensures.within; up_to = c.count_up_to-count.ensures.up_to; behind = c.count_up_to-count.ensures.behind }) (omega arith)
