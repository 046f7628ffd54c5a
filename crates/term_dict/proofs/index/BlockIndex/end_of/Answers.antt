use Rattle.std.proofs.Common.{◌+◌, ◌∙◌, arith}
use Rattle.term_dict.proofs.Starts.{start_last, block_at}
use Rattle.term_dict.proofs.index.BlockIndex.end_of.Goals as goal

pub returns-then-number-len-clause-only : goal.returns-then-number-len-clause-only
returns-then-number-len-clause-only c bytes terms d size =
    size ∙ start_last bytes c.args.self.now terms (c.args.number + 1) d (omega (arith, c.len.ensures))

pub returns-clause-only : goal.returns-clause-only
returns-clause-only c bytes terms d size = (block_at bytes c.args.self.now terms (c.args.number + 1) c.at.result.now d c.at.ensures).3
