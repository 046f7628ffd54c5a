use Rattle.term_dict.proofs.Ranges.{range_is, between}
use Rattle.term_dict.proofs.Lending.{from_key_terms}
use Rattle.term_dict.proofs.block.Block.key_range.Goals as goal

pub returns-clause-only : goal.returns-clause-only
returns-clause-only c terms b = record {
  rest = _;
  are_terms = from_key_terms c.args.low.now terms b.are_terms;
  bytes_are = c.in_ok-at.ensures.only terms b.are_terms b.bytes;
  lent_is = range_is c.args.low.now _ _ (between c.args.low.now c.args.high.now) terms b.are_terms.rising;
}
