use Rattle.std.proofs.Common.{◌∙◌}
use Rattle.split_merge.specs.Keeping.{joined, kept}
use Rattle.split_merge.proofs.KeptLemmas.{blames_memory}
use Rattle.split_merge.proofs.merging.join_within.Goals as goal

pub join_terms-requires : goal.join_terms-requires
join_terms-requires c = (c.args.dropped.now, c.deref.ensures.value ∙ c.in_ok-numbers.ensures.tables)

pub finish-requires-clause-kept : goal.finish-requires-clause-kept
finish-requires-clause-kept c = c.requires.kept

pub returns-in_ok-finish-in-Ok-clause-only : goal.returns-in_ok-finish-in-Ok-clause-only
returns-in_ok-finish-in-Ok-clause-only c = λ lists h within are.
    c.in_ok-finish-in-Ok.ensures.built (kept c.args.dropped.now (joined lists)) h within
    (c.in-Ok.ensures.only c.args.dropped.now lists (c.deref.ensures.value ∙ c.in_ok-numbers.ensures.tables) c.in_ok-numbers.ensures.few are)

pub returns-in-Err-clause-only : goal.returns-in-Err-clause-only
returns-in-Err-clause-only c = λ lists h within are. blames_memory c.args.schema.now c.args.views.now lists c.in-Err.fault are c.in-Err.ensures.cause
