use Rattle.std.proofs.Common.{arith}
use Rattle.leaf_search.proofs.KeyCounts.{counts}
use Rattle.leaf_search.proofs.ReadBounds.{count_bound, listed_lists, none_paged}
use Rattle.leaf_search.proofs.laws.counts_need_a_block.Goals as goal

pub returns-clause-whole : goal.returns-clause-whole
returns-clause-whole c = λ v s documents p r key number blocks lists part is block b l. count_bound v s documents p r key number blocks lists part is block b l

pub returns-clause-rounds : goal.returns-clause-rounds
returns-clause-rounds c = λ v s documents p r key number blocks listed starts shown part is block b l st sh.
    let none = (counts s r key is).wanted in
    let few = none_paged v s documents p r none starts shown st sh in
    let le = count_bound v s documents p r key number blocks listed part is block b (listed_lists v s documents p r none listed l) in
    omega (arith, few, le)
