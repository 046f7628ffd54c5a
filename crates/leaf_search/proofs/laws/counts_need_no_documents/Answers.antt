use Rattle.leaf_search.proofs.ReadBounds.{listed_lists, no_document, none_paged}
use Rattle.leaf_search.proofs.laws.counts_need_no_documents.Goals as goal

pub returns-clause-behind : goal.returns-clause-behind
returns-clause-behind c = λ v s documents p r blocks lists part none ask b l. (no_document v s documents p part r blocks lists none ask b l).behind_them

pub returns-clause-bound : goal.returns-clause-bound
returns-clause-bound c = λ v s documents p r blocks lists part none ask b l. (no_document v s documents p part r blocks lists none ask b l).bound

pub returns-clause-rounds : goal.returns-clause-rounds
returns-clause-rounds c = λ v s documents p r starts shown none st sh. none_paged v s documents p r none starts shown st sh

pub returns-clause-listed : goal.returns-clause-listed
returns-clause-listed c = λ v s documents p r listed none l. listed_lists v s documents p r none listed l
