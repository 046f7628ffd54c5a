use Rattle.leaf_search.proofs.ReadBounds.{page_bound}
use Rattle.leaf_search.proofs.laws.pages_need_few_documents.Goals as goal

pub returns : goal.returns
returns c = λ v s documents p r blocks listed starts shown part ask few b l st sh. page_bound v s documents p part r blocks listed starts shown ask few b l st sh
