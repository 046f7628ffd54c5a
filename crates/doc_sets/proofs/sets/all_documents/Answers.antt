use Rattle.doc_sets.proofs.SetLemmas.{all_set}
use Rattle.doc_sets.proofs.sets.all_documents.Goals as goal

pub returns-clause-only : goal.returns-clause-only
returns-clause-only c = λ s documents p is. all_set c.filled.result c.doc_count.result documents (c.doc_count.ensures.only s documents p is.part) c.filled.ensures.size c.filled.ensures.all
