use Rattle.doc_sets.proofs.SetLemmas.{none_set}
use Rattle.doc_sets.proofs.sets.no_documents.Goals as goal

pub returns-clause-only : goal.returns-clause-only
returns-clause-only c = λ s documents p is. none_set c.vacant.result c.doc_count.result documents (c.doc_count.ensures.only s documents p is.part) c.vacant.ensures.size c.vacant.ensures.none
