use Rattle.doc_mapping.proofs.LeafTexts.{leaf_law}
use Rattle.doc_mapping.proofs.laws.leaf_laws.Goals as goal

pub returns : goal.returns
returns c = λ config bytes doc n path text e its dynamic. leaf_law config bytes doc n e its dynamic path text
