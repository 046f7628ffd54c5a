use Rattle.doc_mapping.proofs.Gathering.{guessed}
use Rattle.doc_mapping.proofs.faults.is_at.Goals as goal

pub returns-then-number-len : goal.returns-then-number-len
returns-then-number-len c = λ is.
    guessed c.args.fields.now c.args.number c.at.result.now c.as_slice.result.now c.args.path.now c.eq.result c.requires c.at.ensures c.as_slice.ensures c.eq.ensures is
