use Rattle.std.proofs.Common.{subst}
use Rattle.doc_mapping.specs.Leaves.{AreOf}
use Rattle.doc_mapping.proofs.Answering.{whole_dropped, whole_kept}
use Rattle.doc_mapping.proofs.accepting.whole.Goals as goal

pub returns-in-Dropped : goal.returns-in-Dropped
returns-in-Dropped c = λ d are made.
    whole_dropped c.args.config.now d c.args.doc c.timed.result (subst (AreOf c.args.config.now.schema d) c.in-Dropped.is are) made c.timed.ensures

pub returns-in-Ok : goal.returns-in-Ok
returns-in-Ok c = λ d are made.
    whole_kept c.args.config.now d c.in-Kept.number c.in-Kept.values c.args.doc c.in-Ok.whole c.timed-in-Ok.result
    (subst (AreOf c.args.config.now.schema d) c.in-Kept.is are) made (λ rise none. c.in-Ok.ensures rise none) c.timed-in-Ok.ensures
