use Rattle.split_merge.proofs.UpToLemmas.{walk_is}
use Rattle.split_merge.proofs.terms.walk_over.Goals as goal

pub returns-in-Ok : goal.returns-in-Ok
returns-in-Ok c = λ s index. walk_is s c.args.view.now c.in-Ok.dict c.over.result (λ ds p is. c.in-Ok.ensures.only s ds p is (index ds p is)) c.over.ensures
