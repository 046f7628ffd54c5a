use Rattle.leaf_search.specs.Shown.{TellsShown}
use Rattle.leaf_search.proofs.Suffices.{held_memory}
use Rattle.root_search.proofs.fetching.starts_in.Goals as goal

pub returns-in_ok-starts-in-Ok-clause-step : goal.returns-in_ok-starts-in-Ok-clause-step
returns-in_ok-starts-in-Ok-clause-step c = λ documents p part ask there.
    let few = c.in-Ok.ensures.only documents p part ask in
    record { few = few; starts = c.in_ok-starts-in-Ok.ensures.only c.args.schema.now documents p part few }

pub returns-in-Err-clause-step : goal.returns-in-Err-clause-step
returns-in-Err-clause-step c = λ documents p part ask there.
    c.leaf_fault.ensures.memory (held_memory (TellsShown c.args.view.now c.args.schema.now documents p c.args.request.now) c.args.view.now.pieces c.in-Err.fault there (c.in-Err.ensures.only documents p part ask))
