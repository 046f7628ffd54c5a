use Rattle.root_search.proofs.Tails.{tail_ends, want_of}
use Rattle.root_search.proofs.fetching.footer_at.Goals as goal

pub returns-in-Ok-clause-step : goal.returns-in-Ok-clause-step
returns-in-Ok-clause-step c = λ bytes start f long starts same s ds p is e.
    let ends = tail_ends bytes c.args.tail.now c.args.size start long starts same s ds p is e in
    c.in-Ok.ensures.whole s ds p is ends.0 ends.1

pub returns-in-Err-clause-step : goal.returns-in-Err-clause-step
returns-in-Err-clause-step c = λ bytes start f long starts same.
    let ends = tail_ends bytes c.args.tail.now c.args.size start long starts same f.schema f.documents f.parts f.is_split f.bytes_are in
    c.footer_fault.ensures.step (want_of f.parts c.in-Err.fault (c.in-Err.ensures.whole f.schema f.documents f.parts f.is_split ends.0 ends.1))
