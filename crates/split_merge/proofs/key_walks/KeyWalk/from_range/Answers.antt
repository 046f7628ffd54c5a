use Rattle.split_merge.proofs.WalkLemmas.{gives_terms, no_fault}
use Rattle.split_merge.proofs.key_walks.KeyWalk.from_range.Goals as goal

pub returns-in-Ok : goal.returns-in-Ok
returns-in-Ok c = λ ts lends. let g = c.in-Ok.ensures.only ts lends in gives_terms ts c.next.new.self c.in-Ok.next g.0 g.1

pub returns-in-Err : goal.returns-in-Err
returns-in-Err c = λ ts lends. absurd (no_fault ts c.in-Err._fault (c.in-Err.ensures.only ts lends).0)
