use Rattle.std.proofs.Common.{List, subst}
use Rattle.term_dict.specs.Readers.{Lends}
use Rattle.term_dict.specs.declared.term.Term.{Term}
use Rattle.split_merge.proofs.WalkLemmas.{filter_all}
use Rattle.split_merge.proofs.key_walks.KeyWalk.over.Goals as goal

pub returns-in-Ok : goal.returns-in-Ok
returns-in-Ok c = λ ts over. c.from_range.ensures ts (subst (λ (l : List Term). Lends c.in-Ok.terms l) (filter_all ts) (c.in-Ok.ensures.only ts over))
