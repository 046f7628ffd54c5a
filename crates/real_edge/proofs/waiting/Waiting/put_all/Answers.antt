use Rattle.std.proofs.Common.{rules, ap, is_lt, List, ◌++◌, IsPermutation, sym, subst}
use Rattle.std.specs.Prelude.{Contains}
use Rattle.std.proofs.lemmas.List.Sorted.{answers_always}
use Rattle.real_edge.specs.declared.waiting.Wait.{Wait}
use Rattle.real_edge.specs.Waiting.{is_behind_key}
use Rattle.real_edge.proofs.Ordered.{weak, sorted_found, sorted_rest}
use Rattle.real_edge.proofs.waiting.Waiting.put_all.Goals as goal

pub invariant_of-self-2 : goal.invariant_of-self-2
invariant_of-self-2 c = c.sort_unstable_by.ensures.sorted is_behind_key weak (answers_always _ _ _ (λ f a r q k. ap is_lt (search rules)))

pub returns-clause-found : goal.returns-clause-found
returns-clause-found c = λ x h. sorted_found c.self.inside.held.items c.args.found.now c.sort_unstable_by.new.self.items (rw c.in_ok-extend_from_slice.ensures.items at c.sort_unstable_by.ensures.permutation) x h

pub returns-clause-rest : goal.returns-clause-rest
returns-clause-rest c = λ x h.
    sorted_rest c.self.inside.held.items c.args.found.now c.sort_unstable_by.new.self.items (rw c.in_ok-extend_from_slice.ensures.items at c.sort_unstable_by.ensures.permutation) x
    (subst (λ (l : List Wait). Contains l x) (sym c.self.view_is) h)
