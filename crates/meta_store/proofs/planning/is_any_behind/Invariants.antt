use Rattle.std.proofs.Common.{◌≡◌, drop, nat_lt}
use Rattle.std.specs.List.{list_any}
use Rattle.meta_store.proofs.planning.is_any_behind.Given as goal

abbrev pub invariant-loop-span : goal.invariant-loop-span
invariant-loop-span l = list_any (λ s. nat_lt s.applied l.last) (drop l.span-index l.spans) ≡ list_any (λ s. nat_lt s.applied l.last) l.spans
