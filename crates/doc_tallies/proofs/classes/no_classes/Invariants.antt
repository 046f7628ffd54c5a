use Rattle.std.proofs.Common.{◌≡◌, vec_len}
use Rattle.std.specs.List.{All}
use Rattle.doc_tallies.proofs.classes.no_classes.Given as goal

abbrev pub invariant-loop-place : goal.invariant-loop-place
invariant-loop-place l = record {
  size : vec_len l.classes ≡ l._place;
  none : All (λ c. c.count ≡ 0) l.classes.items;
}
