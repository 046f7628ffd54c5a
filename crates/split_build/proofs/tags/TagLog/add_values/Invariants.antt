use Rattle.std.proofs.Common.{◌≡◌, ℕ, List, length, ◌++◌}
use Rattle.std.specs.List.{flat_map}
use Rattle.split_bundle.specs.Tagged.{value_term}
use Rattle.split_build.specs.HeldTags.{HasTerms}
use Rattle.split_build.proofs.OnWay.{IsOnWay}
use Rattle.split_build.proofs.tags.TagLog.add_values.Given as goal

abbrev pub invariant-loop-value : goal.invariant-loop-value
invariant-loop-value l = record {
  number : l.self.number ≡ l.fn.self.number;
  terms : (terms : List (List ℕ)) → HasTerms l.fn.self.terms.items terms → IsOnWay (HasTerms l.self.terms.items) (flat_map value_term l.rest) (terms ++ flat_map value_term l.values);
}

abbrev pub decreases-loop-value : goal.decreases-loop-value
decreases-loop-value l = length l.rest
