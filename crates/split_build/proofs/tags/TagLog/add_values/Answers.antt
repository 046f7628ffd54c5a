use Rattle.std.proofs.Common.{◌∙◌, ◌++◌, List, ap}
use Rattle.std.specs.List.{flat_map}
use Rattle.doc_value.specs.declared.doc.Value.{Value}
use Rattle.split_bundle.specs.Tagged.{value_term}
use Rattle.split_build.specs.HeldTags.{HasTerms}
use Rattle.split_build.proofs.OnWay.{go_on}
use Rattle.split_build.proofs.tags.TagLog.add_values.Goals as goal

pub loop-value-preserved : goal.loop-value-preserved
loop-value-preserved c = record {
  number = c.in_ok-add_value.ensures.number ∙ c.loop-value.invariant.number;
  terms = λ terms h.
      go_on (HasTerms c.loop-value.self.terms.items) (HasTerms c.add_value.new.self.terms.items) (flat_map value_term c.loop-value.rest.now) (value_term c.in-Some.value.now) (flat_map value_term c.in-Some.behind.now) (terms ++ flat_map value_term c.args.values.now)
      (ap (λ (vs : List Value). flat_map value_term vs) c.in-Some.ensures.cases.0) c.in_ok-add_value.ensures.terms (c.loop-value.invariant.terms terms h);
}
