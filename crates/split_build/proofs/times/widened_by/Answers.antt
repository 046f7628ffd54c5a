use Rattle.std.proofs.Common.{ℤ, List, ap, ◌++◌}
use Rattle.std.specs.List.{flat_map}
use Rattle.std.proofs.lemmas.List.{nil_from_length}
use Rattle.doc_value.specs.declared.doc.Value.{Value}
use Rattle.split_build.specs.Times.{AreTimes}
use Rattle.split_bundle.specs.Tagged.{second_of}
use Rattle.split_build.proofs.OnWay.{go_on, arrive}
use Rattle.split_build.proofs.times.widened_by.Goals as goal

pub loop-value-preserved : goal.loop-value-preserved
loop-value-preserved c = λ seconds h.
    go_on (λ (zs : List ℤ). AreTimes zs c.loop-value.times) (λ (zs : List ℤ). AreTimes zs c.widened_with-times.result) (flat_map second_of c.loop-value.rest.now) (second_of c.in-Some.value.now) (flat_map second_of c.in-Some.behind.now) (seconds ++ flat_map second_of c.args.values.now)
    (ap (λ (vs : List Value). flat_map second_of vs) c.in-Some.ensures.cases.0) c.widened_with-times.ensures (c.loop-value.invariant seconds h)

pub returns : goal.returns
returns c = λ seconds h.
    arrive (λ (zs : List ℤ). AreTimes zs c.loop-value.times) (flat_map second_of c.loop-value.rest.now) (seconds ++ flat_map second_of c.args.values.now)
    (ap (λ (vs : List Value). flat_map second_of vs) (nil_from_length c.loop-value.rest.now c.in_default.ensures.cases)) (c.loop-value.invariant seconds h)
