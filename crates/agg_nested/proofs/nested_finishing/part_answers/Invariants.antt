use Rattle.std.proofs.Common.{◌≡◌, ◌≤◌, List, map, take}
use Rattle.std.specs.List.{AllZip}
use Rattle.doc_value.specs.declared.doc.DocField.{DocField}
use Rattle.agg_model.specs.Answers.{most_buckets}
use Rattle.agg_nested.specs.Answers.{all_buckets, nested_answer}
use Rattle.agg_nested.specs.Buckets.{PartStands}
use Rattle.agg_nested.specs.declared.nested_partial.NestedPart.{NestedPart}
use Rattle.agg_nested.specs.declared.request.NestedAgg.{NestedAgg}
use Rattle.agg_nested.proofs.nested_finishing.part_answers.Given as goal

abbrev pub invariant-loop-i : goal.invariant-loop-i
invariant-loop-i l =
    (documents : List (List DocField)) → AllZip (λ (a : NestedAgg) (p : NestedPart). PartStands a p documents) l.request l.parts.items → all_buckets l.request documents ≤ most_buckets
    → l.answers ≡ map (nested_answer documents) (take l.i l.request)
