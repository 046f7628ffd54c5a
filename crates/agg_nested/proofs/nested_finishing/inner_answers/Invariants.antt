use Rattle.std.proofs.Common.{◌≡◌, ◌≤◌, List, map, take}
use Rattle.std.specs.List.{sum_by}
use Rattle.doc_value.specs.declared.doc.DocField.{DocField}
use Rattle.agg_model.specs.Answers.{most_buckets}
use Rattle.agg_nested.specs.Answers.{flat_answers, inner_buckets}
use Rattle.agg_nested.specs.Buckets.{GroupsStand}
use Rattle.agg_nested.specs.Spots.{Spot, documents_at, spots_in}
use Rattle.agg_nested.proofs.nested_finishing.inner_answers.Given as goal

abbrev pub invariant-loop-i : goal.invariant-loop-i
invariant-loop-i l =
    (documents : List (List DocField)) → GroupsStand l.asked.agg l.asked.nested l.part.groups documents
    → sum_by (λ (spot : Spot). inner_buckets l.asked.nested (documents_at l.asked.agg documents spot)) (spots_in l.answer) ≤ most_buckets
    → l.inner ≡ map (λ (spot : Spot). flat_answers l.asked.nested (documents_at l.asked.agg documents spot)) (take l.i (spots_in l.answer))
