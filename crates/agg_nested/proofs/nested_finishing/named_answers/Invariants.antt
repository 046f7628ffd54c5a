use Rattle.std.proofs.Common.{◌≡◌, ◌≤◌, List, take}
use Rattle.doc_value.specs.declared.doc.DocField.{DocField}
use Rattle.agg_model.specs.Answers.{most_buckets}
use Rattle.agg_nested.specs.Answers.{flat_answers, inner_buckets}
use Rattle.agg_nested.specs.Partials.{AreStanding}
use Rattle.agg_nested.proofs.nested_finishing.named_answers.Given as goal

abbrev pub invariant-loop-i : goal.invariant-loop-i
invariant-loop-i l = (documents : List (List DocField)) → AreStanding l.nested l.parts documents → inner_buckets l.nested documents ≤ most_buckets → l.answers ≡ flat_answers (take l.i l.nested) documents
