use Rattle.std.proofs.Common.{◌≡◌, List, take}
use Rattle.std.specs.List.{sum_by}
use Rattle.doc_value.specs.declared.doc.DocField.{DocField}
use Rattle.agg_nested.specs.Answers.{flat_buckets, told}
use Rattle.agg_nested.specs.Partials.{AreStanding}
use Rattle.agg_nested.specs.declared.request.NamedFlat.{NamedFlat}
use Rattle.agg_nested.proofs.totals.count_flats.Given as goal

abbrev pub invariant-loop-i : goal.invariant-loop-i
invariant-loop-i l =
    (documents : List (List DocField)) → AreStanding l.nested l.parts documents → l.many ≡ told (sum_by (λ (named : NamedFlat). flat_buckets documents named.agg) (take l.i l.nested))
