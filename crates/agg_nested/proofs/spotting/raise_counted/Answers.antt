use Rattle.std.proofs.Common.{◌∙◌, sym, ap}
use Rattle.std.specs.List.{list_any}
use Rattle.agg_model.specs.Counting.{first_whole}
use Rattle.doc_value.specs.Documents.{values_in}
use Rattle.agg_nested.specs.Buckets.{group_at}
use Rattle.agg_nested.specs.Spots.{Spot, same_spot}
use Rattle.agg_nested.proofs.Joining.{ok_then}
use Rattle.agg_nested.proofs.Raised.{raised_as, any_flip}
use Rattle.agg_nested.proofs.Spotted.{any_value, steps_begun}
use Rattle.agg_nested.proofs.spotting.raise_counted.Goals as goal

pub returns-in-Terms : goal.returns-in-Terms
returns-in-Terms c =
    rw c.in-Terms.is (ok_then c.raise_values.result
    (raised_as _ _ c.args.nested.now c.args.doc.now c.args.number (group_at c.args.groups.now) (group_at c.raise_values.new.groups)
    (λ spot. any_flip _ spot ∙ sym (any_value (values_in c.args.doc.now c.in-Terms.field) spot)))
    (rw c.values_of.ensures at c.raise_values.ensures))

pub returns-in-Histogram : goal.returns-in-Histogram
returns-in-Histogram c =
    rw c.in-Histogram.is (ok_then c.raise_begin.result
    (raised_as _ _ c.args.nested.now c.args.doc.now c.args.number (group_at c.args.groups.now) (group_at c.raise_begin.new.groups)
    (λ spot. any_flip _ spot ∙ ap (list_any (λ (s : Spot). same_spot s spot)) (steps_begun c.in-Histogram.interval c.in-Histogram.offset (first_whole c.in-Histogram.field c.args.doc.now))))
    (rw c.first_begin-begin.ensures at c.raise_begin.ensures))
