use Rattle.std.proofs.Common.{◌∙◌, ap}
use Rattle.doc_value.specs.declared.doc.Value.TheVariants as values
use Rattle.agg_model.specs.Listed.{text_slot}
use Rattle.agg_model.proofs.Listing.{listed_more}
use Rattle.agg_model.proofs.ranking.push_texts.Goals as goal

pub loop-text-preserved : goal.loop-text-preserved
loop-text-preserved c =
    listed_more text_slot c.loop-text.all.items c.push.new.self.items _ c.in-Some.text.now c.in-Some.tally.now (values.Text c.in_ok-text.text) c.next.new.self c.in_ok-push.ensures.items
    (ap (λ t. values.Text t) (c.in_ok-text.ensures ∙ c.as_str.ensures.value)) (rw c.in-Some.ensures.steps at c.loop-text.invariant)
