use Rattle.std.proofs.Common.{ap}
use Rattle.serde_json.specs.View.{view, items_view}
use Rattle.doc_mapping.proofs.Fitting.{texts_step}
use Rattle.doc_mapping.proofs.misfit.fitting_texts.Goals as goal

pub loop-item-preserved : goal.loop-item-preserved
loop-item-preserved c =
    texts_step (items_view c.args.items.items) _ _ (view c.in-Some.item) c.loop-item.texts.items c.put_text.new.texts.items c.in-Ok-true.field-0
    (ap items_view c.in-Some.ensures.steps.0) c.loop-item.invariant.0 c.loop-item.invariant.1 c.in-Ok-true.ensures.texts c.in-Ok-true.field-0-test c.in-Ok-true.ensures.puts
