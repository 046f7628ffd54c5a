use Rattle.std.proofs.lemmas.Result.{IfOk-weaker}
use Rattle.agg_model.specs.Answers.{IsCut}
use Rattle.agg_model.proofs.Listing.{listed_counted}
use Rattle.agg_model.proofs.finishing.answer.Goals as goal

pub returns-in_ok-ranked-in-Terms : goal.returns-in_ok-ranked-in-Terms
returns-in_ok-ranked-in-Terms c =
    let ranked = c.in_ok-ranked-in-Terms.field-0 in
    rw c.in-Terms.is (IfOk-weaker c.cut.result (IsCut c.in-Terms.size ranked.items) _
    (λ r cut ds stands. record {
      all = ranked.items;
      counted = listed_counted c.requires.part.0 c.in-Terms.field c.in-Terms.size c.args.counts.now ds ranked.items c.in_ok-ranked-in-Terms.ensures.unique c.requires.part.1.tallies stands c.in_ok-ranked-in-Terms.ensures.listed;
      order = c.in_ok-ranked-in-Terms.ensures.order;
      cut = cut;
    }) c.cut.ensures)
