use Rattle.std.proofs.Common.{◌∙◌, sym, ap, length, Ok}
use Rattle.query_reader.proofs.Each.{over_none, over_one, over_several}
use Rattle.query_reader.proofs.resolve.over_fields.Goals as goal

pub returns-then-count-eq0 : goal.returns-then-count-eq0
returns-then-count-eq0 c = over_none c.args.queries.items c.args.at (ap length (sym c.as_slice-list.ensures.value) ∙ c.if-count-eq0.true)

pub returns-then-count-eq1 : goal.returns-then-count-eq1
returns-then-count-eq1 c = over_one c.args.queries.items c.remove.result c.args.at (ap length (sym c.as_slice-list.ensures.value) ∙ c.if-count-eq1.true) c.remove.ensures.value

pub returns : goal.returns
returns c = over_several c.args.queries.items c.args.at (λ h. c.if-count-eq0.false (ap length c.as_slice-list.ensures.value ∙ h)) (λ h. c.if-count-eq1.false (ap length c.as_slice-list.ensures.value ∙ h))
    ∙ ap Ok (sym c.or_of.ensures)
