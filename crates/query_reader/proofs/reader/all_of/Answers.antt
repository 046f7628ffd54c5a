use Rattle.std.proofs.Common.{◌∙◌, sym, ap, length}
use Rattle.query_reader.proofs.Rows.{and_several, and_only}
use Rattle.query_reader.proofs.reader.all_of.Goals as goal

pub returns-then-count-eq1 : goal.returns-then-count-eq1
returns-then-count-eq1 c = and_only c.args.parts.items c.remove.result (ap length (sym c.as_slice-list.ensures.value) ∙ c.if-count-eq1.true) c.remove.ensures.value

pub returns-else-count-eq1 : goal.returns-else-count-eq1
returns-else-count-eq1 c = c.and_of.ensures ∙ and_several c.args.parts.items (λ h. c.if-count-eq1.false (ap length c.as_slice-list.ensures.value ∙ h))
