use Rattle.std.proofs.Common.{◌++◌, ◌∙◌, ap, arith}
use Rattle.std.proofs.lemmas.List.{take_all}
use Rattle.split_states.proofs.rows.copy_spans.Goals as goal

pub returns : goal.returns
returns c = c.loop-span.invariant ∙ ap (λ l. c.args.into.now.items ++ l) (take_all c.loop-span.span-index c.args.spans.now (omega arith))
