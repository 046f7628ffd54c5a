use Rattle.std.proofs.Common.{refl, sym, ◌∙◌, inl, inr, arith, rules}
use Rattle.node_run.specs.Seen.{seen}
use Rattle.quick_node.proofs.running.take_line.Goals as goal

pub answer_line-ended-requires-after_bounds : goal.answer_line-ended-requires-after_bounds
answer_line-ended-requires-after_bounds g c = search rules

pub returns-in-BadLine-clause-counted : goal.returns-in-BadLine-clause-counted
returns-in-BadLine-clause-counted g c = omega arith

pub returns-in-BadLine-clause-takes : goal.returns-in-BadLine-clause-takes
returns-in-BadLine-clause-takes g c firsts mid held stands told =
    (refl, stands, told, inr (seen c.in-Ok.line, c.in-Ok.ensures, sym (c.accepts.ensures.exact firsts mid stands) ∙ c.in-BadLine.is))

pub returns-in-TooManyClients-clause-counted : goal.returns-in-TooManyClients-clause-counted
returns-in-TooManyClients-clause-counted g c = omega arith

pub returns-in-TooManyClients-clause-takes : goal.returns-in-TooManyClients-clause-takes
returns-in-TooManyClients-clause-takes g c firsts mid held stands told =
    (stands, told, (seen c.in-Ok.line, c.in-Ok.ensures, sym (c.accepts.ensures.exact firsts mid stands) ∙ c.in-TooManyClients.is))

pub returns-in-Err-BadLine-clause-counted : goal.returns-in-Err-BadLine-clause-counted
returns-in-Err-BadLine-clause-counted g c = omega arith

pub returns-in-Err-BadLine-clause-takes : goal.returns-in-Err-BadLine-clause-takes
returns-in-Err-BadLine-clause-takes g c firsts mid held stands told =
    (refl, stands, told, inl (rw c.in-Err-BadLine.field-0-is at c.in-Err-BadLine.ensures))

pub returns-in-Err-Memory-clause-counted : goal.returns-in-Err-Memory-clause-counted
returns-in-Err-Memory-clause-counted g c = omega arith

pub returns-in-Err-Memory-clause-takes : goal.returns-in-Err-Memory-clause-takes
returns-in-Err-Memory-clause-takes g c firsts mid held stands told = (told, inl stands)

pub returns-in-Yes-clause-counted : goal.returns-in-Yes-clause-counted
returns-in-Yes-clause-counted g c = c.answer_line-ended.ensures.counted

pub returns-in-Yes-clause-takes : goal.returns-in-Yes-clause-takes
returns-in-Yes-clause-takes g c firsts mid held stands told =
    c.answer_line-ended.ensures.takes firsts mid c.args.text.now c.args.number held stands c.in-Ok.ensures (sym (c.accepts.ensures.exact firsts mid stands) ∙ c.in-Yes.is) told

pub returns-in-BadLine-clause-causes : goal.returns-in-BadLine-clause-causes
returns-in-BadLine-clause-causes g c = tt

pub returns-in-TooManyClients-clause-causes : goal.returns-in-TooManyClients-clause-causes
returns-in-TooManyClients-clause-causes g c = tt

pub returns-in-Err-BadLine-clause-causes : goal.returns-in-Err-BadLine-clause-causes
returns-in-Err-BadLine-clause-causes g c = tt

pub returns-in-Err-Memory-clause-causes : goal.returns-in-Err-Memory-clause-causes
returns-in-Err-Memory-clause-causes g c = tt

pub returns-in-Yes-clause-causes : goal.returns-in-Yes-clause-causes
returns-in-Yes-clause-causes g c = c.answer_line-ended.ensures.causes
