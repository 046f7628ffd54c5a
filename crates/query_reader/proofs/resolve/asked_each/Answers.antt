use Rattle.std.proofs.Common.{◌∙◌, sym, ap, drop, ◌+◌}
use Rattle.std.proofs.Math.ListN.{drop_of_length-le}
use Rattle.query_reader.proofs.Each.{view_more, asked_step}
use Rattle.query_reader.specs.Resolve.{and_then, asked_after}
use Rattle.query_reader.specs.Tree.{view_ask}
use Rattle.query_ast.specs.Sought.{view_all}
use Rattle.query_reader.proofs.resolve.asked_each.Goals as goal

pub loop-number-preserved : goal.loop-number-preserved
loop-number-preserved c =
    ap (λ v. asked_after c.args.fields.now c.args.text.now v (view_ask c.args.ask.now) (drop (c.loop-number.number-index + 1) c.args.numbers.now))
    (ap view_all c.in_ok-push.ensures.items ∙ view_more c.loop-number.queries.items c.in_ok-query.query ∙ ap (and_then (view_all c.loop-number.queries.items)) c.in_ok-query.ensures)
    ∙ sym (asked_step c.args.fields.now c.args.text.now (view_all c.loop-number.queries.items) (view_ask c.args.ask.now) c.args.numbers.now c.loop-number.number-index c.loop-number-test.true)
    ∙ c.loop-number.invariant

pub returns : goal.returns
returns c =
    ap (asked_after c.args.fields.now c.args.text.now (view_all c.loop-number.queries.items) (view_ask c.args.ask.now)) (sym (drop_of_length-le c.args.numbers.now c.loop-number-test.false))
    ∙ c.loop-number.invariant
