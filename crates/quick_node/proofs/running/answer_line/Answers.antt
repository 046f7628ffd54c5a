use Rattle.std.proofs.Common.{◌++◌, refl, sym, ap, ◌∙◌, inr, arith, rules}
use Rattle.std.proofs.lemmas.List.{append-nil}
use Rattle.std.specs.Prelude.{Some}
use Rattle.node_run.specs.Seen.{seen}
use Rattle.quick_node.proofs.Taking.{short_takes, did_line, said_line}
use Rattle.quick_node.proofs.RunSteps.{if_ok_err}
use Rattle.quick_node.proofs.running.answer_line.Goals as goal

pub step-requires-after_bounds : goal.step-requires-after_bounds
step-requires-after_bounds g c = search rules

pub returns-in_err-said-clause-counted : goal.returns-in_err-said-clause-counted
returns-in_err-said-clause-counted g c = omega arith

pub returns-in_err-said-clause-takes : goal.returns-in_err-said-clause-takes
returns-in_err-said-clause-takes g c firsts mid text number held stands spells taken told =
    let d = c.in_err-said.ensures.does firsts mid stands spells.formed in
    short_takes _ text number mid held (g.W.Sink.content c.args.output.now) (g.W.Sink.fault_count c.args.output.now) (g.W.Sink.fault_count c.args.output.now) _ c.from_residual.ensures.0 told
    (inr (d.outcome, did_line g.L.SourceLog.told g.L.SourceLog.fault_count g.L.SourceLog.since firsts mid (seen c.args.line.now) c.args.node.now c.step.new.self stands text spells taken _ d))

pub returns-in_err-push-clause-counted : goal.returns-in_err-push-clause-counted
returns-in_err-push-clause-counted g c = omega arith

pub returns-in_err-push-clause-takes : goal.returns-in_err-push-clause-takes
returns-in_err-push-clause-takes g c firsts mid text number held stands spells taken told =
    let d = c.in_ok-said.ensures.does firsts mid stands spells.formed in
    short_takes _ text number mid held (g.W.Sink.content c.args.output.now) (g.W.Sink.fault_count c.args.output.now) (g.W.Sink.fault_count c.args.output.now) _ c.from_residual-in_err-push.ensures.0 told
    (inr (d.outcome, did_line g.L.SourceLog.told g.L.SourceLog.fault_count g.L.SourceLog.since firsts mid (seen c.args.line.now) c.args.node.now c.step.new.self stands text spells taken _ d))

pub returns-in-Ok-clause-counted : goal.returns-in-Ok-clause-counted
returns-in-Ok-clause-counted g c = c.write_all.ensures.cause.later

pub returns-in-Ok-clause-takes : goal.returns-in-Ok-clause-takes
returns-in-Ok-clause-takes g c firsts mid text number held stands spells taken told =
    let s = said_line g.L.SourceLog.told g.L.SourceLog.fault_count g.L.SourceLog.since firsts mid (seen c.args.line.now) c.args.node.now c.step.new.self stands text spells taken c.in_ok-said.field-0
    (c.in_ok-said.ensures.does firsts mid stands spells.formed) in
    let w = c.in-Ok.ensures.writes held told in
    (s.0, s.1, w.2 ∙ ap (λ l. Some (held ++ l)) (sym (append-nil w.0) ∙ ap (λ r. w.0 ++ r) (sym w.4) ∙ sym w.3 ∙ c.as_slice.ensures ∙ c.in_ok-push.ensures.ok ∙ s.2))

pub returns-clause-counted : goal.returns-clause-counted
returns-clause-counted g c = c.write_all.ensures.cause.later

pub returns-clause-takes : goal.returns-clause-takes
returns-clause-takes g c firsts mid text number held stands spells taken told =
    let s = said_line g.L.SourceLog.told g.L.SourceLog.fault_count g.L.SourceLog.since firsts mid (seen c.args.line.now) c.args.node.now c.step.new.self stands text spells taken c.in_ok-said.field-0
    (c.in_ok-said.ensures.does firsts mid stands spells.formed) in
    let w = c.in-Err.ensures.writes held told in
    (s.0, s.1, (w.0, w.1, w.2, sym s.2 ∙ sym c.in_ok-push.ensures.ok ∙ sym c.as_slice.ensures ∙ w.3), c.in-Err.ensures.cause.failed refl)

pub returns-in_err-said-clause-causes : goal.returns-in_err-said-clause-causes
returns-in_err-said-clause-causes g c = if_ok_err c.from_residual.result _ c.from_residual.ensures.0

pub returns-in_err-push-clause-causes : goal.returns-in_err-push-clause-causes
returns-in_err-push-clause-causes g c = if_ok_err c.from_residual-in_err-push.result _ c.from_residual-in_err-push.ensures.0

pub returns-in-Ok-clause-causes : goal.returns-in-Ok-clause-causes
returns-in-Ok-clause-causes g c = tt

pub returns-clause-causes : goal.returns-clause-causes
returns-clause-causes g c = c.in-Err.ensures.cause.failed refl
