use Rattle.std.proofs.Common.{◌∙◌}
use Rattle.root_search.specs.Steps.{luck_of}
use Rattle.root_search.proofs.Steps.{step_alone}
use Rattle.node_run.proofs.Searches.{tells_search}
use Rattle.node_run.proofs.drive.step_searcher.Goals as goal

pub returns-clause-step : goal.returns-clause-step
returns-clause-step g c client core log is_log stands searcher =
    let s = c.step.ensures.step client core log is_log stands searcher in
    record {
      luck = luck_of s.passage s.more s.short;
      outcome = s.outcome;
      later = s.later;
      after = s.after;
      did = step_alone s.passage s.more s.short log client core s.passed ∙ s.did;
      says = s.says;
      searcher = s.searcher;
      world_stands = s.gate_stands;
      goes_on = s.goes_on.alone (λ before behind same. same);
    }

pub returns-clause-tells : goal.returns-clause-tells
returns-clause-tells g c = tells_search c.args.searcher.now c.step.new.self c.step.result c.args.gate.now c.step.new.gate c.step.ensures.plans c.step.ensures.reads c.step.ensures.answers c.step.ensures.leaves
