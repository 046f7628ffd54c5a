use Rattle.std.proofs.Common.{rules, arith}
use Rattle.std.proofs.lemmas.Int.{to_z-of_z}
use Rattle.std.proofs.lemmas.Option.{IfSome_then}
use Rattle.std.specs.Int.RustNames.{FitsSigned}
use Rattle.agg_model.specs.Partials.{in_step}
use Rattle.agg_model.proofs.Parts.{has_room}
use Rattle.agg_model.proofs.Steps.{step_counts, step_part}
use Rattle.agg_model.proofs.Values.{terms_collected}
use Rattle.agg_model.proofs.collecting.collect_part.Goals as goal
use mir.Syntax.{w128}

pub raise_all-requires : goal.raise_all-requires
raise_all-requires c = has_room c.args.documents c.args.agg.now c.args.counts.now (omega (arith, c.requires.few)) c.requires.part

pub raise_step-requires : goal.raise_step-requires
raise_step-requires c =
    let fits : FitsSigned w128 c.in-Some.step = search rules in
    rw (to_z-of_z w128 c.in-Some.step fits) (IfSome_then (in_step c.args.counts.now c.in-Some.step) (c.requires.part.steps c.in-Some.step) (λ n s. (let most = s.most in omega (arith, most, c.requires.few))))

pub returns-in_ok-raise_step-in-Histogram : goal.returns-in_ok-raise_step-in-Histogram
returns-in_ok-raise_step-in-Histogram c =
    let fs : FitsSigned w128 c.in-Some.step = search rules in
    let first = c.in-Some.ensures.value in
    let near = c.in-Some.ensures.near in
    let raised = rw (to_z-of_z w128 c.in-Some.step fs) at c.in_ok-raise_step-in-Histogram.ensures in
    record {
      part = step_part c.args.documents c.args.agg.now c.in-Some.step c.args.counts.now c.raise_step.new.self (rw c.in-Histogram.is near) raised c.requires.part;
      counts = rw c.in-Histogram.is (λ ds h. step_counts c.in-Histogram.field c.in-Histogram.interval c.in-Histogram.offset c.in-Histogram.min_doc_count c.in-Histogram.dated
          c.in-Some.step c.args.counts.now c.raise_step.new.self ds c.args.doc.now first raised h);
    }

pub returns-in_ok-raise_all-in-Terms : goal.returns-in_ok-raise_all-in-Terms
returns-in_ok-raise_all-in-Terms c =
    rw c.in-Terms.is (terms_collected c.args.documents c.in-Terms.field c.in-Terms.size c.args.doc.now c.args.counts.now c.raise_all.new.self
    (rw c.values_of.ensures at c.in_ok-raise_all-in-Terms.ensures) (rw c.in-Terms.is at c.requires.part))
