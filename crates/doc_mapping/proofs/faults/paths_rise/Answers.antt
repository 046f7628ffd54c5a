use Rattle.std.proofs.Common.{◌-◌, arith, refl}
use Rattle.doc_mapping.proofs.Rising.{rise-last, rise-step, rise-whole, rise-broken}
use Rattle.doc_mapping.proofs.faults.paths_rise.Goals as goal

pub loop-left-init : goal.loop-left-init
loop-left-init c = (omega arith, rise-last c.args.fields.now c.len-left.result c.len-left.ensures)

pub loop-left-preserved : goal.loop-left-preserved
loop-left-preserved c = (
  omega arith,
  rise-step c.args.fields.now (c.loop-left.left - 1 - 1) (c.loop-left.left - 1) c.at.result.now c.at-in-loop-left.result.now
      c.as_slice-path.result.now c.as_slice.result.now (omega arith) c.at.ensures c.at-in-loop-left.ensures c.as_slice-path.ensures c.as_slice.ensures (cc) c.loop-left.invariant.1,
)

pub returns : goal.returns
returns c = record { rise = λ _. rise-whole c.args.fields.now c.loop-left.left (omega arith) c.loop-left.invariant.1; only = λ _. refl }

pub returns-then-not-is_before-clause-only : goal.returns-then-not-is_before-clause-only
returns-then-not-is_before-clause-only c = λ h.
    absurd (rise-broken c.args.fields.now (c.loop-left.left - 1 - 1) (c.loop-left.left - 1) c.at.result.now c.at-in-loop-left.result.now
    c.as_slice-path.result.now c.as_slice.result.now (omega arith) c.at.ensures c.at-in-loop-left.ensures c.as_slice-path.ensures c.as_slice.ensures (cc) h)
