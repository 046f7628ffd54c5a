use Rattle.std.proofs.Common.{◌≡◌, ◌∙◌, false, arith, rules, sym}
use Rattle.term_dict.specs.Keys.{is_below}
use Rattle.term_dict.proofs.Scans.{run_start, run_end, run_step, run_stop, run_reads}
use Rattle.term_dict.proofs.Walking.{none_passed, one_passed, ends_there, ends_at, ends_by, raised, said_end, said_term, said_fault}
use Rattle.term_dict.specs.Readers.{term_of}
use Rattle.term_dict.proofs.block.scan.Goals as goal

pub loop-at-init : goal.loop-at-init
loop-at-init c = (c.requires, λ terms are e. run_start c.args.bytes.now c.args.from c.args.key.now terms are e, none_passed c.args.bytes.now c.args.from c.args.key.now)

pub returns-in_err-entry-clause-only : goal.returns-in_err-entry-clause-only
returns-in_err-entry-clause-only c terms are e =
    absurd (run_reads c.args.bytes.now c.loop-at.at c.args.key.now terms (c.loop-at.invariant.1 terms are e) (omega arith) c.in_err-entry.ensures.only)

pub returns-in_err-entry-clause-exact : goal.returns-in_err-entry-clause-exact
returns-in_err-entry-clause-exact c = record {
  at = c.loop-at.at;
  passes = c.loop-at.invariant.2;
  ends = ends_by c.args.bytes.now c.loop-at.at c.args.key.now c.in_err-entry.field-0.0 c.in_err-entry.ensures.exact;
  answers = raised c.from_residual.result c.in_err-entry.field-0.0 c.from_residual.ensures.1
      ∙ sym (said_fault c.args.bytes.now c.loop-at.at c.loop-at.at (λ t. c.loop-at.at) c.in_err-entry.field-0.0 (omega arith) c.in_err-entry.ensures.exact);
}

pub loop-at-preserved : goal.loop-at-preserved
loop-at-preserved c = (
  c.in_ok-entry.ensures.forward.1,
  λ terms are e. run_step c.args.bytes.now c.loop-at.at c.in_ok-entry.next c.args.key.now terms c.in_ok-entry.entry (c.loop-at.invariant.1 terms are e) (omega arith) c.in_ok-entry.ensures.only (search rules),
  one_passed c.args.bytes.now c.args.from c.args.key.now c.loop-at.at c.in_ok-entry.next (term_of c.in_ok-entry.entry) c.loop-at.invariant.2 c.in_ok-entry.ensures.exact (search rules),
)

pub returns-after-loop-at-clause-only : goal.returns-after-loop-at-clause-only
returns-after-loop-at-clause-only c terms are e = run_end c.args.bytes.now c.loop-at.at c.args.key.now terms (c.loop-at.invariant.1 terms are e) (omega arith)

pub returns-after-loop-at-clause-exact : goal.returns-after-loop-at-clause-exact
returns-after-loop-at-clause-exact c = record {
  at = c.loop-at.at;
  passes = c.loop-at.invariant.2;
  ends = ends_there c.args.bytes.now c.loop-at.at c.args.key.now (omega arith);
  answers = sym (said_end c.args.bytes.now c.loop-at.at c.loop-at.at (λ t. c.loop-at.at) (omega arith));
}

pub returns-then-not-is_below-clause-only : goal.returns-then-not-is_below-clause-only
returns-then-not-is_below-clause-only c terms are e =
    run_stop c.args.bytes.now c.loop-at.at c.in_ok-entry.next c.args.key.now terms c.in_ok-entry.entry (c.loop-at.invariant.1 terms are e) (omega arith) c.in_ok-entry.ensures.only (search rules)

pub returns-then-not-is_below-clause-exact : goal.returns-then-not-is_below-clause-exact
returns-then-not-is_below-clause-exact c =
    let above : is_below c.in_ok-entry.entry.key.now c.args.key.now ≡ false = search rules in
    record {
      at = c.loop-at.at;
      passes = c.loop-at.invariant.2;
      ends = ends_at c.args.bytes.now c.loop-at.at c.args.key.now (term_of c.in_ok-entry.entry) c.in_ok-entry.next c.in_ok-entry.ensures.exact above;
      answers = sym (said_term c.args.bytes.now c.loop-at.at c.loop-at.at (λ t. c.loop-at.at) (term_of c.in_ok-entry.entry, c.in_ok-entry.next) (omega arith) c.in_ok-entry.ensures.exact);
    }
