use Rattle.std.proofs.Common.{◌≡◌, ◌≤◌, ◌+◌, ◌++◌, length, sym, ap, ◌∙◌, subst, arith}
use Rattle.input_lines.specs.Held.{held}
use Rattle.input_lines.specs.Reading.{max_line}
use Rattle.input_lines.proofs.Feeding.{Reached, filled, more_place, whole_place, reached, ended, ended_not_fed, ended_no_fault}
use Rattle.input_lines.proofs.lines.Lines.next.Goals as goal

pub pieces-preserved : goal.pieces-preserved
pieces-preserved g c =
    let line = c.in-Ok-true.ensures.line in
    let taken : c.fill.new.self.taken ≡ c.args.self.now.taken + length c.fill.new.self.line.items =
    c.in-Ok-true.ensures.taken ∙ c.pieces.invariant.place ∙ ap (λ v. c.args.self.now.taken + length v.items) (sym line) in
    let short : length c.fill.new.self.line.items ≤ max_line = subst (λ v. length v.items ≤ max_line) (sym line) c.pieces.invariant.short in
    let takes = c.in_ok-take.ensures.takes in
    let more = more_place c.in_ok-take.field-0 c.args.self.now.taken c.fill.new.self.taken takes.0 (held c.fill.new.self) c.fill.new.self.line.items c.take.new.self.line.items c.in-More.is taken (takes.3 short) in
    record {
      reaches = λ more told.
          let r = c.pieces.invariant.reaches more told in
          let f = c.in-Ok-true.ensures.reads r.0 r.1 in
          let u = filled _ _ _ _ _ _ _ _ (ap (λ v. v.items) c.in-Ok-true.ensures.line) c.in-Ok-true.ensures.taken f.2.0 r.2 in (
            f.0,
            f.1,
            subst (λ v. Reached v c.args.self.now.taken (held c.args.self.now ++ more) c.take.new.self.line.items c.take.new.self.taken (held c.take.new.self ++ f.0)) c.in-More.is
                (reached c.args.self.now.taken (held c.args.self.now ++ more) f.0 c.fill.new.self c.take.new.self u c.in_ok-take.field-0
                c.in_ok-take.ensures.kept c.in_ok-take.ensures.takes c.fill.new.self.limit c.take.new.self.limit c.take.new.self.order),
          );
      counted = omega (arith, c.pieces.invariant.counted, c.in-Ok-true.ensures.cause.later);
      ahead = omega (arith, c.pieces.invariant.ahead, c.in-Ok-true.ensures.taken, c.in_ok-take.ensures.takes.2);
      place = takes.2 ∙ more.0;
      short = more.1;
    }

pub returns-in-Whole-clause-comes : goal.returns-in-Whole-clause-comes
returns-in-Whole-clause-comes g c more told =
    let r = c.pieces.invariant.reaches more told in
    let f = c.in-Ok-true.ensures.reads r.0 r.1 in
    let u = filled _ _ _ _ _ _ _ _ (ap (λ v. v.items) c.in-Ok-true.ensures.line) c.in-Ok-true.ensures.taken f.2.0 r.2 in (
      f.0,
      f.1,
      subst (λ v. Reached v c.args.self.now.taken (held c.args.self.now ++ more) c.take.new.self.line.items c.take.new.self.taken (held c.take.new.self ++ f.0)) c.in-Whole.is
          (reached c.args.self.now.taken (held c.args.self.now ++ more) f.0 c.fill.new.self c.take.new.self u c.in_ok-take.field-0
          c.in_ok-take.ensures.kept c.in_ok-take.ensures.takes c.fill.new.self.limit c.take.new.self.limit c.take.new.self.order),
    )

pub returns-in-LineOver-clause-comes : goal.returns-in-LineOver-clause-comes
returns-in-LineOver-clause-comes g c more told =
    let r = c.pieces.invariant.reaches more told in
    let f = c.in-Ok-true.ensures.reads r.0 r.1 in
    let u = filled _ _ _ _ _ _ _ _ (ap (λ v. v.items) c.in-Ok-true.ensures.line) c.in-Ok-true.ensures.taken f.2.0 r.2 in (
      f.0,
      f.1,
      subst (λ v. Reached v c.args.self.now.taken (held c.args.self.now ++ more) c.take.new.self.line.items c.take.new.self.taken (held c.take.new.self ++ f.0)) c.in-LineOver.is
          (reached c.args.self.now.taken (held c.args.self.now ++ more) f.0 c.fill.new.self c.take.new.self u c.in_ok-take.field-0
          c.in_ok-take.ensures.kept c.in_ok-take.ensures.takes c.fill.new.self.limit c.take.new.self.limit c.take.new.self.order),
    )

pub returns-in-InputOver-clause-comes : goal.returns-in-InputOver-clause-comes
returns-in-InputOver-clause-comes g c more told =
    let r = c.pieces.invariant.reaches more told in
    let f = c.in-Ok-true.ensures.reads r.0 r.1 in
    let u = filled _ _ _ _ _ _ _ _ (ap (λ v. v.items) c.in-Ok-true.ensures.line) c.in-Ok-true.ensures.taken f.2.0 r.2 in (
      f.0,
      f.1,
      subst (λ v. Reached v c.args.self.now.taken (held c.args.self.now ++ more) c.take.new.self.line.items c.take.new.self.taken (held c.take.new.self ++ f.0)) c.in-InputOver.is
          (reached c.args.self.now.taken (held c.args.self.now ++ more) f.0 c.fill.new.self c.take.new.self u c.in_ok-take.field-0
          c.in_ok-take.ensures.kept c.in_ok-take.ensures.takes c.fill.new.self.limit c.take.new.self.limit c.take.new.self.order),
    )

pub returns-in-Ok-false-clause-comes : goal.returns-in-Ok-false-clause-comes
returns-in-Ok-false-clause-comes g c more told =
    let r = c.pieces.invariant.reaches more told in
    let f = c.in-Ok-false.ensures.reads r.0 r.1 in
    let u = filled _ _ _ _ _ _ _ _ (ap (λ v. v.items) c.in-Ok-false.ensures.line) c.in-Ok-false.ensures.taken f.2.0 r.2 in (
      f.0,
      f.1,
      ended c.last.result c.args.self.now.taken (held c.args.self.now ++ more) c.fill.new.self.line.items c.fill.new.self.taken (held c.fill.new.self ++ f.0)
          (f.2.1 c.in-Ok-false.field-0-test) c.last.ensures u c.fill.new.self.limit,
    )

pub returns-in-Err-clause-comes : goal.returns-in-Err-clause-comes
returns-in-Err-clause-comes g c more told =
    let r = c.pieces.invariant.reaches more told in
    let f = c.in-Err.ensures.failed in
    let u = filled _ _ _ _ _ _ _ _ (ap (λ v. v.items) c.in-Err.ensures.line) c.in-Err.ensures.taken (ap (λ h. h ++ r.0) (f.0 ∙ sym f.1)) r.2 in
    (r.0, c.in-Err.ensures.stays r.0 r.1, (u.is, u.unbroken))

pub returns-in-Err-clause-none : goal.returns-in-Err-clause-none
returns-in-Err-clause-none g c fault = c.in-Err.ensures.failed.1

pub returns-in-Ok-false-clause-none : goal.returns-in-Ok-false-clause-none
returns-in-Ok-false-clause-none g c fault = absurd (ended_no_fault c.last.result c.args.self.now.taken c.fill.new.self.taken c.last.ensures fault)

pub returns-in-Ok-false-clause-cause : goal.returns-in-Ok-false-clause-cause
returns-in-Ok-false-clause-cause g c = record {
  later = omega (arith, c.pieces.invariant.counted, c.in-Ok-false.ensures.cause.later);
  failed = λ f. absurd (ended_no_fault c.last.result c.args.self.now.taken c.fill.new.self.taken c.last.ensures f);
}

pub returns-in-Whole-clause-fed : goal.returns-in-Whole-clause-fed
returns-in-Whole-clause-fed g c fed =
    let line = c.in-Ok-true.ensures.line in
    let taken : c.fill.new.self.taken ≡ c.args.self.now.taken + length c.fill.new.self.line.items =
    c.in-Ok-true.ensures.taken ∙ c.pieces.invariant.place ∙ ap (λ v. c.args.self.now.taken + length v.items) (sym line) in
    let short : length c.fill.new.self.line.items ≤ max_line = subst (λ v. length v.items ≤ max_line) (sym line) c.pieces.invariant.short in
    let takes = c.in_ok-take.ensures.takes in
    takes.2 ∙ whole_place c.in_ok-take.field-0 c.args.self.now.taken c.fill.new.self.taken takes.0 (held c.fill.new.self) c.fill.new.self.line.items c.take.new.self.line.items c.in-Whole.is taken (takes.3 short)

pub returns-in-Ok-false-clause-fed : goal.returns-in-Ok-false-clause-fed
returns-in-Ok-false-clause-fed g c fed = absurd (ended_not_fed c.last.result c.args.self.now.taken c.fill.new.self.taken c.last.ensures fed)
