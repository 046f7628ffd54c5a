use Rattle.std.proofs.Common.{◌∙◌, refl, ◌<◌, ◌+◌, length, arith, sym, ap, false}
use Rattle.query_reader.proofs.Steps.{goes, ends}
use Rattle.query_reader.proofs.Specials.{set_stuck}
use Rattle.query_reader.specs.Machine.{InSet, InQuote, InASet}
use Rattle.query_reader.specs.Reading.{set_rest}
use Rattle.query_reader.specs.declared.kind.Kind.TheVariants.{Quote, SquareClose}
use Rattle.query_reader.proofs.reader.set.Goals as goal

pub returns-then-place-text-clause-read : goal.returns-then-place-text-clause-read
returns-then-place-text-clause-read c = λ f fs. c.members.invariant.reads f fs ∙ c.skip_blanks-place.ensures.stays (InSet c.args.field c.args.from c.members.members.items) f fs (λ at b. refl)
    ∙ ends c.args.text.now c.skip_blanks-place.result (InSet c.args.field c.args.from c.members.members.items) f fs c.if-place-text.true

pub returns-in-SquareClose-clause-read : goal.returns-in-SquareClose-clause-read
returns-in-SquareClose-clause-read c = λ f fs.
    let l : c.skip_blanks-place.result < length c.args.text.now = omega arith in
    c.members.invariant.reads f fs ∙ c.skip_blanks-place.ensures.stays (InSet c.args.field c.args.from c.members.members.items) f fs (λ at b. refl)
    ∙ goes c.args.text.now c.skip_blanks-place.result (InSet c.args.field c.args.from c.members.members.items) f fs SquareClose _ l (sym c.byte_kind.ensures ∙ c.in-SquareClose.is) refl

pub returns-in-Err-clause-read : goal.returns-in-Err-clause-read
returns-in-Err-clause-read c = λ f fs.
    let l : c.skip_blanks-place.result < length c.args.text.now = omega arith in
    c.members.invariant.reads f fs ∙ c.skip_blanks-place.ensures.stays (InSet c.args.field c.args.from c.members.members.items) f fs (λ at b. refl)
    ∙ goes c.args.text.now c.skip_blanks-place.result (InSet c.args.field c.args.from c.members.members.items) f fs Quote _ l (sym c.byte_kind.ensures ∙ c.in-Quote.is) refl
    ∙ c.in-Err.ensures (InASet c.args.field c.args.from c.members.members.items) f fs

pub members-preserved-in-Ok : goal.members-preserved-in-Ok
members-preserved-in-Ok c =
    let l : c.skip_blanks-place.result < length c.args.text.now = omega arith in record {
      behind = omega (arith, c.in-Ok.ensures.0);
      within = omega (arith, c.in-Ok.ensures.1);
      reads = λ f fs. c.members.invariant.reads f fs ∙ c.skip_blanks-place.ensures.stays (InSet c.args.field c.args.from c.members.members.items) f fs (λ at b. refl)
          ∙ goes c.args.text.now c.skip_blanks-place.result (InSet c.args.field c.args.from c.members.members.items) f fs Quote _ l (sym c.byte_kind.ensures ∙ c.in-Quote.is) refl
          ∙ c.in-Ok.ensures.3 (InASet c.args.field c.args.from c.members.members.items) f fs
          ∙ goes c.args.text.now c.in-Ok.to (InQuote (InASet c.args.field c.args.from c.members.members.items) (c.skip_blanks-place.result + 1) false) f fs Quote _ c.in-Ok.ensures.1 c.in-Ok.ensures.2 refl
          ∙ ap (λ ms. set_rest c.args.text.now c.args.field c.args.from ms (c.in-Ok.to + 1) f fs) (sym c.in_ok-push-in-Ok.ensures.items);
    }

pub returns-in_default : goal.returns-in_default
returns-in_default c =
    let l : c.skip_blanks-place.result < length c.args.text.now = omega arith in record {
      end = tt;
      read = λ f fs. c.members.invariant.reads f fs ∙ c.skip_blanks-place.ensures.stays (InSet c.args.field c.args.from c.members.members.items) f fs (λ at b. refl)
          ∙ set_stuck c.args.text.now c.skip_blanks-place.result c.byte_kind.result c.args.field c.args.from c.members.members.items f fs (sym c.byte_kind.ensures)
          (λ h. c.skip_blanks-place.ensures.stop l (sym c.byte_kind.ensures ∙ h)) c.in_default.not-SquareClose c.in_default.not-Quote c.in_default.not-Plain c.in_default.not-Angle c.in_default.not-Escape;
    }
