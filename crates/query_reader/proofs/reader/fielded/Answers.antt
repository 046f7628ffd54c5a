use Rattle.std.proofs.Common.{◌∙◌, refl, ◌<◌, ◌+◌, length, arith, sym}
use Rattle.query_reader.proofs.Steps.{goes, ends}
use Rattle.query_reader.proofs.Parts.{reads_from, behind_special}
use Rattle.query_reader.specs.Machine.{Behind, Fielded}
use Rattle.query_reader.specs.Reading.{quote_rest, behind_rest, spaced_rest, special_rest}
use Rattle.query_reader.specs.declared.kind.Kind.TheVariants.{Quote, Blank}
use Rattle.query_reader.proofs.reader.fielded.Goals as goal

pub returns-then-at-text-clause-read : goal.returns-then-at-text-clause-read
returns-then-at-text-clause-read c = λ f fs. ends c.args.text.now c.args.at (Behind c.args.field) f fs c.if-at-text.true

pub returns-in-Quote-clause-read : goal.returns-in-Quote-clause-read
returns-in-Quote-clause-read c =
    let l : c.args.at < length c.args.text.now = omega arith in
    reads_from c.args.text.now _ (quote_rest c.args.text.now (Fielded c.args.field) (c.args.at + 1)) (behind_rest c.args.text.now c.args.field c.args.at)
    (λ f fs. goes c.args.text.now c.args.at (Behind c.args.field) f fs Quote _ l (sym c.byte_kind.ensures ∙ c.in-Quote.is) refl) c.quoted.ensures.read

pub returns-in-Blank-clause-read : goal.returns-in-Blank-clause-read
returns-in-Blank-clause-read c =
    let l : c.args.at < length c.args.text.now = omega arith in
    reads_from c.args.text.now _ (spaced_rest c.args.text.now c.args.field (c.args.at + 1)) (behind_rest c.args.text.now c.args.field c.args.at)
    (λ f fs. goes c.args.text.now c.args.at (Behind c.args.field) f fs Blank _ l (sym c.byte_kind.ensures ∙ c.in-Blank.is) refl) c.spaced.ensures.read

pub returns-in_default : goal.returns-in_default
returns-in_default c =
    let l : c.args.at < length c.args.text.now = omega arith in record {
      end = c.special.ensures.end;
      read = reads_from c.args.text.now _ (special_rest c.args.text.now c.args.field c.args.at) (behind_rest c.args.text.now c.args.field c.args.at)
          (λ f fs. behind_special c.args.text.now c.args.at c.args.field f fs c.byte_kind.result l (sym c.byte_kind.ensures) c.in_default.not-Quote c.in_default.not-Blank c.in_default.not-Plain c.in_default.not-Escape) c.special.ensures.read;
    }
