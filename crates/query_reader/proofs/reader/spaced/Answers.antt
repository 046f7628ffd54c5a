use Rattle.std.proofs.Common.{◌∙◌, refl, ◌<◌, ◌+◌, length, arith}
use Rattle.query_reader.proofs.Steps.{ends}
use Rattle.query_reader.proofs.Parts.{reads_from, refuted, spaced_special}
use Rattle.query_reader.proofs.Specials.{letter_i, no_letter_i}
use Rattle.query_reader.specs.Machine.{Spaced}
use Rattle.query_reader.specs.Reading.{spaced_rest, special_rest, letter_rest}
use Rattle.query_reader.proofs.reader.spaced.Goals as goal

pub returns-then-at-text-clause-read : goal.returns-then-at-text-clause-read
returns-then-at-text-clause-read c = λ f fs. c.skip_blanks-at.ensures.stays (Spaced c.args.field) f fs (λ at b. refl) ∙ ends c.args.text.now c.skip_blanks-at.result (Spaced c.args.field) f fs c.if-at-text.true

pub returns-then-not-stands-clause-read : goal.returns-then-not-stands-clause-read
returns-then-not-stands-clause-read c =
    let l : c.skip_blanks-at.result < length c.args.text.now = omega arith in
    reads_from c.args.text.now _ (special_rest c.args.text.now c.args.field c.skip_blanks-at.result) (spaced_rest c.args.text.now c.args.field c.args.from)
    (λ f fs. c.skip_blanks-at.ensures.stays (Spaced c.args.field) f fs (λ at b. refl)
    ∙ spaced_special c.args.text.now c.skip_blanks-at.result c.args.field f fs l (c.skip_blanks-at.ensures.stop l) (refuted c.stands.ensures c.if-not-stands.true)) c.special.ensures.read

pub returns-then-text-at-eq73-clause-read : goal.returns-then-text-at-eq73-clause-read
returns-then-text-at-eq73-clause-read c =
    let l : c.skip_blanks-at.result < length c.args.text.now = omega arith in
    reads_from c.args.text.now _ (letter_rest c.args.text.now c.args.field c.skip_blanks-at.result (c.skip_blanks-at.result + 1)) (spaced_rest c.args.text.now c.args.field c.args.from)
    (λ f fs. c.skip_blanks-at.ensures.stays (Spaced c.args.field) f fs (λ at b. refl)
    ∙ letter_i c.args.text.now c.skip_blanks-at.result c.args.field f fs l (c.stands.ensures.0 c.if-not-stands.false) c.if-text-at-eq73.true) c.letter_n.ensures.read

pub returns-else-text-at-eq73-clause-read : goal.returns-else-text-at-eq73-clause-read
returns-else-text-at-eq73-clause-read c = λ f fs.
    let l : c.skip_blanks-at.result < length c.args.text.now = omega arith in
    c.skip_blanks-at.ensures.stays (Spaced c.args.field) f fs (λ at b. refl)
    ∙ no_letter_i c.args.text.now c.skip_blanks-at.result c.args.field f fs l (c.stands.ensures.0 c.if-not-stands.false) c.if-text-at-eq73.false
