use Rattle.std.proofs.Common.{◌∙◌, refl, [], ◌+◌}
use Rattle.query_reader.proofs.Steps.{goes}
use Rattle.query_reader.proofs.Parts.{reads_from, refuted}
use Rattle.query_reader.proofs.Specials.{in_stuck}
use Rattle.query_reader.specs.Machine.{BehindIn}
use Rattle.query_reader.specs.Reading.{in_rest, set_rest}
use Rattle.query_reader.specs.declared.kind.Kind.TheVariants.{SquareOpen}
use Rattle.query_reader.proofs.reader.behind_in.Goals as goal

pub returns-then-is_at-clause-read : goal.returns-then-is_at-clause-read
returns-then-is_at-clause-read c =
    let x = c.is_at.ensures.0 c.if-is_at.true in
    reads_from c.args.text.now _ (set_rest c.args.text.now c.args.field c.args.from [] (c.skip_blanks-place.result + 1)) (in_rest c.args.text.now c.args.field c.args.from c.args.at)
    (λ f fs. c.skip_blanks-place.ensures.stays (BehindIn c.args.field c.args.from) f fs (λ at b. refl) ∙ goes c.args.text.now c.skip_blanks-place.result (BehindIn c.args.field c.args.from) f fs SquareOpen _ x.0 x.1 refl) c.set.ensures.read

pub returns-else-is_at-clause-read : goal.returns-else-is_at-clause-read
returns-else-is_at-clause-read c = λ f fs. c.skip_blanks-place.ensures.stays (BehindIn c.args.field c.args.from) f fs (λ at b. refl)
    ∙ in_stuck c.args.text.now c.skip_blanks-place.result c.args.field c.args.from f fs c.skip_blanks-place.ensures.stop (λ l h. refuted c.is_at.ensures c.if-is_at.false (l, h))
