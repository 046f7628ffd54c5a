use Rattle.std.proofs.Common.{◌<◌, ◌+◌, length, arith}
use Rattle.query_reader.proofs.Steps.{ends}
use Rattle.query_reader.proofs.Parts.{reads_from}
use Rattle.query_reader.proofs.Specials.{letter_n, no_letter_n}
use Rattle.query_reader.specs.Machine.{LetterI}
use Rattle.query_reader.specs.Reading.{letter_rest, in_rest}
use Rattle.query_reader.proofs.reader.letter_n.Goals as goal

pub returns-then-at-text-clause-read : goal.returns-then-at-text-clause-read
returns-then-at-text-clause-read c = λ f fs. ends c.args.text.now (c.args.from + 1) (LetterI c.args.field c.args.from) f fs c.if-at-text.true

pub returns-then-text-at-eq78-clause-read : goal.returns-then-text-at-eq78-clause-read
returns-then-text-at-eq78-clause-read c =
    let l : c.args.from + 1 < length c.args.text.now = omega arith in
    reads_from c.args.text.now _ (in_rest c.args.text.now c.args.field c.args.from (c.args.from + 1 + 1)) (letter_rest c.args.text.now c.args.field c.args.from (c.args.from + 1))
    (λ f fs. letter_n c.args.text.now (c.args.from + 1) c.args.from c.args.field f fs l c.if-text-at-eq78.true) c.behind_in.ensures.read

pub returns-else-text-at-eq78-clause-read : goal.returns-else-text-at-eq78-clause-read
returns-else-text-at-eq78-clause-read c = λ f fs. no_letter_n c.args.text.now (c.args.from + 1) c.args.from c.args.field f fs (λ l. c.if-text-at-eq78.false)
