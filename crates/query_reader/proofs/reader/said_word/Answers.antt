use Rattle.std.proofs.Common.{◌∙◌, sym}
use Rattle.query_reader.proofs.Parts.{reads_from, second_colon}
use Rattle.query_reader.proofs.Specials.{word_in}
use Rattle.query_reader.specs.Machine.{Fielded}
use Rattle.query_reader.specs.Reading.{in_rest, word_rest}
use Rattle.query_reader.proofs.reader.said_word.Goals as goal

pub returns-then-is_at-clause-read : goal.returns-then-is_at-clause-read
returns-then-is_at-clause-read c = λ f fs.
    let x = c.is_at.ensures.0 c.if-is_at.true in
    second_colon c.args.text.now _ _ _ _ _ _ f fs x.0 x.1 c.requires.scanned.done

pub returns-then-opens_set-clause-read : goal.returns-then-opens_set-clause-read
returns-then-opens_set-clause-read c =
    reads_from c.args.text.now _ (in_rest c.args.text.now c.args.field c.args.from c.args.scan.to) (word_rest c.args.text.now (Fielded c.args.field) c.args.from c.args.scan)
    (λ f fs. word_in c.args.text.now c.args.scan.to c.args.field c.args.from _ _ _ f fs (c.opens_set.ensures.0 c.if-opens_set.true) c.requires.scanned.done c.requires.said (sym c.is_in.ensures ∙ c.if-is_in.true)) c.behind_in.ensures.read
