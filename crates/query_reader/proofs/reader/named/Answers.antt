use Rattle.std.proofs.Common.{◌∙◌, ap, drop, ◌+◌}
use Rattle.std.specs.Prelude.{slice_range}
use Rattle.query_reader.proofs.Parts.{named_field, reads_from}
use Rattle.query_reader.specs.Machine.{run, state, word, First, span}
use Rattle.query_reader.specs.Reading.{behind_rest, word_rest}
use Rattle.query_reader.proofs.reader.named.Goals as goal

pub returns-then-is_at-clause-read : goal.returns-then-is_at-clause-read
returns-then-is_at-clause-read c =
    let x = c.is_at.ensures.0 c.if-is_at.true in
    reads_from c.args.text.now _ (behind_rest c.args.text.now (span c.args.from c.args.scan.to) (c.args.scan.to + 1)) (word_rest c.args.text.now First c.args.from c.args.scan)
    (λ f fs. ap (λ b. run c.args.scan.to (state (word First c.args.from (slice_range c.args.text.now c.args.from c.args.scan.to) c.args.scan.plain b) f fs) (drop c.args.scan.to c.args.text.now)) c.requires.scanned.done
    ∙ named_field c.args.text.now c.args.scan.to c.args.from _ c.args.scan.plain f fs x.0 x.1 c.requires.said) c.fielded.ensures.read
