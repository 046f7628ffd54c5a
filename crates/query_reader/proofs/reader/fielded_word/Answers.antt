use Rattle.std.proofs.Common.{◌∙◌}
use Rattle.query_reader.proofs.Parts.{behind_word, escaped_end, misplaced, no_word, reads_from}
use Rattle.query_reader.specs.Machine.{Fielded}
use Rattle.query_reader.specs.Reading.{behind_rest, word_rest}
use Rattle.query_reader.proofs.reader.fielded_word.Goals as goal

pub returns-then-scan-clause-read : goal.returns-then-scan-clause-read
returns-then-scan-clause-read c = λ f fs.
    behind_word c.args.text.now c.args.at c.args.field f fs c.requires.within c.requires.begins
    ∙ c.scan_word-scan.ensures.reads (Fielded c.args.field) f fs
    ∙ escaped_end c.args.text.now _ _ _ _ _ _ f fs c.scan_word-scan.ensures.escaped c.if-scan.true

pub returns-in-SaidWord-clause-read : goal.returns-in-SaidWord-clause-read
returns-in-SaidWord-clause-read c =
    reads_from c.args.text.now _ (word_rest c.args.text.now (Fielded c.args.field) c.args.at c.scan_word-scan.result) (behind_rest c.args.text.now c.args.field c.args.at)
    (λ f fs. behind_word c.args.text.now c.args.at c.args.field f fs c.requires.within c.requires.begins ∙ c.scan_word-scan.ensures.reads (Fielded c.args.field) f fs) c.said_word.ensures.read

pub returns-in_default : goal.returns-in_default
returns-in_default c = record {
  end = tt;
  read = λ f fs.
      behind_word c.args.text.now c.args.at c.args.field f fs c.requires.within c.requires.begins
      ∙ c.scan_word-scan.ensures.reads (Fielded c.args.field) f fs
      ∙ misplaced c.args.text.now _ _ _ _ _ _ f fs c.scan_word-scan.ensures.stop c.if-scan.false (no_word _ (Fielded c.args.field) tt (λ h. c.in_default.not-SaidWord (c.what_is_said.ensures ∙ h)));
}
