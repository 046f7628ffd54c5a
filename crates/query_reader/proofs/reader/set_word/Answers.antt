use Rattle.std.proofs.Common.{◌∙◌, sym}
use Rattle.query_reader.proofs.Parts.{escaped_end, misplaced, no_word}
use Rattle.query_reader.proofs.Specials.{set_begins, set_ends}
use Rattle.query_reader.specs.Machine.{InASet}
use Rattle.query_reader.proofs.reader.set_word.Goals as goal

pub returns-then-scan : goal.returns-then-scan
returns-then-scan c = λ field n ms f fs.
    set_begins c.args.text.now c.args.from field n ms f fs c.requires.within c.requires.begins
    ∙ c.scan_word-scan.ensures.reads (InASet field n ms) f fs
    ∙ escaped_end c.args.text.now _ _ _ _ _ _ f fs c.scan_word-scan.ensures.escaped c.if-scan.true

pub returns-in-SaidWord : goal.returns-in-SaidWord
returns-in-SaidWord c = (
  c.scan_word-scan.ensures.behind,
  c.scan_word-scan.ensures.within,
  λ field n ms f fs.
      set_begins c.args.text.now c.args.from field n ms f fs c.requires.within c.requires.begins
      ∙ c.scan_word-scan.ensures.reads (InASet field n ms) f fs
      ∙ set_ends c.args.text.now _ field n ms _ _ _ _ f fs c.scan_word-scan.ensures.stop c.if-scan.false (sym c.what_is_said.ensures ∙ c.in-SaidWord.is),
)

pub returns-in_default : goal.returns-in_default
returns-in_default c = λ field n ms f fs.
    set_begins c.args.text.now c.args.from field n ms f fs c.requires.within c.requires.begins
    ∙ c.scan_word-scan.ensures.reads (InASet field n ms) f fs
    ∙ misplaced c.args.text.now _ _ _ _ _ _ f fs c.scan_word-scan.ensures.stop c.if-scan.false (no_word _ (InASet field n ms) tt (λ h. c.in_default.not-SaidWord (c.what_is_said.ensures ∙ h)))
