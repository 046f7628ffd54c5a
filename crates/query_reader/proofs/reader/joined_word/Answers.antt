use Rattle.std.proofs.Common.{refl, ◌≡◌, inl, inr, true, false, ◌∙◌, sym}
use Rattle.query_reader.proofs.Parts.{after_word, operand_word, no_joined, and_wants, or_wants, want_operand}
use Rattle.query_reader.specs.Machine.{with_or, Want, First, Joined}
use Rattle.query_reader.proofs.reader.joined_word.Goals as goal

pub returns-then-not-ends_operator-clause-reads : goal.returns-then-not-ends_operator-clause-reads
returns-then-not-ends_operator-clause-reads c = λ f fs.
    after_word c.args.text.now c.args.at f fs c.requires.within c.requires.begins
    ∙ c.scan_word-scan.ensures.reads Joined f fs
    ∙ no_joined c.args.text.now _ c.args.at _ _ f fs c.scan_word-scan.ensures.stop c.scan_word-scan.ensures.escaped
    (λ l. inl (
      (λ h. let x : c.ends_operator.result ≡ true = c.ends_operator.ensures.1 (l, inl h) in absurd (let y : true ≡ false = sym x ∙ c.if-not-ends_operator.true in cc)),
      (λ h. let x : c.ends_operator.result ≡ true = c.ends_operator.ensures.1 (l, inr h) in absurd (let y : true ≡ false = sym x ∙ c.if-not-ends_operator.true in cc)),
    ))
    ∙ sym (c.scan_word-scan.ensures.reads First f fs)
    ∙ sym (operand_word c.args.text.now c.args.at f fs c.requires.within c.requires.begins)

pub returns-in-SaidAnd-clause-reads : goal.returns-in-SaidAnd-clause-reads
returns-in-SaidAnd-clause-reads c = λ f fs.
    let o = c.ends_operator.ensures.0 c.if-not-ends_operator.false in
    after_word c.args.text.now c.args.at f fs c.requires.within c.requires.begins
    ∙ c.scan_word-scan.ensures.reads Joined f fs
    ∙ and_wants c.args.text.now _ c.args.at _ _ f fs o (c.scan_word-scan.ensures.escaped o.0) (sym c.what_is_said.ensures ∙ c.in-SaidAnd.is)
    ∙ c.skip_blanks.ensures.stays (Want true) f fs (λ at c. refl)
    ∙ want_operand c.args.text.now _ true f fs c.skip_blanks.ensures.stop

pub returns-in-SaidOr-clause-reads : goal.returns-in-SaidOr-clause-reads
returns-in-SaidOr-clause-reads c = λ f fs.
    let o = c.ends_operator.ensures.0 c.if-not-ends_operator.false in
    after_word c.args.text.now c.args.at f fs c.requires.within c.requires.begins
    ∙ c.scan_word-scan.ensures.reads Joined f fs
    ∙ or_wants c.args.text.now _ c.args.at _ _ f fs o (c.scan_word-scan.ensures.escaped o.0) (sym c.what_is_said.ensures ∙ c.in-SaidOr.is)
    ∙ c.skip_blanks-in-SaidOr.ensures.stays (Want true) (with_or f) fs (λ at c. refl)
    ∙ want_operand c.args.text.now _ true (with_or f) fs c.skip_blanks-in-SaidOr.ensures.stop

pub returns-in_default-clause-reads : goal.returns-in_default-clause-reads
returns-in_default-clause-reads c = λ f fs.
    after_word c.args.text.now c.args.at f fs c.requires.within c.requires.begins
    ∙ c.scan_word-scan.ensures.reads Joined f fs
    ∙ no_joined c.args.text.now _ c.args.at _ _ f fs c.scan_word-scan.ensures.stop c.scan_word-scan.ensures.escaped
    (λ l. inr ((λ h. c.in_default.not-SaidAnd (c.what_is_said.ensures ∙ h)), (λ h. c.in_default.not-SaidOr (c.what_is_said.ensures ∙ h))))
    ∙ sym (c.scan_word-scan.ensures.reads First f fs)
    ∙ sym (operand_word c.args.text.now c.args.at f fs c.requires.within c.requires.begins)
