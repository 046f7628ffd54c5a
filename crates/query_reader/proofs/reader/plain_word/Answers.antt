use Rattle.std.proofs.Common.{◌≡◌, ◌∙◌, ◌⊎◌, ap, drop, false, Option, Some, None}
use Rattle.std.specs.Prelude.{slice_range, ℕ, List}
use Rattle.query_reader.proofs.Parts.{word_ends, word_prefix, refuted}
use Rattle.query_reader.specs.Kinds.{names_set}
use Rattle.query_reader.specs.Machine.{run, state, word}
use Rattle.query_reader.specs.Reading.{role_for, BeginsNoSet, IsSetOpening}
use Rattle.query_reader.specs.declared.scan.Scan.{Scan}
use Rattle.query_reader.specs.declared.tree.Span.{Span}
use Rattle.query_reader.proofs.reader.plain_word.Goals as goal

no_set_of : (text : List ℕ) (field : Option Span) (from : ℕ) (scan : Scan) → BeginsNoSet text field from scan
    → (s : Span) → field ≡ Some s → (names_set (slice_range text from scan.to) ≡ false) ⊎ (IsSetOpening text scan.to → ⊥)
no_set_of text None from scan h s e = absurd (let x : ◌≡◌ {A = Option Span} None (Some s) = e in cc)
no_set_of text (Some x) from scan h s e = h

pub returns-then-is_at-clause-read : goal.returns-then-is_at-clause-read
returns-then-is_at-clause-read c = λ f fs.
    let x = c.is_at.ensures.0 c.if-is_at.true in
    ap (λ b. run c.args.scan.to (state (word (role_for c.args.field) c.args.from (slice_range c.args.text.now c.args.from c.args.scan.to) c.args.scan.plain b) f fs) (drop c.args.scan.to c.args.text.now)) c.requires.scanned.done
    ∙ word_prefix c.args.text.now c.args.scan.to c.args.field c.args.from c.args.scan.plain f fs x.0 x.1 c.requires.said

pub returns-else-is_at-clause-read : goal.returns-else-is_at-clause-read
returns-else-is_at-clause-read c = λ f fs.
    ap (λ b. run c.args.scan.to (state (word (role_for c.args.field) c.args.from (slice_range c.args.text.now c.args.from c.args.scan.to) c.args.scan.plain b) f fs) (drop c.args.scan.to c.args.text.now)) c.requires.scanned.done
    ∙ word_ends c.args.text.now c.args.scan.to c.args.field c.args.from c.args.scan.plain f fs c.requires.scanned.stop c.requires.no_colon
    (λ l h. refuted c.is_at.ensures c.if-is_at.false (l, h)) c.requires.said (no_set_of c.args.text.now c.args.field c.args.from c.args.scan c.requires.no_set)
