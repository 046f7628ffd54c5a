use Rattle.std.proofs.Common.{refl, arith, ◌∙◌, sym, get_or}
use Rattle.query_reader.proofs.Steps.{in_quote, quote_hidden, quote_escape, quote_plain, quote_stuck, ends}
use Rattle.query_reader.proofs.Parts.{stuck_at}
use Rattle.query_reader.specs.Machine.{InQuote}
use Rattle.query_reader.specs.Kinds.{kind_of}
use Rattle.query_reader.specs.declared.kind.Kind.TheVariants.{Quote, Escape}
use Rattle.query_reader.proofs.scan.quote_end.Goals.{in-Quote+else-not-escaped, in-Escape, in_default+else-escaped}
use Rattle.query_reader.proofs.scan.quote_end.Goals as goal

pub returns-then-escaped : goal.returns-then-escaped
returns-then-escaped c = λ role f fs. c.loop-at.invariant.reads role f fs
    ∙ stuck_at c.args.text.now c.loop-at.at (InQuote role c.args.from c.loop-at.escaped) f fs
    (λ l. quote_stuck (kind_of (get_or c.args.text.now c.loop-at.at 0)) role c.args.from c.loop-at.at f fs c.loop-at.escaped c.if-escaped.true (λ h. c.in_default.not-Quote (c.byte_kind.ensures ∙ h)) (λ h. c.in_default.not-Escape (c.byte_kind.ensures ∙ h)))
    (λ l. refl)

pub loop-at-preserved : goal.loop-at-preserved
loop-at-preserved c = record {
  behind = omega arith;
  within = omega arith;
  reads = λ role f fs. c.loop-at.invariant.reads role f fs
      ∙ (elim c.match-byte_kind.branch [
        | in-Quote+else-not-escaped w ↦ in_quote c.args.text.now c.loop-at.at role c.args.from f fs c.loop-at.escaped c.match-byte_kind.escaped Quote c.loop-at-test.true (sym c.byte_kind.ensures ∙ w.in-Quote.is)
            (quote_hidden role c.args.from c.loop-at.at f fs _ _ w.if-not-escaped.false w.escaped-is)
        | in-Escape w ↦ in_quote c.args.text.now c.loop-at.at role c.args.from f fs c.loop-at.escaped c.match-byte_kind.escaped Escape c.loop-at-test.true (sym c.byte_kind.ensures ∙ w.in-Escape.is)
            (quote_escape role c.args.from c.loop-at.at f fs _ _ w.escaped-is)
        | in_default+else-escaped w ↦ rw w.escaped-is (in_quote c.args.text.now c.loop-at.at role c.args.from f fs c.loop-at.escaped c.loop-at.escaped (kind_of (get_or c.args.text.now c.loop-at.at 0)) c.loop-at-test.true refl
            (quote_plain (kind_of (get_or c.args.text.now c.loop-at.at 0)) role c.args.from c.loop-at.at f fs _ w.if-escaped.false (λ h. w.in_default.not-Quote (c.byte_kind.ensures ∙ h)) (λ h. w.in_default.not-Escape (c.byte_kind.ensures ∙ h))))
      ]);
}

pub returns : goal.returns
returns c = λ role f fs. c.loop-at.invariant.reads role f fs ∙ ends c.args.text.now c.loop-at.at (InQuote role c.args.from c.loop-at.escaped) f fs (omega arith)
