use Rattle.std.proofs.Common.{arith, ◌∙◌, sym}
use Rattle.query_reader.proofs.Steps.{in_word, word_escaped, word_escape, word_plain}
use Rattle.query_reader.proofs.scan.scan_word.Goals.{then-escaped, else-escaped+in-Plain, else-escaped+in-Escape}
use Rattle.query_reader.proofs.scan.scan_word.Goals as goal

pub loop-to-preserved : goal.loop-to-preserved
loop-to-preserved c = record {
  behind = omega arith;
  within = omega arith;
  reads = λ role f fs. c.loop-to.invariant.reads role f fs
      ∙ in_word c.args.text.now c.loop-to.to role c.args.from f fs c.loop-to.plain c.if-escaped.plain c.loop-to.escaped c.if-escaped.escaped (omega arith) (omega arith)
      (elim c.if-escaped.branch [
        | then-escaped w ↦ word_escaped _ _ role c.args.from _ c.loop-to.to f fs _ _ _ _ w.if-escaped.true w.plain-is w.escaped-is
        | else-escaped+in-Plain w ↦ word_plain _ _ role c.args.from _ c.loop-to.to f fs _ _ _ _ w.if-escaped.false (rw w.byte_kind.ensures at w.in-Plain.is) w.plain-is w.escaped-is
        | else-escaped+in-Escape w ↦ word_escape _ _ role c.args.from _ c.loop-to.to f fs _ _ _ _ w.if-escaped.false (sym w.byte_kind.ensures ∙ w.in-Escape.is) w.plain-is w.escaped-is
      ]);
}
