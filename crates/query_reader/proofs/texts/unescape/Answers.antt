use Rattle.std.proofs.Common.{◌∙◌, ap}
use Rattle.query_reader.proofs.Unescape.{marked, taken_hidden, taken_other}
use Rattle.query_reader.proofs.texts.unescape.Goals.{then-not-hidden+then-byte-eq92, else-not-hidden+in_ok-push, else-not-hidden-via-then-not-hidden+else-byte-eq92, else-not-hidden-via-else-not-hidden}
use Rattle.query_reader.proofs.texts.unescape.Goals as goal

pub loop-byte-preserved : goal.loop-byte-preserved
loop-byte-preserved c = elim c.if-not-hidden.branch [
  | then-not-hidden+then-byte-eq92 w ↦ marked c.loop-byte.out.items c.if-not-hidden.out.items c.args.bytes.now _ c.loop-byte.byte-index c.loop-byte.hidden c.if-not-hidden.hidden
      c.loop-byte-test.true w.if-not-hidden.true w.if-byte-eq92.true (ap (λ v. v.items) w.out-is) w.hidden-is c.loop-byte.invariant
  | else-not-hidden+in_ok-push w ↦ elim w.else-not-hidden.branch [
    | else-not-hidden-via-then-not-hidden+else-byte-eq92 v ↦ taken_other c.loop-byte.out.items c.if-not-hidden.out.items c.args.bytes.now _ c.loop-byte.byte-index c.loop-byte.hidden c.if-not-hidden.hidden
        c.loop-byte-test.true v.if-byte-eq92.false (ap (λ v. v.items) w.out-is ∙ w.in_ok-push.ensures.items) w.hidden-is c.loop-byte.invariant
    | else-not-hidden-via-else-not-hidden v ↦ taken_hidden c.loop-byte.out.items c.if-not-hidden.out.items c.args.bytes.now _ c.loop-byte.byte-index c.loop-byte.hidden c.if-not-hidden.hidden
        c.loop-byte-test.true v.if-not-hidden.false (ap (λ v. v.items) w.out-is ∙ w.in_ok-push.ensures.items) w.hidden-is c.loop-byte.invariant
  ]
]
