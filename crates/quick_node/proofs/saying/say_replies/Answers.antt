use Rattle.std.proofs.Common.{◌+◌, ◌++◌, [], ◌∷◌, ◌∙◌, ap, append_assoc, arith, drop, map, subst}
use Rattle.std.specs.Prelude.{Some}
use Rattle.std.proofs.lemmas.List.{drop_all}
use Rattle.search_api.specs.Replies.{reply_text}
use Rattle.quick_node.proofs.SaidLines.{HasSaid, all_said, next_line, none_said, one_more, said_front, some_more, wrote_front}
use Rattle.quick_node.specs.Runs.{with_feeds}
use Rattle.quick_node.specs.Serve.{IsPrefixOf}
use Rattle.quick_node.proofs.saying.say_replies.Goals as goal

pub returns-in_err-line-clause-writes : goal.returns-in_err-line-clause-writes
returns-in_err-line-clause-writes g c held at =
    let h = c.loop-reply.invariant.written held at in
    (h.said, h.written, wrote_front _ _ c.from_residual.result c.from_residual.ensures.0 (said_front _ _ _ _ h))

pub returns-in_err-say_line-clause-writes : goal.returns-in_err-say_line-clause-writes
returns-in_err-say_line-clause-writes g c held at =
    let h = c.loop-reply.invariant.written held at in
    let reply = c.reply-item.result in
    let on : HasSaid held (g.W.Sink.content c.loop-reply.output) (reply_text reply ∷ map reply_text (drop (c.loop-reply.reply-index + 1) c.args.replies.now)) (with_feeds (map reply_text c.args.replies.now)) =
    subst (λ ls. HasSaid held (g.W.Sink.content c.loop-reply.output) ls (with_feeds (map reply_text c.args.replies.now))) (next_line reply_text c.args.replies.now c.loop-reply.reply-index reply c.loop-reply-test.true c.reply-item.is) h in
    let w = c.in_err-say_line.ensures.writes (held ++ on.said) on.written in (
      on.said ++ w.0,
      w.1 ∙ ap Some (append_assoc held on.said w.0),
      wrote_front _ _ c.from_residual-in_err-say_line.result c.from_residual-in_err-say_line.ensures.0
          (some_more held _ (reply_text reply) _ _ on w.0 (subst (λ text. IsPrefixOf w.0 (text ++ 10 ∷ [])) c.in_ok-line.ensures w.2)),
    )

pub loop-reply-preserved : goal.loop-reply-preserved
loop-reply-preserved g c = record {
  counted = omega (arith, c.loop-reply.invariant.counted, c.in_ok-say_line.ensures.counted);
  written = λ held at.
      let h = c.loop-reply.invariant.written held at in
      let reply = c.reply-item.result in
      let on : HasSaid held (g.W.Sink.content c.loop-reply.output) (reply_text reply ∷ map reply_text (drop (c.loop-reply.reply-index + 1) c.args.replies.now)) (with_feeds (map reply_text c.args.replies.now)) =
      subst (λ ls. HasSaid held (g.W.Sink.content c.loop-reply.output) ls (with_feeds (map reply_text c.args.replies.now))) (next_line reply_text c.args.replies.now c.loop-reply.reply-index reply c.loop-reply-test.true c.reply-item.is) h in
      let w = c.in_ok-say_line.ensures.writes (held ++ on.said) on.written in
      one_more held _ (reply_text reply) _ _ on (g.W.Sink.content c.say_line.new.output) w.0 w.1 (w.2 ∙ ap (λ text. text ++ 10 ∷ []) c.in_ok-line.ensures);
}

pub returns-clause-writes : goal.returns-clause-writes
returns-clause-writes g c held at =
    let h = c.loop-reply.invariant.written held at in
    (h.said, h.written, all_said _ _ _ _ h (ap (map reply_text) (drop_all c.loop-reply.reply-index c.args.replies.now (omega (arith, c.loop-reply-test.false)))))
