use Rattle.std.proofs.Common.{◌+◌, ◌++◌, [], ◌∷◌, ◌∙◌, ap, append_assoc, arith, drop, flat_map, subst, sym}
use Rattle.std.specs.Option.{option_map}
use Rattle.std.specs.Prelude.{IsSome, Some, option_to_list}
use Rattle.std.proofs.lemmas.List.{drop_all}
use Rattle.thread_run.specs.EndLines.{end_text}
use Rattle.quick_node.proofs.SaidLines.{HasSaid, all_said, is_told, next_of_all, next_told, one_more, said_front, some_more, wrote_front}
use Rattle.quick_node.specs.Runs.{with_feeds}
use Rattle.quick_node.specs.Serve.{IsPrefixOf}
use Rattle.quick_node.proofs.saying.say_ends.Goals as goal

pub returns-in_err-line-clause-writes : goal.returns-in_err-line-clause-writes
returns-in_err-line-clause-writes g c held at =
    let h = c.loop-end.invariant.written held at in
    (h.said, h.written, wrote_front _ _ c.from_residual.result c.from_residual.ensures.0 (said_front _ _ _ _ h))

pub returns-in_default-clause-writes : goal.returns-in_default-clause-writes
returns-in_default-clause-writes g c held at =
    let h = c.loop-end.invariant.written held at in
    (h.said, h.written, said_front _ _ _ _ h)

pub returns-in_err-say_line-clause-writes : goal.returns-in_err-say_line-clause-writes
returns-in_err-say_line-clause-writes g c held at =
    let h = c.loop-end.invariant.written held at in
    let end = c.end-item.result in
    let told = ap (option_map (λ out. out.bytes)) (sym c.in-Some.is) ∙ c.in_ok-line.ensures in
    let whole = with_feeds (flat_map (λ end. option_to_list (end_text end)) c.args.ends.now) in
    let on : HasSaid held (g.W.Sink.content c.loop-end.output) (c.in-Some.line.bytes ∷ flat_map (λ end. option_to_list (end_text end)) (drop (c.loop-end.end-index + 1) c.args.ends.now)) whole =
    subst (λ ls. HasSaid held (g.W.Sink.content c.loop-end.output) ls whole) (next_told end_text c.args.ends.now c.loop-end.end-index end c.in-Some.line.bytes c.loop-end-test.true c.end-item.is told) h in
    let w = c.in_err-say_line.ensures.writes (held ++ on.said) on.written in (
      on.said ++ w.0,
      w.1 ∙ ap Some (append_assoc held on.said w.0),
      wrote_front _ _ c.from_residual-in_err-say_line.result c.from_residual-in_err-say_line.ensures.0 (some_more held _ c.in-Some.line.bytes _ _ on w.0 w.2),
    )

pub loop-end-preserved : goal.loop-end-preserved
loop-end-preserved g c =
    let end = c.end-item.result in
    let told = ap (option_map (λ out. out.bytes)) (sym c.in-Some.is) ∙ c.in_ok-line.ensures in
    let whole = with_feeds (flat_map (λ end. option_to_list (end_text end)) c.args.ends.now) in
    record {
      counted = omega (arith, c.loop-end.invariant.counted, c.in_ok-say_line.ensures.counted);
      told = λ rest.
          c.loop-end.invariant.told
          (next_of_all (λ end. IsSome (end_text end)) c.args.ends.now c.loop-end.end-index end c.loop-end-test.true c.end-item.is (is_told (end_text end) c.in-Some.line.bytes told) rest);
      written = λ held at.
          let h = c.loop-end.invariant.written held at in
          let on : HasSaid held (g.W.Sink.content c.loop-end.output) (c.in-Some.line.bytes ∷ flat_map (λ end. option_to_list (end_text end)) (drop (c.loop-end.end-index + 1) c.args.ends.now)) whole =
          subst (λ ls. HasSaid held (g.W.Sink.content c.loop-end.output) ls whole) (next_told end_text c.args.ends.now c.loop-end.end-index end c.in-Some.line.bytes c.loop-end-test.true c.end-item.is told) h in
          let w = c.in_ok-say_line.ensures.writes (held ++ on.said) on.written in
          one_more held _ c.in-Some.line.bytes _ _ on (g.W.Sink.content c.say_line.new.output) w.0 w.1 w.2;
    }

pub returns-clause-writes : goal.returns-clause-writes
returns-clause-writes g c held at =
    let h = c.loop-end.invariant.written held at in
    (h.said, h.written, all_said _ _ _ _ h (ap (flat_map (λ end. option_to_list (end_text end))) (drop_all c.loop-end.end-index c.args.ends.now (omega (arith, c.loop-end-test.false)))))
