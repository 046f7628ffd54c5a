use Rattle.std.proofs.Common.{◌++◌, ◌∙◌, ap, append_assoc, flat_map, map, subst, sym}
use Rattle.std.specs.Prelude.{Some, option_to_list}
use Rattle.search_api.specs.Replies.{reply_text}
use Rattle.thread_run.specs.EndLines.{end_text, settled_text}
use Rattle.quick_node.proofs.SaidLines.{feeds_on, front_behind, front_on, wrote_behind, wrote_front}
use Rattle.quick_node.specs.Runs.{with_feeds}
use Rattle.quick_node.specs.Saying.{WroteSo}
use Rattle.quick_node.specs.Serve.{IsPrefixOf}
use Rattle.quick_node.proofs.saying.say_all.Goals as goal

pub returns-in_err-say_replies-clause-writes : goal.returns-in_err-say_replies-clause-writes
returns-in_err-say_replies-clause-writes g c held at =
    let lines = map reply_text c.args.replies.now in
    let more = flat_map (λ end. option_to_list (end_text end)) c.args.ends.now ++ map settled_text (option_to_list c.args.settled.now) in
    let w = c.in_err-say_replies.ensures.writes held at in (
      w.0,
      w.1,
      wrote_front _ _ c.from_residual.result c.from_residual.ensures.0
          (subst (IsPrefixOf w.0) (sym (feeds_on lines more)) (front_on w.0 (with_feeds lines) (with_feeds more) w.2)),
    )

pub returns-in_err-say_ends-clause-writes : goal.returns-in_err-say_ends-clause-writes
returns-in_err-say_ends-clause-writes g c held at =
    let lines = map reply_text c.args.replies.now in
    let ends = flat_map (λ end. option_to_list (end_text end)) c.args.ends.now in
    let more = map settled_text (option_to_list c.args.settled.now) in
    let w = c.in_ok-say_replies.ensures.writes held at in
    let v = c.in_err-say_ends.ensures.writes (held ++ w.0) w.1 in (
      w.0 ++ v.0,
      v.1 ∙ ap Some (append_assoc held w.0 v.0),
      wrote_front _ _ c.from_residual-in_err-say_ends.result c.from_residual-in_err-say_ends.ensures.0
          (subst (IsPrefixOf (w.0 ++ v.0)) (ap (λ l. l ++ with_feeds (ends ++ more)) w.2 ∙ sym (feeds_on lines (ends ++ more)))
          (front_behind w.0 v.0 (with_feeds (ends ++ more)) (subst (IsPrefixOf v.0) (sym (feeds_on ends more)) (front_on v.0 (with_feeds ends) (with_feeds more) v.2)))),
    )

pub returns-clause-writes : goal.returns-clause-writes
returns-clause-writes g c held at =
    let lines = map reply_text c.args.replies.now in
    let ends = flat_map (λ end. option_to_list (end_text end)) c.args.ends.now in
    let more = map settled_text (option_to_list c.args.settled.now) in
    let w = c.in_ok-say_replies.ensures.writes held at in
    let v = c.in_ok-say_ends.ensures.writes (held ++ w.0) w.1 in
    let u = c.say_settled.ensures.writes ((held ++ w.0) ++ v.0) v.1 in (
      w.0 ++ (v.0 ++ u.0),
      u.1 ∙ ap Some (append_assoc (held ++ w.0) v.0 u.0 ∙ append_assoc held w.0 (v.0 ++ u.0)),
      subst (λ said. WroteSo (w.0 ++ (v.0 ++ u.0)) said c.say_settled.result)
          (ap (λ l. l ++ (v.0 ++ with_feeds more)) w.2 ∙ ap (λ l. with_feeds lines ++ (l ++ with_feeds more)) v.2
          ∙ ap (λ l. with_feeds lines ++ l) (sym (feeds_on ends more)) ∙ sym (feeds_on lines (ends ++ more)))
          (wrote_behind w.0 (v.0 ++ u.0) (v.0 ++ with_feeds more) c.say_settled.result (wrote_behind v.0 u.0 (with_feeds more) c.say_settled.result u.2)),
    )
