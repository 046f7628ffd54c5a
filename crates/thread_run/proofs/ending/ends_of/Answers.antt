use Rattle.std.proofs.Common.{◌≡◌, ◌∙◌, ◌+◌, ◌≤◌, ◌∷◌, ◌++◌, [], List, ℕ, add-one, ap, append-nil, append_assoc, arith, length, length-append, subst, suc, sym, vec_capacity, vec_len}
use Rattle.std.proofs.lemmas.List.{nil_from_length}
use Rattle.std.specs.Vec.Iter.{into_iter_items}
use Rattle.thread_run.specs.Ending.{at_work, ends_from, logs_behind}
use Rattle.thread_run.specs.declared.end_lines.ActorEnd.TheVariants as kinds
use Rattle.thread_run.specs.declared.staffing.Post.{Post}
use Rattle.thread_run.proofs.Loops.{one_given, pushed_long}
use Rattle.thread_run.proofs.Staffs.{work_cons}
use Rattle.thread_run.proofs.ending.ends_of.Goals as goal

pub end_post-log-requires : goal.end_post-log-requires
end_post-log-requires g c =
    let post = c.in-Some.post in
    let left = into_iter_items c.next.new.self in
    let here = ap (λ (ps : List (Post g.row.L.Denot)). at_work ps) c.in-Some.ensures.steps.0 in
    let both = work_cons post left in
    let enough = c.loop-post.invariant.4 in
    omega (arith, here, both, enough)

pub loop-post-preserved : goal.loop-post-preserved
loop-post-preserved g c =
    let inv = c.loop-post.invariant in
    let given = c.loop-post.yielded in
    let post = c.in-Some.post in
    let left = into_iter_items c.next.new.self in
    let steps = c.in-Some.ensures.steps.0 in
    let long = length-append given (post ∷ []) in
    let before = into_iter_items c.loop-post.rest in
    let behind = into_iter_items c.end_post-log.new.rest in
    let place = c.loop-post.place in
    let first = c.push_within in
    let second = c.push_within-in-loop-post in
    let log = c.end_post-log.result.0 in
    let end = c.end_post-log.result.1 in (
      tt,
      tt,
      one_given given left _ _ post steps inv.2,
      (let at = inv.3 in omega (arith, at, long)),
      (let here = ap (λ (ps : List (Post g.row.L.Denot)). at_work ps) steps in let both = work_cons post left in let enough = inv.4 in let used = c.end_post-log.ensures.left in omega (arith, here, both, enough, used)),
      ap (λ l. l ++ logs_behind left behind) first.ensures.items
          ∙ (append_assoc c.loop-post.logs.items (log ∷ []) (logs_behind left behind)
          ∙ (ap (λ l. c.loop-post.logs.items ++ l) (sym (c.end_post-log.ensures.log left) ∙ ap (λ (ps : List (Post g.row.L.Denot)). logs_behind ps before) (sym steps)) ∙ inv.5)),
      ap (λ l. l ++ ends_from (place + 1) left behind) second.ensures.items
          ∙ (append_assoc c.loop-post.ends.items (kinds.Indexer place end ∷ []) (ends_from (place + 1) left behind)
          ∙ (ap (λ n. c.loop-post.ends.items ++ kinds.Indexer place end ∷ ends_from n left behind) (add-one place)
          ∙ (ap (λ l. c.loop-post.ends.items ++ l) (sym (c.end_post-log.ensures.end place left) ∙ ap (λ (ps : List (Post g.row.L.Denot)). ends_from place ps before) (sym steps)) ∙ inv.6))),
      (
        (let k = pushed_long c.loop-post.logs.items first.new.all.items _ first.ensures.items in let v = inv.7.0 in let a = c.loop-post.logs.ok.0 in let b = first.new.all.ok.0 in omega (arith, k, v, a, b, long)),
        (let k = pushed_long c.loop-post.ends.items second.new.all.items _ second.ensures.items in let v = inv.7.1 in let a = c.loop-post.ends.ok.0 in let b = second.new.all.ok.0 in omega (arith, k, v, a, b, long)),
      ),
      (
        (let k = first.ensures.room in let m = inv.8.0 in omega (arith, k, m)),
        (let k = second.ensures.room in let m = inv.8.1 in omega (arith, k, m)),
      ),
    )

pub returns-clause-logs : goal.returns-clause-logs
returns-clause-logs g c =
    let left = into_iter_items c.loop-post.post-iterator in
    let rest = into_iter_items c.loop-post.rest in
    let none : left ≡ [] = nil_from_length left (let n = c.in-None.ensures.steps.0 in let ok = c.loop-post.post-iterator.rest.ok in omega (arith, n, ok)) in
    sym (append-nil c.loop-post.logs.items) ∙ (ap (λ (ps : List (Post g.row.L.Denot)). c.loop-post.logs.items ++ logs_behind ps rest) (sym none) ∙ c.loop-post.invariant.5)
