use Rattle.std.proofs.Common.{◌≡◌, ◌<◌, ◌+◌, ℕ, suc, [], Some, drop, get_or, length, refl, sym, subst, set, arith}
use Rattle.std.proofs.lemmas.Option.{slice_get_read}
use Rattle.split_build.proofs.Zipped.{Partly, partly_all}
use Rattle.split_merge.specs.Merging.{Blames}
use Rattle.split_merge.specs.Walking.{IsWalkOf}
use Rattle.split_merge.proofs.GatherLemmas.{IsReady, all_joined, all_ready, drop_is, joins_more, ready_at, set_here}
use Rattle.split_merge.proofs.KeptLemmas.{at_view, fault_blames, views_end}
use Rattle.split_merge.proofs.key_lists.gather_key.Goals as goal

pub loop-i-init : goal.loop-i-init
loop-i-init c = record {
  walks = λ s last kept past are not_below. all_ready s last c.args.key.now c.args.views.now c.args.walks.now are not_below;
  only = λ s last lists kept past are not_below views h. record { list = []; holds = h; whole_is = refl };
}

pub returns-in-Err-clause-cause : goal.returns-in-Err-clause-cause
returns-in-Err-clause-cause c = λ s last kept past are not_below.
    let i = c.loop-i.i in
    let there = slice_get_read c.args.views.now (length c.args.views.now) i c.index-views-i.result refl (omega (arith, c.loop-i-test.true, c.loop-i.auto.walks, c.requires.walks)) c.index-views-i.is in
    let ready = ready_at (IsWalkOf s (Some c.args.key.now)) (IsReady s last c.args.key.now) i c.args.views.now c.loop-i.walks c.index-views-i.result c.index-views-i.result (get_or c.loop-i.walks i c.index-walks-i.result) c.index-walks-i.result
    (omega (arith, c.loop-i-test.true, c.loop-i.auto.walks)) c.index-views-i.is refl (c.loop-i.invariant.walks s last kept past are not_below) in
    subst (Blames s c.args.views.now) (sym c.fault_of.ensures)
    (fault_blames s c.args.views.now i c.index-views-i.result c.in-Err.fault there (λ ds views. c.in-Err.ensures.only s last ds views.0 kept past ready.walk ready.not_below views.1))

pub loop-i-preserved : goal.loop-i-preserved
loop-i-preserved c =
    let i = c.loop-i.i in
    let lt_views : i < length c.args.views.now = omega (arith, c.loop-i-test.true, c.loop-i.auto.walks, c.requires.walks) in
    let lt_numbers : i < length c.args.numbers.now = omega (arith, c.loop-i-test.true, c.loop-i.auto.walks, c.requires.walks, c.requires.numbers) in
    let views_left = drop_is c.args.views.now i c.index-views-i.result c.index-views-i.result lt_views c.index-views-i.is in
    let numbers_left = drop_is c.args.numbers.now i c.index-numbers-i.result c.index-numbers-i.result lt_numbers c.index-numbers-i.is in
    let there = slice_get_read c.args.views.now (length c.args.views.now) i c.index-views-i.result refl lt_views c.index-views-i.is in
    record {
      walks = λ s last kept past are not_below.
          let partly = c.loop-i.invariant.walks s last kept past are not_below in
          let ready = ready_at (IsWalkOf s (Some c.args.key.now)) (IsReady s last c.args.key.now) i c.args.views.now c.loop-i.walks c.index-views-i.result c.index-views-i.result (get_or c.loop-i.walks i c.index-walks-i.result) c.index-walks-i.result
          (omega (arith, c.loop-i-test.true, c.loop-i.auto.walks)) c.index-views-i.is refl partly in
          let next : suc i ≡ i + 1 = omega arith in
          subst (λ (k : ℕ). Partly (IsWalkOf s (Some c.args.key.now)) (IsReady s last c.args.key.now) k c.args.views.now (set c.loop-i.walks i c.take_key.new.walk)) next
          (set_here (IsWalkOf s (Some c.args.key.now)) (IsReady s last c.args.key.now) i c.args.views.now c.loop-i.walks c.index-views-i.result c.index-views-i.result c.take_key.new.walk
          (omega (arith, c.loop-i-test.true, c.loop-i.auto.walks)) c.index-views-i.is (c.in-Ok.ensures.walk s last kept past ready.walk ready.not_below) partly);
      only = λ s last lists kept past are not_below views h.
          let at = at_view s c.args.views.now lists i c.index-views-i.result views there in
          let ready = ready_at (IsWalkOf s (Some c.args.key.now)) (IsReady s last c.args.key.now) i c.args.views.now c.loop-i.walks c.index-views-i.result c.index-views-i.result (get_or c.loop-i.walks i c.index-walks-i.result) c.index-walks-i.result
          (omega (arith, c.loop-i-test.true, c.loop-i.auto.walks)) c.index-views-i.is refl (c.loop-i.invariant.walks s last kept past are not_below) in
          let so_far = c.loop-i.invariant.only s last lists kept past are not_below views h in
          joins_more s c.args.key.now _ at.documents (drop (i + 1) lists) _ c.index-numbers-i.result (drop (i + 1) c.args.numbers.now) _ c.args.kept c.loop-i.list c.take_key.new.list at.parts numbers_left so_far
          (c.in-Ok.ensures.only s last at.documents at.views.0 kept past ready.walk ready.not_below at.views.1 so_far.list so_far.holds);
    }

pub returns-clause-walks : goal.returns-clause-walks
returns-clause-walks c = λ s last kept past are not_below.
    partly_all (IsWalkOf s (Some c.args.key.now)) (IsReady s last c.args.key.now) c.loop-i.i c.args.views.now c.loop-i.walks (omega (arith, c.loop-i-test.false, c.loop-i.auto.walks, c.loop-i.auto.i-end)) (c.loop-i.invariant.walks s last kept past are not_below)

pub returns-clause-only : goal.returns-clause-only
returns-clause-only c = λ s last lists kept past are not_below views h.
    all_joined s c.args.key.now _ _ _ c.args.kept c.loop-i.list (views_end s c.args.views.now lists c.loop-i.i views (omega (arith, c.loop-i-test.false, c.loop-i.auto.walks, c.loop-i.auto.i-end, c.requires.walks)))
    (c.loop-i.invariant.only s last lists kept past are not_below views h)
