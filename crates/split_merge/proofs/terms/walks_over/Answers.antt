use Rattle.std.proofs.Common.{◌<◌, None, length, refl, sym, subst, arith}
use Rattle.std.proofs.lemmas.Option.{slice_get_read}
use Rattle.split_merge.specs.Merging.{Blames}
use Rattle.split_merge.specs.Walking.{IsIndexOf, IsWalkOf}
use Rattle.split_merge.proofs.KeptLemmas.{drop_view, drop_views_end, fault_blames}
use Rattle.split_merge.proofs.UpToLemmas.{zip_at, zip_end, zip_more, zip_start}
use Rattle.split_merge.proofs.terms.walks_over.Goals as goal

pub returns-in-Err-clause-cause : goal.returns-in-Err-clause-cause
returns-in-Err-clause-cause c = λ s indexes.
    let i = c.loop-i.i in
    let lt : i < length c.args.views.now = omega (arith, c.loop-i-test.true, c.loop-i.auto.i-end) in
    let there = slice_get_read c.args.views.now (length c.args.views.now) i c.index-views-i.result refl lt c.index-views-i.is in
    let index = zip_at (IsIndexOf s) i c.args.views.now c.args.indexes.now c.index-views-i.result c.index-views-i.result c.index-indexes-i.result c.index-indexes-i.result lt c.index-views-i.is c.index-indexes-i.is indexes in
    subst (Blames s c.args.views.now) (sym c.fault_of.ensures) (fault_blames s c.args.views.now i c.index-views-i.result c.in-Err.fault there (c.in-Err.ensures s index))

pub loop-i-init : goal.loop-i-init
loop-i-init c = record { only = λ s indexes. zip_start (IsWalkOf s None) c.args.views.now _ c.new-walks.ensures.items }

pub loop-i-preserved : goal.loop-i-preserved
loop-i-preserved c =
    let i = c.loop-i.i in
    let lt : i < length c.args.views.now = omega (arith, c.loop-i-test.true, c.loop-i.auto.i-end) in
    let there = slice_get_read c.args.views.now (length c.args.views.now) i c.index-views-i.result refl lt c.index-views-i.is in
    record {
      only = λ s indexes.
          let index = zip_at (IsIndexOf s) i c.args.views.now c.args.indexes.now c.index-views-i.result c.index-views-i.result c.index-indexes-i.result c.index-indexes-i.result lt c.index-views-i.is c.index-indexes-i.is indexes in
          zip_more (IsWalkOf s None) c.args.views.now _ c.index-views-i.result _ c.loop-i.walks.items c.push.new.self.items c.in-Ok.walk (drop_view c.args.views.now i c.index-views-i.result there)
          (c.in-Ok.ensures s index) c.in-Ok-push.ensures.items (c.loop-i.invariant.only s indexes);
    }

pub returns-clause-only : goal.returns-clause-only
returns-clause-only c = λ s indexes. zip_end (IsWalkOf s None) c.args.views.now _ c.loop-i.walks.items (drop_views_end c.args.views.now c.loop-i.i (omega (arith, c.loop-i-test.false, c.loop-i.auto.i-end))) (c.loop-i.invariant.only s indexes)
