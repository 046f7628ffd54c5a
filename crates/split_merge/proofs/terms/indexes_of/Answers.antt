use Rattle.std.proofs.Common.{length, refl, sym, subst, arith}
use Rattle.std.proofs.lemmas.Option.{slice_get_read}
use Rattle.split_merge.specs.Merging.{Blames}
use Rattle.split_merge.specs.Walking.{IsIndexOf}
use Rattle.split_merge.proofs.KeptLemmas.{drop_view, drop_views_end, fault_blames}
use Rattle.split_merge.proofs.UpToLemmas.{index_want, zip_end, zip_more, zip_start}
use Rattle.split_merge.proofs.terms.indexes_of.Goals as goal

pub returns-in-Err-clause-cause : goal.returns-in-Err-clause-cause
returns-in-Err-clause-cause c = λ s.
    let there = slice_get_read c.args.views.now (length c.args.views.now) c.loop-number.number c.index-views-number.result refl (omega (arith, c.loop-number-test.true, c.loop-number.auto.number-end)) c.index-views-number.is in
    subst (Blames s c.args.views.now) (sym c.fault_of.ensures)
    (fault_blames s c.args.views.now c.loop-number.number c.index-views-number.result c.in-Err.fault there (λ ds views. index_want views.0.index c.in-Err.fault (c.in-Err.ensures.only s ds views.0 views.1)))

pub loop-number-init : goal.loop-number-init
loop-number-init c = record { only = λ s. zip_start (IsIndexOf s) c.args.views.now _ c.new-indexes.ensures.items }

pub loop-number-preserved : goal.loop-number-preserved
loop-number-preserved c =
    let there = slice_get_read c.args.views.now (length c.args.views.now) c.loop-number.number c.index-views-number.result refl (omega (arith, c.loop-number-test.true, c.loop-number.auto.number-end)) c.index-views-number.is in
    record {
      only = λ s. zip_more (IsIndexOf s) c.args.views.now _ c.index-views-number.result _ c.loop-number.indexes.items c.push.new.self.items c.in-Ok.index (drop_view c.args.views.now c.loop-number.number c.index-views-number.result there)
          (λ ds p is. c.in-Ok.ensures.only s ds p is) c.in-Ok-push.ensures.items (c.loop-number.invariant.only s);
    }

pub returns-clause-only : goal.returns-clause-only
returns-clause-only c = λ s. zip_end (IsIndexOf s) c.args.views.now _ c.loop-number.indexes.items (drop_views_end c.args.views.now c.loop-number.number (omega (arith, c.loop-number-test.false, c.loop-number.auto.number-end))) (c.loop-number.invariant.only s)
