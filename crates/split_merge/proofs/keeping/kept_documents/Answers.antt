use Rattle.std.proofs.Common.{ℕ, ◌+◌, List, [], length, drop, Ok, Err, refl, sym, ap, subst, ◌∙◌, arith}
use Rattle.std.specs.Borrow.{Bor}
use Rattle.std.proofs.lemmas.Option.{slice_get_read}
use Rattle.split_bundle.specs.declared.split_view.SplitView.{SplitView}
use Rattle.split_merge.specs.Keeping.{RiseFrom}
use Rattle.split_merge.specs.Kept.{KeepsAll}
use Rattle.split_merge.specs.Reading.{behind, read_from, read_kept}
use Rattle.split_merge.proofs.KeptLemmas.{drop_view, drop_views_end, fault_cause}
use Rattle.split_merge.proofs.KeepLemmas.{view_fault, view_want}
use Rattle.split_merge.proofs.ReadLemmas.{behind_end, behind_none, read_step}
use Rattle.split_merge.proofs.keeping.kept_documents.Goals as goal

pub returns-in-Err : goal.returns-in-Err
returns-in-Err c =
    let so_far = c.loop-number.invariant.exact in
    let there = slice_get_read c.args.views.now (length c.args.views.now) c.loop-number.number c.index-views-number.result refl (omega (arith, c.loop-number-test.true, c.loop-number.auto.number-end)) c.index-views-number.is in
    let fault = c.in-Err.ensures.exact so_far.0 so_far.1 in
    record {
      exact = subst (λ e. KeepsAll c.args.schema.now (Err e) (read_kept c.args.schema.now c.args.dropped.now c.args.views.now)) (sym c.fault_of.ensures)
          (view_fault (Bor (List ℕ)) c.take_view.new.documents c.args.schema.now c.in-Err.error c.loop-number.rest.now so_far.0 c.loop-number.number c.loop-number.first _ c.index-views-number.result (drop (c.loop-number.number + 1) c.args.views.now) _
          (drop_view c.args.views.now c.loop-number.number c.index-views-number.result there) so_far.2 fault);
      cause = rw c.fault_of.ensures (fault_cause c.args.schema.now c.args.views.now c.loop-number.number c.index-views-number.result c.in-Err.error there
          (λ ds views. view_want (Bor (List ℕ)) c.take_view.new.documents c.args.schema.now c.index-views-number.result ds so_far.0 c.loop-number.rest.now c.loop-number.first c.in-Err.error views fault));
    }

pub loop-number-preserved : goal.loop-number-preserved
loop-number-preserved c =
    let so_far = c.loop-number.invariant.exact in
    let docs = c.from-first.ensures ∙ c.doc_count.ensures.exact in
    let there = slice_get_read c.args.views.now (length c.args.views.now) c.loop-number.number c.index-views-number.result refl (omega (arith, c.loop-number-test.true, c.loop-number.auto.number-end)) c.index-views-number.is in
    let taken = c.in-Ok.ensures.exact so_far.0 so_far.1 in
    record {
      room = omega (arith, c.loop-number.invariant.room, c.from-first.ensures);
      rise = subst (λ (n : ℕ). RiseFrom (c.loop-number.first + n) c.in-Ok.behind.now) (sym docs) c.in-Ok.ensures.behind;
      exact = (
        taken.0,
        taken.2,
        read_step c.args.schema.now c.loop-number.rest.now c.in-Ok.behind.now so_far.0 taken.0 c.loop-number.number c.loop-number.first (c.loop-number.first + c.from-first.result) _ c.index-views-number.result
            (drop (c.loop-number.number + 1) c.args.views.now) _ (drop_view c.args.views.now c.loop-number.number c.index-views-number.result there) (omega (arith, docs)) (λ m lt. c.in-Ok.ensures.same m (omega (arith, lt, docs)))
            taken.1 so_far.2,
      );
    }

pub returns-clause-exact : goal.returns-clause-exact
returns-clause-exact c =
    let so_far = c.loop-number.invariant.exact in
    let ended = drop_views_end c.args.views.now c.loop-number.number (omega (arith, c.loop-number-test.false, c.loop-number.auto.number-end)) in
    (so_far.0, behind_end so_far.0 _ (ap (λ (l : List SplitView). behind (Ok so_far.0) (read_from c.args.schema.now c.loop-number.rest.now c.loop-number.number c.loop-number.first l)) (sym ended) ∙ so_far.2), so_far.1)

pub loop-number-init : goal.loop-number-init
loop-number-init c = record {
  room = omega arith;
  rise = c.requires.rise;
  exact = ([], c.in_ok-documents.ensures, behind_none (read_kept c.args.schema.now c.args.dropped.now c.args.views.now));
}
