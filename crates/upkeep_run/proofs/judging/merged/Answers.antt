use Rattle.std.proofs.Common.{◌≡◌, ◌∙◌, ℕ, suc, ◌+◌, List, ◌++◌, ◌∷◌, [], take, sym, subst, arith, Some, Err}
use Rattle.std.proofs.lemmas.List.{take_all}
use Rattle.std.specs.Prelude.{slice_get}
use Rattle.split_bundle.specs.declared.placed.Placed.{Placed}
use Rattle.split_bundle.specs.declared.split_view.SplitView.{SplitView}
use Rattle.split_merge.specs.Keeping.{AreViewsOf}
use Rattle.split_merge.specs.declared.merge_error.MergeError.{MergeError}
use Rattle.std.specs.List.{AllZip}
use Rattle.upkeep_run.specs.Judging.{AreRead, HasNoSplit, MergesFiles}
use Rattle.upkeep_run.proofs.Corrupted.{Viewed, if_no_split, unread_none, zip_more}
use Rattle.upkeep_run.proofs.Judged.{all_lists, file_at, of_unread, of_views, read_more, splits_at, views_more}
use Rattle.upkeep_run.proofs.judging.merged.Goals as goal

pub returns-in-Err-clause-exact : goal.returns-in-Err-clause-exact
returns-in-Err-clause-exact c =
    subst (λ (e : MergeError). MergesFiles c.args.schema.now c.args.dropped.now c.args.files.now (Err e)) (sym c.unread.ensures)
    (of_unread c.args.schema.now c.args.dropped.now c.args.files.now c.loop-number.number c.as_slice.result.now c.in-Err.error (file_at c.args.files.now c.loop-number.number c.index-files-number.result c.as_slice.result.now (omega (arith, c.loop-number-test.true)) (c.as_slice.ensures ∙ c.index-files-number.is)) c.in-Err.ensures.exact)

pub returns-in-Err-clause-only : goal.returns-in-Err-clause-only
returns-in-Err-clause-only c = λ lists are.
    let at = splits_at c.args.schema.now c.args.files.now lists c.loop-number.number c.as_slice.result.now (file_at c.args.files.now c.loop-number.number c.index-files-number.result c.as_slice.result.now (omega (arith, c.loop-number-test.true)) (c.as_slice.ensures ∙ c.index-files-number.is)) are in
    absurd (c.in-Err.ensures.only c.args.schema.now at.0 at.2.parts at.2.is_split at.2.bytes_are)

pub loop-number-preserved : goal.loop-number-preserved
loop-number-preserved c =
    let there : slice_get c.args.files.now c.loop-number.number ≡ Some c.as_slice.result.now = file_at c.args.files.now c.loop-number.number c.index-files-number.result c.as_slice.result.now (omega (arith, c.loop-number-test.true)) (c.as_slice.ensures ∙ c.index-files-number.is) in
    let next : suc c.loop-number.number ≡ c.loop-number.number + 1 = omega arith in
    record {
      read =
          subst (λ (vs : List SplitView). AreRead (take (c.loop-number.number + 1) c.args.files.now) vs) (sym c.in-Ok-push.ensures.items)
          (subst (λ (m : ℕ). AreRead (take m c.args.files.now) (c.loop-number.views.items ++ c.in-Ok.view ∷ [])) next
          (read_more c.args.files.now c.loop-number.views.items c.loop-number.number c.as_slice.result.now c.in-Ok.view there (record { bytes_are = c.in-Ok.ensures.whole; footer = c.in-Ok.ensures.exact }) c.loop-number.invariant.read));
      each =
          subst (λ (vs : List SplitView). AllZip (Viewed c.args.schema.now) (take (c.loop-number.number + 1) c.args.files.now) vs) (sym c.in-Ok-push.ensures.items)
          (subst (λ (m : ℕ). AllZip (Viewed c.args.schema.now) (take m c.args.files.now) (c.loop-number.views.items ++ c.in-Ok.view ∷ [])) next
          (zip_more (Viewed c.args.schema.now) c.args.files.now c.loop-number.views.items c.loop-number.number c.as_slice.result.now c.in-Ok.view there
          (λ documents split. (split.parts, c.in-Ok.ensures.only c.args.schema.now documents split.parts split.is_split split.bytes_are)) c.loop-number.invariant.each));
      only = λ lists are.
          let at = splits_at c.args.schema.now c.args.files.now lists c.loop-number.number c.as_slice.result.now there are in
          subst (λ (vs : List SplitView). AreViewsOf c.args.schema.now vs (take (c.loop-number.number + 1) lists)) (sym c.in-Ok-push.ensures.items)
          (subst (λ (m : ℕ). AreViewsOf c.args.schema.now (c.loop-number.views.items ++ c.in-Ok.view ∷ []) (take m lists)) next
          (views_more c.args.schema.now c.loop-number.views.items lists c.loop-number.number at.0 c.in-Ok.view at.1 (at.2.parts, c.in-Ok.ensures.only c.args.schema.now at.0 at.2.parts at.2.is_split at.2.bytes_are) (c.loop-number.invariant.only lists are)));
    }

pub returns-clause-only : goal.returns-clause-only
returns-clause-only c = λ lists are.
    c.merge.ensures.only lists (
    subst (λ (vs : List SplitView). AreViewsOf c.args.schema.now vs lists) (sym c.as_slice-2.ensures.value)
    (subst (λ (l : List (List Placed)). AreViewsOf c.args.schema.now c.loop-number.views.items l) (all_lists c.args.schema.now c.args.files.now lists c.loop-number.number (omega (arith, c.loop-number-test.false)) are) (c.loop-number.invariant.only lists are))
    )

pub returns-clause-exact : goal.returns-clause-exact
returns-clause-exact c =
    of_views c.args.schema.now c.args.dropped.now c.args.files.now c.merge.result (
      c.as_slice-2.result.now,
      subst (λ (vs : List SplitView). AreRead c.args.files.now vs) (sym c.as_slice-2.ensures.value)
          (subst (λ (fs : List (List ℕ)). AreRead fs c.loop-number.views.items) (take_all c.loop-number.number c.args.files.now (omega (arith, c.loop-number-test.false))) c.loop-number.invariant.read),
      c.merge.ensures.exact,
    )

pub returns-in-Err-clause-cause : goal.returns-in-Err-clause-cause
returns-in-Err-clause-cause c =
    subst (λ (e : MergeError). HasNoSplit c.args.schema.now c.args.files.now e) (sym c.unread.ensures)
    (unread_none c.args.schema.now c.args.files.now c.loop-number.number c.as_slice.result.now c.in-Err.error (file_at c.args.files.now c.loop-number.number c.index-files-number.result c.as_slice.result.now (omega (arith, c.loop-number-test.true)) (c.as_slice.ensures ∙ c.index-files-number.is))
    (λ documents split. absurd (c.in-Err.ensures.only c.args.schema.now documents split.parts split.is_split split.bytes_are)))

pub returns-clause-cause : goal.returns-clause-cause
returns-clause-cause c =
    if_no_split c.args.schema.now c.args.files.now c.as_slice-2.result.now c.merge.result
    (subst (λ (vs : List SplitView). AllZip (Viewed c.args.schema.now) c.args.files.now vs) (sym c.as_slice-2.ensures.value)
    (subst (λ (fs : List (List ℕ)). AllZip (Viewed c.args.schema.now) fs c.loop-number.views.items) (take_all c.loop-number.number c.args.files.now (omega (arith, c.loop-number-test.false))) c.loop-number.invariant.each)) c.merge.ensures.cause
