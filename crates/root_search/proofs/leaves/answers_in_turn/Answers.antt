use Rattle.std.proofs.Common.{◌≡◌, ◌+◌, [], ◌∷◌, ◌++◌, take, ap, sym, subst, ◌∙◌}
use Rattle.std.specs.List.{AllZip}
use Rattle.std.proofs.lemmas.List.{take_all, take_more}
use Rattle.std.proofs.lemmas.Slice.Zip.{all_zipped_more}
use Rattle.root_search.specs.Leaves.{IsLeafAnswer}
use Rattle.root_search.proofs.leaves.answers_in_turn.Goals as goal

pub loop-view-preserved : goal.loop-view-preserved
loop-view-preserved c =
    let i = c.loop-view.view-index in
    let views = c.args.views.now in
    let answers = c.loop-view.answers.items in
    let IsAnswer = IsLeafAnswer c.args.schema.now c.args.request.now in
    let front : take (i + 1) views ≡ take i views ++ c.view-item.result ∷ [] =
    take_more views i c.view-item.result c.loop-view-test.true ∙ ap (λ view. take i views ++ view ∷ []) (sym c.view-item.is) in
    let both = all_zipped_more IsAnswer (take i views) answers c.view-item.result c.leaf_of.result c.loop-view.invariant c.leaf_of.ensures in
    subst (λ more. AllZip IsAnswer (take (i + 1) views) more) (sym c.in_ok-push.ensures.items) (subst (λ front. AllZip IsAnswer front (answers ++ c.leaf_of.result ∷ [])) (sym front) both)

pub returns : goal.returns
returns c =
    subst (λ views. AllZip (IsLeafAnswer c.args.schema.now c.args.request.now) views c.loop-view.answers.items) (take_all c.loop-view.view-index c.args.views.now c.loop-view-test.false) c.loop-view.invariant
