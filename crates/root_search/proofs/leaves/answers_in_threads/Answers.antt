use Rattle.std.proofs.Common.{ap, subst, sym, ◌∙◌}
use Rattle.std.specs.List.{AllZip}
use Rattle.rayon.proofs.ListFacts.{IfOk-then}
use Rattle.rayon.proofs.ToStd.{slice-AllZip}
use Rattle.root_search.specs.Leaves.{IsLeafAnswer}
use Rattle.root_search.proofs.leaves.answers_in_threads.Goals as goal

pub returns : goal.returns
returns g c =
    let slice = ap (λ it. it.base.slice.now) c.map.ensures.base ∙ (ap (λ it. it.slice.now) c.with_min_len-asked.ensures.base ∙ c.par_iter.ensures) in
    IfOk-then c.collect.result _ _ c.collect.ensures (λ v h.
    let told = slice-AllZip h.1.0 c.args.views.now (h.1.1 ∙ slice) (IsLeafAnswer c.map.result.f.1.now c.map.result.f.2.now) h.0 h.1.2 in
    subst (λ answers. AllZip (IsLeafAnswer c.args.schema.now c.args.request.now) c.args.views.now answers) (sym h.2)
    (subst (λ f. AllZip (IsLeafAnswer f.1.now f.2.now) c.args.views.now h.0) c.map.ensures.f told))
