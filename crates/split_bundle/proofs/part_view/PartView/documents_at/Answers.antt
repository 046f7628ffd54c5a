use Rattle.std.proofs.Common.{subst, sym, ◌∙◌}
use Rattle.split_bundle.specs.Lists.{posting_list}
use Rattle.split_bundle.specs.Lending.{IsListAt}
use Rattle.split_bundle.proofs.Infos.{info_found}
use Rattle.split_bundle.proofs.WholeFiles.{documents_there}
use Rattle.split_bundle.proofs.part_view.PartView.documents_at.Goals as goal

pub returns-clause-only : goal.returns-clause-only
returns-clause-only c s documents p key part found keeps =
    let same = c.sections-sections.ensures ∙ part.footer.layout.sections in
    let at = info_found s documents p key c.args.info.now part.is_split found in
    let here = subst (λ k. IsListAt p c.args.info.now k (posting_list s documents key)) (sym keeps) at in
    rw (sym c.sections-sections.ensures, sym c.as_slice.ensures) (c.documents_over.ensures.only p (posting_list s documents key) (rw c.as_slice.ensures part.pieces) same here)

pub returns-clause-there : goal.returns-clause-there
returns-clause-there c s documents p key part all found keeps =
    let at = info_found s documents p key c.args.info.now part.is_split found in
    let here = subst (λ k. IsListAt p c.args.info.now k (posting_list s documents key)) (sym keeps) at in
    documents_there p c.args.self.now.footer.layout.sections c.args.self.now.pieces c.args.info.now c.args.positions (posting_list s documents key) c.documents_over.result part.footer.layout.sections here all (returns-clause-only c s documents p key part found keeps)
