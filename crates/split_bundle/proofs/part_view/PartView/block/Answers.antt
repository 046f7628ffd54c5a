use Rattle.std.proofs.Common.{subst, sym, ap, ◌∙◌}
use Rattle.split_bundle.specs.declared.layout.Sections.{Sections}
use Rattle.split_bundle.specs.Lists.{terms_of}
use Rattle.split_bundle.specs.Reading.{Gives}
use Rattle.split_bundle.specs.Lending.{block_part}
use Rattle.split_bundle.proofs.Lent.{block_lent}
use Rattle.split_bundle.proofs.WholeFiles.{block_there}
use Rattle.split_bundle.proofs.part_view.PartView.block.Goals as goal

pub returns-in-Ok-clause-only : goal.returns-in-Ok-clause-only
returns-in-Ok-clause-only c s documents p part =
    let same = c.sections-sections.ensures ∙ part.footer.layout.sections in
    let index = c.index.ensures ∙ part.footer.index in
    let size = ap (λ (x : Sections). x.dictionary) same in
    let at = c.in-Ok.ensures.only p.dictionary (terms_of s documents p.keys) (rw index part.is_split.dictionary) size in
    let gives = subst (λ (x : Sections). Gives (λ b. b.bytes.now) c.block_between.result (block_part x c.args.self.now.pieces c.in-Ok.start c.in-Ok.end)) same (rw (sym c.as_slice.ensures) c.block_between.ensures) in
    block_lent p c.args.self.now.pieces (terms_of s documents p.keys) c.args.number c.in-Ok.start c.in-Ok.end c.block_between.result part.pieces at gives

pub returns-in-Ok-clause-there : goal.returns-in-Ok-clause-there
returns-in-Ok-clause-there c s documents p part all =
    let same = c.sections-sections.ensures ∙ part.footer.layout.sections in
    let index = c.index.ensures ∙ part.footer.index in
    let size = ap (λ (x : Sections). x.dictionary) same in
    let at = c.in-Ok.ensures.only p.dictionary (terms_of s documents p.keys) (rw index part.is_split.dictionary) size in
    block_there p c.args.self.now.pieces (terms_of s documents p.keys) c.args.number c.in-Ok.start c.in-Ok.end c.block_between.result at all (returns-in-Ok-clause-only c s documents p part)
