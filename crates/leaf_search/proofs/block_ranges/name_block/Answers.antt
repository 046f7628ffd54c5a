use Rattle.std.proofs.Common.{◌≡◌, ◌∙◌, ◌+◌, ◌-◌, List, ap, sym, subst, arith, length}
use Rattle.term_dict.specs.Terms.{IsDict}
use Rattle.term_dict.specs.declared.index.BlockStart.{BlockStart}
use Rattle.split_bundle.specs.declared.footer.Footer.{Footer}
use Rattle.split_bundle.specs.declared.layout.Sections.{Sections}
use Rattle.split_bundle.specs.Lists.{terms_of}
use Rattle.doc_sets.specs.Walks.{IsBlock}
use Rattle.leaf_search.specs.FileRanges.{AddsParts}
use Rattle.leaf_search.proofs.BlockParts.{block_named, on_ok, placed}
use Rattle.leaf_search.proofs.RangeLists.{At}
use Rattle.leaf_search.proofs.block_ranges.name_block.Goals as goal

pub returns-in-Ok : goal.returns-in-Ok
returns-in-Ok c = λ v s documents p same part.
    let f = c.args.footer.now in
    let n = c.args.number in
    let terms = terms_of s documents p.keys in
    let indexed : c.index.result.now ≡ p.index = c.index.ensures ∙ (ap (λ (g : Footer). g.index) (sym same) ∙ part.footer.index) in
    let dict = subst (λ (ix : List BlockStart). IsDict p.dictionary ix terms) (sym indexed) part.is_split.dictionary in
    let size : c.sections-sections.result.dictionary ≡ length p.dictionary = ap (λ (l : Sections). l.dictionary) (c.sections-sections.ensures ∙ (ap (λ (g : Footer). g.layout.sections) (sym same) ∙ part.footer.layout.sections)) in
    let at_block = c.in-Ok.ensures.only p.dictionary terms dict size in
    let is = placed v s documents p part n c.in-Ok.start c.in-Ok.end at_block in
    let documents_are : c.sections-sections.result.documents ≡ v.footer.layout.sections.documents = ap (λ (l : Sections). l.documents) (c.sections-sections.ensures ∙ ap (λ (g : Footer). g.layout.sections) (sym same)) in
    let at : c.saturating_add-at.result ≡ 4 + v.footer.layout.sections.documents + c.in-Ok.start = omega (arith, c.saturating_add-at.ensures, c.saturating_add.ensures, documents_are, is.fits) in
    let len : c.saturating_sub.result ≡ c.in-Ok.end - c.in-Ok.start = c.saturating_sub.ensures in
    on_ok (AddsParts (At c.saturating_add-at.result c.saturating_sub.result) c.args.ranges.now c.name_part.new.ranges) (AddsParts (IsBlock s documents p n) c.args.ranges.now c.name_part.new.ranges) c.name_part.result
    (λ adds. block_named v s documents p part n c.in-Ok.start c.in-Ok.end c.saturating_add-at.result c.saturating_sub.result c.args.ranges.now c.name_part.new.ranges is at len adds)
    (c.name_part.ensures (omega (arith, at, len, is.fits)))

pub returns-in-Err : goal.returns-in-Err
returns-in-Err c = λ v s documents p same part.
    let n = c.args.number in
    let terms = terms_of s documents p.keys in
    let indexed : c.index.result.now ≡ p.index = c.index.ensures ∙ (ap (λ (g : Footer). g.index) (sym same) ∙ part.footer.index) in
    let dict = subst (λ (ix : List BlockStart). IsDict p.dictionary ix terms) (sym indexed) part.is_split.dictionary in
    let size : c.sections-sections.result.dictionary ≡ length p.dictionary = ap (λ (l : Sections). l.dictionary) (c.sections-sections.ensures ∙ (ap (λ (g : Footer). g.layout.sections) (sym same) ∙ part.footer.layout.sections)) in
    absurd (c.in-Err.ensures.only p.dictionary terms dict size)
