use Rattle.std.proofs.Common.{◌≡◌, ◌∙◌, ◌+◌, refl, ap, arith}
use Rattle.split_bundle.specs.declared.footer.Footer.{Footer}
use Rattle.split_bundle.specs.declared.layout.Sections.{Sections}
use Rattle.doc_sets.specs.Needed.{IsListFor, postings_start}
use Rattle.leaf_search.specs.FileRanges.{AddsParts}
use Rattle.leaf_search.proofs.BlockParts.{on_ok}
use Rattle.leaf_search.proofs.ListParts.{list_named, listed}
use Rattle.leaf_search.proofs.RangeLists.{At}
use Rattle.leaf_search.proofs.list_ranges.name_list.Goals as goal

pub returns : goal.returns
returns c = λ s documents p key is found.
    let v = c.args.part.now in
    let info = c.args.info.now in
    let fits = listed v s documents p key info is.part found in
    let sections : c.sections-sections.result ≡ v.footer.layout.sections = c.sections-sections.ensures ∙ ap (λ (g : Footer). g.layout.sections) c.footer.ensures in
    let documents_are = ap (λ (l : Sections). l.documents) sections in
    let dictionary_is = ap (λ (l : Sections). l.dictionary) sections in
    let at : c.saturating_add-at.result ≡ postings_start v.footer.layout.sections + info.postings =
    omega (arith, c.saturating_add.ensures, c.saturating_add-2.ensures, c.saturating_add-at.ensures, documents_are, dictionary_is, fits.start_is, fits.fits) in
    on_ok (AddsParts (At c.saturating_add-at.result info.postings_len) c.args.ranges.now c.name_part.new.ranges) (AddsParts (IsListFor v s documents p key) c.args.ranges.now c.name_part.new.ranges) c.name_part.result
    (λ adds. list_named v s documents p key info c.saturating_add-at.result info.postings_len c.args.ranges.now c.name_part.new.ranges found at refl adds)
    (c.name_part.ensures (omega (arith, at, fits.start_is, fits.fits)))
