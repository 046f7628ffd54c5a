use Rattle.std.proofs.Common.{◌≡◌, ◌∙◌, ap, sym, arith}
use Rattle.split_bundle.specs.declared.footer.Footer.{Footer}
use Rattle.split_bundle.specs.declared.layout.Sections.{Sections}
use Rattle.leaf_search.specs.FileRanges.{AddsParts}
use Rattle.leaf_search.specs.Needs.{NeedsDocuments}
use Rattle.leaf_search.proofs.BlockParts.{on_ok}
use Rattle.leaf_search.proofs.LeafSteps.{positive}
use Rattle.leaf_search.proofs.RangeLists.{At, none_added, parts_alike}
use Rattle.leaf_search.proofs.needed.name_documents.Goals as goal

pub returns-then-request-eq0 : goal.returns-then-request-eq0
returns-then-request-eq0 c = none_added (NeedsDocuments c.args.part.now c.args.request.now) c.args.ranges.now (λ a n h. omega (arith, h.0, c.if-request-eq0.true))

pub returns : goal.returns
returns c =
    let v = c.args.part.now in
    let r = c.args.request.now in
    let old = c.args.ranges.now in
    let new = c.name_part.new.ranges in
    let size = c.sections.result.documents in
    let same : size ≡ v.footer.layout.sections.documents = ap (λ (l : Sections). l.documents) (c.sections.ensures ∙ ap (λ (g : Footer). g.layout.sections) c.footer.ensures) in
    let room = v.footer.room in
    on_ok (AddsParts (At 4 size) old new) (AddsParts (NeedsDocuments v r) old new) c.name_part.result
    (λ adds. parts_alike (At 4 size) (NeedsDocuments v r) old new (λ a n h. (positive r.wanted c.if-request-eq0.false, h.0, h.1 ∙ same)) (λ a n h. (h.1, h.2 ∙ sym same)) adds)
    (c.name_part.ensures (omega (arith, same, room)))
