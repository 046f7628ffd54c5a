use Rattle.std.proofs.Common.{◌≡◌, ◌∙◌, inr, refl, sym, ap, length, arith}
use Rattle.std.proofs.lemmas.Option.{slice_get_within}
use Rattle.split_bundle.specs.declared.placed.Placed.{Placed}
use Rattle.split_bundle.specs.DocLending.{doc_place}
use Rattle.split_bundle.specs.Documents.{placed_bytes}
use Rattle.leaf_search.specs.Shown.{BytesOf}
use Rattle.leaf_search.proofs.RangeLists.{At, parts_alike}
use Rattle.leaf_search.proofs.Suffices.{document_within}
use Rattle.leaf_search.proofs.shown.name_bytes.Goals as goal

pub returns : goal.returns
returns c = λ s documents p d part here.
    let v = c.args.view.now in
    let number = c.args.number in
    let start = c.in_ok-start.start in
    let len = c.in_ok-start.len in
    let range = c.in_ok-start.ensures.only s documents p d part here in
    let inside = document_within v s documents p part number (doc_place p documents number) (length (placed_bytes p.partitions d)) (slice_get_within documents number d here) (inr (d, here, refl, refl)) in
    let room = v.footer.room in
    parts_alike (At start len) (BytesOf p documents number) c.args.ranges.now c.name_part.new.ranges
    (λ a n h. (d, here, h.0 ∙ range.0, h.1 ∙ range.1))
    (λ a n h. let same : h.0 ≡ d = cc in (h.2 ∙ sym range.0, h.3 ∙ (ap (λ (x : Placed). length (placed_bytes p.partitions x)) same ∙ sym range.1)))
    (c.in_ok-name_part.ensures (omega (arith, range.0, range.1, inside.1, room)))
