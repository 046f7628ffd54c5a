use Rattle.std.proofs.Common.{◌≡◌, ◌∙◌, List, ℕ, ap, map, length, arith, ◌++◌}
use Rattle.std.proofs.Math.Logic.{∥∥₁_elim}
use Rattle.std.proofs.lemmas.List.{length-map}
use Rattle.byte_fields.specs.Spelling.{eight}
use Rattle.split_bundle.specs.Documents.{place_among}
use Rattle.split_build.proofs.DocumentLemmas.{first_of, name_within, piece_within, put_one}
use Rattle.split_build.proofs.Mere.{le_prop, lt_prop}
use Rattle.split_build.proofs.documents.DocumentLog.put_starts.Goals as goal

pub loop-piece-preserved : goal.loop-piece-preserved
loop-piece-preserved c = λ documents h.
    let size : c.len.result ≡ length c.loop-piece.area.items = omega (arith, c.loop-piece.area.ok.0, c.len.ensures) in
    put_one c.args.self.names.items c.args.partitions.now c.loop-piece.pieces.now c.in-Some.piece.now c.in-Some.behind.now c.loop-piece.rest.now c.loop-piece.area.items c.loop-piece.out.items c.args.out.now.items
    c.split_at.result.0.now c.split_at.result.1.now c.put_eight.new.out.items c.extend_from_slice.new.self.items c.in_ok-places.places.items c.index.result.now documents c.in-Some.ensures.cases.0 (c.loop-piece.invariant documents h)
    c.split_at.ensures.front c.split_at.ensures.back (c.in_ok-places.ensures ∙ ap (λ (l : List (List ℕ)). map (place_among c.args.partitions.now) l) c.deref.ensures.value) c.index.ensures
    (c.in_ok-put_eight.ensures.ok ∙ ap (λ (n : ℕ). c.loop-piece.out.items ++ eight n) size)
    (c.in_ok-extend_from_slice.ensures.items ∙ ap (λ (l : List ℕ). l ++ c.split_at.result.0.now) c.in_ok-put_varint.ensures.ok)

pub split_at-requires : goal.split_at-requires
split_at-requires c = ∥∥₁_elim c.requires (le_prop _ _) (λ r.
    let h = c.loop-piece.invariant r.0 r.1 in
    piece_within c.args.self.names.items c.in-Some.piece.now c.in-Some.behind.now c.loop-piece.rest.now h.left
    (first_of c.args.self.names.items c.loop-piece.pieces.now c.in-Some.piece.now c.in-Some.behind.now c.loop-piece.rest.now h.left c.in-Some.ensures.cases.0 h.are_pieces h.rest_is))

pub index-requires : goal.index-requires
index-requires c = ∥∥₁_elim c.requires (lt_prop _ _) (λ r.
    let h = c.loop-piece.invariant r.0 r.1 in
    let within = name_within c.args.self.names.items c.in-Some.piece.now c.in-Some.behind.now c.loop-piece.rest.now h.left
    (first_of c.args.self.names.items c.loop-piece.pieces.now c.in-Some.piece.now c.in-Some.behind.now c.loop-piece.rest.now h.left c.in-Some.ensures.cases.0 h.are_pieces h.rest_is) in
    omega (arith, within, ap (λ (l : List ℕ). length l) c.in_ok-places.ensures, length-map c.deref.result.now (place_among c.args.partitions.now), ap (λ (l : List (List ℕ)). length l) c.deref.ensures.value, c.in_ok-places.places.ok.0))
