use Rattle.std.proofs.Common.{◌≡◌, ◌∙◌, ◌++◌, List, ℕ, ap, map}
use Rattle.std.specs.List.{flat_map}
use Rattle.std.proofs.Math.Logic.{∥∥₁_elim}
use Rattle.byte_fields.specs.Spelling.{eight, varint}
use Rattle.split_bundle.specs.Documents.{joined, place_among, starts}
use Rattle.split_build.proofs.Mere.{all_prop, lt_prop}
use Rattle.split_merge.specs.declared.lent_documents.LentDocument.{LentDocument}
use Rattle.split_merge.specs.LentDocuments.{IsNumbered, in_bytes}
use Rattle.split_merge.proofs.LentLemmas.{all_numbered, section_lent}
use Rattle.split_merge.proofs.lent_documents.LentDocuments.put_section.Goals as goal

pub put_starts-requires : goal.put_starts-requires
put_starts-requires c =
    let is : c.in_ok-places.places.items ≡ map varint (map (place_among c.args.partitions.now) c.args.self.now.names.items) =
    c.in_ok-places.ensures ∙ ap (λ (ns : List ℕ). map varint ns) (c.deref-2.ensures.value ∙ c.in_ok-numbers.ensures ∙ ap (λ (l : List (List ℕ)). map (place_among c.args.partitions.now) l) c.deref.ensures.value) in
    ∥∥₁_elim c.requires (all_prop (IsNumbered c.deref-4.result.now) (λ d. lt_prop _ _) c.deref-3.result.now)
    (λ r. rw (c.deref-3.ensures.value, c.deref-4.ensures.value) (all_numbered c.args.self.now r.0 c.args.partitions.now c.in_ok-places.places.items is r.1))

pub put_documents-requires : goal.put_documents-requires
put_documents-requires c =
    let is : c.in_ok-places.places.items ≡ map varint (map (place_among c.args.partitions.now) c.args.self.now.names.items) =
    c.in_ok-places.ensures ∙ ap (λ (ns : List ℕ). map varint ns) (c.deref-2.ensures.value ∙ c.in_ok-numbers.ensures ∙ ap (λ (l : List (List ℕ)). map (place_among c.args.partitions.now) l) c.deref.ensures.value) in
    ∥∥₁_elim c.requires (all_prop (IsNumbered c.deref-6.result.now) (λ d. lt_prop _ _) c.deref-5.result.now)
    (λ r. rw (c.deref-5.ensures.value, c.deref-6.ensures.value) (all_numbered c.args.self.now r.0 c.args.partitions.now c.in_ok-places.places.items is r.1))

pub returns : goal.returns
returns c = λ ds h.
    let is : c.in_ok-places.places.items ≡ map varint (map (place_among c.args.partitions.now) c.args.self.now.names.items) =
    c.in_ok-places.ensures ∙ ap (λ (ns : List ℕ). map varint ns) (c.deref-2.ensures.value ∙ c.in_ok-numbers.ensures ∙ ap (λ (l : List (List ℕ)). map (place_among c.args.partitions.now) l) c.deref.ensures.value) in
    section_lent c.args.self.now ds c.args.partitions.now c.in_ok-places.places.items c.args.out.now.items c.put_starts.new.out.items c.put_documents.new.out.items is h
    (c.in_ok-put_starts.ensures ∙ ap (λ (bs : List LentDocument). c.args.out.now.items ++ flat_map eight (starts 0 (in_bytes c.deref-4.result.now bs))) c.deref-3.ensures.value
    ∙ ap (λ (ps : List (List ℕ)). c.args.out.now.items ++ flat_map eight (starts 0 (in_bytes ps c.args.self.now.documents.items))) c.deref-4.ensures.value)
    (c.in_ok-put_documents.ensures ∙ ap (λ (bs : List LentDocument). c.put_starts.new.out.items ++ joined (in_bytes c.deref-6.result.now bs)) c.deref-5.ensures.value
    ∙ ap (λ (ps : List (List ℕ)). c.put_starts.new.out.items ++ joined (in_bytes ps c.args.self.now.documents.items)) c.deref-6.ensures.value)
