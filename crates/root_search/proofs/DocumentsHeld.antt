-- A view that has the section of documents is one of a single list of documents.
use Rattle.std.proofs.Common.{◌≡◌, ◌≢◌, ℕ, zero, suc, ◌+◌, ◌-◌, ◌*◌, ◌<◌, ◌≤◌, inl, inr, Bool, true, false, if◌then◌else◌, List, [], ◌∷◌, length, get_or, Option, Some, None, Result, Ok, Err, refl, ap, sym, ◌∙◌, arith, slice_get}
use Rattle.std.specs.List.{AllZip}
use Rattle.std.specs.declared.alloc.AllocError.{AllocError}
use Rattle.std.proofs.lemmas.Option.{slice_get_within}
use Rattle.byte_fields.specs.declared.corrupt.Corrupt.{Corrupt}
use Rattle.doc_value.specs.declared.schema.Schema.{Schema}
use Rattle.split_bundle.specs.declared.layout.Layout.{Layout}
use Rattle.split_bundle.specs.declared.layout.Sections.{Sections}
use Rattle.split_bundle.specs.declared.layout.Table.{Table}
use Rattle.split_bundle.specs.declared.part_view.PartView.{PartView}
use Rattle.split_bundle.specs.declared.pieces.FilePiece.{FilePiece}
use Rattle.split_bundle.specs.declared.pieces.Section.{Section}
use Rattle.split_bundle.specs.declared.pieces.Section.TheVariants.{Documents}
use Rattle.split_bundle.specs.declared.placed.Placed.{Placed}
use Rattle.split_bundle.specs.declared.split_error.SplitError.{SplitError}
use Rattle.split_bundle.specs.declared.split_error.SplitError.TheVariants.{Memory, BadMagic, BadSection, BadVersion, Truncated}
use Rattle.split_bundle.specs.DocLending.{LendsPlaced, doc_place, starts_place}
use Rattle.split_bundle.specs.DocReading.{bounds_in, doc_part, is_partition, name_at, partition_in, partition_of, placed_in, stored_in}
use Rattle.split_bundle.specs.Documents.{placed_bytes}
use Rattle.split_bundle.specs.Files.{Parts}
use Rattle.split_bundle.specs.Lending.{IsPartOf}
use Rattle.split_bundle.specs.Pieces.{held_in, held_or, number_of, part_in, section_part, start_of}
use Rattle.split_bundle.specs.Reading.{MayGive, and_then, of_section}
use Rattle.split_bundle.proofs.DocsLent.{placed_lent}
use Rattle.leaf_search.proofs.Suffices.{behind_there, document_within, else_there, inside_there, none}
use Rattle.root_search.specs.FetchedSplits.{HasDocuments, IsLentOf}
use Rattle.root_search.specs.declared.fetched_splits.KeptPiece.{KeptPiece}

-- ---- what is read of pieces never wants memory

record NeverWants {A : Type 0} (r : Result A SplitError) : Type 0 where
  never : (a : AllocError) → r ≡ Err (Memory a) → ⊥

then_never : {A B : Type 0} (r : Result A SplitError) (f : A → Result B SplitError) → NeverWants r → ((x : A) → NeverWants (f x)) → NeverWants (and_then r f)
then_never (Ok x) f here next = next x
then_never {A = A} (Err e) f here next = record { never = λ a same. let is : e ≡ Memory a = cc in here.never a (ap (λ (x : SplitError). Err x) is) }

ok_never : {A : Type 0} (x : A) → NeverWants {A = A} (Ok x)
ok_never x = record { never = λ a same. cc }

section_never : {A : Type 0} (number : ℕ) → NeverWants {A = A} (Err (BadSection number))
section_never number = record { never = λ a same. cc }

of_never : {A : Type 0} (number : ℕ) (r : Result A Corrupt) → NeverWants (of_section number r)
of_never number (Ok x) = ok_never x
of_never number (Err c) = section_never number

if_never : {A : Type 0} (b : Bool) (x y : Result A SplitError) → NeverWants x → NeverWants y → NeverWants (if b then x else y)
if_never true x y one other = one
if_never false x y one other = other

held_never : (at : ℕ) (o : Option (List ℕ)) → NeverWants (held_or at o)
held_never at None = record { never = λ a same. cc }
held_never at (Some bytes) = ok_never bytes

part_never : (section : Section) (sections : Sections) (pieces : List FilePiece) (from len : ℕ) → NeverWants (section_part section sections pieces from len)
unfolding section_part
part_never section sections pieces from len =
    if_never _ _ _ (section_never (number_of section)) (if_never _ _ _ (section_never (number_of section)) (held_never (start_of section sections + from) (held_in pieces (start_of section sections + from) len)))

doc_never : (layout : Layout) (pieces : List FilePiece) (number : ℕ) → NeverWants (doc_part layout pieces number)
unfolding doc_part
doc_never layout pieces number =
    then_never (section_part Documents layout.sections pieces (8 * number) 16) _ (part_never Documents layout.sections pieces (8 * number) 16)
    (λ starts. then_never (of_section 1 (bounds_in starts)) _ (of_never 1 (bounds_in starts)) (λ bounds. part_never Documents layout.sections pieces (8 * (layout.docs + 1) + bounds.0) (bounds.1 - bounds.0)))

partition_never : (footer : List ℕ) (table : Table) (place : ℕ) → NeverWants (partition_in footer table place)
unfolding partition_in
partition_never footer table place = if_never _ _ _ (then_never (of_section 6 (name_at footer table.at place)) partition_of (of_never 6 (name_at footer table.at place)) (λ name. if_never (is_partition name) _ _ (ok_never name) (section_never 6))) (section_never 1)

-- what is read of a view as the document with a number
abbrev pub read_in : Schema → PartView → ℕ → Result Placed SplitError
read_in s v number = placed_in s.fields v.footer.layout v.footer.bytes v.pieces number

read_never : (s : Schema) (v : PartView) (number : ℕ) → NeverWants (read_in s v number)
unfolding placed_in
read_never s v number =
    then_never (doc_part v.footer.layout v.pieces number) _ (doc_never v.footer.layout v.pieces number)
    (λ bytes. then_never (of_section 1 (stored_in s.fields bytes)) _ (of_never 1 (stored_in s.fields bytes))
    (λ stored. then_never (partition_in v.footer.bytes v.footer.layout.partitions stored.place) _ (partition_never v.footer.bytes v.footer.layout.partitions stored.place)
    (λ name. ok_never (record { partition = name; offset = stored.offset; doc = stored.doc }))))

-- ---- the documents of a view

abbrev got_placed : Placed → Result Placed SplitError
got_placed d = Ok d

self_given : (r : Result Placed SplitError) → MayGive {X = Placed} (λ x. x) r r
self_given (Ok d) = refl
self_given (Err (Memory a)) = tt
self_given (Err BadMagic) = refl
self_given (Err (Truncated at)) = refl
self_given (Err (BadSection number)) = refl
self_given (Err (BadVersion number)) = refl

lent_is : (pieces : List FilePiece) (starts at len : ℕ) (d : Placed) (r : Result Placed SplitError) → NeverWants r → held_in pieces starts 16 ≢ none → held_in pieces at len ≢ none → LendsPlaced pieces starts at len d r → r ≡ got_placed d
lent_is pieces starts at len d (Ok x) never one other lends = ap got_placed lends
lent_is pieces starts at len d (Err (Memory a)) never one other lends = absurd (never.never a refl)
lent_is pieces starts at len d (Err BadMagic) never one other lends = absurd lends
lent_is pieces starts at len d (Err (Truncated place)) never one other (inl missing) = absurd (one missing.1)
lent_is pieces starts at len d (Err (Truncated place)) never one other (inr missing) = absurd (other missing.1)
lent_is pieces starts at len d (Err (BadSection number)) never one other lends = absurd lends
lent_is pieces starts at len d (Err (BadVersion number)) never one other lends = absurd lends

read_of : (s : Schema) (v : PartView) (documents : List Placed) (p : Parts) → IsPartOf v s documents p → HasDocuments v → (number : ℕ) (d : Placed) → slice_get documents number ≡ Some d → read_in s v number ≡ got_placed d
read_of s v documents p is has number d here =
    let long = length (placed_bytes p.partitions d) in
    let low = slice_get_within documents number d here in
    let one = document_within v s documents p is number (starts_place number) 16 low (inl (refl, refl)) in
    let other = document_within v s documents p is number (doc_place p documents number) long low (inr (d, here, refl, refl)) in
    lent_is v.pieces (starts_place number) (doc_place p documents number) long d (read_in s v number) (read_never s v number) (has (starts_place number) 16 one.0 one.1) (has (doc_place p documents number) long other.0 other.1)
    (placed_lent s documents p is.is_split v.footer.layout is.footer.layout v.pieces is.pieces number d here v.footer.bytes is.footer.bytes (read_in s v number) (self_given (read_in s v number)))

abbrev with_read : Result Placed SplitError → List Placed → List Placed
with_read (Ok d) documents = d ∷ documents
with_read (Err e) documents = documents

-- so many documents from one on, as they are read
abbrev pub documents_from : (ℕ → Result Placed SplitError) → (number many : ℕ) → List Placed
documents_from read number zero = []
documents_from read number (suc many) = with_read (read number) (documents_from read (suc number) many)

all_read : (read : ℕ → Result Placed SplitError) (number : ℕ) (documents : List Placed) → ((i : ℕ) (d : Placed) → slice_get documents i ≡ Some d → read (number + i) ≡ got_placed d) → documents_from read number (length documents) ≡ documents
all_read read number [] each = refl
all_read read number (d ∷ documents) each =
    let first : number ≡ number + 0 = omega arith in
    let here : read number ≡ got_placed d = ap read first ∙ each 0 d refl in
    let rest = all_read read (suc number) documents (λ i x at. let next : suc number + i ≡ number + suc i = omega arith in ap read next ∙ each (suc i) x at) in
    ap (λ (r : Result Placed SplitError). with_read r (documents_from read (suc number) (length documents))) here ∙ ap (λ (l : List Placed). d ∷ l) rest

-- those of a view
abbrev pub documents_of : Schema → PartView → List Placed
documents_of s v = documents_from (read_in s v) 0 v.footer.layout.docs

pub same_documents : (s : Schema) (v : PartView) (documents : List Placed) (p : Parts) → IsPartOf v s documents p → HasDocuments v → documents_of s v ≡ documents
same_documents s v documents p is has =
    let many : v.footer.layout.docs ≡ length documents = is.footer.layout.docs ∙ is.is_split.docs in
    ap (documents_from (read_in s v) 0) many ∙ all_read (read_in s v) 0 documents (λ i d here. let at : 0 + i ≡ i = omega arith in ap (read_in s v) at ∙ read_of s v documents p is has i d here)

-- ---- the section of documents in what is kept

section_held : (kept : List KeptPiece) (pieces : List FilePiece) (i : ℕ) (k : KeptPiece) (size at len : ℕ) → AllZip IsLentOf kept pieces → i < length kept → k ≡ get_or kept i k → k.start ≡ 4 → size ≤ length k.bytes → 4 ≤ at → at + len ≤ 4 + size → held_in pieces at len ≢ none
section_held [] pieces i k size at len lent low here start long from until = absurd (omega (arith, low))
section_held (x ∷ kept) [] i k size at len lent low here start long from until = absurd lent
section_held (x ∷ kept) (piece ∷ pieces) zero k size at len lent low here start long from until =
    let first : piece.start ≡ 4 = lent.0.start ∙ (ap (λ (y : KeptPiece). y.start) (sym here) ∙ start) in
    let wide : length piece.bytes.now ≡ length k.bytes = ap (λ (l : List ℕ). length l) lent.0.bytes ∙ ap (λ (y : KeptPiece). length y.bytes) (sym here) in
    else_there (part_in piece at len) (held_in pieces at len)
    (inside_there piece at len (record { behind = omega (arith, first, from); before = omega (arith, first, wide, long, from, until); room = omega (arith, first, wide, long, from, until) }))
section_held (x ∷ kept) (piece ∷ pieces) (suc i) k size at len lent low here start long from until =
    behind_there (part_in piece at len) (held_in pieces at len) (section_held kept pieces i k size at len lent.1 (omega (arith, low)) here start long from until)

pub documents_held : (v : PartView) (kept items : List KeptPiece) (i : ℕ) (k : KeptPiece) (size : ℕ) → AllZip IsLentOf kept v.pieces → items ≡ kept → i < length items → k ≡ get_or items i k → size ≡ v.footer.layout.sections.documents
    → k.start ≡ 4 → size ≤ length k.bytes → HasDocuments v
documents_held v kept items i k size lent all low here same start long at len from until =
    section_held kept v.pieces i k size at len lent (omega (arith, low, ap length all)) (here ∙ ap (λ (l : List KeptPiece). get_or l i k) all) start long from (omega (arith, until, same))
