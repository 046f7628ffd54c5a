-- What is read of views of splits: their documents.
use Rattle.std.proofs.Common.{◌≡◌, ℕ, zero, suc, ◌+◌, ◌<◌, ◌≤◌, ◌^◌, Bool, true, false, List, [], ◌∷◌, ◌++◌, length, drop, Some, Result, Ok, Err, refl, sym, ap, ◌∙◌, inl, inr, arith}
use Rattle.std.specs.Prelude.{slice_get, if◌then◌else◌}
use Rattle.doc_value.specs.Documents.{IsOfSchema}
use Rattle.doc_value.specs.declared.schema.Schema.{Schema}
use Rattle.split_bundle.specs.declared.layout.Layout.{Layout}
use Rattle.split_bundle.specs.declared.placed.Placed.{Placed}
use Rattle.split_bundle.specs.declared.split_error.SplitError.{SplitError}
use Rattle.split_bundle.specs.declared.split_view.SplitView.{SplitView}
use Rattle.split_bundle.specs.DocLending.{LendsDoc, doc_place, starts_place}
use Rattle.split_bundle.specs.DocReading.{doc_part, partition_in, placed_in, stored_in}
use Rattle.split_bundle.specs.Documents.{place_among, placed_bytes}
use Rattle.split_bundle.specs.Files.{Parts, file_bytes, footer_bytes}
use Rattle.split_bundle.specs.Held.{IsHeld}
use Rattle.split_bundle.specs.Reading.{and_then, of_section}
use Rattle.split_bundle.specs.SplitViews.{IsViewOf, pieces_of}
use Rattle.split_bundle.proofs.DocNames.{partition_again, partition_stands}
use Rattle.split_bundle.proofs.DocsAgain.{stored_again}
use Rattle.split_bundle.proofs.DocsLent.{all_at, doc_lent, doc_within, got_bytes, place_short}
use Rattle.split_bundle.proofs.Footers.{length-file}
use Rattle.split_bundle.proofs.ViewsLent.{all_there, pieces_are}
use Rattle.split_bundle.proofs.WholeFiles.{never_missing}
use Rattle.split_merge.specs.declared.merge_error.MergeError.{MergeError}
use Rattle.split_merge.specs.Keeping.{AreViewsOf, is_named, joined, kept, kept_from}
use Rattle.split_merge.specs.Reading.{behind, document_of, documents_of, of_view, read_from, read_kept, unless}
use Rattle.split_merge.proofs.KeptLemmas.{drop_at, kept_append}

abbrev got_placed : Placed → Result Placed SplitError
got_placed d = Ok d

abbrev pub got_documents : List Placed → Result (List Placed) SplitError
got_documents ds = Ok ds

abbrev pub got_all : List Placed → Result (List Placed) MergeError
got_all ds = Ok ds

-- the document that is read of some bytes
abbrev read_of : Schema → Layout → List ℕ → List ℕ → Result Placed SplitError
read_of s layout footer found = and_then (of_section 1 (stored_in s.fields found)) (λ stored. and_then (partition_in footer layout.partitions stored.place) (λ name. Ok (record { partition = name; offset = stored.offset; doc = stored.doc })))

module _ (v : SplitView) (s : Schema) (documents : List Placed) (p : Parts) (is : IsViewOf v s documents p) where
  module _ (number : ℕ) (d : Placed) (here : slice_get documents number ≡ Some d) where
    -- its bytes are there
    pub part_is : doc_part v.layout (pieces_of v) number ≡ got_bytes (placed_bytes p.partitions d)
    part_is = given (doc_part v.layout (pieces_of v) number) (doc_lent s documents p is.is_split v.layout is.layout (pieces_of v) (pieces_are v s documents p is) number d here)
      where
        within : (starts_place number + 16 ≤ length (file_bytes p)) × (doc_place p documents number + length (placed_bytes p.partitions d) ≤ length (file_bytes p))
        within = doc_within s documents p is.is_split v.layout is.layout (pieces_of v) (pieces_are v s documents p is) number d here

        given : (part : Result (List ℕ) SplitError) → LendsDoc (pieces_of v) (starts_place number) (doc_place p documents number) (placed_bytes p.partitions d) part → part ≡ got_bytes (placed_bytes p.partitions d)
        given (Ok found) lends = ap got_bytes lends
        given (Err e) (inl missing) = absurd (never_missing (file_bytes p) (pieces_of v) (starts_place number) 16 e (all_there v s documents p is) within.0 missing)
        given (Err e) (inr missing) = absurd (never_missing (file_bytes p) (pieces_of v) (doc_place p documents number) (length (placed_bytes p.partitions d)) e (all_there v s documents p is) within.1 missing)

    doc_read : read_of s v.layout (footer_bytes p) (placed_bytes p.partitions d) ≡ got_placed d
    doc_read =
        let among = partition_stands documents p.partitions number d is.is_split.partitions here in
        let place = place_short s documents p is.is_split v.layout is.layout (pieces_of v) (pieces_are v s documents p is) number d here in
        let within = doc_within s documents p is.is_split v.layout is.layout (pieces_of v) (pieces_are v s documents p is) number d here in
        let of_schema = all_at (λ (x : Placed). IsOfSchema s x.doc) documents number d is.is_split.are_documents.of_schema here in
        let held = all_at IsHeld documents number d is.is_split.are_documents.held here in
        let stored = stored_again s p.partitions d is.is_split.are_documents.schema of_schema held place (omega (arith, within.1, is.is_split.size)) in
        let short : length (footer_bytes p) < 2 ^ 64 = omega (arith, length-file p, is.is_split.size) in
        let name = partition_again (footer_bytes p) short v.layout.partitions p.partitions (place_among p.partitions d.partition) d.partition is.layout.partitions is.is_split.partitions.names among in
        rw (stored, name) refl

    pub document_is : document_of s v number ≡ got_placed d
    unfolding placed_in
    document_is =
        ap (λ (r : Result (List ℕ) SplitError). and_then r (read_of s v.layout v.footer.now)) part_is ∙ ap (λ (l : List ℕ). read_of s v.layout l (placed_bytes p.partitions d)) is.footer ∙ doc_read

  pub docs_are : v.layout.docs ≡ length documents
  docs_are = is.layout.docs ∙ is.is_split.docs

  -- so many documents from one on
  documents_from : (dropped : List ℕ) (place doc left : ℕ) → doc + left ≡ length documents → documents_of s dropped v place doc left ≡ got_documents (kept_from place dropped (drop doc documents))
  documents_from dropped place doc zero ends = ap (λ (ds : List Placed). got_documents (kept_from place dropped ds)) (sym (drop_end documents doc (omega (arith, ends))))
    where
      drop_end : (ds : List Placed) (n : ℕ) → n ≡ length ds → drop n ds ≡ []
      drop_end [] zero e = refl
      drop_end [] (suc n) e = absurd (omega arith)
      drop_end (x ∷ xs) zero e = absurd (omega arith)
      drop_end (x ∷ xs) (suc n) e = drop_end xs n (omega (arith, e))
  documents_from dropped place doc (suc left) ends =
      let at = drop_at documents doc (omega (arith, ends)) in
      let next : doc + 1 ≡ suc doc = omega arith in
      let more = documents_from dropped (suc place) (suc doc) left (omega (arith, ends)) in
      let rest : List Placed = kept_from (suc place) dropped (drop (suc doc) documents) in
      ap (λ (r : Result (List Placed) SplitError). behind (unless (is_named place dropped) (document_of s v doc)) r) more
      ∙ ap (λ (r : Result Placed SplitError). behind (unless (is_named place dropped) r) (got_documents rest)) (document_is doc at.0 at.1)
      ∙ by at.0 rest (is_named place dropped)
      ∙ ap (λ (n : ℕ). got_documents (if is_named place dropped then kept_from (suc place) dropped (drop n documents) else at.0 ∷ kept_from (suc place) dropped (drop n documents))) (sym next)
      ∙ ap (λ (ds : List Placed). got_documents (kept_from place dropped ds)) (sym at.2)
    where
      by : (d : Placed) (rest : List Placed) (b : Bool) → behind (unless b (got_placed d)) (got_documents rest) ≡ got_documents (if b then rest else d ∷ rest)
      by d rest true = refl
      by d rest false = refl

  pub documents_are : (dropped : List ℕ) (place : ℕ) → documents_of s dropped v place 0 v.layout.docs ≡ got_documents (kept_from place dropped documents)
  documents_are dropped place = documents_from dropped place 0 v.layout.docs (omega (arith, docs_are))

-- what is read of views of splits
reads_from : (s : Schema) (dropped : List ℕ) (number place : ℕ) (views : List SplitView) (lists : List (List Placed)) → AreViewsOf s views lists → read_from s dropped number place views ≡ got_all (kept_from place dropped (joined lists))
reads_from s dropped number place [] [] are = refl
reads_from s dropped number place [] (ds ∷ dss) are = absurd are
reads_from s dropped number place (v ∷ vs) [] are = absurd are
reads_from s dropped number place (v ∷ vs) (ds ∷ dss) are =
    let docs = docs_are v s ds are.0.0 are.0.1 in
    ap (λ (r : Result (List Placed) SplitError). behind (of_view number r) (read_from s dropped (suc number) (place + v.layout.docs) vs)) (documents_are v s ds are.0.0 are.0.1 dropped place)
    ∙ ap (λ (r : Result (List Placed) MergeError). behind (got_all (kept_from place dropped ds)) r) (reads_from s dropped (suc number) (place + v.layout.docs) vs dss are.1)
    ∙ ap (λ (n : ℕ). got_all (kept_from place dropped ds ++ kept_from (place + n) dropped (joined dss))) docs
    ∙ ap got_all (sym (kept_append place dropped ds (joined dss)))

pub reads_are : (s : Schema) (dropped : List ℕ) (views : List SplitView) (lists : List (List Placed)) → AreViewsOf s views lists → read_kept s dropped views ≡ got_all (kept dropped (joined lists))
reads_are s dropped views lists are = reads_from s dropped 0 0 views lists are
