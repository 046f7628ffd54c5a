-- What is asked for is within the file.
use Rattle.std.proofs.Common.{◌≡◌, ℕ, zero, suc, ◌+◌, ◌*◌, ◌≤◌, inl, inr, List, [], ◌∷◌, length, take, drop, ap, arith, length-append}
use Rattle.doc_value.specs.declared.schema.Schema.{Schema}
use Rattle.term_dict.specs.Terms.{area, term_bytes}
use Rattle.term_dict.specs.Bounds.{block_terms}
use Rattle.term_dict.specs.declared.term.Term.{Term}
use Rattle.split_bundle.specs.declared.placed.Placed.{Placed}
use Rattle.split_bundle.specs.declared.part_view.PartView.{PartView}
use Rattle.split_bundle.specs.declared.pieces.FilePiece.{FilePiece}
use Rattle.split_bundle.specs.declared.pieces.Section.TheVariants.{Columns, Dictionary, Postings, Positions}
use Rattle.split_bundle.specs.Files.{Parts, file_bytes}
use Rattle.split_bundle.specs.Lending.{IsPartOf, block_place}
use Rattle.split_bundle.specs.Lists.{terms_of}
use Rattle.split_bundle.specs.SplitReading.{IsLaidOut}
use Rattle.split_bundle.specs.Wholes.{HaveAll}
use Rattle.split_bundle.proofs.ColumnsLent.{column_stands}
use Rattle.split_bundle.proofs.Infos.{info_found}
use Rattle.split_bundle.proofs.SectionBytes.{section_within}
use Rattle.doc_sets.specs.declared.leaf_error.LeafError.{LeafError}
use Rattle.doc_sets.specs.declared.leaf_error.LeafError.TheVariants as faults
use Rattle.doc_sets.specs.declared.wanted.Wanted.{Wanted}
use Rattle.doc_sets.specs.Faults.{LacksPart, IsMemory}
use Rattle.doc_sets.specs.declared.dictionary_lookup.Lookup.{Lookup}
use Rattle.doc_sets.specs.declared.dictionary_lookup.Lookup.TheVariants.{Count, Documents, Places, Values, Walk}
use Rattle.doc_sets.specs.Asking.{AsksBlockOf, AsksListOf, AsksLookups}
use Rattle.doc_sets.specs.Needed.{IsColumnFor, IsListFor, ArePlacesFor, columns_start, postings_start, positions_start}
use Rattle.doc_sets.specs.Walks.{AsksTerms, begun_in}

take_area : (m : ℕ) (ts : List Term) → length (area (take m ts)) ≤ length (area ts)
take_area zero ts = omega arith
take_area (suc m) [] = omega arith
take_area (suc m) (t ∷ ts) = let h = take_area m ts in omega (arith, h, length-append (term_bytes t) (area (take m ts)), length-append (term_bytes t) (area ts))

-- some terms behind others are within their area
pub area_within : (k m : ℕ) (ts : List Term) → length (area (take k ts)) + length (area (take m (drop k ts))) ≤ length (area ts)
area_within zero m ts = let h = take_area m ts in omega (arith, h)
area_within (suc k) m [] = let h = take_area m [] in omega (arith, h)
area_within (suc k) m (t ∷ ts) = let h = area_within k m ts in omega (arith, h, length-append (term_bytes t) (area (take k ts)), length-append (term_bytes t) (area ts))

module _ (v : PartView) (s : Schema) (ds : List Placed) (p : Parts) (part : IsPartOf v s ds p) where
  abbrev Within : ℕ → ℕ → Type 0
  Within at len = at + len ≤ length (file_bytes p)

  block_within : (number at len : ℕ) → at ≡ block_place p (terms_of s ds p.keys) number → len ≡ length (area (block_terms (terms_of s ds p.keys) number)) → Within at len
  block_within number at len at_is len_is =
      let room = area_within (64 * number) 64 (terms_of s ds p.keys) in
      let whole : length p.dictionary ≡ length (area (terms_of s ds p.keys)) = ap length part.is_split.dictionary.area_is in
      omega (arith, at_is, len_is, room, whole, section_within Dictionary p)

  list_within : (key : List ℕ) (at len : ℕ) → IsListFor v s ds p key at len → Within at len
  list_within key at len l =
      let is = info_found s ds p key l.info part.is_split l.is_term in
      let start : postings_start v.footer.layout.sections ≡ 4 + length p.documents + length p.dictionary = ap postings_start part.footer.layout.sections in
      omega (arith, l.at_is, l.len_is, start, is.postings_within, section_within Postings p)

  places_within : (key : List ℕ) (at len : ℕ) → ArePlacesFor v s ds p key at len → Within at len
  places_within key at len l =
      let is = info_found s ds p key l.info part.is_split l.is_term in
      let start : positions_start v.footer.layout.sections ≡ 4 + length p.documents + length p.dictionary + length p.postings = ap positions_start part.footer.layout.sections in
      omega (arith, l.at_is, l.len_is, start, is.positions_within, section_within Positions p)

  terms_within : (w : Wanted) (ts : List Term) (at len : ℕ) → AsksTerms v s ds p w ts at len → Within at len
  terms_within w [] at len asked = absurd asked
  terms_within w (t ∷ ts) at len (inl asked) = list_within t.key at len asked.1
  terms_within w (t ∷ ts) at len (inr asked) = terms_within w ts at len asked

  column_within : (number at len : ℕ) → IsColumnFor v s p number at len → Within at len
  column_within number at len c =
      let laid : IsLaidOut p v.footer.layout v.footer.bytes v.pieces = record { layout_is = part.footer.layout; footer_is = part.footer.bytes; are_pieces = part.pieces } in
      let stands = column_stands v.footer.layout v.footer.bytes v.pieces s ds p c.field number part.is_split laid c.here c.fast in
      let start : columns_start v.footer.layout.sections ≡ 4 + length p.documents + length p.dictionary + length p.postings + length p.positions = ap columns_start part.footer.layout.sections in
      omega (arith, c.at_is, c.len_is, start, stands.start_is, stands.length_is, stands.at.within, stands.at.end_is, section_within Columns p)

  of_block_within : (l : Lookup) (at len : ℕ) → AsksBlockOf v s ds p l at len → Within at len
  of_block_within (Count key) at len b = block_within b.number at len b.at_is b.len_is
  of_block_within (Documents key) at len b = block_within b.number at len b.at_is b.len_is
  of_block_within (Places key) at len b = block_within b.number at len b.at_is b.len_is
  of_block_within (Walk prefix w) at len asked = block_within asked.0 at len asked.2.at_is asked.2.len_is
  of_block_within (Values number r) at len asked = absurd asked

  of_list_within : (l : Lookup) (at len : ℕ) → AsksListOf v s ds p l at len → Within at len
  of_list_within (Count key) at len asked = absurd asked
  of_list_within (Documents key) at len asked = list_within key at len asked
  of_list_within (Places key) at len (inl asked) = list_within key at len asked
  of_list_within (Places key) at len (inr asked) = places_within key at len asked
  of_list_within (Walk prefix w) at len asked = terms_within w (begun_in prefix (terms_of s ds p.keys) asked.0) at len asked.2
  of_list_within (Values number r) at len asked = column_within number at len asked

  pub lookups_within : (ls : List Lookup) (at len : ℕ) → AsksLookups v s ds p ls at len → Within at len
  lookups_within [] at len (inl asked) = absurd asked
  lookups_within [] at len (inr asked) = absurd asked
  lookups_within (l ∷ ls) at len (inl (inl asked)) = of_block_within l at len asked
  lookups_within (l ∷ ls) at len (inl (inr asked)) = lookups_within ls at len (inl asked)
  lookups_within (l ∷ ls) at len (inr (inl asked)) = of_list_within l at len asked
  lookups_within (l ∷ ls) at len (inr (inr asked)) = lookups_within ls at len (inr asked)

-- where the pieces have all of the file, want of memory is the one cause
pub only_memory : (A : ℕ → ℕ → Type 0) (file : List ℕ) (pieces : List FilePiece) (e : LeafError) → ((at len : ℕ) → A at len → at + len ≤ length file) → HaveAll file pieces → LacksPart A pieces e → IsMemory e
only_memory A file pieces (faults.Memory a) within all cause = tt
only_memory A file pieces (faults.Missing at) within all cause =
    let there = all at cause.0 (within at cause.0 cause.1) in
    let none = cause.2 in
    absurd (cc)
only_memory A file pieces (faults.Corrupt section) within all cause = absurd cause
