-- What the parts of a split of documents lend.
use Rattle.std.proofs.Common.{◌≡◌, ◌≢◌, ℕ, ◌+◌, ◌-◌, ◌*◌, ◌≤◌, ◌<◌, Bool, true, false, List, [], ◌∷◌, length, take, drop, Option, Some, Result, Ok, Err, refl, sym, ap, subst, ◌∙◌, arith}
use Rattle.std.specs.List.{AllByRecursion}
use Rattle.std.proofs.Math.Nat.{pos_of_ne-zero}
use Rattle.std.proofs.lemmas.List.{length-drop, length-take-le, drop-take}
use Rattle.byte_fields.specs.declared.corrupt.Corrupt.{Corrupt}
use Rattle.term_dict.specs.Reading.{block_of}
use Rattle.term_dict.specs.Terms.{AreTerms, area}
use Rattle.term_dict.specs.Bounds.{IsBlockAt, block_terms}
use Rattle.term_dict.specs.declared.block.Block.{Block}
use Rattle.term_dict.specs.declared.term.Term.{Term}
use Rattle.term_dict.proofs.Areas.{area_nil}
use Rattle.split_bundle.specs.declared.pieces.FilePiece.{FilePiece}
use Rattle.split_bundle.specs.declared.pieces.Section.{Section}
use Rattle.split_bundle.specs.declared.pieces.Section.TheVariants.{Dictionary, Postings, Positions, Columns}
use Rattle.split_bundle.specs.declared.split_error.SplitError.{SplitError}
use Rattle.split_bundle.specs.Files.{Parts, file_bytes}
use Rattle.split_bundle.specs.Views.{sections_of}
use Rattle.split_bundle.specs.Reading.{Gives, and_then, of_section}
use Rattle.split_bundle.specs.Pieces.{section_part, start_of, bytes_of, ArePieces, LendsPart}
use Rattle.term_dict.specs.declared.term.TermInfo.{TermInfo}
use Rattle.doc_value.specs.declared.schema.Kind.{Kind}
use Rattle.fast_fields.specs.declared.rows.ColumnRow.{ColumnRow}
use Rattle.term_postings.specs.declared.list.Posting.{Posting}
use Rattle.term_postings.specs.Postings.{Fits, list_bytes, position_bytes}
use Rattle.split_bundle.specs.declared.layout.Sections.{Sections}
use Rattle.split_bundle.specs.Lending.{IsMissing, LendsBlock, block_part, places_part, IsListAt, IsColumnAt}
use Rattle.split_bundle.proofs.SectionBytes.{section_lent}

abbrev pub bytes_got : List ℕ → Result (List ℕ) SplitError
bytes_got l = Ok l

got_is : (x y : List ℕ) → bytes_got x ≡ bytes_got y → x ≡ y
got_is x y e = cc

-- ---- a block

block_read : (pieces : List FilePiece) (at : ℕ) (ts : List Term) (found : List ℕ) (r : Result Block SplitError) → AreTerms ts → ts ≢ [] → found ≡ area ts
    → Gives (λ b. b.bytes.now) r (of_section 2 (block_of found)) → LendsBlock pieces at ts r
block_read pieces at ts [] r are some is gives = absurd (some (area_nil ts (ap (λ (l : List ℕ). length l) (sym is))))
block_read pieces at ts (x ∷ xs) (Ok b) are some is gives = record { are_terms = are; bytes = sym (got_is (x ∷ xs) b.bytes.now gives) ∙ is }
block_read pieces at ts (x ∷ xs) (Err e) are some is gives = absurd cc

block_lends : (pieces : List FilePiece) (at : ℕ) (ts : List Term) (part : Result (List ℕ) SplitError) (r : Result Block SplitError) → AreTerms ts → ts ≢ [] → LendsPart pieces at (area ts) part
    → Gives (λ b. b.bytes.now) r (and_then part (λ bytes. of_section 2 (block_of bytes))) → LendsBlock pieces at ts r
block_lends pieces at ts (Ok found) r are some lends gives = block_read pieces at ts found r are some lends gives
block_lends pieces at ts (Err e) (Ok b) are some lends gives = absurd cc
block_lends pieces at ts (Err e) (Err f) are some lends gives =
    let same : e ≡ f = cc in
    subst (λ (x : SplitError). IsMissing pieces at (length (area ts)) x) same lends

pub block_lent : (p : Parts) (pieces : List FilePiece) (terms : List Term) (number start end : ℕ) (r : Result Block SplitError) → ArePieces (file_bytes p) pieces → IsBlockAt p.dictionary terms number start end
    → Gives (λ b. b.bytes.now) r (block_part (sections_of p) pieces start end) → LendsBlock pieces (start_of Dictionary (sections_of p) + length (area (take (64 * number) terms))) (block_terms terms number) r
unfolding block_part
block_lent p pieces terms number start end r are is gives =
    let filled : 0 < length (area (block_terms terms number)) = pos_of_ne-zero (λ none. is.some (area_nil (block_terms terms number) none)) in
    let sum : start + (end - start) ≡ end = omega (arith, filled, ap (λ (l : List ℕ). length l) is.bytes_are, length-drop start (take end p.dictionary), length-take-le end p.dictionary is.within) in
    let bytes : take (end - start) (drop start p.dictionary) ≡ area (block_terms terms number) =
    sym (drop-take start (end - start) p.dictionary) ∙ ap (λ (n : ℕ). drop start (take n p.dictionary)) sum ∙ is.bytes_are in
    let part = section_lent Dictionary p pieces start (end - start) are (omega (arith, is.within)) in
    let there : LendsPart pieces (start_of Dictionary (sections_of p) + start) (area (block_terms terms number)) (section_part Dictionary (sections_of p) pieces start (end - start)) =
    subst (λ (l : List ℕ). LendsPart pieces (start_of Dictionary (sections_of p) + start) l (section_part Dictionary (sections_of p) pieces start (end - start))) bytes part in
    subst (λ (n : ℕ). LendsBlock pieces (start_of Dictionary (sections_of p) + n) (block_terms terms number) r) is.start_is
    (block_lends pieces (start_of Dictionary (sections_of p) + start) (block_terms terms number) (section_part Dictionary (sections_of p) pieces start (end - start)) r is.are_terms is.some there gives)

-- ---- a list and a column

-- the bytes that a part of a section gives
pub part_is : (pieces : List FilePiece) (at : ℕ) (bytes found : List ℕ) (part : Result (List ℕ) SplitError) → LendsPart pieces at bytes part → part ≡ bytes_got found → found ≡ bytes
part_is pieces at bytes found (Ok x) lends e = sym (got_is x found e) ∙ lends
part_is pieces at bytes found (Err f) lends e = absurd cc

pub part_missing : (pieces : List FilePiece) (at len : ℕ) (bytes : List ℕ) (e : SplitError) (part : Result (List ℕ) SplitError) → LendsPart pieces at bytes part → part ≡ Err e → length bytes ≡ len → IsMissing pieces at len e
part_missing pieces at len bytes e (Ok x) lends is size = absurd cc
part_missing pieces at len bytes e (Err f) lends is size =
    let same : f ≡ e = cc in
    subst (λ (n : ℕ). IsMissing pieces at n e) size (subst (λ (x : SplitError). IsMissing pieces at (length bytes) x) same lends)

module _ (p : Parts) (sections : Sections) (pieces : List FilePiece) (are : ArePieces (file_bytes p) pieces) (same : sections ≡ sections_of p) where
  pub lent_of : (section : Section) (from len : ℕ) (bytes : List ℕ) → from + len ≤ length (bytes_of section p) → take len (drop from (bytes_of section p)) ≡ bytes
      → LendsPart pieces (start_of section sections + from) bytes (section_part section sections pieces from len)
  lent_of section from len bytes le is =
      subst (λ (x : Sections). LendsPart pieces (start_of section x + from) bytes (section_part section x pieces from len)) (sym same)
      (subst (λ (l : List ℕ). LendsPart pieces (start_of section (sections_of p) + from) l (section_part section (sections_of p) pieces from len)) is (section_lent section p pieces from len are le))

  module _ (info : TermInfo) (counted : Bool) (list : List Posting) (at : IsListAt p info counted list) where
    postings_lent : LendsPart pieces (start_of Postings sections + info.postings) (list_bytes counted list) (section_part Postings sections pieces info.postings info.postings_len)
    postings_lent = lent_of Postings info.postings info.postings_len (list_bytes counted list) at.postings_within at.postings

    positions_lent : LendsPart pieces (start_of Positions sections + info.positions) (position_bytes list) (section_part Positions sections pieces info.positions info.positions_len)
    positions_lent = lent_of Positions info.positions info.positions_len (position_bytes list) at.positions_within at.positions

    pub list_found : (found : List ℕ) → section_part Postings sections pieces info.postings info.postings_len ≡ bytes_got found → found ≡ list_bytes counted list
    list_found found e = part_is pieces (start_of Postings sections + info.postings) (list_bytes counted list) found (section_part Postings sections pieces info.postings info.postings_len) postings_lent e

    pub list_missing : (e : SplitError) → section_part Postings sections pieces info.postings info.postings_len ≡ Err e → IsMissing pieces (start_of Postings sections + info.postings) info.postings_len e
    list_missing e is =
        part_missing pieces (start_of Postings sections + info.postings) info.postings_len (list_bytes counted list) e (section_part Postings sections pieces info.postings info.postings_len) postings_lent is
        (ap (λ (l : List ℕ). length l) (sym at.postings) ∙ length-take-le info.postings_len (drop info.postings p.postings) (omega (arith, at.postings_within, length-drop info.postings p.postings)))

    positions_long : length (position_bytes list) ≡ info.positions_len
    positions_long = ap (λ (l : List ℕ). length l) (sym at.positions) ∙ length-take-le info.positions_len (drop info.positions p.positions) (omega (arith, at.positions_within, length-drop info.positions p.positions))

    positions_found : (found : List ℕ) → section_part Positions sections pieces info.positions info.positions_len ≡ bytes_got found → found ≡ position_bytes list
    positions_found found e = part_is pieces (start_of Positions sections + info.positions) (position_bytes list) found (section_part Positions sections pieces info.positions info.positions_len) positions_lent e

    positions_missing : (e : SplitError) → section_part Positions sections pieces info.positions info.positions_len ≡ Err e → IsMissing pieces (start_of Positions sections + info.positions) info.positions_len e
    positions_missing e is =
        part_missing pieces (start_of Positions sections + info.positions) info.positions_len (position_bytes list) e (section_part Positions sections pieces info.positions info.positions_len) positions_lent is positions_long

  pub column_lent : (kind : Kind) (rows : List ColumnRow) (start end : ℕ) (at : IsColumnAt p kind rows start end) → LendsPart pieces (start_of Columns sections + start) at.column (section_part Columns sections pieces start (end - start))
  column_lent kind rows start end at = lent_of Columns start (end - start) at.column (omega (arith, at.within, at.end_is)) at.bytes_are

-- a list without positions has no bytes of them
no_places : (ps : List Posting) → AllByRecursion (Fits false) ps → position_bytes ps ≡ []
no_places [] fits = refl
no_places (p ∷ ps) fits = rw fits.0.may_have (no_places ps fits.1)

pub places_found : (counted : Bool) (p : Parts) (sections : Sections) (pieces : List FilePiece) (info : TermInfo) (list : List Posting) (found : List ℕ) → ArePieces (file_bytes p) pieces → sections ≡ sections_of p → IsListAt p info counted list
    → places_part counted sections pieces info ≡ bytes_got found → found ≡ position_bytes list
unfolding places_part
places_found true p sections pieces info list found are same at e = positions_found p sections pieces are same info true list at found e
places_found false p sections pieces info list found are same at e = sym (got_is [] found e) ∙ sym (no_places list at.are_documents.fits)

pub places_missing : (counted : Bool) (p : Parts) (sections : Sections) (pieces : List FilePiece) (info : TermInfo) (list : List Posting) (e : SplitError) → ArePieces (file_bytes p) pieces → sections ≡ sections_of p → IsListAt p info counted list
    → places_part counted sections pieces info ≡ Err e → (counted ≡ true) × IsMissing pieces (start_of Positions sections + info.positions) info.positions_len e
unfolding places_part
places_missing true p sections pieces info list e are same at is = (refl, positions_missing p sections pieces are same info true list at e is)
places_missing false p sections pieces info list e are same at is = absurd cc

abbrev place_got : ℕ × ℕ → Result (Option (ℕ × ℕ)) Corrupt
place_got x = Ok (Some x)

pub place_is : (x y : ℕ × ℕ) → place_got x ≡ place_got y → x ≡ y
place_is x y e = cc
