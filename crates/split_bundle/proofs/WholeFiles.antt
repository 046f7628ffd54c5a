-- A whole file, and pieces that have every part of it.
use Rattle.std.proofs.Common.{◌≡◌, ℕ, ◌+◌, ◌-◌, ◌*◌, ◌<◌, ◌≤◌, Bool, List, [], ◌∷◌, ◌++◌, length, take, drop, Option, Some, Result, Ok, Err, refl, sym, ap, subst, ◌∙◌, inl, inr, arith, length-append}
use Rattle.std.specs.Prelude.{IfOk, IsOk}
use Rattle.std.proofs.Math.Nat.{pos_of_ne-zero}
use Rattle.std.proofs.lemmas.Bool.{le-ltb}
use Rattle.std.proofs.lemmas.List.{append-nil, length-drop, length-take-le}
use Rattle.term_dict.specs.Terms.{area}
use Rattle.term_dict.specs.Bounds.{IsBlockAt, block_terms}
use Rattle.term_dict.specs.declared.block.Block.{Block}
use Rattle.term_dict.specs.declared.term.Term.{Term}
use Rattle.term_dict.specs.declared.term.TermInfo.{TermInfo}
use Rattle.term_dict.proofs.Areas.{area_nil}
use Rattle.term_postings.specs.declared.cursor.Cursor.{Cursor}
use Rattle.term_postings.specs.declared.list.Posting.{Posting}
use Rattle.doc_value.specs.declared.schema.Kind.{Kind}
use Rattle.doc_value.specs.declared.schema.Schema.{Schema}
use Rattle.fast_fields.specs.declared.rows.ColumnRow.{ColumnRow}
use Rattle.split_bundle.specs.declared.layout.Sections.{Sections}
use Rattle.split_bundle.specs.declared.part_view.PartView.{PartView}
use Rattle.split_bundle.specs.declared.pieces.FilePiece.{FilePiece}
use Rattle.split_bundle.specs.declared.pieces.Section.TheVariants.{Dictionary, Postings, Positions, Columns}
use Rattle.split_bundle.specs.declared.placed.Address.{Address}
use Rattle.split_bundle.specs.declared.placed.Placed.{Placed}
use Rattle.split_bundle.specs.declared.split_error.SplitError.{SplitError}
use Rattle.split_bundle.specs.declared.split_error.SplitError.TheVariants.{Memory, BadMagic, BadSection, BadVersion, Truncated}
use Rattle.split_bundle.specs.Files.{Parts, head, sections_bytes, ending, footer_bytes, file_bytes}
use Rattle.split_bundle.specs.Splits.{IsSplitOf}
use Rattle.split_bundle.specs.Views.{held, sections_of, IsEndOf}
use Rattle.split_bundle.specs.Reading.{MayGive, footer_of}
use Rattle.split_bundle.specs.Pieces.{part_in, start_of, ArePieces}
use Rattle.split_bundle.specs.Lending.{IsMissing, IsListAt, IsColumnAt, LendsBlock, LendsCursor, LendsDocuments}
use Rattle.split_bundle.specs.DocLending.{LendsAddress, LendsPlaced}
use Rattle.split_bundle.specs.Heads.{head_in}
use Rattle.split_bundle.specs.Wholes.{whole_of, HaveAll, IsWholePiece, HasWhole, ReadsWhole, IsThere}
use Rattle.split_bundle.proofs.Footers.{FooterStands, footer_stands, whole_is, length-file}
use Rattle.split_bundle.proofs.SectionBytes.{section_within}

-- ---- the head

abbrev done : Result (Unit {0}) SplitError
done = Ok tt

pub head_found : (rest : List ℕ) → head_in (head ++ rest) ≡ done
unfolding head_in
head_found rest = rw (le-ltb (length (head ++ rest)) 4 (omega (arith, length-append head rest))) refl

pub head_of_file : (p : Parts) (bytes : List ℕ) → bytes ≡ file_bytes p → head_in bytes ≡ done
unfolding file_bytes
head_of_file p bytes e = rw e (head_found (sections_bytes p ++ ending (footer_bytes p)))

-- ---- one piece that is the whole file

abbrev some : List ℕ → Option (List ℕ)
some l = Some l

part_there : (piece : FilePiece) (at len : ℕ) → piece.start ≤ at → at - piece.start + len ≤ length piece.bytes.now → part_in piece at len ≡ some (take len (drop (at - piece.start) piece.bytes.now))
part_there piece at len above le = rw (le-ltb at piece.start above, le-ltb (length piece.bytes.now) (at - piece.start) (omega arith), le-ltb (length piece.bytes.now - (at - piece.start)) len (omega arith)) refl

pub all_held : (file : List ℕ) (piece : FilePiece) → IsWholePiece file piece → HaveAll file (piece ∷ [])
all_held file piece whole at len le =
    let size : length piece.bytes.now ≡ length file = ap (λ (l : List ℕ). length l) whole.bytes in
    let place : at - piece.start ≡ at = omega (arith, whole.start) in
    let there = part_there piece at len (omega (arith, whole.start)) (omega (arith, whole.start, size)) in
    rw there (ap (λ (n : ℕ). some (take len (drop n piece.bytes.now))) place ∙ ap (λ (l : List ℕ). some (take len (drop at l))) whole.bytes)

pub whole_all : (file : List ℕ) (r : Result PartView SplitError) → IfOk r (HasWhole file) → IfOk r (λ v. HaveAll file v.pieces)
whole_all file (Ok v) piece = subst (λ (ps : List FilePiece). HaveAll file ps) (sym piece.1) (all_held file piece.0 piece.2)
whole_all file (Err e) piece = tt

pub whole_pieces : (file : List ℕ) (piece : FilePiece) → IsWholePiece file piece → ArePieces file (piece ∷ [])
whole_pieces file piece whole = (record { before = []; behind = []; parts = sym whole.bytes ∙ sym (append-nil piece.bytes.now); start = whole.start }, tt)

-- ---- its view

pub whole_ends : (p : Parts) (bytes : List ℕ) → bytes ≡ file_bytes p → IsEndOf p bytes (length bytes)
whole_ends p bytes e =
    let zero : length bytes - length bytes ≡ 0 = omega arith in
    record { size_is = ap (λ (l : List ℕ). length l) e; within = omega arith; tail_is = rw zero e }

module _ (s : Schema) (documents : List Placed) (p : Parts) (is : IsSplitOf s documents p) (bytes : List ℕ) (e : bytes ≡ file_bytes p) where
  found : FooterStands p bytes (length bytes)
  found = footer_stands s documents p is bytes (length bytes) (whole_ends p bytes e) (omega (arith, ap (λ (l : List ℕ). length l) e, length-file p))

  whole_is_footer : whole_of bytes ≡ footer_of (length bytes) bytes
  unfolding whole_of
  whole_is_footer = rw (head_of_file p bytes e) refl

  pub whole_read : (r : Result PartView SplitError) → IfOk r (HasWhole bytes) → MayGive (λ v. held v.footer) r (whole_of bytes) → ReadsWhole s documents p r
  whole_read (Ok v) pieces gives =
      let piece = pieces in
      let all = whole_pieces bytes piece.0 piece.2 in
      record {
        is_split = is;
        footer = whole_is p (Ok v.footer) (whole_of bytes) found.layout gives (whole_is_footer ∙ found.is) found.laid;
        pieces = subst (λ (l : List ℕ). ArePieces l v.pieces) e (subst (λ (ps : List FilePiece). ArePieces bytes ps) (sym piece.1) all);
      }
  whole_read (Err (Memory a)) pieces gives = tt
  whole_read (Err BadMagic) pieces gives = whole_is p (Err BadMagic) (whole_of bytes) found.layout gives (whole_is_footer ∙ found.is) found.laid
  whole_read (Err (Truncated at)) pieces gives = whole_is p (Err (Truncated at)) (whole_of bytes) found.layout gives (whole_is_footer ∙ found.is) found.laid
  whole_read (Err (BadSection number)) pieces gives = whole_is p (Err (BadSection number)) (whole_of bytes) found.layout gives (whole_is_footer ∙ found.is) found.laid
  whole_read (Err (BadVersion number)) pieces gives = whole_is p (Err (BadVersion number)) (whole_of bytes) found.layout gives (whole_is_footer ∙ found.is) found.laid

-- ---- what is never missing

pub never_missing : (file : List ℕ) (pieces : List FilePiece) (at len : ℕ) (e : SplitError) → HaveAll file pieces → at + len ≤ length file → IsMissing pieces at len e → ⊥
never_missing file pieces at len e all le missing =
    let there = all at len le in
    let none = missing.1 in
    absurd cc

pub block_there : (p : Parts) (pieces : List FilePiece) (terms : List Term) (number start end : ℕ) (r : Result Block SplitError) → IsBlockAt p.dictionary terms number start end → HaveAll (file_bytes p) pieces
    → LendsBlock pieces (start_of Dictionary (sections_of p) + length (area (take (64 * number) terms))) (block_terms terms number) r → IsOk r
block_there p pieces terms number start end (Ok b) is all lends = refl
block_there p pieces terms number start end (Err e) is all lends =
    let filled : 0 < length (area (block_terms terms number)) = pos_of_ne-zero (λ none. is.some (area_nil (block_terms terms number) none)) in
    let long : length (area (block_terms terms number)) ≡ end - start = ap (λ (l : List ℕ). length l) (sym is.bytes_are) ∙ length-drop start (take end p.dictionary) ∙ ap (λ (n : ℕ). n - start) (length-take-le end p.dictionary is.within) in
    absurd (never_missing (file_bytes p) pieces (start_of Dictionary (sections_of p) + length (area (take (64 * number) terms))) (length (area (block_terms terms number))) e all
    (omega (arith, filled, long, is.start_is, is.within, section_within Dictionary p)) lends)

pub cursor_there : (p : Parts) (sections : Sections) (pieces : List FilePiece) (info : TermInfo) (positions : Bool) (list : List Posting) (r : Result Cursor SplitError) → sections ≡ sections_of p → IsListAt p info positions list
    → HaveAll (file_bytes p) pieces → LendsCursor sections pieces info positions list r → IsOk r
cursor_there p sections pieces info positions list (Ok c) same at all lends = refl
cursor_there p sections pieces info positions list (Err e) same at all lends =
    let lists : start_of Postings sections + info.postings + info.postings_len ≤ length (file_bytes p) = rw same (omega (arith, section_within Postings p, at.postings_within)) in
    let places : start_of Positions sections + info.positions + info.positions_len ≤ length (file_bytes p) = rw same (omega (arith, section_within Positions p, at.positions_within)) in
    elim lends [
      | inl missing ↦ absurd (never_missing (file_bytes p) pieces (start_of Postings sections + info.postings) info.postings_len e all lists missing)
      | inr missing ↦ absurd (never_missing (file_bytes p) pieces (start_of Positions sections + info.positions) info.positions_len e all places missing.1)
    ]

pub documents_there : (p : Parts) (sections : Sections) (pieces : List FilePiece) (info : TermInfo) (positions : Bool) (list : List Posting) (r : Result Cursor SplitError) → sections ≡ sections_of p → IsListAt p info positions list
    → HaveAll (file_bytes p) pieces → LendsDocuments sections pieces info list r → IsOk r
documents_there p sections pieces info positions list (Ok c) same at all lends = refl
documents_there p sections pieces info positions list (Err e) same at all lends =
    let lists : start_of Postings sections + info.postings + info.postings_len ≤ length (file_bytes p) = rw same (omega (arith, section_within Postings p, at.postings_within)) in
    absurd (never_missing (file_bytes p) pieces (start_of Postings sections + info.postings) info.postings_len e all lists lends)

pub placed_there : (file : List ℕ) (pieces : List FilePiece) (starts at len : ℕ) (d : Placed) (r : Result Placed SplitError) → starts + 16 ≤ length file → at + len ≤ length file → HaveAll file pieces
    → LendsPlaced pieces starts at len d r → IsThere r
placed_there file pieces starts at len d (Ok other) starts_within within all lends = tt
placed_there file pieces starts at len d (Err (Memory a)) starts_within within all lends = tt
placed_there file pieces starts at len d (Err BadMagic) starts_within within all lends = absurd lends
placed_there file pieces starts at len d (Err (Truncated n)) starts_within within all lends = elim lends [
  | inl missing ↦ never_missing file pieces starts 16 (Truncated n) all starts_within missing
  | inr missing ↦ never_missing file pieces at len (Truncated n) all within missing
]
placed_there file pieces starts at len d (Err (BadSection n)) starts_within within all lends = absurd lends
placed_there file pieces starts at len d (Err (BadVersion n)) starts_within within all lends = absurd lends

pub address_there : (file : List ℕ) (pieces : List FilePiece) (starts at len : ℕ) (d : Placed) (r : Result Address SplitError) → starts + 16 ≤ length file → at + len ≤ length file → HaveAll file pieces
    → LendsAddress pieces starts at len d r → IsOk r
address_there file pieces starts at len d (Ok a) starts_within within all lends = refl
address_there file pieces starts at len d (Err e) starts_within within all lends = absurd (elim lends [
  | inl missing ↦ never_missing file pieces starts 16 e all starts_within missing
  | inr missing ↦ never_missing file pieces at len e all within missing
])

pub column_not_missing : (p : Parts) (sections : Sections) (pieces : List FilePiece) (rows : List ColumnRow) (kind : Kind) (start end : ℕ) (e : SplitError) → sections ≡ sections_of p → IsColumnAt p kind rows start end → HaveAll (file_bytes p) pieces
    → IsMissing pieces (start_of Columns sections + start) (end - start) e → ⊥
column_not_missing p sections pieces rows kind start end e same at all missing =
    let room : start_of Columns sections + start + (end - start) ≤ length (file_bytes p) = rw same (omega (arith, section_within Columns p, at.within, at.end_is)) in
    never_missing (file_bytes p) pieces (start_of Columns sections + start) (end - start) e all room missing
