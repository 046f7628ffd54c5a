-- A document of a split is lent and read.
use Rattle.std.proofs.Common.{◌≡◌, ℕ, zero, suc, ◌+◌, ◌-◌, ◌*◌, ◌<◌, ◌≤◌, ◌^◌, List, [], ◌∷◌, ◌++◌, length, take, Some, Result, Ok, Err, refl, sym, ap, subst, ◌∙◌, inl, inr, ◌⊎◌, min, arith, length-append}
use Rattle.std.specs.List.{slice_get, AllByRecursion}
use Rattle.std.proofs.lemmas.Bool.{cases_lt, lt-ltb, le-ltb}
use Rattle.std.proofs.lemmas.List.{append-nil}
use Rattle.std.proofs.lemmas.Option.{slice_get_within}
use Rattle.byte_fields.specs.declared.corrupt.Corrupt.{Corrupt}
use Rattle.byte_fields.specs.Spelling.{varint, eight}
use Rattle.byte_fields.proofs.Taken.{eight_again}
use Rattle.term_dict.proofs.Areas.{drop_behind}
use Rattle.doc_value.specs.declared.schema.Schema.{Schema}
use Rattle.doc_value.specs.Documents.{IsOfSchema}
use Rattle.split_bundle.specs.declared.layout.Layout.{Layout}
use Rattle.split_bundle.specs.declared.layout.Sections.{Sections}
use Rattle.split_bundle.specs.declared.pieces.FilePiece.{FilePiece}
use Rattle.split_bundle.specs.declared.pieces.Section.{Section}
use Rattle.split_bundle.specs.declared.pieces.Section.TheVariants.{Documents}
use Rattle.split_bundle.specs.declared.placed.Address.{Address}
use Rattle.split_bundle.specs.declared.placed.Placed.{Placed}
use Rattle.split_bundle.specs.declared.split_error.SplitError.{SplitError}
use Rattle.split_bundle.specs.declared.split_error.SplitError.TheVariants.{Memory, BadMagic, BadSection, BadVersion, Truncated}
use Rattle.split_bundle.specs.Documents.{placed_bytes, doc_bytes, weight, place_among, each_in_bytes, joined}
use Rattle.split_bundle.specs.Files.{Parts, file_bytes, footer_bytes}
use Rattle.split_bundle.specs.Splits.{IsSplitOf, max_weight}
use Rattle.split_bundle.specs.Views.{IsLayoutOf}
use Rattle.split_bundle.specs.Reading.{Gives, MayGive, and_then, of_section}
use Rattle.split_bundle.specs.Pieces.{section_part, size_of, ArePieces, LendsPart}
use Rattle.split_bundle.specs.Lending.{IsMissing}
use Rattle.split_bundle.specs.DocReading.{bounds_in, stored_in, partition_in, doc_part, doc_range, range_within, weight_in, stand_in, address_in, placed_in}
use Rattle.split_bundle.specs.Held.{IsHeld}
use Rattle.split_bundle.specs.DocLending.{LendsDoc, LendsAddress, LendsPlaced, LendsRange, starts_place, doc_place}
use Rattle.split_bundle.proofs.Lent.{lent_of}
use Rattle.split_bundle.proofs.SectionBytes.{section_within}
use Rattle.split_bundle.proofs.Footers.{length-file}
use Rattle.split_bundle.proofs.DocsAgain.{stored_again}
use Rattle.split_bundle.proofs.Light.{each_light}
use Rattle.split_bundle.proofs.Spelled.{number_again}
use Rattle.split_bundle.proofs.DocNames.{partition_stands, partition_again}
use Rattle.split_bundle.proofs.DocStands.{StandsIn, some_is, stands_in_section, each_at, length-each}

-- behind its section nothing is read, wherever
pub section_past : (section : Section) (sections : Sections) (pieces : List FilePiece) (from other len : ℕ) → size_of section sections < from → size_of section sections < other
    → section_part section sections pieces from len ≡ section_part section sections pieces other len
unfolding section_part
section_past section sections pieces from other len past beyond = rw (lt-ltb (size_of section sections) from past, lt-ltb (size_of section sections) other beyond) refl

-- the same place, or one behind a section that has not so many bytes
saturated : (section : Section) (sections : Sections) (pieces : List FilePiece) (place from len : ℕ) → from ≡ min place (2 ^ 64 - 1) → size_of section sections < 2 ^ 64 - 1
    → section_part section sections pieces place len ≡ section_part section sections pieces from len
saturated section sections pieces place from len is small = elim (cases_lt place (2 ^ 64 - 1)) [
  | inl less ↦ let same : place ≡ from = omega (arith, is) in ap (λ (n : ℕ). section_part section sections pieces n len) same
  | inr more ↦ section_past section sections pieces place from len (omega arith) (omega (arith, is))
]

abbrev pub got_bytes : List ℕ → Result (List ℕ) SplitError
got_bytes l = Ok l

pub doc_part_is : (layout : Layout) (pieces : List FilePiece) (number : ℕ) (starts : List ℕ) (start end from : ℕ) → section_part Documents layout.sections pieces (8 * number) 16 ≡ got_bytes starts → bounds_in starts ≡ Ok (start, end)
    → from ≡ min (8 * (layout.docs + 1) + start) (2 ^ 64 - 1) → layout.sections.documents < 2 ^ 64 - 1 → doc_part layout pieces number ≡ section_part Documents layout.sections pieces from (end - start)
unfolding doc_part
doc_part_is layout pieces number starts start end from first bounds is small =
    rw (first, bounds) (saturated Documents layout.sections pieces (8 * (layout.docs + 1) + start) from (end - start) is small)

-- ---- from where to where a document stands

abbrev got_bounds : ℕ × ℕ → Result (ℕ × ℕ) Corrupt
got_bounds x = Ok x

bounds_again : (start len : ℕ) → start + len < 2 ^ 64 → bounds_in (eight start ++ eight (start + len)) ≡ got_bounds (start, start + len)
unfolding bounds_in
bounds_again start len fits =
    let pair : List ℕ = eight start ++ eight (start + len) in
    let first = eight_again pair 0 start (eight (start + len)) (omega arith) refl in
    let second = eight_again pair 8 (start + len) [] fits (drop_behind pair (eight start) (eight (start + len)) 0 refl ∙ sym (append-nil (eight (start + len)))) in
    rw (first, second, le-ltb (start + len) start (omega arith)) refl

-- ---- its bytes

-- the part with the starts, and that with the bytes
abbrev both : Result (List ℕ) SplitError → (ℕ × ℕ → Result (List ℕ) SplitError) → Result (List ℕ) SplitError
both starts part = and_then starts (λ found. and_then (of_section 1 (bounds_in found)) part)

lends_second : (pieces : List FilePiece) (starts at : ℕ) (bytes : List ℕ) (second : Result (List ℕ) SplitError) → LendsPart pieces at bytes second → LendsDoc pieces starts at bytes second
lends_second pieces starts at bytes (Ok found) lends = lends
lends_second pieces starts at bytes (Err e) lends = inr lends

lends_both : (pieces : List FilePiece) (starts at start : ℕ) (bytes : List ℕ) (first : Result (List ℕ) SplitError) (part : ℕ × ℕ → Result (List ℕ) SplitError)
    → start + length bytes < 2 ^ 64 → LendsPart pieces starts (eight start ++ eight (start + length bytes)) first → LendsPart pieces at bytes (part (start, start + length bytes))
    → LendsDoc pieces starts at bytes (both first part)
lends_both pieces starts at start bytes (Ok found) part fits lends second =
    rw (lends, bounds_again start (length bytes) fits) (lends_second pieces starts at bytes (part (start, start + length bytes)) second)
lends_both pieces starts at start bytes (Err e) part fits lends second =
    let long : length (eight start ++ eight (start + length bytes)) ≡ 16 = length-append (eight start) (eight (start + length bytes)) in
    inl (subst (λ (n : ℕ). IsMissing pieces starts n e) long lends)

-- from where on a document has so many bytes
lends_range : (pieces : List FilePiece) (starts at size area start : ℕ) (bytes : List ℕ) (first : Result (List ℕ) SplitError) → start + length bytes < 2 ^ 64 → start + length bytes ≤ size - area → at ≡ 4 + area + start
    → LendsPart pieces starts (eight start ++ eight (start + length bytes)) first
    → LendsRange pieces starts at (length bytes) (and_then first (λ found. and_then (of_section 1 (bounds_in found)) (range_within size area)))
lends_range pieces starts at size area start bytes (Ok found) fits within same lends =
    rw (lends, bounds_again start (length bytes) fits, le-ltb (size - area) (start + length bytes) within) (omega (arith, same), omega arith)
lends_range pieces starts at size area start bytes (Err e) fits within same lends =
    let long : length (eight start ++ eight (start + length bytes)) ≡ 16 = length-append (eight start) (eight (start + length bytes)) in
    subst (λ (n : ℕ). IsMissing pieces starts n e) long lends

abbrev got_placed : Placed → Result Placed SplitError
got_placed d = Ok d

gives_ok : (pieces : List FilePiece) (starts at len : ℕ) (d : Placed) (r read : Result Placed SplitError) → read ≡ got_placed d → MayGive {X = Placed} (λ x. x) r read → LendsPlaced pieces starts at len d r
gives_ok pieces starts at len d (Ok y) read is gives = cc
gives_ok pieces starts at len d (Err (Memory a)) read is gives = tt
gives_ok pieces starts at len d (Err BadMagic) read is gives = absurd cc
gives_ok pieces starts at len d (Err (Truncated n)) read is gives = absurd cc
gives_ok pieces starts at len d (Err (BadSection n)) read is gives = absurd cc
gives_ok pieces starts at len d (Err (BadVersion n)) read is gives = absurd cc

abbrev Missing : List FilePiece → ℕ → ℕ → ℕ → SplitError → Type 0
Missing pieces starts at len e = IsMissing pieces starts 16 e ⊎ IsMissing pieces at len e

truncated : (pieces : List FilePiece) (starts at len : ℕ) (e : SplitError) → Missing pieces starts at len e → (n : ℕ) × (e ≡ Truncated n)
truncated pieces starts at len e (inl missing) = (starts, missing.0)
truncated pieces starts at len e (inr missing) = (at, missing.0)

gives_missing : (pieces : List FilePiece) (starts at len : ℕ) (d : Placed) (e : SplitError) (r : Result Placed SplitError) → Missing pieces starts at len e → MayGive {X = Placed} (λ x. x) r (Err e)
    → LendsPlaced pieces starts at len d r
gives_missing pieces starts at len d e (Ok y) missing gives = absurd cc
gives_missing pieces starts at len d e (Err (Memory a)) missing gives = tt
gives_missing pieces starts at len d e (Err BadMagic) missing gives = let t = truncated pieces starts at len e missing in let is = t.1 in absurd cc
gives_missing pieces starts at len d e (Err (Truncated n)) missing gives = let same : e ≡ Truncated n = cc in subst (λ (x : SplitError). Missing pieces starts at len x) same missing
gives_missing pieces starts at len d e (Err (BadSection n)) missing gives = let t = truncated pieces starts at len e missing in let is = t.1 in absurd cc
gives_missing pieces starts at len d e (Err (BadVersion n)) missing gives = let t = truncated pieces starts at len e missing in let is = t.1 in absurd cc

placed_by : (pieces : List FilePiece) (starts at : ℕ) (bytes : List ℕ) (d : Placed) (read : List ℕ → Result Placed SplitError) (part : Result (List ℕ) SplitError) → LendsDoc pieces starts at bytes part → read bytes ≡ got_placed d
    → (r : Result Placed SplitError) → MayGive {X = Placed} (λ x. x) r (and_then part read) → LendsPlaced pieces starts at (length bytes) d r
placed_by pieces starts at bytes d read (Ok found) lends all r gives = gives_ok pieces starts at (length bytes) d r (read found) (ap read lends ∙ all) gives
placed_by pieces starts at bytes d read (Err e) lends all r gives = gives_missing pieces starts at (length bytes) d e r lends gives

abbrev got_address : Address → Result Address SplitError
got_address a = Ok a

same_address : (a b : Address) → ◌≡◌ {A = Result Address SplitError} (Ok a) (Ok b) → a ≡ b
same_address a b h = cc

same_error : (e f : SplitError) → ◌≡◌ {A = Result Address SplitError} (Err e) (Err f) → e ≡ f
same_error e f h = cc

address_by : (pieces : List FilePiece) (starts at : ℕ) (bytes : List ℕ) (d : Placed) (read : List ℕ → Result Address SplitError) (part : Result (List ℕ) SplitError) → LendsDoc pieces starts at bytes part
    → read bytes ≡ got_address (record { partition = d.partition; offset = d.offset }) → (r : Result Address SplitError) → Gives {X = Address} (λ x. x) r (and_then part read) → LendsAddress pieces starts at (length bytes) d r
address_by pieces starts at bytes d read (Ok found) lends all (Ok a) gives =
    let same : a ≡ record { partition = d.partition; offset = d.offset } = same_address a (record { partition = d.partition; offset = d.offset }) (sym gives ∙ (ap read lends ∙ all)) in
    (ap (λ (x : Address). x.partition) same, ap (λ (x : Address). x.offset) same)
address_by pieces starts at bytes d read (Ok found) lends all (Err e) gives = absurd (let both = sym gives ∙ (ap read lends ∙ all) in cc)
address_by pieces starts at bytes d read (Err e) lends all (Ok a) gives = absurd (cc)
address_by pieces starts at bytes d read (Err e) lends all (Err f) gives = subst (λ (x : SplitError). Missing pieces starts at (length bytes) x) (same_error e f gives) lends

pub all_at : {X : Type 0} (P : X → Type 0) (xs : List X) (number : ℕ) (x : X) → AllByRecursion P xs → slice_get xs number ≡ Some x → P x
all_at P [] number x all here = absurd cc
all_at P (y ∷ ys) zero x all here = subst P (some_is y x here) all.0
all_at P (y ∷ ys) (suc k) x all here = all_at P ys k x all.1 here

abbrev got_weight : ℕ → Result ℕ Corrupt
got_weight n = Ok n

module _ (s : Schema) (documents : List Placed) (p : Parts) (is : IsSplitOf s documents p) (layout : Layout) (laid : IsLayoutOf p layout) (pieces : List FilePiece) (are : ArePieces (file_bytes p) pieces)
    (number : ℕ) (d : Placed) (here : slice_get documents number ≡ Some d) where
  abbrev bytes : List ℕ
  bytes = placed_bytes p.partitions d

  abbrev ds : List (List ℕ)
  ds = each_in_bytes p.partitions documents

  abbrev start : ℕ
  start = length (joined (take number ds))

  abbrev from : ℕ
  from = 8 * (length ds + 1) + start

  stands : StandsIn p.documents (8 * number) start from bytes
  stands = subst (λ (l : List ℕ). StandsIn l (8 * number) start from bytes) (sym is.documents_are) (stands_in_section ds number bytes (each_at p.partitions documents number d here))

  fits : start + length bytes < 2 ^ 64
  fits = omega (arith, stands.within, is.numbers.documents)

  bytes_lent : LendsPart pieces (doc_place p documents number) bytes (section_part Documents layout.sections pieces (8 * (layout.docs + 1) + start) (start + length bytes - start))
  bytes_lent =
      let each = length-each p.partitions documents in
      let docs : layout.docs ≡ length ds = laid.docs ∙ is.docs ∙ sym each in
      let width : start + length bytes - start ≡ length bytes = omega arith in
      let second : LendsPart pieces (4 + from) bytes (section_part Documents layout.sections pieces from (length bytes)) = lent_of p layout.sections pieces are laid.sections Documents from (length bytes) bytes stands.within stands.bytes_are in
      subst (λ (n : ℕ). LendsPart pieces (4 + (8 * (n + 1) + start)) bytes (section_part Documents layout.sections pieces (8 * (layout.docs + 1) + start) (start + length bytes - start))) each
      (subst (λ (n : ℕ). LendsPart pieces (4 + from) bytes (section_part Documents layout.sections pieces (8 * (n + 1) + start) (start + length bytes - start))) (sym docs)
      (subst (λ (n : ℕ). LendsPart pieces (4 + from) bytes (section_part Documents layout.sections pieces from n)) (sym width) second))

  pub doc_lent : LendsDoc pieces (starts_place number) (doc_place p documents number) bytes (doc_part layout pieces number)
  unfolding doc_part
  doc_lent =
      let first : LendsPart pieces (4 + 8 * number) (eight start ++ eight (start + length bytes)) (section_part Documents layout.sections pieces (8 * number) 16) =
      lent_of p layout.sections pieces are laid.sections Documents (8 * number) 16 (eight start ++ eight (start + length bytes)) stands.starts_within stands.starts_are in
      lends_both pieces (starts_place number) (doc_place p documents number) start bytes (section_part Documents layout.sections pieces (8 * number) 16)
      (λ bounds. section_part Documents layout.sections pieces (8 * (layout.docs + 1) + bounds.0) (bounds.1 - bounds.0)) fits first bytes_lent

  pub range_lent : LendsRange pieces (starts_place number) (doc_place p documents number) (length bytes) (doc_range layout pieces number)
  unfolding doc_range
  range_lent =
      let first : LendsPart pieces (4 + 8 * number) (eight start ++ eight (start + length bytes)) (section_part Documents layout.sections pieces (8 * number) 16) =
      lent_of p layout.sections pieces are laid.sections Documents (8 * number) 16 (eight start ++ eight (start + length bytes)) stands.starts_within stands.starts_are in
      let each = length-each p.partitions documents in
      let docs : layout.docs ≡ length documents = laid.docs ∙ is.docs in
      let long : layout.sections.documents ≡ length p.documents = ap (λ (l : Sections). l.documents) laid.sections in
      lends_range pieces (starts_place number) (doc_place p documents number) layout.sections.documents (8 * (layout.docs + 1)) start bytes (section_part Documents layout.sections pieces (8 * number) 16)
      fits (omega (arith, stands.within, each, docs, long)) (omega (arith, each, docs)) first

  -- the starts and the bytes are within the file
  pub doc_within : (starts_place number + 16 ≤ length (file_bytes p)) × (doc_place p documents number + length bytes ≤ length (file_bytes p))
  doc_within = (
    omega (arith, stands.starts_within, section_within Documents p),
    omega (arith, stands.within, section_within Documents p, length-each p.partitions documents),
  )

  -- what is read of its bytes
  abbrev read : List ℕ → List ℕ → Result Placed SplitError
  read footer found = and_then (of_section 1 (stored_in s.fields found)) (λ stored. and_then (partition_in footer layout.partitions stored.place) (λ name. Ok (record { partition = name; offset = stored.offset; doc = stored.doc })))

  -- where its partition stands among the names
  pub place_short : place_among p.partitions d.partition < 2 ^ 64
  place_short = let among = partition_stands documents p.partitions number d is.partitions here in omega (arith, slice_get_within p.partitions (place_among p.partitions d.partition) d.partition among, is.numbers.partitions)

  -- what it weighs is read of its bytes
  pub weight_read : weight_in bytes ≡ got_weight (weight d)
  unfolding weight_in
  weight_read =
      let light = all_at (λ (x : Placed). weight x ≤ max_weight) documents number d (each_light documents max_weight is.are_documents.light) here in
      let rest : List ℕ = varint d.offset ++ doc_bytes d.doc in
      let again = number_again bytes 0 (place_among p.partitions d.partition) rest place_short refl in
      let sum : length bytes ≡ length (varint (place_among p.partitions d.partition)) + length rest = length-append (varint (place_among p.partitions d.partition)) rest in
      let same : min (length bytes - again.next + 257) (2 ^ 64 - 1) ≡ weight d = omega (arith, again.stands.next_is, sum, light) in
      rw again.is (ap (λ (n : ℕ). got_weight n) same)

  doc_read : read (footer_bytes p) bytes ≡ got_placed d
  doc_read =
      let among = partition_stands documents p.partitions number d is.partitions here in
      let place = place_short in
      let of_schema = all_at (λ (x : Placed). IsOfSchema s x.doc) documents number d is.are_documents.of_schema here in
      let held = all_at IsHeld documents number d is.are_documents.held here in
      let stored = stored_again s p.partitions d is.are_documents.schema of_schema held place (omega (arith, fits)) in
      let short : length (footer_bytes p) < 2 ^ 64 = omega (arith, length-file p, is.size) in
      let name = partition_again (footer_bytes p) short layout.partitions p.partitions (place_among p.partitions d.partition) d.partition laid.partitions is.partitions.names among in
      rw (stored, name) refl

  pub placed_lent : (footer : List ℕ) → footer ≡ footer_bytes p → (r : Result Placed SplitError) → MayGive {X = Placed} (λ x. x) r (placed_in s.fields layout footer pieces number)
      → LendsPlaced pieces (starts_place number) (doc_place p documents number) (length bytes) d r
  unfolding placed_in
  placed_lent footer same r gives =
      placed_by pieces (starts_place number) (doc_place p documents number) bytes d (read footer) (doc_part layout pieces number) doc_lent (ap (λ (l : List ℕ). read l bytes) same ∙ doc_read) r gives

  -- where its record stands
  abbrev read_address : List ℕ → List ℕ → Result Address SplitError
  read_address footer found = and_then (of_section 1 (stand_in found)) (λ head. and_then (partition_in footer layout.partitions head.0) (λ name. Ok (record { partition = name; offset = head.1 })))

  address_read : read_address (footer_bytes p) bytes ≡ got_address (record { partition = d.partition; offset = d.offset })
  unfolding stand_in
  address_read =
      let among = partition_stands documents p.partitions number d is.partitions here in
      let held = all_at IsHeld documents number d is.are_documents.held here in
      let a = number_again bytes 0 (place_among p.partitions d.partition) (varint d.offset ++ doc_bytes d.doc) place_short refl in
      let b = number_again bytes a.next d.offset (doc_bytes d.doc) held.offset a.stands.behind in
      let short : length (footer_bytes p) < 2 ^ 64 = omega (arith, length-file p, is.size) in
      let name = partition_again (footer_bytes p) short layout.partitions p.partitions (place_among p.partitions d.partition) d.partition laid.partitions is.partitions.names among in
      rw (a.is, b.is, name) refl

  pub address_lent : (footer : List ℕ) → footer ≡ footer_bytes p → (r : Result Address SplitError) → Gives {X = Address} (λ x. x) r (address_in layout footer pieces number)
      → LendsAddress pieces (starts_place number) (doc_place p documents number) (length bytes) d r
  unfolding address_in
  address_lent footer same r gives =
      address_by pieces (starts_place number) (doc_place p documents number) bytes d (read_address footer) (doc_part layout pieces number) doc_lent (ap (λ (l : List ℕ). read_address l bytes) same ∙ address_read) r gives
