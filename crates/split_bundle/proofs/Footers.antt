-- The footer of a split file is read.
use Rattle.std.proofs.Common.{◌≡◌, ℕ, ◌+◌, ◌-◌, ◌<◌, ◌≤◌, ◌^◌, List, [], ◌∷◌, ◌++◌, length, drop, Result, Ok, Err, refl, sym, ap, subst, ◌∙◌, arith, append_assoc, length-append}
use Rattle.std.specs.List.{flat_map, AllByRecursion}
use Rattle.std.proofs.Common.{inl, inr}
use Rattle.std.proofs.lemmas.Bool.{cases_lt, lt-ltb, le-ltb}
use Rattle.byte_fields.specs.declared.corrupt.Corrupt.{Corrupt}
use Rattle.byte_fields.specs.Spelling.{varint, byte_string, eight}
use Rattle.byte_fields.proofs.Taken.{bytes_again}
use Rattle.term_dict.specs.declared.index.BlockStart.{BlockStart}
use Rattle.term_dict.proofs.Areas.{drop_behind}
use Rattle.doc_value.specs.declared.schema.Schema.{Schema}
use Rattle.split_bundle.specs.declared.placed.Placed.{Placed}
use Rattle.split_bundle.specs.declared.layout.Layout.{Layout}
use Rattle.split_bundle.specs.declared.footer.Footer.{Footer}
use Rattle.split_bundle.specs.declared.split_error.SplitError.{SplitError}
use Rattle.split_bundle.specs.declared.split_error.SplitError.TheVariants.{Memory, BadMagic, BadSection, BadVersion, Truncated}
use Rattle.split_bundle.specs.Files.{Parts, head, foot, ending, sections_bytes, footer_bytes, file_bytes, block_bytes}
use Rattle.split_bundle.specs.Splits.{IsSplitOf}
use Rattle.split_bundle.specs.Reading.{Held, Laid, MayGive, laid_in, footer_of, block_start_at, block_starts_at, total}
use Rattle.split_bundle.specs.Views.{held, sections_of, IsLayoutOf, IsEndOf, ReadsFooter, ReadsCut, cut_at}
use Rattle.split_bundle.proofs.Spelled.{number_again, fits_in, layout_again}
use Rattle.split_bundle.proofs.Ends.{footer_found, footer_cut, trailer_cut}

abbrev pub blocks : List BlockStart → Result (List BlockStart) Corrupt
blocks bs = Ok bs

-- the blocks of a footer are read again
pub blocks_again : (bytes : List ℕ) (short : length bytes < 2 ^ 64) (bs : List BlockStart) (at : ℕ) (rest : List ℕ) → AllByRecursion (λ b. b.start < 2 ^ 64) bs → drop at bytes ≡ flat_map block_bytes bs ++ rest
    → block_starts_at (length bs) bytes at ≡ blocks bs
unfolding block_starts_at block_start_at
blocks_again bytes short [] at rest fit e = refl
blocks_again bytes short (b ∷ bs) at rest fit e =
    let e0 : drop at bytes ≡ byte_string b.first ++ (varint b.start ++ (flat_map block_bytes bs ++ rest)) = e ∙ simp append_assoc in
    let few : length b.first < 2 ^ 64 = omega (arith, fits_in bytes (byte_string b.first) (varint b.start ++ (flat_map block_bytes bs ++ rest)) at short e0, length-append (varint (length b.first)) b.first) in
    let n = number_again bytes (at + length (byte_string b.first)) b.start (flat_map block_bytes bs ++ rest) fit.0 (drop_behind bytes (byte_string b.first) (varint b.start ++ (flat_map block_bytes bs ++ rest)) at e0) in
    let more = blocks_again bytes short bs n.next rest fit.1 n.stands.behind in
    rw (bytes_again bytes at b.first (varint b.start ++ (flat_map block_bytes bs ++ rest)) few e0, n.is, more) refl

-- ---- where the parts of a file stand

pub length-sections : (p : Parts) → length (sections_bytes p) ≡ total (sections_of p)
length-sections p = simp length-append (omega arith)

pub file_parts : (p : Parts) → file_bytes p ≡ (head ++ sections_bytes p) ++ ending (footer_bytes p)
unfolding file_bytes
file_parts p = sym (append_assoc head (sections_bytes p) (ending (footer_bytes p)))

pub length-file : (p : Parts) → length (file_bytes p) ≡ 4 + total (sections_of p) + (length (footer_bytes p) + 12)
length-file p =
    let all = ap (λ (l : List ℕ). length l) (file_parts p) ∙ length-append (head ++ sections_bytes p) (ending (footer_bytes p)) in
    omega (arith, all, length-append head (sections_bytes p), length-sections p, length-append (footer_bytes p) (eight (length (footer_bytes p)) ++ foot))

-- ---- what is read

abbrev pub read_held : Held → Result Held SplitError
read_held h = Ok h

held_is : (x y : Held) → read_held x ≡ read_held y → x ≡ y
held_is x y e = cc

pub whole_is : (p : Parts) (result : Result Footer SplitError) (read : Result Held SplitError) (l : Layout) → MayGive held result read → read ≡ Ok (record { bytes = footer_bytes p; layout = l; index = p.index }) → IsLayoutOf p l → ReadsFooter p result
whole_is p (Ok f) read l gives is laid =
    let h : Held = record { bytes = footer_bytes p; layout = l; index = p.index } in
    let same : held f ≡ h = held_is (held f) h (sym gives ∙ is) in
    record { bytes = ap (λ (x : Held). x.bytes) same; layout = subst (IsLayoutOf p) (sym (ap (λ (x : Held). x.layout) same)) laid; index = ap (λ (x : Held). x.index) same }
whole_is p (Err (Memory a)) read l gives is laid = tt
whole_is p (Err BadMagic) read l gives is laid = absurd cc
whole_is p (Err (Truncated at)) read l gives is laid = absurd cc
whole_is p (Err (BadSection n)) read l gives is laid = absurd cc
whole_is p (Err (BadVersion n)) read l gives is laid = absurd cc

cut_is : (at : ℕ) (result : Result Footer SplitError) (read : Result Held SplitError) → MayGive held result read → read ≡ Err (Truncated at) → ReadsCut at result
cut_is at (Ok f) read gives is = absurd cc
cut_is at (Err (Memory a)) read gives is = tt
cut_is at (Err BadMagic) read gives is = absurd cc
cut_is at (Err (Truncated n)) read gives is = cc
cut_is at (Err (BadSection n)) read gives is = absurd cc
cut_is at (Err (BadVersion n)) read gives is = absurd cc

abbrev got_laid : Laid → Result Laid SplitError
got_laid l = Ok l

-- the footer is found, with what it says
pub record LaidStands (p : Parts) (tail : List ℕ) (size : ℕ) : Type 0 where
  pub layout : Layout
  pub is : laid_in size tail ≡ got_laid (record { bytes = footer_bytes p; layout = layout })
  pub is_layout : IsLayoutOf p layout

-- what is read where the whole footer is there
pub record FooterStands (p : Parts) (tail : List ℕ) (size : ℕ) : Type 0 where
  pub layout : Layout
  pub is : footer_of size tail ≡ read_held (record { bytes = footer_bytes p; layout = layout; index = p.index })
  pub laid : IsLayoutOf p layout

module _ (s : Schema) (documents : List Placed) (p : Parts) (is : IsSplitOf s documents p) (tail : List ℕ) (size : ℕ) (ends : IsEndOf p tail size) where
  front : 4 ≤ length (head ++ sections_bytes p)
  front = omega (arith, length-append head (sections_bytes p))

  short : length (footer_bytes p) < 2 ^ 64
  short = omega (arith, length-file p, is.size)

  size_is : size ≡ length (head ++ sections_bytes p) + (length (footer_bytes p) + 12)
  size_is = omega (arith, ends.size_is, length-file p, length-append head (sections_bytes p), length-sections p)

  tail_is : tail ≡ drop (size - length tail) ((head ++ sections_bytes p) ++ ending (footer_bytes p))
  tail_is = ends.tail_is ∙ ap (λ (l : List ℕ). drop (size - length tail) l) (file_parts p)

  -- the footer in the end that has it, before its blocks are read
  pub laid_stands : length (footer_bytes p) + 12 ≤ length tail → LaidStands p tail size
  unfolding laid_in
  laid_stands long =
      let found = footer_found (head ++ sections_bytes p) (footer_bytes p) tail size front short size_is tail_is long in
      let room : 4 + total (sections_of p) ≡ size - 12 - length (footer_bytes p) = omega (arith, size_is, length-append head (sections_bytes p), length-sections p) in
      let laid = layout_again p (size - 12 - length (footer_bytes p)) is.numbers is.partitions.names short room in
      record { layout = laid.layout; is = rw (found, laid.is) refl; is_layout = laid.is_layout }

  -- its blocks are read
  pub index_again : (layout : Layout) → IsLayoutOf p layout → block_starts_at layout.blocks.count (footer_bytes p) layout.blocks.at ≡ blocks p.index
  index_again layout is_layout =
      ap (λ (n : ℕ). block_starts_at n (footer_bytes p) layout.blocks.at) is_layout.blocks.count
      ∙ blocks_again (footer_bytes p) short p.index layout.blocks.at is_layout.blocks.rest is.numbers.block_starts is_layout.blocks.stand

  pub footer_stands : length (footer_bytes p) + 12 ≤ length tail → FooterStands p tail size
  unfolding footer_of
  footer_stands long =
      let laid = laid_stands long in
      let all = index_again laid.layout laid.is_layout in
      record { layout = laid.layout; is = rw (laid.is, all) refl; laid = laid.is_layout }

  pub footer_read : (result : Result Footer SplitError) → MayGive held result (footer_of size tail) → length (footer_bytes p) + 12 ≤ length tail → ReadsFooter p result
  footer_read result gives long =
      let stands = footer_stands long in
      whole_is p result (footer_of size tail) stands.layout gives stands.is stands.laid

  pub footer_not_there : (result : Result Footer SplitError) → MayGive held result (footer_of size tail) → length tail < length (footer_bytes p) + 12 → ReadsCut (cut_at size (length tail) (length (footer_bytes p))) result
  unfolding footer_of laid_in
  footer_not_there result gives cut = elim (cases_lt (length tail) 12) [
    | inl less ↦
        let at : cut_at size (length tail) (length (footer_bytes p)) ≡ size - 12 = rw (lt-ltb (length tail) 12 less) refl in
        rw at (cut_is (size - 12) result (footer_of size tail) gives (rw (trailer_cut tail size less) refl))
    | inr more ↦
        let at : cut_at size (length tail) (length (footer_bytes p)) ≡ size - 12 - length (footer_bytes p) = rw (le-ltb (length tail) 12 more) refl in
        rw at (cut_is (size - 12 - length (footer_bytes p)) result (footer_of size tail) gives (rw (footer_cut (head ++ sections_bytes p) (footer_bytes p) tail size front short size_is tail_is cut more) refl))
  ]
