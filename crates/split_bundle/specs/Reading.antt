-- What is read of any bytes, from left to right, up to the first fault that is met.
use Rattle.std.specs.Prelude.{◌≡◌, ℕ, zero, suc, ◌+◌, ◌-◌, ◌≤◌, List, length, take, drop, Option, Some, None, Result, Ok, Err, nat_lt, nat_eq, ◌==◌, ◌∷◌, [], slice_index, if◌then◌else◌, ⊤}
use Rattle.std.specs.List.{starts_with}
use Rattle.term_dict.specs.declared.index.BlockStart.{BlockStart}
use Rattle.byte_fields.specs.declared.field_error.FieldError.{FieldError}
use Rattle.split_bundle.specs.declared.layout.ColumnStart.{ColumnStart}
use Rattle.byte_fields.specs.declared.corrupt.Corrupt.{Corrupt}
use Rattle.byte_fields.specs.Steps.{◌>>=◌, corrupt_at, count_at, field, number_at}
use Rattle.byte_fields.specs.Reading.{bytes_at, text_at, eight_at}
use Rattle.split_bundle.specs.declared.layout.Entry.{Entry}
use Rattle.split_bundle.specs.declared.layout.Entry.TheVariants.{Name, Block, Column}
use Rattle.split_bundle.specs.declared.layout.Sections.{Sections}
use Rattle.split_bundle.specs.declared.layout.Table.{Table}
use Rattle.split_bundle.specs.declared.layout.Layout.{Layout}
use Rattle.split_bundle.specs.declared.split_error.SplitError.{SplitError}
use Rattle.split_bundle.specs.declared.split_error.SplitError.TheVariants.{Memory, BadMagic, BadSection, BadVersion, Truncated}

-- ---- the footer

-- the lengths of the five sections
unfoldable pub sections_at : List ℕ → ℕ → Result (Sections × ℕ) Corrupt
sections_at bytes at = do
  documents ← number_at bytes at
  dictionary ← number_at bytes documents.1
  postings ← number_at bytes dictionary.1
  positions ← number_at bytes postings.1
  columns ← number_at bytes positions.1
  Ok (record { documents = documents.0; dictionary = dictionary.0; postings = postings.0; positions = positions.0; columns = columns.0 }, columns.1)

-- how many bytes they have
abbrev pub total : Sections → ℕ
total s = s.documents + s.dictionary + s.postings + s.positions + s.columns

-- the place behind an entry: a partition's name, or a block's first key and its start, or a column's field and its start
unfoldable pub entry_behind : Entry → List ℕ → ℕ → Result ℕ Corrupt
entry_behind Name bytes at = field (text_at bytes at) >>= λ name. Ok name.1
entry_behind Block bytes at = field (bytes_at bytes at) >>= λ first. (number_at bytes first.1 >>= λ start. Ok start.1)
entry_behind Column bytes at = number_at bytes at >>= λ number. (number_at bytes number.1 >>= λ start. Ok start.1)

-- the place behind so many entries
unfoldable pub entries_behind : Entry → ℕ → List ℕ → ℕ → Result ℕ Corrupt
entries_behind entry zero bytes at = Ok at
entries_behind entry (suc more) bytes at = entry_behind entry bytes at >>= λ next. entries_behind entry more bytes next

-- a count, and so many entries
unfoldable pub table_at : Entry → List ℕ → ℕ → Result (Table × ℕ) Corrupt
table_at entry bytes at = do
  count ← number_at bytes at
  behind ← entries_behind entry count.0 bytes count.1
  Ok (record { count = count.0; at = count.1 }, behind)

-- what a footer says, where the sections end at a place of the file; nothing follows
unfoldable pub layout_at : ℕ → List ℕ → Result Layout Corrupt
layout_at room bytes = do
  docs ← count_at bytes 0
  sections ← sections_at bytes docs.1
  partitions ← table_at Name bytes sections.1
  terms ← number_at bytes partitions.1
  blocks ← table_at Block bytes terms.1
  columns ← table_at Column bytes blocks.1
  if 4 + total sections.0 == room then (if columns.1 == length bytes then Ok (record {
    docs = docs.0;
    sections = sections.0;
    partitions = partitions.0;
    terms = terms.0;
    blocks = blocks.0;
    columns = columns.0;
  }) else corrupt_at columns.1) else corrupt_at docs.1

-- the lists of a footer stand in its bytes
pub record IsWithin (bytes : List ℕ) (l : Layout) : Type 0 where
  pub partitions : l.partitions.at ≤ length bytes
  pub blocks : l.blocks.at ≤ length bytes
  pub columns : l.columns.at ≤ length bytes

-- the first key of a block and its start, and the place behind them
unfoldable pub block_start_at : List ℕ → ℕ → Result (BlockStart × ℕ) Corrupt
block_start_at bytes at = do
  first ← field (bytes_at bytes at)
  start ← number_at bytes first.1
  Ok (record { first = first.0; start = start.0 }, start.1)

-- so many of them
unfoldable pub block_starts_at : ℕ → List ℕ → ℕ → Result (List BlockStart) Corrupt
block_starts_at zero bytes at = Ok []
block_starts_at (suc more) bytes at = block_start_at bytes at >>= λ block. (block_starts_at more bytes block.1 >>= λ blocks. Ok (block.0 ∷ blocks))

-- the number of a fast field and its column's start, and the place behind them
unfoldable pub column_start_at : List ℕ → ℕ → Result (ColumnStart × ℕ) Corrupt
column_start_at bytes at = do
  number ← number_at bytes at
  start ← number_at bytes number.1
  Ok (record { number = number.0; start = start.0 }, start.1)

-- where a column ends behind which so many are left: where the next one starts, or behind the last one where the section ends
unfoldable pub column_end : ℕ → ℕ → List ℕ → ℕ → Result ℕ Corrupt
column_end left size bytes at = if left == 0 then Ok size else (column_start_at bytes at >>= λ column. Ok column.0.start)

-- from where to where the column of a field stands in its section, if so many have it
unfoldable pub column_among : ℕ → ℕ → ℕ → List ℕ → ℕ → Result (Option (ℕ × ℕ)) Corrupt
column_among zero number size bytes at = Ok None
column_among (suc left) number size bytes at =
    column_start_at bytes at >>= λ column.
    if column.0.number == number then (column_end left size bytes column.1 >>= λ end. Ok (Some (column.0.start, end)))
    else column_among left number size bytes column.1

-- ---- the end of a file

-- what a function returned, seen by view, is what reading gives
abbrev pub Gives : {X Y : Type 0} → (X → Y) → Result X SplitError → Result Y SplitError → Type 0
Gives view (Ok x) read = read ≡ Ok (view x)
Gives view (Err e) read = read ≡ Err e

-- the same, unless memory ran out
abbrev pub MayGive : {X Y : Type 0} → (X → Y) → Result X SplitError → Result Y SplitError → Type 0
MayGive view (Ok x) read = read ≡ Ok (view x)
MayGive view (Err (Memory a)) read = ⊤
MayGive view (Err BadMagic) read = read ≡ Err BadMagic
MayGive view (Err (Truncated at)) read = read ≡ Err (Truncated at)
MayGive view (Err (BadSection number)) read = read ≡ Err (BadSection number)
MayGive view (Err (BadVersion number)) read = read ≡ Err (BadVersion number)

-- a part of a section, whose faults are the section's
abbrev pub of_section : {A : Type 0} → ℕ → Result A Corrupt → Result A SplitError
of_section number (Ok x) = Ok x
of_section number (Err c) = Err (BadSection number)

abbrev pub and_then : {A B : Type 0} → Result A SplitError → (A → Result B SplitError) → Result B SplitError
and_then (Ok x) f = f x
and_then (Err e) f = Err e

-- the footer of so many bytes in front of the trailer, in the end of a file of so many bytes
abbrev pub footer_by : ℕ → List ℕ → Result (ℕ × ℕ) FieldError → Result (List ℕ) SplitError
footer_by size tail (Err e) = Err (BadSection 6)
footer_by size tail (Ok len) =
    if nat_lt (size - 16) len.0 then Err (BadSection 6)
    else if nat_lt (length tail - 12) len.0 then Err (Truncated (size - 12 - len.0))
    else Ok (take len.0 (drop (length tail - 12 - len.0) tail))

-- The footer's bytes, by the trailer: QWF and the format's number at the end, and the footer's length in eight bytes before them.
-- A footer is at most as long as the file without its head and its trailer.
unfoldable pub footer_in : ℕ → List ℕ → Result (List ℕ) SplitError
footer_in size tail =
    if nat_lt (length tail) 12 then Err (Truncated (size - 12))
    else if starts_with nat_eq (drop (length tail - 4) tail) (0x51 ∷ 0x57 ∷ 0x46 ∷ []) then
    (if slice_index tail (length tail - 1) == 2 then footer_by size tail (eight_at tail (length tail - 12)) else Err (BadVersion (slice_index tail (length tail - 1))))
    else Err BadMagic

-- a footer, and what it says
pub record Laid : Type 0 where
  pub bytes : List ℕ
  pub layout : Layout

-- the same in the end of a file of so many bytes
unfoldable pub laid_in : ℕ → List ℕ → Result Laid SplitError
laid_in size tail =
    and_then (footer_in size tail) (λ bytes. and_then (of_section 6 (layout_at (size - 12 - length bytes) bytes)) (λ layout. Ok (record { bytes = bytes; layout = layout })))

-- what a footer holds
pub record Held : Type 0 where
  pub bytes : List ℕ
  pub layout : Layout
  pub index : List BlockStart

-- the footer in the end of a file of so many bytes
unfoldable pub footer_of : ℕ → List ℕ → Result Held SplitError
footer_of size tail =
    and_then (laid_in size tail) (λ laid. and_then (of_section 6 (block_starts_at laid.layout.blocks.count laid.bytes laid.layout.blocks.at))
    (λ index. Ok (record { bytes = laid.bytes; layout = laid.layout; index = index })))
