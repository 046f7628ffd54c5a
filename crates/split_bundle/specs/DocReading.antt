-- What is read of a document's bytes, from left to right, up to the first fault that is met.
use Rattle.std.specs.Prelude.{◌≡◌, ℕ, zero, suc, ◌+◌, ◌-◌, ◌*◌, ◌^◌, min, Bool, ◌&&◌, List, [], ◌∷◌, length, Option, Some, None, Result, Ok, Err, nat_lt, nat_le, ◌==◌, slice_get, ⊤, if◌then◌else◌}
use Rattle.std.specs.List.{list_all}
use Rattle.byte_fields.specs.declared.corrupt.Corrupt.{Corrupt}
use Rattle.byte_fields.specs.Steps.{◌>>=◌, corrupt_at, field, number_at}
use Rattle.byte_fields.specs.Reading.{text_at, signed_at, flag_at, eight_at}
use Rattle.doc_value.specs.declared.doc.DocField.{DocField}
use Rattle.doc_value.specs.declared.doc.Value.{Value}
use Rattle.doc_value.specs.declared.doc.Value.TheVariants as values
use Rattle.doc_value.specs.declared.schema.Field.{Field}
use Rattle.doc_value.specs.declared.schema.Kind.{Kind}
use Rattle.doc_value.specs.declared.schema.Kind.TheVariants as kinds
use Rattle.source_checkpoint.specs.Names.{is_name_byte}
use Rattle.split_bundle.specs.declared.documents.DocFault.{DocFault}
use Rattle.split_bundle.specs.declared.documents.DocFault.TheVariants as faults
use Rattle.split_bundle.specs.declared.documents.Stored.{Stored}
use Rattle.split_bundle.specs.declared.layout.Entry.TheVariants.{Name}
use Rattle.split_bundle.specs.declared.layout.Layout.{Layout}
use Rattle.split_bundle.specs.declared.layout.Table.{Table}
use Rattle.split_bundle.specs.declared.pieces.FilePiece.{FilePiece}
use Rattle.split_bundle.specs.declared.pieces.Section.TheVariants.{Documents}
use Rattle.split_bundle.specs.declared.placed.Address.{Address}
use Rattle.split_bundle.specs.declared.placed.Placed.{Placed}
use Rattle.split_bundle.specs.declared.split_error.SplitError.{SplitError}
use Rattle.split_bundle.specs.declared.split_error.SplitError.TheVariants.{BadSection}
use Rattle.split_bundle.specs.Reading.{and_then, of_section, entries_behind}
use Rattle.split_bundle.specs.Pieces.{section_part}

-- what a function returned, seen by view, is what reading gives, unless memory ran out
abbrev pub MayRead : {X Y : Type 0} → (X → Y) → Result X DocFault → Result Y Corrupt → Type 0
MayRead view (Ok x) read = read ≡ Ok (view x)
MayRead view (Err (faults.NoMemory a)) read = ⊤
MayRead view (Err (faults.NotOfForm c)) read = read ≡ Err c

-- a text at a place, and the place behind it
unfoldable pub text_value_at : List ℕ → ℕ → Result (Value × ℕ) Corrupt
text_value_at bytes at = field (text_at bytes at) >>= λ text. Ok (values.Text text.0, text.1)

-- the value of a kind at a place, and the place behind it
unfoldable pub value_at : Kind → List ℕ → ℕ → Result (Value × ℕ) Corrupt
value_at kinds.Text bytes at = text_value_at bytes at
value_at kinds.TextList bytes at = text_value_at bytes at
value_at kinds.I64 bytes at = field (signed_at bytes at) >>= λ number. Ok (values.I64 number.0, number.1)
value_at kinds.U64 bytes at = number_at bytes at >>= λ number. Ok (values.U64 number.0, number.1)
value_at kinds.Bool bytes at = field (flag_at bytes at) >>= λ flag. Ok (values.Bool flag.0, flag.1)
value_at kinds.Datetime bytes at = field (signed_at bytes at) >>= λ number. Ok (values.Datetime number.0, number.1)

-- so many of them
unfoldable pub values_at : Kind → ℕ → List ℕ → ℕ → Result (List Value × ℕ) Corrupt
values_at kind zero bytes at = Ok ([], at)
values_at kind (suc more) bytes at = value_at kind bytes at >>= λ value. (values_at kind more bytes value.1 >>= λ others. Ok (value.0 ∷ others.0, others.1))

-- whether a document may have so many values of a field of a kind: a list of texts has some, another field one
abbrev pub may_have : Kind → ℕ → Bool
may_have kinds.Text count = count == 1
may_have kinds.I64 count = count == 1
may_have kinds.U64 count = count == 1
may_have kinds.Bool count = count == 1
may_have kinds.Datetime count = count == 1
may_have kinds.TextList count = nat_lt 0 count

abbrev pub kind_of : ℕ → Option Field → Result Kind Corrupt
kind_of at None = corrupt_at at
kind_of at (Some f) = Ok f.kind

-- the kind of the field of a schema with a number that is not below the least one; its fault is at a place
unfoldable pub kind_at : List Field → ℕ → ℕ → ℕ → Result Kind Corrupt
kind_at fields least number at = if nat_lt number least then corrupt_at at else kind_of at (slice_get fields number)

-- so many values of a kind, if a document may have them; their count stands at a place
abbrev pub counted_values : Kind → ℕ → List ℕ → ℕ → ℕ → Result (List Value × ℕ) Corrupt
counted_values kind count bytes from at = if may_have kind count then values_at kind count bytes from else corrupt_at at

-- a field and its values
unfoldable pub doc_field_at : List Field → ℕ → List ℕ → ℕ → Result (DocField × ℕ) Corrupt
doc_field_at fields least bytes at = do
  number ← number_at bytes at
  kind ← kind_at fields least number.0 at
  count ← number_at bytes number.1
  values ← counted_values kind count.0 bytes count.1 number.1
  Ok (record { number = number.0; values = values.0 }, values.1)

-- so many fields, whose numbers rise
unfoldable pub doc_fields_at : List Field → ℕ → ℕ → List ℕ → ℕ → Result (List DocField × ℕ) Corrupt
doc_fields_at fields least zero bytes at = Ok ([], at)
doc_fields_at fields least (suc more) bytes at =
    doc_field_at fields least bytes at >>= λ first. (doc_fields_at fields (suc first.0.number) more bytes first.1 >>= λ others. Ok (first.0 ∷ others.0, others.1))

-- a document that is all of the bytes
unfoldable pub stored_in : List Field → List ℕ → Result Stored Corrupt
stored_in fields bytes = do
  place ← number_at bytes 0
  offset ← number_at bytes place.1
  count ← number_at bytes offset.1
  doc ← doc_fields_at fields 0 count.0 bytes count.1
  if doc.1 == length bytes then Ok (record { place = place.0; offset = offset.0; doc = doc.0 }) else corrupt_at doc.1

-- ---- its partition

abbrev pub is_partition : List ℕ → Bool
is_partition name = nat_lt 0 (length name) && nat_le (length name) 64 && list_all is_name_byte name

-- a text that is the name of a partition
abbrev pub partition_of : List ℕ → Result (List ℕ) SplitError
partition_of name = if is_partition name then Ok name else Err (BadSection 6)

-- the text at a place among the names of a footer, of which the first stands there
unfoldable pub name_at : List ℕ → ℕ → ℕ → Result (List ℕ) Corrupt
name_at footer from place = do
  at ← entries_behind Name place footer from
  name ← field (text_at footer at)
  Ok name.0

-- the partition at a place among those of a footer
unfoldable pub partition_in : List ℕ → Table → ℕ → Result (List ℕ) SplitError
partition_in footer table place =
    if nat_lt place table.count then and_then (of_section 6 (name_at footer table.at place)) partition_of else Err (BadSection 1)

-- ---- a document of a file

-- from where to where a document's bytes stand behind the starts
unfoldable pub bounds_in : List ℕ → Result (ℕ × ℕ) Corrupt
bounds_in starts = do
  start ← field (eight_at starts 0)
  end ← field (eight_at starts start.1)
  if nat_lt end.0 start.0 then corrupt_at start.1 else Ok (start.0, end.0)

-- a document's bytes: by its start and the next one, counted from the area behind the starts
unfoldable pub doc_part : Layout → List FilePiece → ℕ → Result (List ℕ) SplitError
doc_part layout pieces number =
    and_then (section_part Documents layout.sections pieces (8 * number) 16) (λ starts. and_then (of_section 1 (bounds_in starts))
    (λ bounds. section_part Documents layout.sections pieces (8 * (layout.docs + 1) + bounds.0) (bounds.1 - bounds.0)))

-- where a document's bytes stand in the file, and how many they are, by their bounds in the area, which lies in a section of so many bytes
abbrev pub range_within : ℕ → ℕ → ℕ × ℕ → Result (ℕ × ℕ) SplitError
range_within size area bounds = if nat_lt (size - area) bounds.1 then Err (BadSection 1) else Ok (4 + area + bounds.0, bounds.1 - bounds.0)

-- the same of the document with a number, by its start and the next one
unfoldable pub doc_range : Layout → List FilePiece → ℕ → Result (ℕ × ℕ) SplitError
doc_range layout pieces number =
    and_then (section_part Documents layout.sections pieces (8 * number) 16) (λ starts. and_then (of_section 1 (bounds_in starts)) (range_within layout.sections.documents (8 * (layout.docs + 1))))

-- what a document of these bytes weighs: what stands behind the place of its partition, and 257, as far as 64 bits count
unfoldable pub weight_in : List ℕ → Result ℕ Corrupt
weight_in bytes = number_at bytes 0 >>= λ place. Ok (min (length bytes - place.1 + 257) (2 ^ 64 - 1))

-- what the document with a number weighs
unfoldable pub weight_of : Layout → List FilePiece → ℕ → Result ℕ SplitError
weight_of layout pieces number = and_then (doc_part layout pieces number) (λ bytes. of_section 1 (weight_in bytes))

-- the place of the partition of a document of these bytes, and its offset
unfoldable pub stand_in : List ℕ → Result (ℕ × ℕ) Corrupt
stand_in bytes = do
  place ← number_at bytes 0
  offset ← number_at bytes place.1
  Ok (place.0, offset.0)

-- where the record of the document with a number stands
unfoldable pub address_in : Layout → List ℕ → List FilePiece → ℕ → Result Address SplitError
address_in layout footer pieces number =
    and_then (doc_part layout pieces number) (λ bytes. and_then (of_section 1 (stand_in bytes))
    (λ head. and_then (partition_in footer layout.partitions head.0) (λ name. Ok (record { partition = name; offset = head.1 }))))

-- the document with a number
unfoldable pub placed_in : List Field → Layout → List ℕ → List FilePiece → ℕ → Result Placed SplitError
placed_in fields layout footer pieces number =
    and_then (doc_part layout pieces number) (λ bytes. and_then (of_section 1 (stored_in fields bytes))
    (λ stored. and_then (partition_in footer layout.partitions stored.place) (λ name. Ok (record { partition = name; offset = stored.offset; doc = stored.doc }))))
