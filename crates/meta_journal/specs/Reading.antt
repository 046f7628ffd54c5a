-- Reading an entry from left to right, with the first fault that is met.
use Rattle.std.specs.Prelude.{◌≡◌, ℕ, ℤ, zero, suc, ◌+◌, ◌-◌, ◌^◌, Bool, true, false, ◌&&◌, not, List, [], ◌∷◌, ◌++◌, length, take, drop, Option, Some, None, Result, Ok, Err, nat_lt, nat_le, ◌==◌, slice_get, slice_index, if◌then◌else◌, ⊤}
use Rattle.std.specs.List.{list_all}
use Rattle.std.specs.Ordering.{nat_cmp, is_lt}
use Rattle.std.specs.Cmp.Lexicographic.{slice_cmp}
use Rattle.byte_fields.specs.declared.field_error.FieldError.{FieldError}
use Rattle.byte_fields.specs.declared.field_error.FieldError.TheVariants.{Short, TooLarge, NotText, BadOrder}
use Rattle.byte_fields.specs.Reading.{varint_at, bytes_at, text_at, signed_at, flag_at}
use Rattle.source_checkpoint.specs.Names.{is_name_byte}
use Rattle.source_checkpoint.specs.declared.delta.Part.{Part}
use Rattle.doc_value.specs.declared.facts.Tags.{Tags}
use Rattle.doc_value.specs.declared.facts.Tags.TheVariants.{Many, Listed}
use Rattle.doc_value.specs.declared.facts.FieldTags.{FieldTags}
use Rattle.doc_value.specs.declared.facts.TimeRange.{TimeRange}
use Rattle.split_states.specs.declared.facts.RowFacts.{RowFacts}
use Rattle.split_states.specs.declared.facts.Times.{Times}
use Rattle.meta_journal.specs.declared.entry.Act.{Act}
use Rattle.meta_journal.specs.declared.entry.Act.TheVariants as acts
use Rattle.meta_journal.specs.declared.entry.Entry.{Entry}
use Rattle.meta_journal.specs.declared.entry_error.EntryError.{EntryError}
use Rattle.meta_journal.specs.declared.entry_error.EntryError.TheVariants.{Memory, BadMagic, BadVersion, BadKind, Field, Trailing}
use Rattle.meta_journal.specs.declared.reading.Kind.{Kind}
use Rattle.meta_journal.specs.declared.reading.Kind.TheVariants as kinds

infixl 10 ◌>>=◌
abbrev pub ◌>>=◌ : {A B : Type 0} → Result A EntryError → (A → Result B EntryError) → Result B EntryError
(Ok x) >>= f = f x
(Err e) >>= f = Err e

-- what is read from a place on, and the place behind it
abbrev pub Reader : Type 0 → Type 0
Reader A = ℕ → Result (A × ℕ) EntryError

-- a field of an entry
abbrev pub field : {A : Type 0} → Result A FieldError → Result A EntryError
field (Ok x) = Ok x
field (Err e) = Err (Field e)

-- what a function returned is what reading gives, unless memory ran out
abbrev pub Reads : {A : Type 0} → Result A EntryError → Result A EntryError → Type 0
Reads (Ok x) read = read ≡ Ok x
Reads (Err (Memory a)) read = ⊤
Reads (Err BadMagic) read = read ≡ Err BadMagic
Reads (Err (BadVersion n)) read = read ≡ Err (BadVersion n)
Reads (Err (BadKind n)) read = read ≡ Err (BadKind n)
Reads (Err (Field f)) read = read ≡ Err (Field f)
Reads (Err (Trailing at)) read = read ≡ Err (Trailing at)

-- one behind the other
abbrev pub both : {A B : Type 0} → Reader A → Reader B → Reader (A × B)
both first second at = first at >>= λ a. second a.1 >>= λ b. Ok ((a.0, b.0), b.1)

abbrev pub made : {A B : Type 0} → (A → B) → Reader A → Reader B
made make read at = read at >>= λ a. Ok (make a.0, a.1)

-- what fails the test is a fault at its own place
abbrev pub where_is : {A : Type 0} → (A → Bool) → (ℕ → FieldError) → Reader A → Reader A
where_is test fault read at = read at >>= λ a. if test a.0 then Ok a else Err (Field (fault at))

-- so many members, each read by what stands before it
unfoldable pub members : {A : Type 0} → (List A → Reader A) → ℕ → List A → Reader (List A)
members step zero done at = Ok (done, at)
members step (suc left) done at = step done at >>= λ one. members step left (done ++ one.0 ∷ []) one.1

-- whether a list is empty, or its last member passes the test
abbrev pub is_last : {A : Type 0} → (A → Bool) → Option A → Bool
is_last test None = true
is_last test (Some last) = test last

abbrev pub last_of : {A : Type 0} → List A → Option A
last_of xs = slice_get xs (length xs - 1)

-- a partition's name
unfoldable pub is_partition : List ℕ → Bool
is_partition name = nat_lt 0 (length name) && nat_le (length name) 64 && list_all is_name_byte name

module _ (bytes : List ℕ) where
  abbrev pub number_at : Reader ℕ
  number_at at = field (varint_at bytes at)

  abbrev pub string_at : Reader (List ℕ)
  string_at at = field (bytes_at bytes at)

  abbrev pub utf8_at : Reader (List ℕ)
  utf8_at at = field (text_at bytes at)

  abbrev pub time_at : Reader ℤ
  time_at at = field (signed_at bytes at)

  abbrev pub bit_at : Reader Bool
  bit_at at = field (flag_at bytes at)

  -- a count, and so many members
  abbrev pub counted_at : {A : Type 0} → (List A → Reader A) → Reader (List A)
  counted_at step at = number_at at >>= λ n. members step n.0 [] n.1

  abbrev pub given : {A : Type 0} → Reader A → Bool → Reader (Option A)
  given read false = λ at. Ok (None, at)
  given read true = made (λ x. Some x) read

  -- a flag, and where it is 1 the value
  abbrev pub optional_at : {A : Type 0} → Reader A → Reader (Option A)
  optional_at read at = bit_at at >>= λ b. given read b.0 b.1

  unfoldable pub partition_at : Reader (List ℕ)
  partition_at = where_is is_partition NotText utf8_at

  unfoldable pub part_at : Reader Part
  part_at = made (λ p. record { partition = p.0; from = p.1.0; to = p.1.1 }) (both partition_at (both number_at number_at))

  unfoldable pub times_at : Reader Times
  times_at = made (λ t. record { least = t.0; greatest = t.1 }) (both time_at time_at)

  -- a term above those before it
  unfoldable pub term_at : List (List ℕ) → Reader (List ℕ)
  term_at before = where_is (λ term. is_last (λ last. is_lt (slice_cmp nat_cmp last term)) (last_of before)) BadOrder string_at

  abbrev pub tags_by : Bool → Reader Tags
  tags_by true = λ at. Ok (Many, at)
  tags_by false = made (λ terms. Listed terms) (counted_at term_at)

  unfoldable pub tags_at : Reader Tags
  tags_at at = bit_at at >>= λ b. tags_by b.0 b.1

  -- the number of a tag field, above those before it
  unfoldable pub field_number_at : List FieldTags → Reader ℕ
  field_number_at before = where_is (λ number. is_last (λ last. nat_lt last.number number) (last_of before)) BadOrder number_at

  unfoldable pub field_tags_at : List FieldTags → Reader FieldTags
  field_tags_at before = made (λ f. record { number = f.0; tags = f.1 }) (both (field_number_at before) tags_at)

  unfoldable pub digest_at : Reader (List ℕ)
  digest_at at = if nat_lt (length bytes - at) 32 then Err (Field (Short (length bytes))) else Ok (take 32 (drop at bytes), at + 32)

  unfoldable pub facts_at : Reader RowFacts
  facts_at = made (λ f. record { docs = f.0; rejected = f.1.0; weight = f.1.1.0; size = f.1.1.1.0; digest = f.1.1.1.1.0; times = f.1.1.1.1.1.0; tags = f.1.1.1.1.1.1 })
      (both number_at (both number_at (both number_at (both number_at (both digest_at (both (optional_at times_at) (counted_at field_tags_at)))))))

  unfoldable pub range_at : Reader TimeRange
  range_at = made (λ r. record { start = r.0; end = r.1 }) (both (optional_at time_at) (optional_at time_at))

  -- a number above those before it
  unfoldable pub rising_at : List ℕ → Reader ℕ
  rising_at before = where_is (λ number. is_last (λ last. nat_lt last number) (last_of before)) BadOrder number_at

  -- a count that is not 0, and so many rising numbers
  unfoldable pub row_numbers_at : Reader (List ℕ)
  row_numbers_at at = where_is (λ n. nat_lt 0 n) BadOrder number_at at >>= λ n. members rising_at n.0 [] n.1

  unfoldable pub act_at : Kind → Reader Act
  act_at kinds.Fence = λ at. Ok (acts.Fence, at)
  act_at kinds.Create = made (λ config. acts.Create config) string_at
  act_at kinds.Stage = made (λ s. acts.Stage s.0 s.1.0 s.1.1) (both number_at (both (counted_at (λ before. part_at)) facts_at))
  act_at kinds.Publish = made (λ number. acts.Publish number) number_at
  act_at kinds.Replace = made (λ r. acts.Replace r.0 r.1.0 r.1.1) (both number_at (both (counted_at (λ before. number_at)) number_at))
  act_at kinds.Raise = made (λ r. acts.Raise r.0 r.1) (both number_at number_at)
  act_at kinds.Task = made (λ t. acts.Task t.0 t.1.0 t.1.1.0 t.1.1.1) (both number_at (both utf8_at (both (counted_at (λ before. utf8_at)) range_at)))
  act_at kinds.MarkStaged = made (λ numbers. acts.MarkStaged numbers) row_numbers_at
  act_at kinds.Remove = made (λ numbers. acts.Remove numbers) row_numbers_at
  act_at kinds.Retire = made (λ numbers. acts.Retire numbers) row_numbers_at

  -- a moment is below 2^62
  unfoldable pub moment_at : Reader ℕ
  moment_at = where_is (λ n. nat_lt n (2 ^ 62)) TooLarge number_at

  abbrev pub begins : Bool
  begins = nat_lt 2 (length bytes) && (slice_index bytes 0 == 0x51) && (slice_index bytes 1 == 0x57) && (slice_index bytes 2 == 0x4a)

-- the kinds of a version: the second has one more
abbrev pub kind_of : ℕ → ℕ → Result Kind EntryError
kind_of version n =
    if n == 0 then Ok kinds.Fence else if n == 1 then Ok kinds.Create else if n == 2 then Ok kinds.Stage else if n == 3 then Ok kinds.Publish
    else if n == 4 then Ok kinds.Replace else if n == 5 then Ok kinds.Raise else if n == 6 then Ok kinds.Task
    else if n == 7 then Ok kinds.MarkStaged else if n == 8 then Ok kinds.Remove
    else if (n == 9) && (version == 2) then Ok kinds.Retire else Err (BadKind n)

abbrev pub kind_at : List ℕ → Result Kind EntryError
kind_at bytes =
    if not (begins bytes) then Err BadMagic
    else if nat_le (length bytes) 3 then Err (Field (Short (length bytes)))
    else if not (slice_index bytes 3 == 1) && not (slice_index bytes 3 == 2) then Err (BadVersion (slice_index bytes 3))
    else if nat_le (length bytes) 4 then Err (Field (Short (length bytes)))
    else kind_of (slice_index bytes 3) (slice_index bytes 4)

-- all of the bytes
unfoldable pub entry_of : List ℕ → Result Entry EntryError
entry_of bytes = do
  kind ← kind_at bytes
  moment ← moment_at bytes 5
  act ← act_at bytes kind moment.1
  if act.1 == length bytes then Ok (record { moment = moment.0; act = act.0 }) else Err (Trailing act.1)
