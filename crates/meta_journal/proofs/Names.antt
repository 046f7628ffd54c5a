-- The test on the name of a partition.
use Rattle.std.proofs.Common.{◌≡◌, ℕ, ◌^◌, ◌<◌, Bool, true, false, List, [], ◌∷◌, length, get_or, Ok, Err, refl, arith, inl, inr, lit<}
use Rattle.std.specs.Prelude.{IsTrue, ◌&&◌, slice_index}
use Rattle.std.specs.List.{AllByRecursion, list_all}
use Rattle.std.specs.Str.{IsUtf8}
use Rattle.std.proofs.lemmas.Str.{IsUtf8-from_ascii}
use Rattle.std.proofs.lemmas.Bool.Decides.{nat_tests}
use Rattle.std.proofs.lemmas.Bool.{cases_lt, lt-ltb, le-leb, leb-true, ltb-true, and_parts}
use Rattle.std.proofs.lemmas.List.{get_or_past}
use Rattle.std.proofs.lemmas.List.Elements.{All-from_recursion, All-get_or, recursion_from_All}
use Rattle.byte_fields.specs.declared.field_error.FieldError.TheVariants.{NotText}
use Rattle.byte_fields.specs.Reading.{text_at}
use Rattle.source_checkpoint.specs.Names.{is_name_byte, IsPartition, IsBadNameAt}
use Rattle.meta_journal.specs.declared.entry_error.EntryError.TheVariants.{Field}
use Rattle.meta_journal.specs.Reading.{is_partition, partition_at}

abbrev IsNameByte : ℕ → Type 0
IsNameByte b = IsTrue (is_name_byte b)

all_pass : (xs : List ℕ) → AllByRecursion IsNameByte xs → list_all is_name_byte xs ≡ true
all_pass [] h = refl
all_pass (x ∷ xs) h = rw h.0 (all_pass xs h.1)

each_passes : (xs : List ℕ) → list_all is_name_byte xs ≡ true → AllByRecursion IsNameByte xs
each_passes [] h = tt
each_passes (x ∷ xs) h = let p = and_parts (is_name_byte x) (list_all is_name_byte xs) h in (p.0, each_passes xs p.1)

pub partition_passes : (name : List ℕ) → IsPartition name → is_partition name ≡ true
unfolding is_partition
partition_passes name h =
    let some = lt-ltb 0 (length name) h.some in
    let short = le-leb (length name) 64 h.short in
    let each = all_pass name (recursion_from_All IsNameByte name h.each) in
    rw (some, short, each) refl

pub partition_is : (name : List ℕ) → is_partition name ≡ true → IsPartition name
unfolding is_partition
partition_is name h =
    let p = and_parts _ _ h in
    let q = and_parts _ _ p.0 in
    record {
      some = ltb-true 0 (length name) q.0;
      short = leb-true (length name) 64 q.1;
      each = All-from_recursion IsNameByte name (each_passes name p.1);
    }

not_both : (b : Bool) → b ≡ true → b ≡ false → ⊥
not_both b e f = cc

bad_is_none : (name : List ℕ) (at : ℕ) → IsBadNameAt name at → IsPartition name → ⊥
bad_is_none name at bad is = elim bad.here [
  | inl none ↦ let some = is.some in omega arith
  | inr here ↦ elim here.1 [
    | inl long ↦ let short = is.short in let lt = here.0 in omega arith
    | inr other ↦ let one : is_name_byte (slice_index name at) ≡ true = All-get_or IsNameByte name at 0 here.0 is.each in absurd (not_both (is_name_byte (slice_index name at)) one other)
  ]
]

not_true : (b : Bool) → (b ≡ true → ⊥) → b ≡ false
not_true true h = absurd (h refl)
not_true false h = refl

pub bad_fails : (name : List ℕ) (at : ℕ) → IsBadNameAt name at → is_partition name ≡ false
bad_fails name at bad = not_true (is_partition name) (λ e. bad_is_none name at bad (partition_is name e))

-- a text that is read, and is a name or none
pub partition_read : (bytes : List ℕ) (at : ℕ) (name : List ℕ) (next : ℕ) → text_at bytes at ≡ Ok (name, next) → IsPartition name → partition_at bytes at ≡ Ok (name, next)
unfolding partition_at
partition_read bytes at name next read is = rw (read, partition_passes name is) refl

pub partition_refused : (bytes : List ℕ) (at : ℕ) (name : List ℕ) (next bad : ℕ) → text_at bytes at ≡ Ok (name, next) → IsBadNameAt name bad → partition_at bytes at ≡ Err (Field (NotText at))
unfolding partition_at
partition_refused bytes at name next bad read none = rw (read, bad_fails name bad none) refl

is_ascii_name : (b : ℕ) → is_name_byte b ≡ true → b < 128
is_ascii_name b h = grind (arith, nat_tests)

-- a name is short, and plain text
pub name_is_text : (name : List ℕ) → IsPartition name → (length name < 2 ^ 64) × IsUtf8 name
name_is_text name h = (
  let short = h.short in omega arith,
  IsUtf8-from_ascii name (λ i. elim (cases_lt i (length name)) [
    | inl lt ↦ is_ascii_name (get_or name i 0) (All-get_or IsNameByte name i 0 lt h.each)
    | inr le ↦ rw (get_or_past name i 0 le) (lit< tt)
  ]),
)
