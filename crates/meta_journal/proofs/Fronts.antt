-- What the first bytes of an object tell of it.
use Rattle.std.proofs.Common.{◌≡◌, ℕ, ◌<◌, ◌≤◌, true, false, List, length, get_or, take, Result, Err, refl, sym, ◌∙◌, arith}
use Rattle.std.specs.Prelude.{not, ◌&&◌, ◌==◌, nat_lt, nat_le, if◌then◌else◌}
use Rattle.std.proofs.lemmas.Bool.Decides.{nat_tests}
use Rattle.std.proofs.lemmas.Bool.{lt-ltb}
use Rattle.std.proofs.lemmas.List.{length-take, get_or-take}
use Rattle.meta_journal.specs.declared.reading.Kind.{Kind}
use Rattle.meta_journal.specs.declared.entry_error.EntryError.{EntryError}
use Rattle.meta_journal.specs.declared.entry_error.EntryError.TheVariants.{BadMagic, BadVersion}
use Rattle.meta_journal.specs.Journal.{IsNoEntry}
use Rattle.meta_journal.specs.Reading.{kind_of, kind_at, entry_of}
use Rattle.meta_journal.proofs.EntryLaws.{entry_again}

-- the kind by the first five bytes
by_five : ℕ → ℕ → ℕ → ℕ → ℕ → Result Kind EntryError
by_five a b c version kind =
    if not ((a == 0x51) && (b == 0x57) && (c == 0x4a)) then Err BadMagic
    else if not (version == 1) && not (version == 2) then Err (BadVersion version)
    else kind_of version kind

not_le : (n k : ℕ) → k < n → nat_le n k ≡ false
not_le n k lt = grind (arith, nat_tests)

five_tell : (bytes : List ℕ) → 5 ≤ length bytes → kind_at bytes ≡ by_five (get_or bytes 0 0) (get_or bytes 1 0) (get_or bytes 2 0) (get_or bytes 3 0) (get_or bytes 4 0)
unfolding by_five
five_tell bytes long =
    let some : nat_lt 2 (length bytes) ≡ true = lt-ltb 2 (length bytes) (omega arith) in
    let three : nat_le (length bytes) 3 ≡ false = not_le (length bytes) 3 (omega arith) in
    let four : nat_le (length bytes) 4 ≡ false = not_le (length bytes) 4 (omega arith) in
    rw (some, three, four) refl

-- the front of bytes begins as they do
pub front_same : (bytes : List ℕ) (n : ℕ) → 5 ≤ n → 5 ≤ length bytes → kind_at (take n bytes) ≡ kind_at bytes
front_same bytes n more long =
    let some : 5 ≤ length (take n bytes) = omega (arith, length-take n bytes) in
    let a = get_or-take n bytes 0 0 (omega arith) in
    let b = get_or-take n bytes 1 0 (omega arith) in
    let c = get_or-take n bytes 2 0 (omega arith) in
    let d = get_or-take n bytes 3 0 (omega arith) in
    let e = get_or-take n bytes 4 0 (omega arith) in
    five_tell (take n bytes) some ∙ rw (a, b, c, d, e) refl ∙ sym (five_tell bytes long)

pub kind_fault : (bytes : List ℕ) (f : EntryError) → kind_at bytes ≡ Err f → entry_of bytes ≡ Err f
unfolding entry_of
kind_fault bytes f e = rw e refl

pub none_begins : (bytes : List ℕ) (f : EntryError) → kind_at bytes ≡ Err f → IsNoEntry bytes
none_begins bytes f e = λ entry can spells. (let read = entry_again bytes entry can spells in let fault = kind_fault bytes f e in cc)
