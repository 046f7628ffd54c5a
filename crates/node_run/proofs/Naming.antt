-- Names of a line, and what none is.
use Rattle.std.proofs.Common.{◌≡◌, ℕ, zero, suc, ◌<◌, Bool, true, false, List, [], ◌∷◌, length, inl, inr, sym, ◌∙◌, arith}
use Rattle.std.proofs.lemmas.Bool.Decides.{nat_tests}
use Rattle.std.proofs.lemmas.List.Elements.{recursion_from_All}
use Rattle.std.proofs.lemmas.Str.{IsUtf8-from_ascii}
use Rattle.std.specs.List.{AllByRecursion}
use Rattle.std.specs.Prelude.{◌⊎◌, IsTrue, IsUtf8, slice_index}
use Rattle.std.specs.Str.{IsAscii}
use Rattle.source_checkpoint.specs.Names.{IsPartition, IsBadNameAt}
use Rattle.source_checkpoint.specs.Names as partitions
use Rattle.byte_fields.specs.ClientName.{IsClientName}
use Rattle.byte_fields.specs.ClientName as clients

ascii : (is_byte : ℕ → Bool) → ((b : ℕ) → is_byte b ≡ true → b < 128) → (name : List ℕ) → AllByRecursion (λ b. is_byte b ≡ true) name → IsAscii name
ascii is_byte low [] all i = omega arith
ascii is_byte low (b ∷ name) all zero = low b all.0
ascii is_byte low (b ∷ name) all (suc i) = ascii is_byte low name all.1 i

partition_byte : (b : ℕ) → partitions.is_name_byte b ≡ true → b < 128
partition_byte b h = grind (arith, nat_tests)

client_byte : (b : ℕ) → clients.is_name_byte b ≡ true → b < 128
client_byte b h = grind (arith, nat_tests)

pub partition_utf8 : (name : List ℕ) → IsPartition name → IsUtf8 name
partition_utf8 name p =
    IsUtf8-from_ascii name (ascii partitions.is_name_byte partition_byte name (recursion_from_All (λ b. IsTrue (partitions.is_name_byte b)) name p.each))

pub client_utf8 : (name : List ℕ) → IsClientName name → IsUtf8 name
client_utf8 name p =
    IsUtf8-from_ascii name (ascii clients.is_name_byte client_byte name (recursion_from_All (λ b. IsTrue (clients.is_name_byte b)) name p.each))

false_is_true : false ≡ true → ⊥
false_is_true e = cc

pub bad_name : (text : List ℕ) (at : ℕ) → IsBadNameAt text at → IsPartition text → ⊥
bad_name text at bad is = by bad.here where
  by : (length text ≡ 0) ⊎ ((at < length text) × ((at ≡ 64) ⊎ (partitions.is_name_byte (slice_index text at) ≡ false))) → ⊥
  by (inl none) = omega (arith, none, is.some)
  by (inr (below, inl over)) = omega (arith, below, over, is.short)
  by (inr (below, inr other)) = false_is_true (sym other ∙ is.each at 0 below)
