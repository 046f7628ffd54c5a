-- The names of clients are UTF-8.
use Rattle.std.proofs.Common.{◌≡◌, ℕ, zero, suc, ◌<◌, Bool, true, List, [], ◌∷◌, arith}
use Rattle.std.proofs.lemmas.Bool.Decides.{nat_tests}
use Rattle.std.proofs.lemmas.List.Elements.{recursion_from_All}
use Rattle.std.proofs.lemmas.Str.{IsUtf8-from_ascii}
use Rattle.std.specs.List.{AllByRecursion}
use Rattle.std.specs.Prelude.{IsTrue, IsUtf8}
use Rattle.std.specs.Str.{IsAscii}
use Rattle.byte_fields.specs.ClientName.{IsClientName}
use Rattle.byte_fields.specs.ClientName as clients

ascii : (is_byte : ℕ → Bool) → ((b : ℕ) → is_byte b ≡ true → b < 128) → (name : List ℕ) → AllByRecursion (λ b. is_byte b ≡ true) name → IsAscii name
ascii is_byte low [] all i = omega arith
ascii is_byte low (b ∷ name) all zero = low b all.0
ascii is_byte low (b ∷ name) all (suc i) = ascii is_byte low name all.1 i

client_byte : (b : ℕ) → clients.is_name_byte b ≡ true → b < 128
client_byte b h = grind (arith, nat_tests)

pub client_utf8 : (name : List ℕ) → IsClientName name → IsUtf8 name
client_utf8 name p =
    IsUtf8-from_ascii name (ascii clients.is_name_byte client_byte name (recursion_from_All (λ b. IsTrue (clients.is_name_byte b)) name p.each))
