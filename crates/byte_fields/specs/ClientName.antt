-- What names a client.
use Rattle.std.specs.Prelude.{ℕ, ◌≤◌, ◌<◌, Bool, ◌&&◌, ◌||◌, ◌==◌, nat_le, List, length, All, IsTrue}

-- a letter, a digit, `_` or `-`
abbrev pub is_name_byte : ℕ → Bool
is_name_byte b = (nat_le 97 b && nat_le b 122) || (nat_le 65 b && nat_le b 90) || (nat_le 48 b && nat_le b 57) || (b == 95) || (b == 45)

pub record IsClientName (text : List ℕ) : Type 0 where
  pub some : 0 < length text
  pub short : length text ≤ 32
  pub each : All (λ b. IsTrue (is_name_byte b)) text
