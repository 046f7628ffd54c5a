-- What a key is.
use Rattle.object_store.specs.declared.key.KeyError.{KeyError}
use Rattle.object_store.specs.declared.key.KeyError.TheVariants.{BadKey}
use Rattle.std.specs.Prelude.{ℕ, ◌≤◌, ◌<◌, Bool, ◌&&◌, ◌||◌, ◌==◌, nat_le, List, length, All, IsTrue, ◌≡◌, ◌⊎◌, false, slice_index}

-- a lower-case letter, a digit, `/` or `-`
abbrev pub is_key_byte : ℕ → Bool
is_key_byte b = (nat_le 97 b && nat_le b 122) || (nat_le 48 b && nat_le b 57) || (b == 47) || (b == 45)

pub record IsKey (text : List ℕ) : Type 0 where
  pub some : 0 < length text
  pub short : length text ≤ 128
  pub each : All (λ b. IsTrue (is_key_byte b)) text

-- The first place where a text is no key: its end where it is empty, 128 where it is longer, or the first other byte.
pub record IsBadKeyAt (text : List ℕ) (at : ℕ) : Type 0 where
  pub before : (k : ℕ) → k < at → IsTrue (is_key_byte (slice_index text k))
  pub here : (length text ≡ 0) ⊎ ((at < length text) × ((at ≡ 128) ⊎ (is_key_byte (slice_index text at) ≡ false)))
  pub limit : at ≤ 128

-- why a text is no key
abbrev pub IsBadKey : List ℕ → KeyError → Type 0
IsBadKey text (BadKey at) = IsBadKeyAt text at
