-- What is read over any bytes, and which fault is met.
use Rattle.std.specs.Prelude.{◌≡◌, ℕ, ◌^◌, Bool, true, false, List, [], ◌∷◌, length, Option, Some, None, Result, Ok, Err, nat_lt, ◌==◌, if◌then◌else◌}
use Rattle.std.specs.List.{AllByRecursion}
use Rattle.std.specs.Ordering.{is_eq}
use Rattle.byte_fields.specs.declared.corrupt.Corrupt.{Corrupt}
use Rattle.byte_fields.specs.Steps.{◌>>=◌, corrupt, field}
use Rattle.byte_fields.specs.Reading.{varint_at, bytes_at}
use Rattle.term_dict.specs.Keys.{order, is_below}
use Rattle.term_dict.specs.declared.term.Term.{Term}
use Rattle.term_dict.specs.declared.term.TermInfo.{TermInfo}

-- ---- a term

-- the numbers of a term, and the place behind them; of documents there are fewer than 2^32
unfoldable pub info_at : List ℕ → ℕ → Result (TermInfo × ℕ) Corrupt
info_at bytes at = do
  docs ← field (varint_at bytes at)
  few ← if nat_lt docs.0 (2 ^ 32) then Ok docs else Err (corrupt at)
  postings ← field (varint_at bytes few.1)
  postings_len ← field (varint_at bytes postings.1)
  positions ← field (varint_at bytes postings_len.1)
  positions_len ← field (varint_at bytes positions.1)
  Ok (record { docs = few.0; postings = postings.0; postings_len = postings_len.0; positions = positions.0; positions_len = positions_len.0 }, positions_len.1)

-- the term at a place, and the place behind it
unfoldable pub term_at : List ℕ → ℕ → Result (Term × ℕ) Corrupt
term_at bytes at = do
  key ← field (bytes_at bytes at)
  info ← info_at bytes key.1
  Ok (record { key = key.0; info = info.0 }, info.1)

-- what is answered at a place: one thing where the bytes end, another of the term that stands there, or the fault that is met
abbrev pub said_at : {A : Type 0} → List ℕ → ℕ → A → (Term × ℕ → A) → Result A Corrupt
said_at bytes at ended said = if at == length bytes then Ok ended else (term_at bytes at >>= λ t. Ok (said t))

-- ---- a walk over terms to a key

-- from a place on these terms stand one behind another, up to a second place
abbrev pub Stand : List ℕ → ℕ → List Term → ℕ → Type 0
Stand bytes from [] to = from ≡ to
Stand bytes from (t ∷ ts) to = (next : ℕ) × (term_at bytes from ≡ Ok (t, next)) × Stand bytes next ts to

-- from a place on terms below a key stand one behind another, up to a second place
pub record Passes (bytes : List ℕ) (from : ℕ) (key : List ℕ) (to : ℕ) : Type 0 where
  pub passed : List Term
  pub stand : Stand bytes from passed to
  pub below : AllByRecursion (λ t. is_below t.key key ≡ true) passed

-- whether a term was read that is below a key; where the bytes end, none is read
abbrev pub is_term_below : List ℕ → Result (Term × ℕ) Corrupt → Bool
is_term_below key (Ok t) = is_below t.0.key key
is_term_below key (Err c) = false

-- a walk to a key: it passes over the terms below it, up to the first place where none stands, and the answer is by what stands there
pub record Walks {A : Type 0} (bytes : List ℕ) (from : ℕ) (key : List ℕ) (answer : List ℕ → ℕ → Result A Corrupt) (result : Result A Corrupt) : Type 0 where
  pub at : ℕ
  pub passes : Passes bytes from key at
  pub ends : is_term_below key (term_at bytes at) ≡ false
  pub answers : result ≡ answer bytes at

-- the place itself, unless a fault stands there
abbrev pub place_there : List ℕ → ℕ → Result ℕ Corrupt
place_there bytes at = said_at bytes at at (λ t. at)

-- the numbers of the term there, if it has the key
abbrev pub info_there : List ℕ → List ℕ → ℕ → Result (Option TermInfo) Corrupt
info_there key bytes at = said_at bytes at None (λ t. if is_eq (order t.0.key key) then Some t.0.info else None)

-- ---- a block

-- a block has bytes
abbrev pub block_of : List ℕ → Result (List ℕ) Corrupt
block_of [] = Err (corrupt 0)
block_of (byte ∷ bytes) = Ok (byte ∷ bytes)
