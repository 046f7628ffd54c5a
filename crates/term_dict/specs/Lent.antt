-- What a range gives of the terms that it is to lend.
use Rattle.std.specs.Prelude.{◌≡◌, ℕ, List, [], ◌∷◌, Option, Some, None, Result, Ok, Err, if◌then◌else◌}
use Rattle.std.specs.Borrow.{Bor}
use Rattle.byte_fields.specs.declared.corrupt.Corrupt.{Corrupt}
use Rattle.term_dict.specs.declared.term.Term.{Term}
use Rattle.term_dict.specs.declared.term.TermInfo.{TermInfo}
use Rattle.term_dict.specs.declared.range.TermRange.{TermRange}
use Rattle.term_dict.specs.Readers.{is_before_end}
use Rattle.term_dict.specs.Reading.{said_at}

-- the first of the terms, or none where there are none
abbrev pub GivesFirst : List Term → Result (Option (Bor (List ℕ) × TermInfo)) Corrupt → Type 0
GivesFirst lent (Err e) = ⊥
GivesFirst [] (Ok None) = Unit {0}
GivesFirst (t ∷ ts) (Ok None) = ⊥
GivesFirst [] (Ok (Some x)) = ⊥
GivesFirst (t ∷ ts) (Ok (Some x)) = (x.0.now ≡ t.key) × (x.1 ≡ t.info)

-- ---- over any bytes

-- the next term of a range and the place behind it, or none and the same place where the bytes or the range end
abbrev pub next_of : TermRange → Result (Option Term × ℕ) Corrupt
next_of r = said_at r.area.now r.at (None, r.at) (λ t. if is_before_end r.end t.0.key then (Some t.0, t.1) else (None, r.at))

abbrev pub term_lent : Option (Bor (List ℕ) × TermInfo) → Option Term
term_lent (Some x) = Some (record { key = x.0.now; info = x.1 })
term_lent None = None

-- what was given of it, and where the range stands then
abbrev pub GivesNext : TermRange → Result (Option (Bor (List ℕ) × TermInfo)) Corrupt → ℕ → Type 0
GivesNext old (Ok lent) at = next_of old ≡ Ok (term_lent lent, at)
GivesNext old (Err c) at = (next_of old ≡ Err c) × (at ≡ old.at)

-- a range goes on by one term at most, and is over the same area with the same end
pub record Advances (old new : TermRange) (result : Result (Option (Bor (List ℕ) × TermInfo)) Corrupt) : Type 0 where
  pub gives : GivesNext old result new.at
  pub area : new.area ≡ old.area
  pub end : new.end ≡ old.end
