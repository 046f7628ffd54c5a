-- What is written of a second reads back as that second.
use Rattle.std.proofs.Common.{◌≡◌, ◌+◌, ◌*◌, ◌/◌, [], ◌∷◌, ◌++◌, Some, None, ℤ, pos, negsuc, ◌*ℤ◌, refl, ◌∙◌, arith, append_assoc, false}
use Rattle.jiff.specs.Types.{DateTime, Timestamp}
use Rattle.jiff.specs.Words.{datetime_text, civil_nanos}
use Rattle.jiff.proofs.Family.{parse_timestamp-text}
use Rattle.jiff.proofs.SpanFacts.{signed_arith}
use Rattle.clock_time.specs.Datetimes.{rounded_down, rfc3339_seconds, civil_text}

-- a whole number of seconds rounds to itself
rounded : (n : ℤ) → rounded_down (n *ℤ pos 1_000_000_000) ≡ n
rounded (pos n) = omega (arith, signed_arith)
rounded (negsuc n) =
    let product : negsuc n *ℤ pos 1_000_000_000 ≡ negsuc (n * 1_000_000_000 + 999_999_999) = omega (arith, signed_arith) in
    let quotient : (n * 1_000_000_000 + 999_999_999) / 1_000_000_000 ≡ n = omega arith in
    rw (product, quotient) refl

-- the clock of a whole second shows no fraction
whole : (dt : DateTime) (seconds : ℤ) → civil_nanos dt ≡ seconds *ℤ pos 1_000_000_000 → dt.time.subsec_nanosecond ≡ 0
unfolding civil_nanos
whole dt seconds e = omega (arith, signed_arith, e, dt.time.subsec_in)

same_text : (dt : DateTime) → dt.time.subsec_nanosecond ≡ 0 → civil_text dt ≡ datetime_text false 84 None dt ++ 90 ∷ []
same_text dt e = rw e (simp append_assoc)

pub reads_back : (dt : DateTime) (t : Timestamp) (seconds : ℤ) → civil_nanos dt ≡ t.nanosecond
    → t.nanosecond ≡ seconds *ℤ pos 1_000_000_000 → rfc3339_seconds (civil_text dt) ≡ Some seconds
reads_back dt t seconds e f =
    rw (same_text dt (whole dt seconds (e ∙ f)), parse_timestamp-text dt t e, f, rounded seconds) refl
