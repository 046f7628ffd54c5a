use Rattle.std.proofs.Common.{◌≡◌, pos, ◌*ℤ◌, arith, string_bytes, rules}
use Rattle.jiff.specs.Words.{civil_nanos}
use Rattle.jiff.proofs.SpanFacts.{signed_arith}
use Rattle.clock_time.specs.Datetimes.{civil_text}
use Rattle.clock_time.proofs.Reading.{reads_back}
use Rattle.clock_time.proofs.dates.print_rfc3339.Goals as goal

pub returns-clause-text : goal.returns-clause-text
returns-clause-text c =
    let shown = c.to_datetime-shown.result in
    let named : c.unwrap-instant.result.nanosecond ≡ c.args.seconds *ℤ pos 1_000_000_000 = search rules in
    let at : civil_nanos shown ≡ c.args.seconds *ℤ pos 1_000_000_000 = omega (arith, signed_arith) in
    let written : string_bytes c.push_civil.new.text ≡ civil_text shown =
    rw c.new-text.ensures.bytes at c.in_ok-push_civil.ensures in
    (shown, at, written)

pub returns-clause-back : goal.returns-clause-back
returns-clause-back c =
    let shown = c.to_datetime-shown.result in
    let instant = c.unwrap-instant.result in
    let named : instant.nanosecond ≡ c.args.seconds *ℤ pos 1_000_000_000 = search rules in
    let at : civil_nanos shown ≡ instant.nanosecond = omega (arith, signed_arith) in
    let written : string_bytes c.push_civil.new.text ≡ civil_text shown =
    rw c.new-text.ensures.bytes at c.in_ok-push_civil.ensures in
    rw written (reads_back shown instant c.args.seconds at named)
