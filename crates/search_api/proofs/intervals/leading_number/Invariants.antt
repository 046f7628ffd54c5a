use Rattle.std.proofs.Common.{◌≡◌, ◌^◌, ◌<◌, drop}
use Rattle.search_api.specs.Intervals.{leading_number}
use Rattle.search_api.proofs.intervals.leading_number.Given as goal

abbrev pub invariant-loop-byte : goal.invariant-loop-byte
invariant-loop-byte l = (leading_number 0 l.text ≡ leading_number l.number (drop l.byte-index l.text)) × (l.number < 2 ^ 64)
