use Rattle.std.proofs.Common.{◌≡◌, ◌+◌, ◌++◌, length}
use Rattle.std.specs.Str.{chars, IsUtf8}
use Rattle.std.specs.Str.Iter.{chars_rest}
use Rattle.text_tokens.specs.Runs.{runs_from}
use Rattle.text_tokens.proofs.Joined.{grown}
use Rattle.text_tokens.proofs.runs.runs_of.Given as goal

-- the runs are those that are closed, and then the run in hand before those of the rest
abbrev pub invariant-loop-letter : goal.invariant-loop-letter
invariant-loop-letter l =
    (runs_from l.cut 0 (chars l.text) ≡ l.runs.items ++ grown l.run (runs_from l.cut l.run.to (chars (chars_rest l.letter-iterator))))
    × (l.run.to + length (chars_rest l.letter-iterator) ≡ length l.text)
    × (l.run.from + length l.run.text ≡ l.run.to)
    × IsUtf8 (chars_rest l.letter-iterator)
