use Rattle.std.proofs.Common.{◌≡◌, ◌++◌, drop}
use Rattle.text_tokens.specs.Tokens.{numbered}
use Rattle.text_tokens.proofs.tokens.tokens_of.Given as goal

-- the tokens are those so far, and then those of the other runs
abbrev pub invariant-loop-position : goal.invariant-loop-position
invariant-loop-position l =
    numbered l.cut 0 l.run-items ≡ l.tokens.items ++ numbered l.cut l.position (drop l.position l.run-items)
