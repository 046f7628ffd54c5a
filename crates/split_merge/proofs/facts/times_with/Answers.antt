use Rattle.std.proofs.Common.{◌≡◌, ℕ, Some, None, sym, ◌∙◌, ap}
use Rattle.std.specs.Prelude.{Option}
use Rattle.split_merge.specs.Lent.{value_of}
use Rattle.split_merge.proofs.GainLemmas.{times_gain, times_stay}
use Rattle.split_merge.proofs.facts.times_with.Goals as goal

abbrev some : ℕ → Option ℕ
some n = Some n

same_number : (a b : ℕ) → some a ≡ some b → a ≡ b
same_number a b e = cc

none_some : (b : ℕ) → ◌≡◌ {A = Option ℕ} None (some b) → ⊥
none_some b e = absurd cc

pub returns-then-own-number : goal.returns-then-own-number
returns-then-own-number c = λ ds d e gains h.
    times_gain c.args.number (value_of c.args.value) ds d e gains c.args.timestamp c.args.times c.widened_with.result (c.in-Some.is ∙ ap some c.if-own-number.true) c.widened_with.ensures h

pub returns-else-own-number : goal.returns-else-own-number
returns-else-own-number c = λ ds d e gains h. times_stay c.args.number (value_of c.args.value) ds d e gains c.args.timestamp c.args.times (λ same. c.if-own-number.false (same_number c.in-Some.own c.args.number (sym c.in-Some.is ∙ same))) h

pub returns-in-None : goal.returns-in-None
returns-in-None c = λ ds d e gains h. times_stay c.args.number (value_of c.args.value) ds d e gains c.args.timestamp c.args.times (λ same. none_some c.args.number (sym c.in-None.is ∙ same)) h
