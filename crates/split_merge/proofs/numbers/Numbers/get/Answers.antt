use Rattle.std.proofs.Common.{◌∙◌, ℕ, List, ap, sym}
use Rattle.split_merge.specs.HeldNumbers.{numbers_in}
use Rattle.split_merge.specs.Numbering.{number_in}
use Rattle.split_merge.proofs.numbers.Numbers.get.Goals as goal

pub number_from-requires : goal.number_from-requires
number_from-requires c = rw c.in-Rising.is at c.self.invariant

pub returns-in-Rising : goal.returns-in-Rising
returns-in-Rising c = c.number_from.ensures ∙ ap (λ (l : List ℕ). number_in l c.args.doc) (ap numbers_in (sym c.in-Rising.is) ∙ c.self.view_is)

pub returns-in-Table : goal.returns-in-Table
returns-in-Table c = c.number_at.ensures ∙ ap (λ (l : List ℕ). number_in l c.args.doc) (c.deref.ensures.value ∙ ap numbers_in (sym c.in-Table.is) ∙ c.self.view_is)
