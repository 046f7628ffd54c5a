-- The greatest number that was staged never falls.
use Rattle.std.proofs.Common.{ℕ, ◌≤◌, List, [], ◌∷◌, ◌++◌, sym, subst, append_assoc, arith}
use Rattle.std.proofs.lemmas.List.{append-nil}
use Rattle.meta_journal.specs.declared.entry.Act.{Act}
use Rattle.meta_journal.specs.declared.entry.Act.TheVariants.{Fence, Create, Stage, Publish, Replace, Raise, Task, MarkStaged, Remove, Retire}
use Rattle.meta_journal.specs.declared.entry.Entry.{Entry}
use Rattle.meta_store.proofs.Numbers.{history-snoc}
use Rattle.meta_store.specs.History.{History, history, last_number, number_after}

number_stays : (act : Act) (number : ℕ) → number ≤ number_after act number
number_stays Fence number = omega arith
number_stays (Create config) number = omega arith
number_stays (Stage staged delta facts) number = omega arith
number_stays (Publish published) number = omega arith
number_stays (Replace new old upto) number = omega arith
number_stays (Raise raised upto) number = omega arith
number_stays (Task opstamp text fields times) number = omega arith
number_stays (MarkStaged numbers) number = omega arith
number_stays (Remove numbers) number = omega arith
number_stays (Retire numbers) number = omega arith

pub numbers_grow : (entries more : List Entry) → last_number (history entries) ≤ last_number (history (entries ++ more))
numbers_grow entries [] = subst (λ (es : List Entry). last_number (history entries) ≤ last_number (history es)) (sym (append-nil entries)) (omega arith)
numbers_grow entries (entry ∷ more) =
    let one : last_number (history entries) ≤ last_number (history (entries ++ entry ∷ [])) =
    subst (λ (h : History). last_number (history entries) ≤ last_number h) (sym (history-snoc entries entry)) (number_stays entry.act (last_number (history entries))) in
    let rest : last_number (history (entries ++ entry ∷ [])) ≤ last_number (history (entries ++ entry ∷ more)) =
    subst (λ (es : List Entry). last_number (history (entries ++ entry ∷ [])) ≤ last_number (history es)) (append_assoc entries (entry ∷ []) more) (numbers_grow (entries ++ entry ∷ []) more) in
    omega (arith, one, rest)
