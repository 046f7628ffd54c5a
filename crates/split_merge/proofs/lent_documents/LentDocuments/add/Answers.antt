use Rattle.std.proofs.Common.{◌≡◌, ◌∙◌, List, ℕ, ap, subst, Some}
use Rattle.std.specs.List.{AllByRecursion}
use Rattle.split_merge.proofs.LentLemmas.{lent_more}
use Rattle.split_merge.proofs.lent_documents.LentDocuments.add.Goals as goal

pub returns : goal.returns
returns c = λ documents d partition body h.
    let grown = c.in_ok-name.ensures.grown in
    lent_more c.args.self.now _ documents d _ grown.0 h grown.1
    (subst (λ (x : List ℕ). AllByRecursion (λ (m : List ℕ). m ≡ x) grown.0) partition grown.2)
    (c.in_ok-name.ensures.number ∙ ap (λ (x : List ℕ). Some x) partition)
    body
    c.in_ok-push.ensures.items
