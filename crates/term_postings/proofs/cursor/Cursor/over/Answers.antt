use Rattle.std.proofs.Common.{◌≡◌, ◌-◌, ◌/◌, ◌++◌, ◌∙◌, ℕ, ap, sym, length, refl, arith}
use Rattle.term_postings.specs.Postings.{document_bytes, head_list}
use Rattle.term_postings.proofs.Walks.{start_behind, list_parts}
use Rattle.term_postings.proofs.cursor.Cursor.over.Goals as goal

pub returns-in-Ok-clause-only : goal.returns-in-Ok-clause-only
returns-in-Ok-clause-only c told list more more_positions are docs e positions =
    let flag = c.args.with_positions in
    let later : c.saturating_sub-later.result / 128 ≡ (length list - 1) / 128 = omega arith in
    let parts = list_parts c.args.postings.now more flag list e ∙ ap (λ (n : ℕ). head_list n flag 0 list ++ (document_bytes flag 0 list ++ more)) (sym later) in
    c.starting.ensures.only told list more more_positions are docs refl e (c.in-Ok.ensures.only flag 0 list (document_bytes flag 0 list ++ more) (start_behind flag list are) later parts) positions

pub returns-in-Err-clause-only : goal.returns-in-Err-clause-only
returns-in-Err-clause-only c told list more more_positions are docs e positions =
    let flag = c.args.with_positions in
    let later : c.saturating_sub-later.result / 128 ≡ (length list - 1) / 128 = omega arith in
    let parts = list_parts c.args.postings.now more flag list e ∙ ap (λ (n : ℕ). head_list n flag 0 list ++ (document_bytes flag 0 list ++ more)) (sym later) in
    absurd (c.in-Err.ensures.only flag 0 list (document_bytes flag 0 list ++ more) (start_behind flag list are) later parts)
