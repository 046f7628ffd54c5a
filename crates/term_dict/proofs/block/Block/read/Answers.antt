use Rattle.std.proofs.Common.{◌≡◌, arith, length, List, ℕ, ap, sym, ◌∙◌}
use Rattle.term_dict.proofs.Areas.{area_nil}
use Rattle.term_dict.proofs.block.Block.read.Goals as goal

pub returns-then-is_empty-clause-only : goal.returns-then-is_empty-clause-only
returns-then-is_empty-clause-only c terms some are e =
    let none : length c.args.bytes.now ≡ 0 = grind arith in
    absurd (some (area_nil terms (sym (ap (λ (l : List ℕ). length l) e) ∙ none)))
