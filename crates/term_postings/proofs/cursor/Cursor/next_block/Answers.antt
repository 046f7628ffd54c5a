use Rattle.std.proofs.Common.{arith}
use Rattle.std.proofs.Common.{List, ℕ, Option, ap, sym, ◌∙◌}
use Rattle.std.proofs.lemmas.Bool.{false≢true}
use Rattle.std.proofs.lemmas.List.{take_at}
use Rattle.term_postings.specs.Reading.{last_of}
use Rattle.term_postings.proofs.Many.{many_given}
use Rattle.term_postings.proofs.cursor.Cursor.next_block.Goals as goal

pub returns-in_err-begin_block-clause-only : goal.returns-in_err-begin_block-clause-only
returns-in_err-begin_block-clause-only c told after left s =
    absurd (false≢true (c.in_err-begin_block.ensures.only told after left s).0)

pub returns-in_err-pass_all-clause-only : goal.returns-in_err-pass_all-clause-only
returns-in_err-pass_all-clause-only c told after left s =
    let begun = (c.in_ok-begin_block.ensures.only told after left s).1 in
    absurd (false≢true (c.in_err-pass_all.ensures.only told after begun.0 begun.1).0)

pub returns-clause-only : goal.returns-clause-only
returns-clause-only c told after left s =
    let begun = (c.in_ok-begin_block.ensures.only told after left s).1 in
    let passes = (c.in_ok-pass_all.ensures.only told after begun.0 begun.1).1 in
    many_given told c.pass_all.new.self after left begun.0 c.pass_all.new.found _ c.min-count.result passes (omega arith) (omega (arith, c.min-count.ensures, c.in_ok-begin_block.ensures.moves.0, c.in_ok-begin_block.ensures.moves.1))

pub returns-clause-given : goal.returns-clause-given
returns-clause-given c =
    c.in_ok-pass_all.ensures.given ∙ ap (λ (g : Option ℕ). last_of c.pass_all.new.found g) c.in_ok-begin_block.ensures.given
    ∙ ap (λ (l : List ℕ). last_of l c.args.self.now.given) (sym (take_at c.pass_all.new.found _ c.min-count.result (omega arith)))
