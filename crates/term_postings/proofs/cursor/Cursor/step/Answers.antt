use Rattle.std.proofs.Common.{arith}
use Rattle.std.proofs.lemmas.Bool.{false≢true}
use Rattle.term_postings.proofs.Walks.{step_given}
use Rattle.term_postings.proofs.cursor.Cursor.step.Goals as goal

pub returns-in_err-begin_block-clause-only : goal.returns-in_err-begin_block-clause-only
returns-in_err-begin_block-clause-only c told after left s =
    absurd (false≢true (c.in_err-begin_block.ensures.only told after left s).0)

pub returns-clause-only : goal.returns-clause-only
returns-clause-only c told after left s =
    let begun = c.in_ok-begin_block.ensures.only told after left s in
    step_given told c.begin_block.new.self c.pass.new.self c.pass.result after left begun.1.0 begun.1.1 (omega arith) (c.pass.ensures.only told)
