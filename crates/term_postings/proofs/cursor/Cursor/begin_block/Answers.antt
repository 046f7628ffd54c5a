use Rattle.std.proofs.Common.{[], arith}
use Rattle.term_postings.proofs.Passes.{head_of, head_refused}
use Rattle.term_postings.proofs.Walks.{more_than_block, block_done}
use Rattle.term_postings.proofs.cursor.Cursor.begin_block.Goals as goal

pub returns-in_err-head-clause-only : goal.returns-in_err-head-clause-only
returns-in_err-head-clause-only c told after left s =
    let me = c.args.self.now in
    let more = more_than_block told me s.0 after left s.1 (omega arith) in
    absurd (head_refused me s.0 after s.1.stands more c.in_err-head.ensures.only)

pub returns-clause-only : goal.returns-clause-only
returns-clause-only c told after left s =
    let me = c.args.self.now in
    let more = more_than_block told me s.0 after left s.1 (omega arith) in
    let head = head_of me s.0 after c.in_ok-head.head s.1.stands more c.in_ok-head.ensures.only in
    let left_block = c.leave_block.ensures.only told s.0 after left s.1.stands.behind_heads s.1 head in
    (left_block.0, ([], ([], block_done told me _ s.0 after left s.1 (omega (arith, me.passed_within)) left_block.1)))
