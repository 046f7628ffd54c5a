use Rattle.std.proofs.Common.{◌≡◌, ◌∙◌, ◌<◌, ◌++◌, [], arith, refl, drop, take, Ok, Err, rules}
use Rattle.std.proofs.lemmas.Bool.{false≢true}
use Rattle.term_postings.specs.Reading.{walk, LeavesBlocks}
use Rattle.term_postings.specs.Postings.{last_document}
use Rattle.term_postings.proofs.Passes.{head_of, head_refused, leaves}
use Rattle.term_postings.proofs.Walks.{more_than_block, skip_block}
use Rattle.term_postings.proofs.Exact.{few_left, head_fault, not_below, block_fault, block_left}
use Rattle.term_postings.proofs.cursor.Cursor.skip_blocks.Goals as goal

pub loop-document-preserved : goal.loop-document-preserved
loop-document-preserved c = (
  c.in_ok-leave_block.ensures.same ∙ c.loop-document.invariant.0,
  λ told after left s.
      let me = c.loop-document.self in
      let f = c.loop-document.invariant.1 told after left s in
      let at = f.2 in
      let more = more_than_block told me at.0 f.0 f.1 at.1 (omega arith) in
      let head = head_of me at.0 f.0 c.in_ok-head.head at.1.stands more c.in_ok-head.ensures.only in
      let gone = c.in_ok-leave_block.ensures.only told at.0 f.0 f.1 at.1.stands.behind_heads at.1 head in
      let l = leaves me at.0 f.0 c.in_ok-head.head at.1.stands.behind_heads at.1.stands head in
      let below : last_document me.block_before (take 128 (at.0 ++ f.0)) < c.args.document = omega (arith, l.last_is, c.last.ensures) in
      (drop 128 (at.0 ++ f.0), [], ([], gone.1), f.3 ∙ skip_block told me c.args.document at.0 f.0 f.1 at.1 below),
  c.in_ok-leave_block.ensures.fault ∙ c.loop-document.invariant.2,
  λ end h.
      let me = walk c.loop-document.self in
      let left = block_left c.args.document me (omega arith) c.in_ok-head.head c.in_ok-head.ensures.exact (omega (arith, c.last.ensures)) (walk c.leave_block.new.self) c.in_ok-leave_block.ensures.exact in
      c.loop-document.invariant.3 end (LeavesBlocks.leaves me (walk c.leave_block.new.self) end left h),
)

pub returns-in_err-head-clause-only : goal.returns-in_err-head-clause-only
returns-in_err-head-clause-only c told after left s =
    let f = c.loop-document.invariant.1 told after left s in
    let at = f.2 in
    let more = more_than_block told c.loop-document.self at.0 f.0 f.1 at.1 (omega arith) in
    absurd (head_refused c.loop-document.self at.0 f.0 at.1.stands more c.in_err-head.ensures.only)

pub returns-in_err-leave_block-clause-only : goal.returns-in_err-leave_block-clause-only
returns-in_err-leave_block-clause-only c told after left s =
    let me = c.loop-document.self in
    let f = c.loop-document.invariant.1 told after left s in
    let at = f.2 in
    let more = more_than_block told me at.0 f.0 f.1 at.1 (omega arith) in
    let head = head_of me at.0 f.0 c.in_ok-head.head at.1.stands more c.in_ok-head.ensures.only in
    absurd (false≢true (c.in_err-leave_block.ensures.only told at.0 f.0 f.1 at.1.stands.behind_heads at.1 head).0)

pub returns-after-loop-document-clause-only : goal.returns-after-loop-document-clause-only
returns-after-loop-document-clause-only c told after left s = (refl, c.loop-document.invariant.1 told after left s)

pub returns-then-last-from-clause-only : goal.returns-then-last-from-clause-only
returns-then-last-from-clause-only c told after left s = (refl, c.loop-document.invariant.1 told after left s)

pub returns-in_err-head-clause-exact : goal.returns-in_err-head-clause-exact
returns-in_err-head-clause-exact c =
    let me = walk c.loop-document.self in
    let is : c.from_residual.result ≡ Err c.in_err-head.field-0.0 = search rules in
    rw is (c.loop-document.invariant.3 (Err c.in_err-head.field-0.0)
    (LeavesBlocks.breaks me c.in_err-head.field-0.0 (head_fault c.args.document me (omega arith) c.in_err-head.field-0.0 c.in_err-head.ensures.exact)))

pub returns-in_err-leave_block-clause-exact : goal.returns-in_err-leave_block-clause-exact
returns-in_err-leave_block-clause-exact c =
    let me = walk c.loop-document.self in
    let is : c.from_residual-in_err-leave_block.result ≡ Err c.in_err-leave_block.field-0.0 = search rules in
    rw is (c.loop-document.invariant.3 (Err c.in_err-leave_block.field-0.0) (LeavesBlocks.breaks me c.in_err-leave_block.field-0.0
    (block_fault c.args.document me (omega arith) c.in_ok-head.head c.in_ok-head.ensures.exact (omega (arith, c.last.ensures)) c.in_err-leave_block.field-0.0 c.in_err-leave_block.ensures.exact)))

pub returns-after-loop-document-clause-exact : goal.returns-after-loop-document-clause-exact
returns-after-loop-document-clause-exact c =
    let me = walk c.loop-document.self in
    c.loop-document.invariant.3 (Ok me) (LeavesBlocks.stays me (few_left c.args.document me (omega arith)))

pub returns-then-last-from-clause-exact : goal.returns-then-last-from-clause-exact
returns-then-last-from-clause-exact c =
    let me = walk c.loop-document.self in
    c.loop-document.invariant.3 (Ok me)
    (LeavesBlocks.stays me (not_below c.args.document me (omega arith) c.in_ok-head.head c.in_ok-head.ensures.exact (omega (arith, c.last.ensures))))
