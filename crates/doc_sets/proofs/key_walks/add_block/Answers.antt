use Rattle.std.proofs.Common.{ℕ, List, Result, Ok, Err, arith, refl}
use Rattle.split_bundle.specs.Lists.{terms_of}
use Rattle.doc_sets.specs.Faults.{fault_of}
use Rattle.doc_sets.specs.Reads.{numbers_if}
use Rattle.doc_sets.specs.Walks.{begun_in}
use Rattle.doc_sets.specs.declared.leaf_error.LeafError.{LeafError}
use Rattle.doc_sets.specs.declared.leaf_error.LeafError.TheVariants as faults
use Rattle.doc_sets.proofs.ReadLists.{put_fault}
use Rattle.doc_sets.proofs.ReadWalks.{block_beyond, block_held, block_range, block_unread, range_read}
use Rattle.doc_sets.proofs.TermWalks.{begun_listed, few_begun}
use Rattle.doc_sets.proofs.WalkSteps.{block_terms_added}
use Rattle.doc_sets.proofs.key_walks.add_block.Goals as goal

pub returns-in-Ok-clause-only : goal.returns-in-Ok-clause-only
returns-in-Ok-clause-only c = λ s documents p test is kept set.
    let prefix = c.args.prefix.now in
    let terms = terms_of s documents p.keys in
    let n = c.args.number in
    block_terms_added c.args.part.now s documents p c.args.wanted c.add_terms.result prefix n test c.add_terms.new.bits
    (c.add_terms.ensures.only s documents p (begun_in prefix terms n) test is (c.in-Ok.ensures.only _ (c.in_ok-block.ensures.only s documents p is.part)) (few_begun prefix terms n)
    (begun_listed s documents p c.args.positions prefix n is.part.is_split.dictionary.are_terms.rising kept) set)

pub returns-then-number-clause-exact : goal.returns-then-number-clause-exact
returns-then-number-clause-exact c = λ size.
    (Err (faults.Corrupt 2), block_beyond c.args.part.now (numbers_if c.args.part.now c.args.positions c.args.wanted) c.args.prefix.now c.args.number (omega (arith, c.if-number.true)), refl)

pub returns-in_err-block-clause-exact : goal.returns-in_err-block-clause-exact
returns-in_err-block-clause-exact c = λ size.
    let e = c.in_err-block.field-0.0 in
    let met : Result (List ℕ) LeafError = Err (fault_of e) in (
      met,
      block_held c.args.part.now (numbers_if c.args.part.now c.args.positions c.args.wanted) c.args.prefix.now c.args.number (Err e) met (omega (arith, c.if-number.false)) c.in_err-block.ensures.exact refl,
      put_fault c.args.bits.now c.args.bits.now c.from_residual.result (fault_of e) met c.from_residual.ensures.1 refl,
    )

pub returns-in-Ok-clause-exact : goal.returns-in-Ok-clause-exact
returns-in-Ok-clause-exact c = λ size.
    let reads = numbers_if c.args.part.now c.args.positions c.args.wanted in
    let bytes = c.in_ok-block.block.bytes.now in (
      range_read reads 65 c.in-Ok.terms,
      block_held c.args.part.now reads c.args.prefix.now c.args.number (Ok bytes) (range_read reads 65 c.in-Ok.terms) (omega (arith, c.if-number.false)) c.in_ok-block.ensures.exact
          (block_range reads c.args.prefix.now bytes c.in-Ok.terms c.in-Ok.ensures.exact),
      c.add_terms.ensures.exact size,
    )

pub returns-in-Err-clause-exact : goal.returns-in-Err-clause-exact
returns-in-Err-clause-exact c = λ size.
    let reads = numbers_if c.args.part.now c.args.positions c.args.wanted in
    let bytes = c.in_ok-block.block.bytes.now in (
      Err (faults.Corrupt 2),
      block_held c.args.part.now reads c.args.prefix.now c.args.number (Ok bytes) (Err (faults.Corrupt 2)) (omega (arith, c.if-number.false)) c.in_ok-block.ensures.exact
          (block_unread reads c.args.prefix.now bytes _ c.in-Err.ensures.exact),
      refl,
    )
