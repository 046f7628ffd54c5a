use Rattle.std.proofs.Common.{◌≡◌, ◌∙◌, ◌||◌, ◌-◌, ◌+◌, suc, List, [], Ok, nat_eq, ap, arith, refl, subst, sym}
use Rattle.std.specs.List.{starts_with}
use Rattle.term_dict.specs.Bounds.{AreBlocks}
use Rattle.term_dict.specs.Keys.{is_below}
use Rattle.term_dict.specs.declared.index.BlockStart.{BlockStart}
use Rattle.split_bundle.specs.declared.footer.Footer.{Footer}
use Rattle.doc_sets.specs.Faults.{LacksPart}
use Rattle.doc_sets.specs.Walks.{AsksWalkBlock, AsksWalkList}
use Rattle.doc_sets.specs.Reads.{ReadsBlocks}
use Rattle.doc_sets.proofs.ReadLists.{front_none}
use Rattle.doc_sets.proofs.ReadWalks.{block_goes, no_blocks}
use Rattle.doc_sets.proofs.Causes.{handed_on}
use Rattle.leaf_search.specs.FileRanges.{AddsParts}
use Rattle.leaf_search.proofs.ListParts.{next_lists, no_lists, walk_lacks, walk_lists}
use Rattle.leaf_search.proofs.list_ranges.name_walk_lists.Goals as goal

pub loop-number-init : goal.loop-number-init
loop-number-init c = record { only = λ s documents p new is adds. adds; found = λ rest others. others }

pub loop-number-preserved : goal.loop-number-preserved
loop-number-preserved c = record {
  only = λ s documents p new is adds.
      c.loop-number.invariant.only s documents p new is
      (next_lists c.args.part.now s documents p c.args.prefix.now c.args.wanted c.loop-number.number c.blocks_with-blocks.result.end c.loop-number.ranges c.name_block_lists.new.ranges new c.loop-number-test.true
      (c.in_ok-name_block_lists.ensures.only s documents p is) adds);
  found = λ rest others.
      let v = c.args.part.now in
      let prefix = c.args.prefix.now in
      let n = c.loop-number.number in
      let end = c.blocks_with-blocks.result.end in
      let left : end - n ≡ suc (end - (n + 1)) = omega (arith, c.loop-number-test.true) in
      c.loop-number.invariant.found rest
      (subst (λ r. ReadsBlocks v (λ t. Ok []) prefix n (end - n) r) (sym (front_none rest))
      (block_goes v (λ t. Ok []) prefix n (end - n) (end - (n + 1)) (Ok []) rest [] left c.in_ok-name_block_lists.ensures.read refl others));
}

pub returns-in_err-name_block_lists-clause-only : goal.returns-in_err-name_block_lists-clause-only
returns-in_err-name_block_lists-clause-only c = λ s documents p is.
    let v = c.args.part.now in
    let prefix = c.args.prefix.now in
    let e = c.in_err-name_block_lists.field-0.0 in
    let start = c.blocks_with-blocks.result.start in
    let end = c.blocks_with-blocks.result.end in
    let blocks = subst (λ (ix : List BlockStart). AreBlocks ix prefix (λ first. is_below first prefix || starts_with nat_eq first prefix) start end) (c.index.ensures ∙ ap (λ (g : Footer). g.index) c.footer.ensures) c.blocks_with-blocks.ensures.exact in
    handed_on (λ u. AddsParts (AsksWalkList v s documents p prefix c.args.wanted) c.args.ranges.now c.name_block_lists.new.ranges) (LacksPart (AsksWalkBlock v s documents p prefix) v.pieces) c.from_residual.result e c.from_residual.ensures.1
    (walk_lacks v s documents p prefix start end c.loop-number.number e blocks c.loop-number.auto.number c.loop-number-test.true (c.in_err-name_block_lists.ensures.only s documents p is))

pub returns-clause-only : goal.returns-clause-only
returns-clause-only c = λ s documents p is.
    let v = c.args.part.now in
    let prefix = c.args.prefix.now in
    let start = c.blocks_with-blocks.result.start in
    let end = c.blocks_with-blocks.result.end in
    let blocks = subst (λ (ix : List BlockStart). AreBlocks ix prefix (λ first. is_below first prefix || starts_with nat_eq first prefix) start end) (c.index.ensures ∙ ap (λ (g : Footer). g.index) c.footer.ensures) c.blocks_with-blocks.ensures.exact in
    walk_lists v s documents p prefix c.args.wanted start end c.args.ranges.now c.loop-number.ranges is.part blocks
    (c.loop-number.invariant.only s documents p c.loop-number.ranges is (no_lists v s documents p prefix c.args.wanted c.loop-number.number end c.loop-number.ranges c.loop-number-test.false))

pub returns-clause-read : goal.returns-clause-read
returns-clause-read c =
    let v = c.args.part.now in
    let prefix = c.args.prefix.now in
    let n = c.loop-number.number in
    let start = c.blocks_with-blocks.result.start in
    let end = c.blocks_with-blocks.result.end in
    let blocks = subst (λ (ix : List BlockStart). AreBlocks ix prefix (λ first. is_below first prefix || starts_with nat_eq first prefix) start end) (c.index.ensures ∙ ap (λ (g : Footer). g.index) c.footer.ensures) c.blocks_with-blocks.ensures.exact in
    let none : end - n ≡ 0 = omega (arith, c.loop-number-test.false) in
    record { start = start; end = end; blocks = blocks; reads_them = c.loop-number.invariant.found (Ok []) (no_blocks v (λ t. Ok []) prefix n (end - n) none) }
