use Rattle.std.proofs.Common.{◌≡◌, ◌∙◌, ◌||◌, ◌-◌, ◌+◌, ◌++◌, suc, ℕ, List, [], Ok, Err, true, false, nat_eq, ap, refl, sym, subst, arith}
use Rattle.std.specs.List.{starts_with}
use Rattle.term_dict.specs.Bounds.{AreBlocks}
use Rattle.term_dict.specs.Keys.{is_below}
use Rattle.term_dict.specs.Terms.{IsDict}
use Rattle.term_dict.specs.declared.index.BlockStart.{BlockStart}
use Rattle.term_dict.specs.declared.term.Term.{Term}
use Rattle.split_bundle.specs.Keys.{keys_of}
use Rattle.split_bundle.specs.Lists.{has_key, terms_of}
use Rattle.doc_sets.specs.Asked.{is_listed, such}
use Rattle.doc_sets.specs.Faults.{LacksPart}
use Rattle.doc_sets.specs.Reads.{in_front_of, numbers_if, ReadsBlocks, ReadsWalk}
use Rattle.doc_sets.specs.Sets.{IsSetOf}
use Rattle.doc_sets.specs.Walks.{AsksWalk, begun_in, has_some_of, is_walked}
use Rattle.doc_sets.proofs.Causes.{handed_on}
use Rattle.doc_sets.proofs.ReadLists.{front_front, front_none, none_behind}
use Rattle.doc_sets.proofs.ReadWalks.{block_fails, block_goes, blocks_put, no_blocks, walk_fault, walk_memory}
use Rattle.doc_sets.proofs.SetLemmas.{set_same}
use Rattle.doc_sets.proofs.TermWalks.{all_listed, block_step, walk_is_such}
use Rattle.doc_sets.proofs.WalkSteps.{walk_lacks, walk_over}
use Rattle.doc_sets.proofs.key_walks.walk_documents.Goals as goal

pub returns-in_err-add_block-clause-only : goal.returns-in_err-add_block-clause-only
returns-in_err-add_block-clause-only c = λ s documents p is kept.
    let v = c.args.part.now in
    let w = c.args.wanted in
    let prefix = c.args.prefix.now in
    let i = c.loop-number.invariant.only s documents p is kept in
    let e = c.in_err-add_block.field-0.0 in
    let start = c.blocks_with-blocks.result.start in
    let end = c.blocks_with-blocks.result.end in
    let blocks = subst (λ (ix : List BlockStart). AreBlocks ix prefix (λ first. is_below first prefix || starts_with nat_eq first prefix) start end) c.requires c.blocks_with-blocks.ensures.exact in
    handed_on (IsSetOf (λ d. such (is_walked prefix w) (keys_of s d)) documents) (LacksPart (AsksWalk v s documents p prefix w) v.pieces) c.from_residual-in_err-add_block.result e c.from_residual-in_err-add_block.ensures.1
    (walk_lacks v s documents p w prefix start end c.loop-number.number e blocks c.loop-number.auto.number c.loop-number-test.true (c.in_err-add_block.ensures.only s documents p i.0 is kept i.1))

pub loop-number-preserved : goal.loop-number-preserved
loop-number-preserved c = record {
  size = c.add_block.ensures.size ∙ c.loop-number.invariant.size;
  only = λ s documents p is kept.
      let w = c.args.wanted in
      let prefix = c.args.prefix.now in
      let terms = terms_of s documents p.keys in
      let n = c.loop-number.number in
      let end = c.blocks_with-blocks.result.end in
      let i = c.loop-number.invariant.only s documents p is kept in
      let left : end - n ≡ suc (end - (n + 1)) = omega (arith, c.loop-number-test.true) in (
        λ d. i.0 d || has_some_of w (begun_in prefix terms n) (keys_of s d),
        c.in_ok-add_block.ensures.only s documents p i.0 is kept i.1,
        λ d. block_step w (i.0 d) prefix terms n (end - n) (end - (n + 1)) (keys_of s d) left ∙ i.2 d,
      );
  exact =
      let v = c.args.part.now in
      let reads = numbers_if v c.args.positions c.args.wanted in
      let prefix = c.args.prefix.now in
      let n = c.loop-number.number in
      let start = c.blocks_with-blocks.result.start in
      let end = c.blocks_with-blocks.result.end in
      let i = c.loop-number.invariant.exact in
      let block = c.in_ok-add_block.ensures.exact c.loop-number.invariant.size in
      let left : end - n ≡ suc (end - (n + 1)) = omega (arith, c.loop-number-test.true) in (
        i.0 ++ block.2.0,
        λ rest others.
            subst (λ r. ReadsBlocks v reads prefix start (end - start) r) (front_front i.0 block.2.0 rest)
            (i.1 (in_front_of block.2.0 rest) (block_goes v reads prefix n (end - n) (end - (n + 1)) block.0 rest block.2.0 left block.1 block.2.1 others)),
        λ k. blocks_put k i.0 block.2.0 _ _ (i.2 k) (block.2.2 k),
      );
}

pub loop-number-init : goal.loop-number-init
loop-number-init c = record {
  size = c.in_ok-bits.ensures.size;
  only = λ s documents p is kept. (λ d. false, c.in_ok-bits.ensures.only s documents p is, λ d. refl);
  exact = let v = c.args.part.now in
      let reads = numbers_if v c.args.positions c.args.wanted in
      let start = c.blocks_with-blocks.result.start in
      let end = c.blocks_with-blocks.result.end in
      ([], λ rest others. subst (λ r. ReadsBlocks v reads c.args.prefix.now start (end - start) r) (front_none rest) others, λ k. c.in_ok-bits.ensures.none k);
}

pub returns-in_err-bits-clause-exact : goal.returns-in_err-bits-clause-exact
returns-in_err-bits-clause-exact c =
    walk_memory (ReadsWalk c.args.part.now (numbers_if c.args.part.now c.args.positions c.args.wanted) c.args.prefix.now) c.from_residual.result c.in_err-bits.field-0.0 c.from_residual.ensures.1

pub returns-in_err-add_block-clause-exact : goal.returns-in_err-add_block-clause-exact
returns-in_err-add_block-clause-exact c =
    let v = c.args.part.now in
    let reads = numbers_if v c.args.positions c.args.wanted in
    let prefix = c.args.prefix.now in
    let n = c.loop-number.number in
    let i = c.loop-number.invariant.exact in
    let e = c.in_err-add_block.field-0.0 in
    let start = c.blocks_with-blocks.result.start in
    let end = c.blocks_with-blocks.result.end in
    let blocks = subst (λ (ix : List BlockStart). AreBlocks ix prefix (λ first. is_below first prefix || starts_with nat_eq first prefix) start end) c.requires c.blocks_with-blocks.ensures.exact in
    let block = c.in_err-add_block.ensures.exact c.loop-number.invariant.size in
    let left : end - n ≡ suc (end - (n + 1)) = omega (arith, c.loop-number-test.true) in
    walk_fault (ReadsWalk v reads prefix) c.from_residual-in_err-add_block.result e c.from_residual-in_err-add_block.ensures.1
    (record { start = start; end = end; blocks = blocks; reads_them = i.1 (Err e) (block_fails v reads prefix n (end - n) (end - (n + 1)) block.0 e left block.1 block.2) })

pub returns-clause-exact : goal.returns-clause-exact
returns-clause-exact c =
    let v = c.args.part.now in
    let reads = numbers_if v c.args.positions c.args.wanted in
    let prefix = c.args.prefix.now in
    let n = c.loop-number.number in
    let i = c.loop-number.invariant.exact in
    let start = c.blocks_with-blocks.result.start in
    let end = c.blocks_with-blocks.result.end in
    let blocks = subst (λ (ix : List BlockStart). AreBlocks ix prefix (λ first. is_below first prefix || starts_with nat_eq first prefix) start end) c.requires c.blocks_with-blocks.ensures.exact in
    let none : end - n ≡ 0 = omega (arith, c.loop-number-test.false) in (
      i.0,
      record {
        start = start;
        end = end;
        blocks = blocks;
        reads_them = subst (λ r. ReadsBlocks v reads prefix start (end - start) r) (ap (λ (l : List ℕ). Ok l) (none_behind i.0)) (i.1 (Ok []) (no_blocks v reads prefix n (end - n) none));
      },
      i.2,
    )

pub returns-clause-only : goal.returns-clause-only
returns-clause-only c = λ s documents p is kept.
    let w = c.args.wanted in
    let prefix = c.args.prefix.now in
    let terms = terms_of s documents p.keys in
    let i = c.loop-number.invariant.only s documents p is kept in
    let start = c.blocks_with-blocks.result.start in
    let end = c.blocks_with-blocks.result.end in
    let dict = subst (λ (ix : List BlockStart). IsDict p.dictionary ix terms) (sym (c.requires ∙ is.part.footer.index)) is.part.is_split.dictionary in
    let all = c.blocks_with-blocks.ensures.only p.dictionary terms dict in
    let none : end - c.loop-number.number ≡ 0 = omega (arith, c.loop-number-test.false) in
    set_same (λ d. (key : List ℕ) → has_key key (keys_of s d.doc) ≡ true → is_listed key p.keys ≡ true) c.loop-number.bits i.0 (λ d. such (is_walked prefix w) (keys_of s d)) documents (all_listed s documents p.keys is.part.is_split.keys)
    (λ d listed. walk_over w (i.0 d.doc) prefix terms c.loop-number.number (end - c.loop-number.number) (keys_of s d.doc) none ∙ (i.2 d.doc
    ∙ (sym (ap (λ (ts : List Term). has_some_of w ts (keys_of s d.doc)) all) ∙ walk_is_such s documents prefix w p.keys (keys_of s d.doc) listed))) i.1
