use Rattle.std.proofs.Common.{arith}
use Rattle.split_bundle.specs.Lists.{terms_of}
use Rattle.doc_sets.specs.Faults.{LacksPart, IsMemory}
use Rattle.doc_sets.specs.Walks.{AsksTerms, IsBlock, begun_in}
use Rattle.doc_sets.proofs.TermWalks.{few_begun}
use Rattle.leaf_search.specs.FileRanges.{AddsParts}
use Rattle.leaf_search.proofs.FoundWalks.{block_named}
use Rattle.leaf_search.proofs.ListParts.{begun_found, good_alike, memory_is}
use Rattle.leaf_search.proofs.list_ranges.name_block_lists.Goals as goal

pub returns-in-Ok-clause-only : goal.returns-in-Ok-clause-only
returns-in-Ok-clause-only c = λ s documents p is.
    let v = c.args.part.now in
    let prefix = c.args.prefix.now in
    let terms = terms_of s documents p.keys in
    let n = c.args.number in
    let Good = AddsParts (AsksTerms v s documents p c.args.wanted (begun_in prefix terms n)) c.args.ranges.now c.name_terms.new.ranges in
    good_alike (λ u. Good) (λ u. Good) IsMemory (LacksPart (IsBlock s documents p n) v.pieces) c.name_terms.result (λ x h. h) (λ e h. memory_is (IsBlock s documents p n) v.pieces e h)
    (c.name_terms.ensures.only s documents p (begun_in prefix terms n) is (c.in-Ok.ensures.only _ (c.in_ok-block.ensures.only s documents p is.part)) (few_begun prefix terms n) (begun_found v s documents p is.part prefix n))

pub returns-in-Ok-clause-read : goal.returns-in-Ok-clause-read
returns-in-Ok-clause-read c =
    block_named c.args.part.now c.args.prefix.now c.args.number c.in_ok-block.block.bytes.now c.in-Ok.terms c.name_terms.result (omega (arith, c.if-number.false)) c.in_ok-block.ensures.exact c.in-Ok.ensures.exact c.name_terms.ensures.read
