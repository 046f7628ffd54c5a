use Rattle.std.proofs.Common.{◌∙◌, List, Some, None, ap, sym, subst}
use Rattle.term_dict.specs.Bounds.{IsBlockOf}
use Rattle.term_dict.specs.declared.index.BlockStart.{BlockStart}
use Rattle.split_bundle.specs.declared.footer.Footer.{Footer}
use Rattle.doc_sets.specs.Needed.{IsBlockFor}
use Rattle.doc_sets.specs.Walks.{IsBlock}
use Rattle.leaf_search.specs.FileRanges.{AddsParts}
use Rattle.leaf_search.proofs.BlockParts.{key_named, no_key_named, on_ok}
use Rattle.leaf_search.proofs.block_ranges.name_key_block.Goals as goal

pub returns-in-Some : goal.returns-in-Some
returns-in-Some c = λ v s documents p same part.
    let key = c.args.key.now in
    let n = c.in-Some.number in
    let is = subst (λ (ix : List BlockStart). IsBlockOf ix key (Some n)) (c.index.ensures ∙ ap (λ (g : Footer). g.index) (sym same)) c.in-Some.ensures.exact in
    on_ok (AddsParts (IsBlock s documents p n) c.args.ranges.now c.name_block.new.ranges) (AddsParts (IsBlockFor v s documents p key) c.args.ranges.now c.name_block.new.ranges) c.name_block.result
    (λ adds. key_named v s documents p part key n c.args.ranges.now c.name_block.new.ranges is adds) (c.name_block.ensures v s documents p same part)

pub returns-in-None : goal.returns-in-None
returns-in-None c = λ v s documents p same part.
    let key = c.args.key.now in
    let is = subst (λ (ix : List BlockStart). IsBlockOf ix key None) (c.index.ensures ∙ ap (λ (g : Footer). g.index) (sym same)) c.in-None.ensures.exact in
    no_key_named v s documents p part key c.args.ranges.now is
