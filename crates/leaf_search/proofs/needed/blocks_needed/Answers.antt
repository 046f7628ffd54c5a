use Rattle.std.proofs.Common.{◌≡◌, ◌∙◌, List, [], ap, sym, subst}
use Rattle.doc_sets.specs.Asking.{AsksBlocks}
use Rattle.doc_sets.specs.declared.dictionary_lookup.Lookup.{Lookup}
use Rattle.leaf_search.specs.Counts.{request_lookups}
use Rattle.leaf_search.specs.FileRanges.{AddsParts}
use Rattle.leaf_search.specs.Needs.{NeedsBlocks}
use Rattle.leaf_search.specs.declared.file_ranges.FileRange.{FileRange}
use Rattle.leaf_search.proofs.RangeLists.{joined_ranges}
use Rattle.leaf_search.proofs.needed.blocks_needed.Goals as goal

pub returns-clause-only : goal.returns-clause-only
returns-clause-only c = λ v documents p same part.
    let s = c.args.schema.now in
    let r = c.args.request.now in
    let looked : c.as_slice.result.now ≡ request_lookups v.footer s r = c.as_slice.ensures ∙ (c.in_ok-lookups.ensures ∙ ap (λ footer. request_lookups footer s r) (sym same)) in
    let named = c.in_ok-name_blocks.ensures v s documents p same part in
    let adds : AddsParts (NeedsBlocks v s documents p r) [] c.name_blocks.new.ranges =
    subst (λ (old : List FileRange). AddsParts (NeedsBlocks v s documents p r) old c.name_blocks.new.ranges) c.vacant-ranges.ensures
    (subst (λ (ls : List Lookup). AddsParts (AsksBlocks v s documents p ls) c.vacant-ranges.result c.name_blocks.new.ranges) looked named) in
    joined_ranges (NeedsBlocks v s documents p r) c.name_blocks.new.ranges c.joined.result adds c.joined.ensures.apart c.joined.ensures.cover c.joined.ensures.only
