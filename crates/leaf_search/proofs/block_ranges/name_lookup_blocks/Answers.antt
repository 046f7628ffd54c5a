use Rattle.std.proofs.Common.{◌≡◌, ◌∙◌, OnOk, ap, sym, subst}
use Rattle.doc_sets.specs.Asking.{AsksBlockOf}
use Rattle.doc_sets.specs.declared.dictionary_lookup.Lookup.{Lookup}
use Rattle.doc_sets.specs.declared.dictionary_lookup.Lookup.TheVariants.{Count, Documents, Places, Walk}
use Rattle.leaf_search.specs.FileRanges.{AddsParts}
use Rattle.leaf_search.proofs.block_ranges.name_lookup_blocks.Goals as goal

pub returns-in-Count : goal.returns-in-Count
returns-in-Count c = λ v s documents p same part.
    let is : c.args.lookup.now ≡ Count c.as_slice.result.now = c.in-Count.is ∙ ap Count (sym c.as_slice.ensures) in
    subst (λ (l : Lookup). OnOk c.name_key_block.result (AddsParts (AsksBlockOf v s documents p l) c.args.ranges.now c.name_key_block.new.ranges)) (sym is) (c.name_key_block.ensures v s documents p same part)

pub returns-in-Documents : goal.returns-in-Documents
returns-in-Documents c = λ v s documents p same part.
    let is : c.args.lookup.now ≡ Documents c.as_slice-in-Documents.result.now = c.in-Documents.is ∙ ap Documents (sym c.as_slice-in-Documents.ensures) in
    subst (λ (l : Lookup). OnOk c.name_key_block-in-Documents.result (AddsParts (AsksBlockOf v s documents p l) c.args.ranges.now c.name_key_block-in-Documents.new.ranges)) (sym is)
    (c.name_key_block-in-Documents.ensures v s documents p same part)

pub returns-in-Places : goal.returns-in-Places
returns-in-Places c = λ v s documents p same part.
    let is : c.args.lookup.now ≡ Places c.as_slice-in-Places.result.now = c.in-Places.is ∙ ap Places (sym c.as_slice-in-Places.ensures) in
    subst (λ (l : Lookup). OnOk c.name_key_block-in-Places.result (AddsParts (AsksBlockOf v s documents p l) c.args.ranges.now c.name_key_block-in-Places.new.ranges)) (sym is)
    (c.name_key_block-in-Places.ensures v s documents p same part)

pub returns-in-Walk : goal.returns-in-Walk
returns-in-Walk c = λ v s documents p same part.
    let is : c.args.lookup.now ≡ Walk c.as_slice-in-Walk.result.now c.in-Walk._wanted = c.in-Walk.is ∙ ap (λ k. Walk k c.in-Walk._wanted) (sym c.as_slice-in-Walk.ensures) in
    subst (λ (l : Lookup). OnOk c.name_walk_blocks.result (AddsParts (AsksBlockOf v s documents p l) c.args.ranges.now c.name_walk_blocks.new.ranges)) (sym is) (c.name_walk_blocks.ensures v s documents p same part)
