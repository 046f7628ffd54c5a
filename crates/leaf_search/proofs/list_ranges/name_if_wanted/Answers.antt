use Rattle.std.proofs.Common.{◌≡◌, ◌∙◌, true, sym}
use Rattle.doc_sets.specs.Needed.{IsListFor}
use Rattle.doc_sets.specs.Walks.{AsksIf, takes}
use Rattle.leaf_search.specs.FileRanges.{AddsParts}
use Rattle.leaf_search.proofs.BlockParts.{on_ok}
use Rattle.leaf_search.proofs.ListParts.{unwanted_named, wanted_named}
use Rattle.leaf_search.proofs.list_ranges.name_if_wanted.Goals as goal

pub returns-then-takes : goal.returns-then-takes
returns-then-takes c = λ s documents p is found.
    let v = c.args.part.now in
    let key = c.args.key.now in
    let w = c.args.wanted in
    let wanted : takes w key ≡ true = sym c.takes.ensures ∙ c.if-takes.true in
    on_ok (AddsParts (IsListFor v s documents p key) c.args.ranges.now c.name_list.new.ranges) (AddsParts (AsksIf v s documents p w key) c.args.ranges.now c.name_list.new.ranges) c.name_list.result
    (λ adds. wanted_named v s documents p w key c.args.ranges.now c.name_list.new.ranges wanted adds) (c.name_list.ensures s documents p key is found)

pub returns-else-takes : goal.returns-else-takes
returns-else-takes c = λ s documents p is found.
    unwanted_named c.args.part.now s documents p c.args.wanted c.args.key.now c.args.ranges.now (sym c.takes.ensures ∙ c.if-takes.false)
