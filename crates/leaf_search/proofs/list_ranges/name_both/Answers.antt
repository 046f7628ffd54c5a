use Rattle.std.proofs.Common.{◌≡◌, ◌∙◌, true, false, sym}
use Rattle.split_bundle.specs.Lists.{keeps_places}
use Rattle.doc_sets.specs.Needed.{ArePlacesFor, IsListFor}
use Rattle.leaf_search.proofs.ListParts.{list_alone}
use Rattle.leaf_search.proofs.RangeLists.{both_added}
use Rattle.leaf_search.proofs.list_ranges.name_both.Goals as goal

pub returns-in_ok-name_places : goal.returns-in_ok-name_places
returns-in_ok-name_places c = λ documents p is found.
    let v = c.args.part.now in
    let s = c.args.schema.now in
    let key = c.args.key.now in
    let kept : keeps_places s key ≡ true = sym c.keeps_places.ensures ∙ c.if-keeps_places.true in
    both_added (IsListFor v s documents p key) (ArePlacesFor v s documents p key) c.args.ranges.now c.name_list.new.ranges c.name_places.new.ranges
    (c.in_ok-name_list.ensures s documents p key is found) (c.in_ok-name_places.ensures s documents p key is found kept)

pub returns-else-keeps_places : goal.returns-else-keeps_places
returns-else-keeps_places c = λ documents p is found.
    let v = c.args.part.now in
    let s = c.args.schema.now in
    let key = c.args.key.now in
    let without : keeps_places s key ≡ false = sym c.keeps_places.ensures ∙ c.if-keeps_places.false in
    list_alone v s documents p key c.args.ranges.now c.name_list.new.ranges without (c.in_ok-name_list.ensures s documents p key is found)
