use Rattle.std.proofs.Common.{◌≡◌, ◌∙◌}
use Rattle.doc_tallies.specs.Near.{shown}
use Rattle.doc_tallies.specs.Ranks.{near_keys}
use Rattle.doc_tallies.proofs.Faults.{ok_wider}
use Rattle.doc_tallies.proofs.KeyOrders.{nears_by_keys}
use Rattle.doc_tallies.proofs.near.near_numbers.Goals as goal

pub returns-clause-only : goal.returns-clause-only
returns-clause-only c = λ s documents order of is all.
    let column = is.is_for.is_of in
    ok_wider (λ near. near.items ≡ near_keys c.args.sort.now.descending column.entries c.args.wanted c.args.numbers.now) (λ near. near.items ≡ shown order c.args.wanted documents c.args.numbers.now) c.near_twice.result
    (λ near e. e ∙ nears_by_keys s documents order c.args.sort.now c.args.wanted c.args.numbers.now of is all) (c.near_twice.ensures.only column.texts column.entries column.holds)
