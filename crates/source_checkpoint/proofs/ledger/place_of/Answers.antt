use Rattle.std.proofs.Common.{rules, of_calls}
use Rattle.std.specs.Ordering.{nat_cmp}
use Rattle.std.specs.Cmp.Lexicographic.{slice_cmp}
use Rattle.std.proofs.lemmas.Fn.{always_returns_same}
use Rattle.source_checkpoint.proofs.Rising.{place_found}
use Rattle.source_checkpoint.proofs.ledger.place_of.Goals as goal

pub returns : goal.returns
returns c =
    let facts = c.binary_search_by.ensures in
    place_found c.args.partition.now c.args.checkpoints.now c.binary_search_by.result c.requires facts.bound
    (facts.position (λ o. slice_cmp nat_cmp o.partition c.args.partition.now) (always_returns_same _ _ _ (λ a r f called. search (rules, of_calls))))
