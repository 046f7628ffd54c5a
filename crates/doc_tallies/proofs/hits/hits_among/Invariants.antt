use Rattle.std.proofs.Common.{◌≡◌, List, take}
use Rattle.std.specs.Bool.{OnTrue}
use Rattle.split_bundle.specs.Files.{Parts}
use Rattle.split_bundle.specs.Lending.{IsPartOf}
use Rattle.split_bundle.specs.declared.placed.Placed.{Placed}
use Rattle.doc_tallies.specs.Bars.{HasBar}
use Rattle.doc_tallies.specs.Orders.{comes_before, firsts}
use Rattle.doc_tallies.specs.Picked.{picked}
use Rattle.doc_tallies.proofs.hits.hits_among.Given as goal

abbrev pub invariant-loop-number : goal.invariant-loop-number
invariant-loop-number l = record {
  bar : OnTrue l.full (HasBar (comes_before l.order) l.wanted l.kept.items);
  only : (documents : List Placed) (p : Parts) → IsPartOf l.view l.schema documents p → firsts l.wanted l.order l.kept.items ≡ firsts l.wanted l.order (picked (take l.number-index l.numbers) documents);
}
