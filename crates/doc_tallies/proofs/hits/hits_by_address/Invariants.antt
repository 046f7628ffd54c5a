use Rattle.std.proofs.Common.{◌≡◌, List, None, take}
use Rattle.std.specs.Bool.{OnTrue}
use Rattle.split_bundle.specs.Files.{Parts}
use Rattle.split_bundle.specs.Lending.{IsPartOf}
use Rattle.split_bundle.specs.declared.placed.Placed.{Placed}
use Rattle.doc_tallies.specs.Bars.{HasBar}
use Rattle.doc_tallies.specs.Orders.{comes_before, firsts}
use Rattle.doc_tallies.specs.Picked.{picked}
use Rattle.doc_tallies.proofs.hits.hits_by_address.Given as goal

abbrev pub invariant-loop-number : goal.invariant-loop-number
invariant-loop-number l = record {
  bar : OnTrue l.full (HasBar (comes_before None) l.wanted l.kept.items);
  only : (documents : List Placed) (p : Parts) → IsPartOf l.view l.schema documents p → firsts l.wanted None l.kept.items ≡ firsts l.wanted None (picked (take l.number-index l.numbers) documents);
}
