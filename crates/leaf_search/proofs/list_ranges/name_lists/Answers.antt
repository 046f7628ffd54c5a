use Rattle.std.proofs.lemmas.List.{drop_more}
use Rattle.leaf_search.specs.Needs.{AreFound}
use Rattle.std.proofs.Common.{drop, subst, sym, ap, ◌∙◌, ◌∷◌, ◌+◌}
use Rattle.doc_sets.specs.Asking.{AsksBlocks, AsksLists}
use Rattle.doc_sets.specs.Faults.{LacksPart}
use Rattle.doc_sets.proofs.Causes.{handed_on}
use Rattle.doc_sets.proofs.Steps.{none_behind}
use Rattle.leaf_search.specs.FileRanges.{AddsParts}
use Rattle.leaf_search.proofs.ListParts.{lookup_lacks, next_looked, none_looked}
use Rattle.leaf_search.proofs.list_ranges.name_lists.Goals as goal

pub loop-lookup-init : goal.loop-lookup-init
loop-lookup-init c = record { only = λ documents p new is adds. adds; read = λ h. h }

pub loop-lookup-preserved : goal.loop-lookup-preserved
loop-lookup-preserved c = record {
  only = λ documents p new is adds.
      c.loop-lookup.invariant.only documents p new is
      (next_looked c.args.part.now c.args.schema.now documents p c.args.lookups.now c.loop-lookup.lookup-index c.lookup-item.result c.loop-lookup.ranges c.name_lookup_lists.new.ranges new c.loop-lookup-test.true c.lookup-item.is
      (c.in_ok-name_lookup_lists.ensures.only documents p is) adds);
  read = λ h. c.loop-lookup.invariant.read (subst (AreFound c.args.part.now) (sym (drop_more c.args.lookups.now c.loop-lookup.lookup-index c.lookup-item.result c.loop-lookup-test.true ∙ ap (λ y. y ∷ drop (c.loop-lookup.lookup-index + 1) c.args.lookups.now) (sym c.lookup-item.is))) (c.in_ok-name_lookup_lists.ensures.read, h));
}

pub returns-in_err-name_lookup_lists-clause-only : goal.returns-in_err-name_lookup_lists-clause-only
returns-in_err-name_lookup_lists-clause-only c = λ documents p is.
    let v = c.args.part.now in
    let s = c.args.schema.now in
    let ls = c.args.lookups.now in
    let e = c.in_err-name_lookup_lists.field-0.0 in
    handed_on (λ u. AddsParts (AsksLists v s documents p ls) c.args.ranges.now c.name_lookup_lists.new.ranges) (LacksPart (AsksBlocks v s documents p ls) v.pieces) c.from_residual.result e c.from_residual.ensures.1
    (lookup_lacks v s documents p ls c.loop-lookup.lookup-index c.lookup-item.result e c.loop-lookup-test.true c.lookup-item.is (c.in_err-name_lookup_lists.ensures.only documents p is))

pub returns-clause-only : goal.returns-clause-only
returns-clause-only c = λ documents p is.
    c.loop-lookup.invariant.only documents p c.loop-lookup.ranges is
    (none_looked c.args.part.now c.args.schema.now documents p (drop c.loop-lookup.lookup-index c.args.lookups.now) c.loop-lookup.ranges (none_behind c.args.lookups.now c.loop-lookup.lookup-index c.loop-lookup-test.false))

pub returns-clause-read : goal.returns-clause-read
returns-clause-read c = c.loop-lookup.invariant.read (subst (AreFound c.args.part.now) (sym (none_behind c.args.lookups.now c.loop-lookup.lookup-index c.loop-lookup-test.false)) tt)
