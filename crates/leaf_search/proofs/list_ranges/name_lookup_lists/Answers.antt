use Rattle.std.proofs.Common.{◌≡◌, ◌∙◌, IfOk, MatchResult, ap, sym, subst}
use Rattle.doc_sets.specs.Asking.{AsksBlockOf, AsksListOf}
use Rattle.doc_sets.specs.Faults.{LacksPart}
use Rattle.doc_sets.specs.declared.dictionary_lookup.Lookup.{Lookup}
use Rattle.doc_sets.specs.declared.dictionary_lookup.Lookup.TheVariants.{Values, Walk}
use Rattle.leaf_search.specs.FileRanges.{AddsParts}
use Rattle.leaf_search.specs.Needs.{IsFound}
use Rattle.leaf_search.proofs.list_ranges.name_lookup_lists.Goals as goal

pub returns-in-Walk-clause-only : goal.returns-in-Walk-clause-only
returns-in-Walk-clause-only c = λ documents p is.
    let v = c.args.part.now in
    let s = c.args.schema.now in
    let same : c.args.lookup.now ≡ Walk c.as_slice-in-Walk.result.now c.in-Walk.wanted = c.in-Walk.is ∙ ap (λ k. Walk k c.in-Walk.wanted) (sym c.as_slice-in-Walk.ensures) in
    subst (λ (l : Lookup). MatchResult c.name_walk_lists.result (λ u. AddsParts (AsksListOf v s documents p l) c.args.ranges.now c.name_walk_lists.new.ranges) (LacksPart (AsksBlockOf v s documents p l) v.pieces)) (sym same)
    (c.name_walk_lists.ensures.only s documents p is)

pub returns-in-Walk-clause-read : goal.returns-in-Walk-clause-read
returns-in-Walk-clause-read c =
    let v = c.args.part.now in
    let same : c.args.lookup.now ≡ Walk c.as_slice-in-Walk.result.now c.in-Walk.wanted = c.in-Walk.is ∙ ap (λ k. Walk k c.in-Walk.wanted) (sym c.as_slice-in-Walk.ensures) in
    subst (λ (l : Lookup). IfOk c.name_walk_lists.result (λ u. IsFound v l)) (sym same) c.name_walk_lists.ensures.read

pub returns-in_ok-name_values-in-Values-clause-only : goal.returns-in_ok-name_values-in-Values-clause-only
returns-in_ok-name_values-in-Values-clause-only c = λ documents p is.
    let same : c.args.lookup.now ≡ Values c.in-Values.number c.in-Values._range = c.in-Values.is in
    subst (λ (l : Lookup). AddsParts (AsksListOf c.args.part.now c.args.schema.now documents p l) c.args.ranges.now c.name_values.new.ranges) (sym same) (c.in_ok-name_values-in-Values.ensures documents p is.part)
