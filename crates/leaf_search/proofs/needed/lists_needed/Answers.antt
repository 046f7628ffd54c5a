use Rattle.std.proofs.Common.{◌≡◌, ◌∙◌, ◌⊎◌, List, [], subst, ap}
use Rattle.doc_sets.specs.Asking.{AsksBlocks, AsksLists}
use Rattle.doc_sets.specs.Faults.{LacksPart}
use Rattle.doc_sets.specs.declared.dictionary_lookup.Lookup.{Lookup}
use Rattle.doc_sets.proofs.Causes.{handed_on}
use Rattle.doc_sets.proofs.Searched.{searched}
use Rattle.leaf_search.specs.Counts.{request_lookups}
use Rattle.leaf_search.specs.FileRanges.{AddsParts, AreRangesOf}
use Rattle.leaf_search.specs.Needs.{NeedsBlocks, NeedsColumns, NeedsDocuments, NeedsLists, AreFound}
use Rattle.leaf_search.specs.declared.file_ranges.FileRange.{FileRange}
use Rattle.leaf_search.proofs.RangeLists.{both_added, ranges_of}
use Rattle.leaf_search.proofs.needed.lists_needed.Goals as goal

pub returns-in_err-name_lists-clause-only : goal.returns-in_err-name_lists-clause-only
returns-in_err-name_lists-clause-only c = λ documents p part ask.
    let s = c.args.schema.now in
    let v = c.args.view.now in
    let r = c.args.request.now in
    let e = c.in_err-name_lists.field-0.0 in
    let looked : c.as_slice.result.now ≡ request_lookups v.footer s r = c.as_slice.ensures ∙ (c.in_ok-lookups.ensures ∙ ap (λ footer. request_lookups footer s r) c.footer.ensures) in
    let cause = c.in_err-name_lists.ensures.only documents p (searched v s documents p part) in
    handed_on (AreRangesOf (NeedsLists v s documents p r)) (LacksPart (NeedsBlocks v s documents p r) v.pieces) c.from_residual-in_err-name_lists.result e c.from_residual-in_err-name_lists.ensures.1
    (subst (λ (ls : List Lookup). LacksPart (AsksBlocks v s documents p ls) v.pieces e) looked cause)

pub returns-clause-only : goal.returns-clause-only
returns-clause-only c = λ documents p part ask.
    let s = c.args.schema.now in
    let v = c.args.view.now in
    let r = c.args.request.now in
    let looked : c.as_slice.result.now ≡ request_lookups v.footer s r = c.as_slice.ensures ∙ (c.in_ok-lookups.ensures ∙ ap (λ footer. request_lookups footer s r) c.footer.ensures) in
    let lists : AddsParts (AsksLists v s documents p (request_lookups v.footer s r)) [] c.name_lists.new.ranges =
    subst (λ (old : List FileRange). AddsParts (AsksLists v s documents p (request_lookups v.footer s r)) old c.name_lists.new.ranges) c.vacant-ranges.ensures
    (subst (λ (ls : List Lookup). AddsParts (AsksLists v s documents p ls) c.vacant-ranges.result c.name_lists.new.ranges) looked (c.in_ok-name_lists.ensures.only documents p (searched v s documents p part))) in
    let columns = c.in_ok-name_columns.ensures documents p part ask in
    let rest = both_added (NeedsColumns v s p r) (NeedsDocuments v r) c.name_lists.new.ranges c.name_columns.new.ranges c.name_documents.new.ranges columns c.in_ok-name_documents.ensures in
    let adds = both_added (AsksLists v s documents p (request_lookups v.footer s r)) (λ at len. NeedsColumns v s p r at len ⊎ NeedsDocuments v r at len) [] c.name_lists.new.ranges c.name_documents.new.ranges lists rest in
    ranges_of (NeedsLists v s documents p r) c.name_documents.new.ranges c.in_ok-joined.field-0 adds c.in_ok-joined.ensures.apart c.in_ok-joined.ensures.cover c.in_ok-joined.ensures.only

pub returns-clause-read : goal.returns-clause-read
returns-clause-read c =
    let looked : c.as_slice.result.now ≡ request_lookups c.args.view.now.footer c.args.schema.now c.args.request.now = c.as_slice.ensures ∙ (c.in_ok-lookups.ensures ∙ ap (λ footer. request_lookups footer c.args.schema.now c.args.request.now) c.footer.ensures) in
    subst (AreFound c.args.view.now) looked c.in_ok-name_lists.ensures.read
