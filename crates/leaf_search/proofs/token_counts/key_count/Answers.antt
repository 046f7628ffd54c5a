use Rattle.doc_sets.specs.declared.dictionary_lookup.Lookup.TheVariants.{Count}
use Rattle.leaf_search.proofs.ReadQueries.{count_met}
use Rattle.doc_sets.proofs.ReadLookups.{met}
use Rattle.std.proofs.Common.{◌≡◌, Some, None, sym, ◌∷◌, []}
use Rattle.term_dict.specs.Terms.{lookup}
use Rattle.split_bundle.specs.Lists.{terms_of}
use Rattle.split_bundle.proofs.Infos.{info_found}
use Rattle.doc_sets.proofs.Dictionary.{no_document}
use Rattle.leaf_search.proofs.KeyCounts.{no_posting}
use Rattle.leaf_search.proofs.token_counts.key_count.Goals as goal

pub returns-in-Some-clause-only : goal.returns-in-Some-clause-only
returns-in-Some-clause-only c = λ s documents p is.
    let key = c.args.key.now in
    let same = c.in_ok-info.ensures.only s documents p is in
    let some = c.in-Some.is in
    let found : lookup key (terms_of s documents p.keys) ≡ Some c.in-Some.info = cc in
    (info_found s documents p key c.in-Some.info is.part.is_split found).docs

pub returns-in-None-clause-only : goal.returns-in-None-clause-only
returns-in-None-clause-only c = λ s documents p is.
    let key = c.args.key.now in
    let same = c.in_ok-info.ensures.only s documents p is in
    let none = c.in-None.is in
    let found : lookup key (terms_of s documents p.keys) ≡ None = cc in
    sym (no_posting s key documents (no_document s documents key p.keys is.part.is_split.keys found))

pub returns-in-Some-clause-reads : goal.returns-in-Some-clause-reads
returns-in-Some-clause-reads c = ((_, c.in_ok-info.ensures.exact), tt)

pub returns-in-None-clause-reads : goal.returns-in-None-clause-reads
returns-in-None-clause-reads c = ((_, c.in_ok-info.ensures.exact), tt)

pub returns-in_err-info-clause-reads : goal.returns-in_err-info-clause-reads
returns-in_err-info-clause-reads c =
    let e = c.in_err-info.field-0.0 in
    met c.args.view.now (Count c.args.key.now ∷ []) c.from_residual.result e c.from_residual.ensures.1 (count_met c.args.view.now c.args.key.now e c.in_err-info.ensures.exact)
