use Rattle.std.proofs.Common.{◌≡◌, ◌∷◌, [], None, Ok, Err, refl, subst}
use Rattle.term_dict.specs.Terms.{lookup}
use Rattle.split_bundle.specs.Keys.{keys_of}
use Rattle.split_bundle.specs.Lists.{has_key, terms_of}
use Rattle.doc_sets.specs.Needed.{LacksKeys}
use Rattle.doc_sets.specs.Sets.{IsSetOf}
use Rattle.doc_sets.proofs.Causes.{block_lacks, handed_on}
use Rattle.doc_sets.proofs.Dictionary.{no_document}
use Rattle.doc_sets.proofs.ReadLists.{has_fault, has_memory}
use Rattle.doc_sets.proofs.SetLemmas.{unlisted_set}
use Rattle.doc_sets.specs.Reads.{Finds}
use Rattle.doc_sets.proofs.lookups.key_documents.Goals as goal

pub returns-in_ok-no_documents-in-None-clause-only : goal.returns-in_ok-no_documents-in-None-clause-only
returns-in_ok-no_documents-in-None-clause-only c = λ s documents p is flag.
    let same = c.in_ok-info.ensures.only s documents p is in
    let none = c.in-None.is in
    let found : lookup c.args.key.now (terms_of s documents p.keys) ≡ None = cc in
    unlisted_set s c.args.key.now documents c.in_ok-no_documents-in-None.field-0 (no_document s documents c.args.key.now p.keys is.part.is_split.keys found) (c.in_ok-no_documents-in-None.ensures.only s documents p is)

pub returns-in_err-info-clause-only : goal.returns-in_err-info-clause-only
returns-in_err-info-clause-only c = λ s documents p is flag.
    let key = c.args.key.now in
    let v = c.args.part.now in
    handed_on (IsSetOf (λ d. has_key key (keys_of s d)) documents) (LacksKeys v s documents p (key ∷ [])) c.from_residual.result c.in_err-info.field-0.0 c.from_residual.ensures.1
    (block_lacks v s documents p key c.in_err-info.field-0.0 (c.in_err-info.ensures.only s documents p is))

pub returns-in_err-info-clause-exact : goal.returns-in_err-info-clause-exact
returns-in_err-info-clause-exact c =
    let e = c.in_err-info.field-0.0 in
    (Err e, record { found = Err e; finds = c.in_err-info.ensures.exact; read_is = refl }, has_fault c.from_residual.result e c.from_residual.ensures.1)

pub returns-in_err-no_documents-in-None-clause-exact : goal.returns-in_err-no_documents-in-None-clause-exact
returns-in_err-no_documents-in-None-clause-exact c =
    let none : c.in_ok-info.field-0 ≡ None = cc in (
      Ok [],
      record { found = Ok None; finds = subst (λ o. Finds c.args.part.now c.args.key.now (Ok o)) none c.in_ok-info.ensures.exact; read_is = refl },
      has_memory c.from_residual-in_err-no_documents-in-None.result c.in_err-no_documents-in-None.field-0.0 (Ok []) c.from_residual-in_err-no_documents-in-None.ensures.1,
    )

pub returns-in_ok-no_documents-in-None-clause-exact : goal.returns-in_ok-no_documents-in-None-clause-exact
returns-in_ok-no_documents-in-None-clause-exact c =
    let none : c.in_ok-info.field-0 ≡ None = cc in
    (Ok [], record { found = Ok None; finds = subst (λ o. Finds c.args.part.now c.args.key.now (Ok o)) none c.in_ok-info.ensures.exact; read_is = refl }, ([], refl, c.in_ok-no_documents-in-None.ensures.none))
