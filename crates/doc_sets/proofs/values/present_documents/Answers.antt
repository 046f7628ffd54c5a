use Rattle.doc_sets.specs.declared.dictionary_lookup.Lookup.TheVariants.{Documents}
use Rattle.doc_sets.proofs.ReadLookups.{key_reads}
use Rattle.doc_sets.specs.Reads.{ReadsAll}
use Rattle.std.proofs.Common.{◌≡◌, ◌∙◌, ◌∷◌, [], false, ap, sym, subst, arith}
use Rattle.doc_value.specs.Documents.{IsOfSchema, values_in}
use Rattle.query_ast.specs.Meaning.{is_there}
use Rattle.split_bundle.specs.Keys.{keys_of, presence_key}
use Rattle.split_bundle.specs.Lists.{has_key, keeps_places}
use Rattle.doc_sets.specs.Needed.{LacksKeys}
use Rattle.doc_sets.proofs.SetLemmas.{gives_same}
use Rattle.doc_sets.proofs.Steps.{presence_keeps}
use Rattle.doc_sets.proofs.values.present_documents.Goals as goal

pub returns-clause-only : goal.returns-clause-only
returns-clause-only c = λ s documents p f is got on.
    let n = c.args.number in
    let v = c.args.part.now in
    let few = is.part.is_split.are_documents.schema.few in
    let key : c.deref.result.now ≡ presence_key n = c.deref.ensures.value ∙ c.in_ok-key.ensures in
    let flag : false ≡ keeps_places s c.deref.result.now = sym (ap (λ k. keeps_places s k) key ∙ presence_keeps s n few) in
    gives_same (λ d. IsOfSchema s d.doc) (LacksKeys v s documents p (c.deref.result.now ∷ [])) (LacksKeys v s documents p (presence_key n ∷ [])) c.key_documents.result
    (λ d. has_key c.deref.result.now (keys_of s d)) (λ d. is_there (values_in d n)) documents is.part.is_split.are_documents.of_schema
    (λ d h. ap (λ k. has_key k (keys_of s d.doc)) key ∙ sym (c.presence_by_keys.ensures s n f d.doc got (omega (arith, few)) on))
    (λ e h. subst (λ k. LacksKeys v s documents p (k ∷ []) e) key h)
    (c.key_documents.ensures.only s documents p is flag)

pub returns-clause-reads : goal.returns-clause-reads
returns-clause-reads c =
    let key : c.deref.result.now ≡ presence_key c.args.number = c.deref.ensures.value ∙ c.in_ok-key.ensures in
    let h = c.key_documents.ensures.exact in
    subst (λ k. ReadsAll c.args.part.now (Documents k ∷ []) c.key_documents.result) key (key_reads c.args.part.now c.deref.result.now false c.key_documents.result h.0 h.1 h.2)
