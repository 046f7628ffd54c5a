use Rattle.doc_sets.specs.declared.dictionary_lookup.Lookup.TheVariants.{Documents}
use Rattle.doc_sets.proofs.ReadLookups.{key_reads}
use Rattle.doc_sets.specs.Reads.{ReadsAll}
use Rattle.std.proofs.Common.{◌≡◌, ◌∙◌, ◌∷◌, [], Some, ap, sym, subst, arith}
use Rattle.doc_value.specs.Documents.{IsOfSchema, values_in}
use Rattle.doc_value.specs.Terms.{term_bytes}
use Rattle.query_ast.specs.Meaning.{equals_some}
use Rattle.split_bundle.specs.Keys.{field_key, keys_of}
use Rattle.split_bundle.specs.Lists.{has_key, keeps_places}
use Rattle.doc_sets.specs.Needed.{LacksKeys}
use Rattle.doc_sets.specs.Values.{AllHave64}
use Rattle.doc_sets.proofs.Runs.{all_both}
use Rattle.doc_sets.proofs.SetLemmas.{gives_same}
use Rattle.doc_sets.proofs.Steps.{kinds_in, places_kept}
use Rattle.doc_sets.proofs.values.value_documents.Goals as goal

pub returns-clause-only : goal.returns-clause-only
returns-clause-only c = λ s documents p is got on no_text of_kind.
    let n = c.args.number in
    let f = c.args.field.now in
    let v = c.args.part.now in
    let w = c.args.value.now in
    let key : c.deref.result.now ≡ field_key n (term_bytes w) = c.deref.ensures.value ∙ c.in_ok-key.ensures in
    let flag : f.positions ≡ keeps_places s c.deref.result.now = sym (ap (λ k. keeps_places s k) key ∙ places_kept s n f (term_bytes w) got) in
    gives_same (λ d. IsOfSchema s d.doc × AllHave64 (values_in d.doc n)) (LacksKeys v s documents p (c.deref.result.now ∷ [])) (LacksKeys v s documents p (field_key n (term_bytes w) ∷ [])) c.key_documents.result
    (λ d. has_key c.deref.result.now (keys_of s d)) (λ d. equals_some (Some w) (values_in d n)) documents
    (all_both (λ d. IsOfSchema s d.doc) (λ d. AllHave64 (values_in d.doc n)) documents is.part.is_split.are_documents.of_schema (is.typed n))
    (λ d h. ap (λ k. has_key k (keys_of s d.doc)) key ∙ sym (c.value_by_keys.ensures s n f w d.doc got (omega (arith, c.requires.number)) on no_text (kinds_in s n f d.doc got h.0) of_kind h.1 c.has_64.ensures))
    (λ e h. subst (λ k. LacksKeys v s documents p (k ∷ []) e) key h)
    (c.key_documents.ensures.only s documents p is flag)

pub returns-clause-reads : goal.returns-clause-reads
returns-clause-reads c =
    let key : c.deref.result.now ≡ field_key c.args.number (term_bytes c.args.value.now) = c.deref.ensures.value ∙ c.in_ok-key.ensures in
    let h = c.key_documents.ensures.exact in
    subst (λ k. ReadsAll c.args.part.now (Documents k ∷ []) c.key_documents.result) key (key_reads c.args.part.now c.deref.result.now c.args.field.now.positions c.key_documents.result h.0 h.1 h.2)
