use Rattle.doc_sets.specs.declared.dictionary_lookup.Lookup.TheVariants.{Documents}
use Rattle.doc_sets.proofs.ReadLookups.{key_reads}
use Rattle.doc_sets.specs.Reads.{ReadsAll}
use Rattle.std.proofs.Common.{◌≡◌, ◌∙◌, ◌∷◌, [], ap, sym, subst, arith}
use Rattle.doc_value.specs.Documents.{IsOfSchema, values_in}
use Rattle.query_ast.specs.Meaning.{some_has_token}
use Rattle.split_bundle.specs.Keys.{field_key, keys_of}
use Rattle.split_bundle.specs.Lists.{has_key, keeps_places}
use Rattle.doc_sets.specs.Needed.{LacksKeys}
use Rattle.doc_sets.proofs.SetLemmas.{gives_same}
use Rattle.doc_sets.proofs.Steps.{places_kept, texts_in}
use Rattle.doc_sets.proofs.words.token_documents.Goals as goal

pub returns-clause-only : goal.returns-clause-only
returns-clause-only c = λ s documents p is got on kind.
    let n = c.args.number in
    let f = c.args.field.now in
    let v = c.args.part.now in
    let key : c.deref.result.now ≡ field_key n c.args.term.now = c.deref.ensures.value ∙ c.in_ok-key.ensures in
    let flag : f.positions ≡ keeps_places s c.deref.result.now = sym (ap (λ k. keeps_places s k) key ∙ places_kept s n f c.args.term.now got) in
    gives_same (λ d. IsOfSchema s d.doc) (LacksKeys v s documents p (c.deref.result.now ∷ [])) (LacksKeys v s documents p (field_key n c.args.term.now ∷ [])) c.key_documents.result
    (λ d. has_key c.deref.result.now (keys_of s d)) (λ d. some_has_token f c.args.term.now (values_in d n)) documents is.part.is_split.are_documents.of_schema
    (λ d h. ap (λ k. has_key k (keys_of s d.doc)) key ∙ sym (c.word_by_keys.ensures s n f c.args.term.now d.doc got (omega (arith, c.requires.number)) on (texts_in s n f d.doc got kind h)))
    (λ e h. subst (λ k. LacksKeys v s documents p (k ∷ []) e) key h)
    (c.key_documents.ensures.only s documents p is flag)

pub returns-clause-reads : goal.returns-clause-reads
returns-clause-reads c =
    let key : c.deref.result.now ≡ field_key c.args.number c.args.term.now = c.deref.ensures.value ∙ c.in_ok-key.ensures in
    let h = c.key_documents.ensures.exact in
    subst (λ k. ReadsAll c.args.part.now (Documents k ∷ []) c.key_documents.result) key (key_reads c.args.part.now c.deref.result.now c.args.field.now.positions c.key_documents.result h.0 h.1 h.2)
