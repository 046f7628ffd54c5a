use Rattle.doc_sets.specs.Reads.{ReadsAll}
use Rattle.doc_sets.proofs.ReadLookups.{phrase_reads}
use Rattle.doc_sets.specs.declared.dictionary_lookup.Lookup.TheVariants.{Documents}
use Rattle.std.proofs.Common.{◌≡◌, ◌∙◌, ◌≤◌, ◌∷◌, [], ℕ, List, true, false, length, MatchResult, ap, sym, subst, arith, Ok}
use Rattle.query_ast.specs.Meaning.{first_position, phrase_holds, some_has_token}
use Rattle.doc_value.specs.Documents.{values_in}
use Rattle.split_bundle.specs.Keys.{field_key}
use Rattle.text_tokens.specs.declared.tokens.Token.{Token}
use Rattle.doc_sets.specs.Asked.{AllNear, are_close}
use Rattle.doc_sets.specs.Asking.{LacksLookups}
use Rattle.doc_sets.specs.Needed.{LacksKeys, LacksPlaces, token_keys}
use Rattle.doc_sets.specs.Sets.{IsSetOf}
use Rattle.doc_sets.specs.Texts.{lookups_for}
use Rattle.doc_sets.proofs.Looked.{keys_lack, kept_by, many_keys, places_lack, wider_result}
use Rattle.doc_sets.proofs.Runs.{far_phrase, first_is, one_item, phrase_of_two}
use Rattle.doc_sets.proofs.SetLemmas.{set_same}
use Rattle.doc_sets.proofs.phrases.phrase_documents.Goals as goal

pub returns-in-len1-clause-only : goal.returns-in-len1-clause-only
returns-in-len1-clause-only c = λ s documents p is got on kind kept behind.
    let n = c.args.number in
    let f = c.args.field.now in
    let v = c.args.part.now in
    let whole = one_item c.only-item.result c.args.phrase.now (omega (arith, c.in-len1.len_at_least)) (omega (arith, c.in-len1.len_below)) c.only-item.is in
    let key = field_key n c.only-item.result.text in
    subst (λ (ts : List Token). MatchResult c.token_documents.result (IsSetOf (λ d. phrase_holds f ts (values_in d n)) documents) (LacksLookups v s documents p (lookups_for (token_keys n ts)))) (sym whole)
    (wider_result (IsSetOf (λ d. some_has_token f c.only-item.result.text (values_in d n)) documents) (LacksKeys v s documents p (key ∷ [])) (LacksLookups v s documents p (lookups_for (key ∷ []))) c.token_documents.result
    (keys_lack v s documents p (key ∷ []))
    (subst (λ (t : List ℕ). MatchResult c.token_documents.result (IsSetOf (λ d. some_has_token f t (values_in d n)) documents) (LacksKeys v s documents p (field_key n t ∷ []))) c.as_slice.ensures
    (c.token_documents.ensures.only s documents p is got on kind)))

pub returns-then-are_close-clause-only : goal.returns-then-are_close-clause-only
returns-then-are_close-clause-only c = λ s documents p is got on kind kept behind.
    let n = c.args.number in
    let f = c.args.field.now in
    let v = c.args.part.now in
    let phrase = c.args.phrase.now in
    let keys = token_keys n phrase in
    let many : 2 ≤ length phrase = c.in-len2-up.len_at_least in
    let close : are_close (first_position phrase) phrase ≡ true =
    ap (λ m. are_close m phrase) (sym (first_is c.first-item.result phrase (omega (arith, many)) c.first-item.is)) ∙ (sym c.are_close.ensures ∙ c.if-are_close.true) in
    wider_result (IsSetOf (λ d. phrase_holds f phrase (values_in d n)) documents) (LacksPlaces v s documents p keys) (LacksLookups v s documents p (lookups_for keys)) c.several_documents.result
    (λ e h. places_lack v s documents p keys e (subst (λ (m : ℕ). 2 ≤ m) (sym (many_keys n phrase)) many) h)
    (c.several_documents.ensures.only s documents p is got on kind (kept_by f.positions (length phrase) many kept) behind close many)

pub returns-in_ok-no_documents-in-len2-up-clause-only : goal.returns-in_ok-no_documents-in-len2-up-clause-only
returns-in_ok-no_documents-in-len2-up-clause-only c = λ s documents p is got on kind kept behind.
    let n = c.args.number in
    let f = c.args.field.now in
    let phrase = c.args.phrase.now in
    let many : 2 ≤ length phrase = c.in-len2-up.len_at_least in
    let far : are_close (first_position phrase) phrase ≡ false =
    ap (λ m. are_close m phrase) (sym (first_is c.first-item.result phrase (omega (arith, many)) c.first-item.is)) ∙ (sym c.are_close.ensures ∙ c.if-are_close.false) in
    set_same (λ d. AllNear f (values_in d.doc n)) c.in_ok-no_documents-in-len2-up.field-0 (λ d. false) (λ d. phrase_holds f phrase (values_in d n)) documents (is.near n f got)
    (λ d h. sym (phrase_of_two f phrase (values_in d.doc n) many ∙ far_phrase f phrase (values_in d.doc n) far h)) (c.in_ok-no_documents-in-len2-up.ensures.only s documents p is)

pub returns-in-len1-clause-reads : goal.returns-in-len1-clause-reads
returns-in-len1-clause-reads c =
    let n = c.args.number in
    let v = c.args.part.now in
    let whole = one_item c.only-item.result c.args.phrase.now (omega (arith, c.in-len1.len_at_least)) (omega (arith, c.in-len1.len_below)) c.only-item.is in
    subst (λ (ts : List Token). ReadsAll v (lookups_for (token_keys n ts)) c.token_documents.result) (sym whole)
    (subst (λ (t : List ℕ). ReadsAll v (Documents (field_key n t) ∷ []) c.token_documents.result) c.as_slice.ensures c.token_documents.ensures.reads)

pub returns-then-are_close-clause-reads : goal.returns-then-are_close-clause-reads
returns-then-are_close-clause-reads c = phrase_reads c.args.part.now c.args.number c.args.phrase.now c.several_documents.result c.in-len2-up.len_at_least

pub returns-in_ok-no_documents-in-len2-up-clause-reads : goal.returns-in_ok-no_documents-in-len2-up-clause-reads
returns-in_ok-no_documents-in-len2-up-clause-reads c = phrase_reads c.args.part.now c.args.number c.args.phrase.now (Ok c.in_ok-no_documents-in-len2-up.field-0) c.in-len2-up.len_at_least
