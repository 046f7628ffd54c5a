use Rattle.doc_sets.specs.declared.dictionary_lookup.Lookup.TheVariants.{Documents}
use Rattle.doc_sets.proofs.ReadLookups.{meets_first, met, met_wider, tokens_from}
use Rattle.doc_sets.specs.Reads.{AreRead, MetBy, SomeMeets}
use Rattle.std.proofs.Common.{◌∙◌, ◌&&◌, ◌∷◌, [], sym, ap, subst, ◌+◌, true, refl, drop, map, inr}
use Rattle.doc_sets.specs.Needed.{AsksKey, LacksKeys, token_keys}
use Rattle.doc_sets.specs.Sets.{IsSetOf}
use Rattle.query_ast.specs.Meaning.{some_has_token, each_stands}
use Rattle.split_bundle.specs.Keys.{field_key}
use Rattle.doc_value.specs.Documents.{IsOfSchema, values_in}
use Rattle.doc_sets.proofs.SetLemmas.{set_same}
use Rattle.doc_sets.proofs.Causes.{handed_on, token_lacks}
use Rattle.doc_sets.proofs.Steps.{token_step, and_true, none_behind}
use Rattle.doc_sets.proofs.words.each_documents.Goals as goal

pub loop-token-preserved : goal.loop-token-preserved
loop-token-preserved c = record {
  size = c.keep_both.ensures.size ∙ c.loop-token.invariant.size;
  only = λ s documents p is got on kind.
      let i = c.loop-token.invariant.only s documents p is got on kind in (
        λ d. i.0 d && some_has_token c.args.field.now c.token-item.result.text (values_in d c.args.number),
        c.keep_both.ensures.only i.0 (λ d. some_has_token c.args.field.now c.token-item.result.text (values_in d c.args.number)) documents i.1
            (subst (λ t. IsSetOf (λ d. some_has_token c.args.field.now t (values_in d c.args.number)) documents c.in_ok-other.other) c.as_slice.ensures (c.in_ok-other.ensures.only s documents p is got on kind)),
        λ d. token_step c.args.field.now (values_in d c.args.number) c.token-item.result c.args.tokens.now c.loop-token.token-index (i.0 d) c.loop-token-test.true c.token-item.is ∙ i.2 d,
      );
  read = λ h.
      let n = c.args.number in
      let v = c.args.part.now in
      let one = subst (λ t. AreRead v (Documents (field_key n t) ∷ [])) c.as_slice.ensures c.in_ok-other.ensures.reads in
      c.loop-token.invariant.read (subst (AreRead v) (sym (tokens_from n c.loop-token.token-index c.token-item.result c.args.tokens.now c.loop-token-test.true c.token-item.is)) (one.0, h));
  meets = λ e h.
      let n = c.args.number in
      let v = c.args.part.now in
      c.loop-token.invariant.meets e (subst (λ ls. SomeMeets v ls e) (sym (tokens_from n c.loop-token.token-index c.token-item.result c.args.tokens.now c.loop-token-test.true c.token-item.is)) (inr h));
}

pub loop-token-init : goal.loop-token-init
loop-token-init c = record {
  size = c.in_ok-bits.ensures.size;
  only = λ s documents p is got on kind. (λ d. true, c.in_ok-bits.ensures.only s documents p is, λ d. refl);
  read = λ h. h;
  meets = λ e h. h;
}

pub returns-in_err-other-clause-reads : goal.returns-in_err-other-clause-reads
returns-in_err-other-clause-reads c =
    let n = c.args.number in
    let v = c.args.part.now in
    let i = c.loop-token.token-index in
    let x = c.token-item.result in
    let ts = c.args.tokens.now in
    let e = c.in_err-other.field-0.0 in
    let cause = subst (λ t. MetBy v (Documents (field_key n t) ∷ []) e) c.as_slice.ensures c.in_err-other.ensures.reads in
    met v (map Documents (token_keys n ts)) c.from_residual-in_err-other.result e c.from_residual-in_err-other.ensures.1
    (met_wider v (Documents (field_key n x.text) ∷ []) (map Documents (token_keys n ts)) e
    (λ f h. c.loop-token.invariant.meets f (subst (λ ls. SomeMeets v ls f) (sym (tokens_from n i x ts c.loop-token-test.true c.token-item.is)) (meets_first v (Documents (field_key n x.text) ∷ []) (map Documents (token_keys n (drop (i + 1) ts))) f h))) cause)

pub returns-clause-reads : goal.returns-clause-reads
returns-clause-reads c =
    c.loop-token.invariant.read (subst (λ ts. AreRead c.args.part.now (map Documents (token_keys c.args.number ts))) (sym (none_behind c.args.tokens.now c.loop-token.token-index c.loop-token-test.false)) tt)

pub returns-in_err-other-clause-only : goal.returns-in_err-other-clause-only
returns-in_err-other-clause-only c = λ s documents p is got on kind.
    let n = c.args.number in
    let v = c.args.part.now in
    let cause = subst (λ t. LacksKeys v s documents p (field_key n t ∷ []) c.in_err-other.field-0.0) c.as_slice.ensures (c.in_err-other.ensures.only s documents p is got on kind) in
    handed_on (IsSetOf (λ d. each_stands c.args.field.now c.args.tokens.now (values_in d n)) documents) (LacksKeys v s documents p (token_keys n c.args.tokens.now)) c.from_residual-in_err-other.result c.in_err-other.field-0.0 c.from_residual-in_err-other.ensures.1
    (token_lacks (AsksKey v s documents p) v.pieces n c.loop-token.token-index c.token-item.result c.args.tokens.now c.in_err-other.field-0.0 c.loop-token-test.true c.token-item.is cause)

pub returns-clause-only : goal.returns-clause-only
returns-clause-only c = λ s documents p is got on kind.
    let n = c.args.number in
    let f = c.args.field.now in
    let i = c.loop-token.invariant.only s documents p is got on kind in
    set_same (λ d. IsOfSchema s d.doc) c.loop-token.bits i.0 (λ d. each_stands f c.args.tokens.now (values_in d n)) documents is.part.is_split.are_documents.of_schema
    (λ d h. sym (and_true (i.0 d.doc)) ∙ (ap (λ ts. i.0 d.doc && each_stands f ts (values_in d.doc n)) (sym (none_behind c.args.tokens.now c.loop-token.token-index c.loop-token-test.false)) ∙ i.2 d.doc)) i.1
