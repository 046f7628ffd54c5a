use Rattle.std.proofs.Common.{◌≡◌, ◌∙◌, ◌+◌, ◌∷◌, [], ℕ, true, ap, subst, arith}
use Rattle.split_bundle.specs.Keys.{field_key}
use Rattle.split_bundle.specs.Lists.{keeps_places, posting_list}
use Rattle.doc_sets.specs.Needed.{AsksPlaces, LacksPlaces, token_keys}
use Rattle.doc_sets.specs.Seeking.{ArePassing, CanSeek}
use Rattle.doc_sets.proofs.Causes.{handed_on, token_lacks}
use Rattle.doc_sets.proofs.SeekLaws.{cursor_more}
use Rattle.doc_sets.proofs.phrases.open_cursors.Goals as goal

pub returns-in_err-cursor-clause-only : goal.returns-in_err-cursor-clause-only
returns-in_err-cursor-clause-only c = λ s documents p is keeps.
    let n = c.args.number in
    let v = c.args.part.now in
    let i = c.loop-token.token-index in
    let x = c.token-item.result in
    let key : c.deref.result.now ≡ field_key n x.text = c.deref.ensures.value ∙ (c.in_ok-key.ensures ∙ ap (field_key n) c.as_slice.ensures) in
    let flag : keeps_places s c.deref.result.now ≡ true = ap (keeps_places s) key ∙ keeps x.text in
    let cause = subst (λ k. LacksPlaces v s documents p (k ∷ []) c.in_err-cursor.field-0.0) key (c.in_err-cursor.ensures s documents p is flag) in
    handed_on (λ cs. ArePassing s documents n c.args.phrase.now cs.items 0 0) (LacksPlaces v s documents p (token_keys n c.args.phrase.now)) c.from_residual-in_err-cursor.result c.in_err-cursor.field-0.0 c.from_residual-in_err-cursor.ensures.1
    (token_lacks (AsksPlaces v s documents p) v.pieces n i x c.args.phrase.now c.in_err-cursor.field-0.0 c.loop-token-test.true c.token-item.is cause)

pub loop-token-preserved : goal.loop-token-preserved
loop-token-preserved c = record {
  many = c.in_ok-push.ensures.len ∙ ap (λ (n : ℕ). n + 1) c.loop-token.invariant.many;
  only = λ s documents p is keeps.
      let n = c.args.number in
      let x = c.token-item.result in
      let key : c.deref.result.now ≡ field_key n x.text = c.deref.ensures.value ∙ (c.in_ok-key.ensures ∙ ap (field_key n) c.as_slice.ensures) in
      let flag : keeps_places s c.deref.result.now ≡ true = ap (keeps_places s) key ∙ keeps x.text in
      let can = subst (λ k. CanSeek (posting_list s documents k) c.in_ok-cursor.cursor 0) key (c.in_ok-cursor.ensures s documents p is flag) in
      cursor_more s documents n c.args.phrase.now c.loop-token.cursors.items c.loop-token.token-index c.in_ok-cursor.cursor _ x c.loop-token-test.true (omega (arith, c.loop-token.invariant.many, c.loop-token.cursors.ok)) c.token-item.is
      c.in_ok-push.ensures.items can (c.loop-token.invariant.only s documents p is keeps);
}

pub returns-clause-only : goal.returns-clause-only
returns-clause-only c = λ s documents p is keeps. record {
  many = omega (arith, c.loop-token.invariant.many, c.loop-token.cursors.ok, c.loop-token-test.false);
  behind = λ i t d low lt. absurd (omega arith);
  before = λ i t d low lt. c.loop-token.invariant.only s documents p is keeps i t d (omega (arith, lt, c.loop-token-test.false));
}
