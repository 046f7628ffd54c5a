use Rattle.std.proofs.Common.{◌≡◌, ◌∙◌, ℕ, zero, suc, ◌<◌, ◌≤◌, true, false, List, length, get_or, ap, sym, subst, arith}
use Rattle.std.specs.Prelude.{◌==◌}
use Rattle.std.proofs.lemmas.List.{get_or_default}
use borrow.Author.Count.{below_more}
use Rattle.object_store.specs.Key.{is_key_byte, IsKey}
use Rattle.object_store.proofs.key.Key.from_text.Goals as goal

not_empty : (n : ℕ) → (n == 0) ≡ false → 0 < n
not_empty zero e = absurd (let x : true ≡ false = e in cc)
not_empty (suc n) e = omega arith

-- all bytes were looked at
whole : (text : List ℕ) (at : ℕ) → (length text == 0) ≡ false → length text ≤ at → at ≤ 128 → ((k : ℕ) → k < at → is_key_byte (get_or text k 0) ≡ true) → IsKey text
whole text at some all short each = record {
  some = not_empty (length text) some;
  short = omega arith;
  each = λ k d l. ap is_key_byte (get_or_default text k d 0 l) ∙ each k (omega (arith, l, all));
}

pub loop-at-preserved : goal.loop-at-preserved
loop-at-preserved c = record {
  short = omega arith;
  before = below_more (λ k. is_key_byte (get_or c.as_bytes-bytes.result.now k 0) ≡ true) c.loop-at.at c.loop-at.invariant.before (sym c.is_key_byte.ensures ∙ c.if-not-is_key_byte.false);
}

pub returns-clause-ok : goal.returns-clause-ok
returns-clause-ok c =
    let same : c.as_bytes-bytes.result.now ≡ c.args.text.now = c.as_bytes-bytes.ensures.value in
    (c.of.ensures ∙ same, subst IsKey same (whole c.as_bytes-bytes.result.now c.loop-at.at (sym c.if-is_empty.ensures) c.loop-at-test.false c.loop-at.invariant.short c.loop-at.invariant.before))
