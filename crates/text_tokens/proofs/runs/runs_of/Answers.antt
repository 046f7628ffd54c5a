use Rattle.std.proofs.Common.{◌≡◌, ◌++◌, ◌+◌, ℕ, length, arith, length-append, encode_utf8, ap}
use Rattle.std.specs.Str.Iter.{chars_rest}
use Rattle.std.proofs.lemmas.Str.{IsUtf8-past_char}
use Rattle.text_tokens.proofs.Joined.{step-inside, step-outside, step-end}
use Rattle.text_tokens.proofs.runs.runs_of.Goals as goal

pub loop-letter-preserved-then-is_inside : goal.loop-letter-preserved-then-is_inside
loop-letter-preserved-then-is_inside c =
    let i = c.loop-letter.invariant in
    let e : chars_rest c.loop-letter.letter-iterator ≡ encode_utf8 c.in-Some.letter ++ chars_rest c.next.new.self = c.in-Some.ensures.steps.0 in
    let w : c.len_utf8.result ≡ length (encode_utf8 c.in-Some.letter) = c.len_utf8.ensures.len in (
      step-inside _ _ _ c.loop-letter.run c.in-Some.letter _ _ _ _ i.0 i.3 e (cc) i.2 c.in_ok-push.ensures.ok w,
      omega (arith, i.1, ap length e, length-append (encode_utf8 c.in-Some.letter) (chars_rest c.next.new.self)),
      omega (arith, i.2, ap length c.in_ok-push.ensures.ok, length-append c.loop-letter.run.text (encode_utf8 c.in-Some.letter)),
      IsUtf8-past_char _ _ c.in-Some.letter i.3 e,
    )

pub loop-letter-preserved : goal.loop-letter-preserved
loop-letter-preserved c =
    let i = c.loop-letter.invariant in
    let e : chars_rest c.loop-letter.letter-iterator ≡ encode_utf8 c.in-Some.letter ++ chars_rest c.next.new.self = c.in-Some.ensures.steps.0 in
    let w : c.len_utf8.result ≡ length (encode_utf8 c.in-Some.letter) = c.len_utf8.ensures.len in (
      step-outside _ _ _ _ c.loop-letter.run c.in-Some.letter _ _ _ _ i.0 i.3 e (cc) c.in_ok-close.ensures c.vacant-else-is_inside.ensures w,
      omega (arith, i.1, ap length e, length-append (encode_utf8 c.in-Some.letter) (chars_rest c.next.new.self)),
      omega (arith, ap length c.vacant-else-is_inside.ensures),
      IsUtf8-past_char _ _ c.in-Some.letter i.3 e,
    )

pub returns : goal.returns
returns c = step-end _ _ _ _ c.loop-letter.run _ c.loop-letter.invariant.0 c.in-None.ensures.steps.0.0 c.in_ok-close-2.ensures
