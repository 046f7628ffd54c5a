use Rattle.std.proofs.Common.{◌<◌, ◌++◌, ◌∙◌, List, ℕ, ap, length, arith}
use Rattle.byte_fields.specs.Spelling.{byte_string}
use Rattle.fast_fields.proofs.SpelledTexts.{text_put, texts_put}
use Rattle.fast_fields.proofs.encode.put_texts.Goals as goal

pub loop-text-preserved : goal.loop-text-preserved
loop-text-preserved c =
    let within : c.loop-text.text-index < length c.args.texts.now = omega arith in
    let put = c.in_ok-put_bytes.ensures.ok ∙ ap (λ (l : List ℕ). c.loop-text.out.items ++ byte_string l) c.as_bytes.ensures.value in
    text_put c.loop-text.out.items c.put_bytes.new.out.items _ c.args.texts.now c.loop-text.text-index _ within c.loop-text.invariant put

pub returns : goal.returns
returns c = texts_put c.args.texted c.args.out.now.items c.loop-text.out.items c.args.texts.now c.loop-text.text-index c.if-not-texted.false (omega arith) c.loop-text.invariant
