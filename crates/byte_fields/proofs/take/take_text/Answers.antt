use Rattle.std.proofs.Common.{◌≡◌, ℕ, List, ◌+◌, ◌<◌, ◌^◌, ◌∙◌, ap, length, drop, arith, subst, length-append, Result}
use Rattle.std.proofs.lemmas.List.{length-drop}
use Rattle.byte_fields.specs.declared.field_error.FieldError.{FieldError}
use Rattle.byte_fields.specs.Spelling.{varint, byte_string}
use Rattle.byte_fields.specs.Reading.{Gives}
use Rattle.byte_fields.proofs.Others.{text_found, text_again}
use Rattle.byte_fields.proofs.take.take_text.Goals as goal

pub returns-clause-found : goal.returns-clause-found
returns-clause-found c = text_found (λ x. (x.0.now, x.1)) c.args.bytes.now c.args.at c.text_whole.result (λ i. omega (arith, c.type_inv.bytes i)) c.text_whole.ensures

pub returns-clause-only : goal.returns-clause-only
returns-clause-only c = λ text rest utf8 e.
    let short : length c.args.bytes.now < 2 ^ 64 = omega arith in
    let long : length (drop c.args.at c.args.bytes.now) ≡ length (byte_string text) + length rest = ap length e ∙ length-append (byte_string text) rest in
    let fits : length text < 2 ^ 64 = omega (arith, long, length-drop c.args.at c.args.bytes.now, length-append (varint (length text)) text) in
    subst (λ (r : Result (List ℕ × ℕ) FieldError). Gives {Y = List ℕ × ℕ} (λ x. (x.0.now, x.1)) c.text_whole.result r) (text_again c.args.bytes.now c.args.at text rest fits utf8 e) c.text_whole.ensures
