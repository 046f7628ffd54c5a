use Rattle.std.proofs.Common.{◌≡◌, ◌+◌, ◌-◌, ◌++◌, ◌∙◌, [], ℕ, length, drop, sym, ap, arith}
use Rattle.std.specs.Prelude.{slice_get}
use Rattle.std.specs.List.{flat_map}
use Rattle.std.proofs.lemmas.List.{append-nil}
use Rattle.byte_fields.specs.Spelling.{byte_string}
use Rattle.fast_fields.proofs.Pieces.{bytes_not_failed, bytes_read}
use Rattle.fast_fields.proofs.SpelledTexts.{text_front, lends_text}
use Rattle.fast_fields.proofs.Areas.{area_passed, area_bytes, area_texts}
use Rattle.fast_fields.proofs.Looked.{text_passed, text_failed, text_last, text_past, text_got, text_lost}
use Rattle.fast_fields.proofs.column.Column.text.Goals as goal

pub returns-in-Err-clause-only : goal.returns-in-Err-clause-only
returns-in-Err-clause-only c texts es h =
    let here = c.loop-number.invariant.1 texts es h ∙ sym (append-nil (flat_map byte_string (drop c.loop-number._number texts))) in
    let f = text_front c.args.self.now.texts.now [] c.loop-number.at texts c.loop-number._number (omega (arith, h.text_count_is)) here h.utf8 in
    absurd (bytes_not_failed _ _ (c.in-Err.ensures.only f.0 (flat_map byte_string (drop (c.loop-number._number + 1) texts) ++ []) f.3))

pub loop-number-preserved : goal.loop-number-preserved
loop-number-preserved c = (
  c.in-Ok.ensures.found.within,
  λ texts es h.
      let here = c.loop-number.invariant.1 texts es h ∙ sym (append-nil (flat_map byte_string (drop c.loop-number._number texts))) in
      let f = text_front c.args.self.now.texts.now [] c.loop-number.at texts c.loop-number._number (omega (arith, h.text_count_is)) here h.utf8 in
      let rest = flat_map byte_string (drop (c.loop-number._number + 1) texts) in
      (bytes_read c.args.self.now.texts.now (flat_map byte_string (drop (c.loop-number._number + 1) texts) ++ []) f.0 c.in-Ok._text.now c.loop-number.at c.in-Ok.next f.3
      (c.in-Ok.ensures.only f.0 (flat_map byte_string (drop (c.loop-number._number + 1) texts) ++ []) f.3)).1 ∙ append-nil (flat_map byte_string (drop (c.loop-number._number + 1) texts)),
  sym (text_passed (c.args.ordinal - c.loop-number._number) (c.args.ordinal - (c.loop-number._number + 1)) c.args.self.now.texts.now c.loop-number.at (c.in-Ok._text.now, c.in-Ok.next) (omega arith) c.in-Ok.ensures.exact)
      ∙ c.loop-number.invariant.2,
  area_passed (c.args.self.now.text_count - c.loop-number._number) (c.args.self.now.text_count - (c.loop-number._number + 1)) c.args.self.now.texts.now c.loop-number.at (length c.args.self.now.texts.now) (c.in-Ok._text.now, c.in-Ok.next)
      (omega arith) c.loop-number.invariant.3 c.in-Ok.ensures.exact,
)

pub returns-in-Ok-take_text-clause-only : goal.returns-in-Ok-take_text-clause-only
returns-in-Ok-take_text-clause-only c texts es h =
    let here = c.loop-number.invariant.1 texts es h ∙ sym (append-nil (flat_map byte_string (drop c.loop-number._number texts))) in
    let f = text_front c.args.self.now.texts.now [] c.loop-number.at texts c.loop-number._number (omega (arith, h.text_count_is)) here h.utf8 in
    let got = (bytes_read c.args.self.now.texts.now (flat_map byte_string (drop (c.loop-number._number + 1) texts) ++ []) f.0 c.in-Ok-take_text.text.now c.loop-number.at c.in-Ok-take_text._behind f.3
    (c.in-Ok-take_text.ensures.only f.0 (flat_map byte_string (drop (c.loop-number._number + 1) texts) ++ []) f.2 f.3)).0 in
    let last : c.loop-number._number ≡ c.args.ordinal = omega arith in
    lends_text c.in-Ok-take_text.text f.0 (slice_get texts c.args.ordinal) (ap (λ (i : ℕ). slice_get texts i) (sym last) ∙ f.1) got

pub returns-in-Err-take_text-clause-only : goal.returns-in-Err-take_text-clause-only
returns-in-Err-take_text-clause-only c texts es h =
    let here = c.loop-number.invariant.1 texts es h ∙ sym (append-nil (flat_map byte_string (drop c.loop-number._number texts))) in
    let f = text_front c.args.self.now.texts.now [] c.loop-number.at texts c.loop-number._number (omega (arith, h.text_count_is)) here h.utf8 in
    absurd (bytes_not_failed _ _ (c.in-Err-take_text.ensures.only f.0 (flat_map byte_string (drop (c.loop-number._number + 1) texts) ++ []) f.2 f.3))

pub returns-then-ordinal-self-clause-exact : goal.returns-then-ordinal-self-clause-exact
returns-then-ordinal-self-clause-exact c = text_past c.args.self.now c.args.ordinal (omega arith)

pub returns-in-Err-clause-exact : goal.returns-in-Err-clause-exact
returns-in-Err-clause-exact c =
    text_lost c.args.self.now c.args.ordinal c.in-Err.field-0 (omega arith) (sym c.loop-number.invariant.2
    ∙ text_failed (c.args.ordinal - c.loop-number._number) c.args.self.now.texts.now c.loop-number.at c.in-Err.field-0 (omega arith) c.in-Err.ensures.exact)

pub returns-in-Ok-take_text-clause-exact : goal.returns-in-Ok-take_text-clause-exact
returns-in-Ok-take_text-clause-exact c =
    text_got c.args.self.now c.args.ordinal c.in-Ok-take_text.text c.in-Ok-take_text._behind (omega arith) (sym c.loop-number.invariant.2
    ∙ text_last (c.args.ordinal - c.loop-number._number) c.args.self.now.texts.now c.loop-number.at (omega arith) ∙ c.in-Ok-take_text.ensures.exact)

pub returns-in-Err-take_text-clause-exact : goal.returns-in-Err-take_text-clause-exact
returns-in-Err-take_text-clause-exact c =
    text_lost c.args.self.now c.args.ordinal c.in-Err-take_text.field-0 (omega arith) (sym c.loop-number.invariant.2
    ∙ text_last (c.args.ordinal - c.loop-number._number) c.args.self.now.texts.now c.loop-number.at (omega arith) ∙ c.in-Err-take_text.ensures.exact)

pub returns-in-Err-clause-there : goal.returns-in-Err-clause-there
returns-in-Err-clause-there c =
    absurd (area_bytes (c.args.self.now.text_count - c.loop-number._number) c.args.self.now.texts.now c.loop-number.at (length c.args.self.now.texts.now) c.in-Err.field-0 (omega arith) c.loop-number.invariant.3 c.in-Err.ensures.exact)

pub returns-in-Err-take_text-clause-there : goal.returns-in-Err-take_text-clause-there
returns-in-Err-take_text-clause-there c =
    absurd (area_texts (c.args.self.now.text_count - c.loop-number._number) c.args.self.now.texts.now c.loop-number.at (length c.args.self.now.texts.now) c.in-Err-take_text.field-0 (omega arith) c.loop-number.invariant.3 c.in-Err-take_text.ensures.exact)
