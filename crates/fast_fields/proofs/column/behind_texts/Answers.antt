use Rattle.std.proofs.Common.{◌+◌, ◌-◌, ◌++◌, ◌∙◌, drop, sym, arith}
use Rattle.std.specs.List.{flat_map}
use Rattle.byte_fields.specs.Spelling.{byte_string}
use Rattle.fast_fields.proofs.Pieces.{bytes_not_failed, bytes_read}
use Rattle.fast_fields.proofs.SpelledTexts.{text_front}
use Rattle.fast_fields.proofs.Readings.{texts_more, texts_fault, texts_none}
use Rattle.fast_fields.proofs.column.behind_texts.Goals as goal

pub returns-in_err-at-clause-only : goal.returns-in_err-at-clause-only
returns-in_err-at-clause-only c texts rest utf8 count e =
    let f = text_front c.args.bytes.now rest c.loop-number.at texts c.loop-number._number (omega arith) (c.loop-number.invariant.2 texts rest utf8 count e) utf8 in
    absurd (bytes_not_failed _ _ (c.in_err-at.ensures.only f.0 (flat_map byte_string (drop (c.loop-number._number + 1) texts) ++ rest) f.2 f.3))

pub loop-number-preserved : goal.loop-number-preserved
loop-number-preserved c = (
  omega (arith, c.loop-number.invariant.0, c.in_ok-at.ensures.found.next_is),
  c.in_ok-at.ensures.found.within,
  λ texts rest utf8 count e.
      let f = text_front c.args.bytes.now rest c.loop-number.at texts c.loop-number._number (omega arith) (c.loop-number.invariant.2 texts rest utf8 count e) utf8 in
      (bytes_read c.args.bytes.now (flat_map byte_string (drop (c.loop-number._number + 1) texts) ++ rest) f.0 c.in_ok-at.field-0.0.now c.loop-number.at c.in_ok-at.field-0.1 f.3
      (c.in_ok-at.ensures.only f.0 (flat_map byte_string (drop (c.loop-number._number + 1) texts) ++ rest) f.2 f.3)).1,
  sym (texts_more (c.args.count - c.loop-number._number) (c.args.count - (c.loop-number._number + 1)) c.args.bytes.now c.loop-number.at (c.in_ok-at.field-0.0.now, c.in_ok-at.field-0.1) (omega arith) c.in_ok-at.ensures.exact)
      ∙ c.loop-number.invariant.3,
)

pub returns-in_err-at-clause-exact : goal.returns-in_err-at-clause-exact
returns-in_err-at-clause-exact c =
    texts_fault (c.args.count - c.loop-number._number) c.args.bytes.now c.loop-number.at c.in_err-at.field-0.0 c.from_residual.result (omega arith) c.in_err-at.ensures.exact c.from_residual.ensures.1
    ∙ c.loop-number.invariant.3

pub returns-clause-exact : goal.returns-clause-exact
returns-clause-exact c =
    sym (texts_none (c.args.count - c.loop-number._number) c.args.bytes.now c.loop-number.at (omega arith))
    ∙ c.loop-number.invariant.3
