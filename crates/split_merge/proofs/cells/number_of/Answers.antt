use Rattle.std.proofs.Common.{◌≡◌, ap, arith, rules}
use Rattle.std.specs.Prelude.{IsUtf8}
use Rattle.doc_value.specs.declared.doc.Value.TheVariants as values
use Rattle.split_build.specs.HeldColumns.{texts_of}
use Rattle.split_build.proofs.CellLemmas.{numbered_text}
use Rattle.split_merge.specs.Lent.{value_of}
use Rattle.split_merge.proofs.cells.number_of.Goals as goal

pub returns-in_ok-place-in-Text : goal.returns-in_ok-place-in-Text
returns-in_ok-place-in-Text c =
    let text : value_of c.args.value ≡ values.Text c.in-Text.text.now = ap value_of c.in-Text.is in
    let utf8 : IsUtf8 c.in-Text.text.now = search rules in
    numbered_text (texts_of c.args.texts.now.keys) (texts_of c.text_place.new.texts.keys) c.in_ok-place-in-Text.ensures.grown.0 (value_of c.args.value) c.in-Text.text.now c.in_ok-place-in-Text.place text utf8 c.in_ok-place-in-Text.ensures.grown.1 c.in_ok-place-in-Text.ensures.grown.2
    c.in_ok-place-in-Text.ensures.place (omega arith)
