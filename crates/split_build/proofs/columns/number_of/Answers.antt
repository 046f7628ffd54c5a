use Rattle.std.proofs.Common.{◌≡◌, ◌∙◌, List, ℕ, ap, sym, arith}
use Rattle.doc_value.specs.declared.doc.Value.TheVariants as values
use Rattle.split_build.specs.HeldColumns.{texts_of}
use Rattle.split_build.proofs.CellLemmas.{numbered_text}
use Rattle.split_build.proofs.columns.number_of.Goals as goal

pub returns-in_ok-place-in-Text : goal.returns-in_ok-place-in-Text
returns-in_ok-place-in-Text c =
    let text : c.args.value.now ≡ values.Text c.as_str.result.now = c.in-Text.is ∙ ap (λ (t : List ℕ). values.Text t) (sym c.as_str.ensures) in
    numbered_text (texts_of c.args.texts.now.keys) (texts_of c.text_place.new.texts.keys) c.in_ok-place-in-Text.ensures.grown.0 c.args.value.now c.as_str.result.now c.in_ok-place-in-Text.place text c.as_str.utf8 c.in_ok-place-in-Text.ensures.grown.1 c.in_ok-place-in-Text.ensures.grown.2
    c.in_ok-place-in-Text.ensures.place (omega arith)
