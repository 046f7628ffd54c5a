use Rattle.std.proofs.Common.{◌≡◌, ◌∙◌, ℕ, List, OnOk, ap, sym, subst}
use Rattle.doc_value.specs.declared.doc.Value.{Value}
use Rattle.doc_value.specs.declared.doc.Value.TheVariants as values
use Rattle.split_bundle.specs.Keys.{of_value}
use Rattle.split_build.specs.Said.{in_document}
use Rattle.split_build.specs.Walks.{Adds, IsShort}
use Rattle.split_build.proofs.occurrences.Walker.add_value.Goals as goal

pub add_text-requires-clause-short : goal.add_text-requires-clause-short
add_text-requires-clause-short c =
    let text : c.args.value.now ≡ values.Text c.as_str.result.now = c.in-Text.is ∙ ap (λ (l : List ℕ). values.Text l) (sym c.as_str.ensures) in
    subst (λ (v : Value). IsShort v) text c.requires.short

pub returns-in-Text : goal.returns-in-Text
returns-in-Text c = λ s kept.
    let text : values.Text c.as_str.result.now ≡ c.args.value.now = ap (λ (l : List ℕ). values.Text l) c.as_str.ensures ∙ sym c.in-Text.is in
    subst (λ (v : Value). OnOk c.add_text.result (Adds c.args.terms.now c.add_text.new.terms s (in_document c.args.document (of_value c.args.field.now c.args.number c.args.place v)))) text (c.add_text.ensures s kept)

pub returns : goal.returns
returns c = λ s kept. c.add_term.ensures s c.args.field.now kept
