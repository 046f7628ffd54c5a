use Rattle.std.proofs.Common.{◌≡◌, ◌∙◌, ℕ, List, OnOk, ap, sym, subst}
use Rattle.doc_value.specs.declared.schema.Tokenizer.{Tokenizer}
use Rattle.query_ast.specs.FieldTokens.{tokens_by}
use Rattle.text_tokens.specs.Tokens.{raw_tokens}
use Rattle.text_tokens.specs.declared.tokens.Token.{Token}
use Rattle.split_bundle.specs.Keys.{of_tokens}
use Rattle.split_build.specs.Said.{in_document}
use Rattle.split_build.specs.Walks.{Adds}
use Rattle.split_build.proofs.occurrences.Walker.add_text.Goals as goal

pub returns-in-Raw : goal.returns-in-Raw
returns-in-Raw c = λ s kept.
    let same : raw_tokens c.as_bytes.result.now ≡ tokens_by c.args.field.now.tokenizer c.args.text.now =
    ap (λ (l : List ℕ). raw_tokens l) c.as_bytes.ensures.value ∙ ap (λ (t : Tokenizer). tokens_by t c.args.text.now) (sym c.in-Raw.is) in
    subst (λ (ts : List Token). OnOk c.add_whole.result (Adds c.args.terms.now c.add_whole.new.terms s (in_document c.args.document (of_tokens c.args.number c.args.value ts)))) same (c.add_whole.ensures s kept)
