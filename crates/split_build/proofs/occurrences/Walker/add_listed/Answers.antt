use Rattle.std.proofs.Common.{◌≡◌, ◌∙◌, ◌<◌, ◌^◌, List, OnOk, sym, subst}
use Rattle.std.specs.List.{AllByRecursion}
use Rattle.text_tokens.specs.declared.tokens.Token.{Token}
use Rattle.query_ast.specs.FieldTokens.{field_tokens}
use Rattle.split_bundle.specs.Keys.{of_tokens}
use Rattle.split_bundle.proofs.TokenPlaces.{tokens_below}
use Rattle.split_build.specs.Said.{in_document}
use Rattle.split_build.specs.Walks.{Adds}
use Rattle.split_build.proofs.occurrences.Walker.add_listed.Goals as goal

pub add_tokens-requires-clause-positions : goal.add_tokens-requires-clause-positions
add_tokens-requires-clause-positions c =
    let same : c.as_slice.result.now ≡ field_tokens c.args.field.now c.args.text.now = c.as_slice.ensures ∙ c.in_ok-tokens.ensures in
    subst (λ (ts : List Token). AllByRecursion (λ (t : Token). t.position < 2 ^ 32) ts) (sym same) (tokens_below c.args.field.now c.args.text.now (2 ^ 32) c.requires.short)

pub returns : goal.returns
returns c = λ s kept.
    subst (λ (ts : List Token). OnOk c.add_tokens.result (Adds c.args.terms.now c.add_tokens.new.terms s (in_document c.args.document (of_tokens c.args.number c.args.value ts)))) (c.as_slice.ensures ∙ c.in_ok-tokens.ensures)
    (c.add_tokens.ensures s kept)
