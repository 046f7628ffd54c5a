use Rattle.std.proofs.Common.{◌≡◌, ◌∙◌, ◌<◌, ◌^◌, ℕ, List, OnOk, length, ap, sym, subst}
use Rattle.std.specs.Str.{IsAscii}
use Rattle.doc_value.specs.declared.schema.Tokenizer.{Tokenizer}
use Rattle.query_ast.specs.FieldTokens.{tokens_by}
use Rattle.text_tokens.specs.Tokens.{default_tokens}
use Rattle.text_tokens.specs.declared.tokens.Token.{Token}
use Rattle.split_bundle.specs.Keys.{of_tokens}
use Rattle.split_build.specs.Said.{in_document}
use Rattle.split_build.specs.Walks.{Adds}
use Rattle.split_build.proofs.WordWalks.{ascii_is}
use Rattle.split_build.proofs.occurrences.Walker.add_default.Goals as goal

pub add_words-requires-clause-short : goal.add_words-requires-clause-short
add_words-requires-clause-short c = subst (λ (l : List ℕ). length l < 2 ^ 32) (sym c.as_bytes.ensures.value) c.requires.short

pub add_words-requires-clause-ascii : goal.add_words-requires-clause-ascii
add_words-requires-clause-ascii c = subst (λ (l : List ℕ). IsAscii l) (sym c.as_bytes.ensures.value) (ascii_is c.is_ascii.result c.args.text.now c.if-is_ascii.true c.is_ascii.ensures.cases)

pub returns-then-is_ascii : goal.returns-then-is_ascii
returns-then-is_ascii c = λ s kept.
    let same : default_tokens c.as_bytes.result.now ≡ tokens_by c.args.field.now.tokenizer c.args.text.now =
    ap (λ (l : List ℕ). default_tokens l) c.as_bytes.ensures.value ∙ ap (λ (t : Tokenizer). tokens_by t c.args.text.now) (sym c.requires.tokenizer) in
    subst (λ (ts : List Token). OnOk c.add_words.result (Adds c.args.terms.now c.add_words.new.terms s (in_document c.args.document (of_tokens c.args.number c.args.value ts)))) same (c.add_words.ensures s kept)
