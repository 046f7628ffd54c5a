-- The tokens of a field.
use Rattle.std.specs.Prelude.{ℕ, List}
use Rattle.doc_value.specs.declared.schema.Field.{Field}
use Rattle.doc_value.specs.declared.schema.Tokenizer.{Tokenizer}
use Rattle.doc_value.specs.declared.schema.Tokenizer.TheVariants.{Raw, Whitespace, Default}
use Rattle.text_tokens.specs.declared.tokens.Token.{Token}
use Rattle.text_tokens.specs.Tokens.{raw_tokens, whitespace_tokens, default_tokens, folded}

abbrev pub tokens_by : Tokenizer → List ℕ → List Token
tokens_by Raw text = raw_tokens text
tokens_by Whitespace text = whitespace_tokens text
tokens_by Default text = default_tokens text

-- the tokens that a field's tokenizer makes of a text
abbrev pub field_tokens : Field → List ℕ → List Token
field_tokens field text = tokens_by field.tokenizer text

abbrev pub prefix_by : Tokenizer → List ℕ → List ℕ
prefix_by Default text = folded text
prefix_by _ text = text

-- a prefix, with case folded where the field's tokens are
abbrev pub prefix_text : Field → List ℕ → List ℕ
prefix_text field text = prefix_by field.tokenizer text
