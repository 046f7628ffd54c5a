-- The field that holds leaf texts: a list of texts, each one token at most.
use Rattle.std.proofs.Common.{◌≡◌, ℕ, Bool, true, false, List, [], ◌∷◌, length, Option, Some, None, refl, ap, ◌∙◌, nat_lt, nat_le, if◌then◌else◌, slice_get}
use Rattle.std.specs.Option.{MatchOption}
use Rattle.text_tokens.specs.Tokens.{raw_tokens, max_token}
use Rattle.text_tokens.specs.declared.tokens.Token.{Token}
use Rattle.doc_value.specs.Documents.{IsDynamic}
use Rattle.doc_value.specs.declared.schema.Field.{Field}
use Rattle.doc_value.specs.declared.schema.Kind.TheVariants as kinds
use Rattle.doc_value.specs.declared.schema.Tokenizer.{Tokenizer}
use Rattle.doc_value.specs.declared.schema.Tokenizer.TheVariants as tokenizers
use Rattle.query_ast.specs.FieldTokens.{field_tokens, tokens_by}

pub record IsHolder (f : Field) : Type 0 where
  pub kind : f.kind ≡ kinds.TextList
  pub tokenizer : f.tokenizer ≡ tokenizers.Raw
  pub indexed : f.indexed ≡ true
  pub unplaced : f.positions ≡ false

pub holder : (fields : List Field) (n : ℕ) → IsDynamic fields n → (f : Field) × (slice_get fields n ≡ Some f) × IsHolder f
holder fields n d = go (slice_get fields n) refl d
  where
    go : (o : Option Field) → slice_get fields n ≡ o
        → MatchOption o ⊥ (λ f. (f.kind ≡ kinds.TextList) × (f.tokenizer ≡ tokenizers.Raw) × (f.indexed ≡ true) × (f.fast ≡ false) × (f.tag ≡ false) × (f.positions ≡ false))
        → (f : Field) × (slice_get fields n ≡ Some f) × IsHolder f
    go None e h = absurd h
    go (Some f) e h = (f, e, record { kind = h.0; tokenizer = h.1; indexed = h.2; unplaced = h.5 })

-- a whole text is one token at most
one_token : (w : List ℕ) → nat_lt 1 (length (raw_tokens w)) ≡ false
one_token w = pick (nat_le (length w) max_token) (record { text = w; from = 0; to = length w; position = 0 })
  where
    pick : (b : Bool) (t : Token) → nat_lt 1 (length (if b then t ∷ [] else [])) ≡ false
    pick true t = refl
    pick false t = refl

pub few_tokens : (f : Field) (w : List ℕ) → IsHolder f → nat_lt 1 (length (field_tokens f w)) ≡ false
few_tokens f w h = ap (λ (t : Tokenizer). nat_lt 1 (length (tokens_by t w))) h.tokenizer ∙ one_token w
