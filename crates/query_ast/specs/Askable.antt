-- Which queries the index of a schema can answer, and each of its splits.
use Rattle.std.specs.Prelude.{◌≡◌, ℕ, ◌<◌, true, List, [], ◌∷◌, length}
use Rattle.doc_value.specs.declared.schema.Field.{Field}
use Rattle.doc_value.specs.declared.schema.Schema.{Schema}
use Rattle.query_ast.specs.FieldTokens.{field_tokens}
use Rattle.query_ast.specs.Meaning.{is_text}
use Rattle.query_ast.specs.Queries.{HasField, has_order}
use Rattle.query_ast.specs.Sought.{Sought, Soughts, no_more, more}
use Rattle.query_ast.specs.Sought as sought
use Rattle.query_ast.specs.declared.query.Item.{Item}

-- a phrase of several tokens is looked for by their places, which a field of texts has to keep
abbrev pub CanPlace : Field → List ℕ → Type 0
CanPlace f text = is_text f.kind ≡ true → 1 < length (field_tokens f text) → f.positions ≡ true

-- the same of each quoted one of some members
abbrev pub CanPlaceEach : Field → List Item → Type 0
CanPlaceEach f [] = Unit {0}
CanPlaceEach f (item ∷ items) = (item.quoted ≡ true → CanPlace f item.text) × CanPlaceEach f items

-- the field that is asked is one of the schema's and indexed, and this holds of it
abbrev pub HasIndexed : Schema → ℕ → (Field → Type 0) → Type 0
HasIndexed s n P = HasField s n (λ f. (f.indexed ≡ true) × P f)

abbrev mutual
  -- each field is indexed, prefixes are of texts, ranges of numbers and datetimes, and phrases of several tokens are on
  -- fields with positions
  pub CanAsk : Schema → Sought → Type 0
  CanAsk s sought.All = Unit {0}
  CanAsk s sought.Nothing = Unit {0}
  CanAsk s (sought.Word n text) = HasIndexed s n (λ f. Unit {0})
  CanAsk s (sought.Quoted n text) = HasIndexed s n (λ f. CanPlace f text)
  CanAsk s (sought.Prefix n text) = HasIndexed s n (λ f. is_text f.kind ≡ true)
  CanAsk s (sought.Exists n) = HasIndexed s n (λ f. Unit {0})
  CanAsk s (sought.Range n low high) = HasIndexed s n (λ f. has_order f.kind ≡ true)
  CanAsk s (sought.AnyOf n items) = HasIndexed s n (λ f. CanPlaceEach f items)
  CanAsk s (sought.Not q) = CanAsk s q
  CanAsk s (sought.And qs) = CanAskEach s qs
  CanAsk s (sought.Or qs) = CanAskEach s qs

  pub CanAskEach : Schema → Soughts → Type 0
  CanAskEach s no_more = Unit {0}
  CanAskEach s (more q qs) = CanAsk s q × CanAskEach s qs
