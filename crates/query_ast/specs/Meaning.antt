-- What a query means on a document, by recursion over the query.
use Rattle.std.specs.Prelude.{ℕ, ◌+◌, ◌==◌, Bool, true, false, not, ◌&&◌, ◌||◌, List, [], ◌∷◌, Option, Some, None, slice_get, int_lt, int_le, nat_lt, nat_eq, ℤ, if◌then◌else◌}
use Rattle.std.specs.List.{starts_with}
use Rattle.std.specs.Option.{option_map_or}
use Rattle.std.specs.Str.{bytes_eq}
use Rattle.doc_value.specs.Documents.{values_in}
use Rattle.doc_value.specs.declared.schema.Field.{Field}
use Rattle.doc_value.specs.declared.schema.Kind.{Kind}
use Rattle.doc_value.specs.declared.schema.Kind.TheVariants as kinds
use Rattle.doc_value.specs.declared.schema.Schema.{Schema}
use Rattle.doc_value.specs.declared.doc.Value.{Value}
use Rattle.doc_value.specs.declared.doc.Value.TheVariants as values
use Rattle.doc_value.specs.declared.doc.DocField.{DocField}
use Rattle.doc_value.specs.declared.facts.TimeRange.{TimeRange}
use Rattle.text_tokens.specs.declared.tokens.Token.{Token}
use Rattle.query_ast.specs.FieldTokens.{field_tokens, prefix_text}
use Rattle.query_ast.specs.Spelled.{spelled}
use Rattle.query_ast.specs.Sought.{Sought, Soughts, no_more, more, view}
use Rattle.query_ast.specs.Sought as sought
use Rattle.query_ast.specs.declared.query.Item.{Item}
use Rattle.query_ast.specs.declared.query.Edge.{Edge}
use Rattle.query_ast.specs.declared.query.Edge.TheVariants as edges
use Rattle.query_ast.specs.declared.query.Query.{Query}

abbrev pub is_text : Kind → Bool
is_text kinds.Text = true
is_text kinds.TextList = true
is_text _ = false

-- two values of one kind are equal, or in order
abbrev pub same_value : Value → Value → Bool
same_value (values.Text a) (values.Text b) = bytes_eq a b
same_value (values.I64 a) (values.I64 b) = int_le a b && int_le b a
same_value (values.U64 a) (values.U64 b) = a == b
same_value (values.Bool false) (values.Bool b) = not b
same_value (values.Bool true) (values.Bool b) = b
same_value (values.Datetime a) (values.Datetime b) = int_le a b && int_le b a
same_value _ _ = false

abbrev pub value_below : Value → Value → Bool
value_below (values.I64 a) (values.I64 b) = int_lt a b
value_below (values.U64 a) (values.U64 b) = nat_lt a b
value_below (values.Datetime a) (values.Datetime b) = int_lt a b
value_below _ _ = false

-- the value lies above a low edge, and below a high edge
abbrev pub is_above : Edge → Value → Bool
is_above edges.Unbounded v = true
is_above (edges.Included e) v = value_below e v || same_value e v
is_above (edges.Excluded e) v = value_below e v

abbrev pub is_below : Edge → Value → Bool
is_below edges.Unbounded v = true
is_below (edges.Included e) v = value_below v e || same_value v e
is_below (edges.Excluded e) v = value_below v e

abbrev pub between : Edge → Edge → List Value → Bool
between low high [] = false
between low high (v ∷ vs) = (is_above low v && is_below high v) || between low high vs

abbrev pub equals_some : Option Value → List Value → Bool
equals_some None vs = false
equals_some (Some w) [] = false
equals_some (Some w) (v ∷ vs) = same_value v w || equals_some (Some w) vs

-- some token has this text
abbrev pub has_token : List ℕ → List Token → Bool
has_token text [] = false
has_token text (p ∷ ps) = bytes_eq p.text text || has_token text ps

-- some token begins with this text
abbrev pub has_prefix : List ℕ → List Token → Bool
has_prefix text [] = false
has_prefix text (p ∷ ps) = starts_with nat_eq p.text text || has_prefix text ps

-- some token has this text, `shift` places behind `from`
abbrev pub has_token_at : List ℕ → ℕ → ℕ → List Token → Bool
has_token_at text shift from [] = false
has_token_at text shift from (p ∷ ps) =
    (bytes_eq p.text text && (p.position + from == shift)) || has_token_at text shift from ps

-- each token of the phrase stands as far from `start` as it stands from `from` in the phrase
abbrev pub stands_at : List Token → ℕ → ℕ → List Token → Bool
stands_at [] start from places = true
stands_at (t ∷ ts) start from places = has_token_at t.text (start + t.position) from places && stands_at ts start from places

-- the phrase stands at one of these places
abbrev pub stands_at_one : List Token → ℕ → List Token → List Token → Bool
stands_at_one phrase from [] places = false
stands_at_one phrase from (p ∷ ps) places = stands_at phrase p.position from places || stands_at_one phrase from ps places

abbrev pub first_position : List Token → ℕ
first_position [] = 0
first_position (p ∷ ps) = p.position

abbrev pub has_phrase : List Token → List Token → Bool
has_phrase phrase places = stands_at_one phrase (first_position phrase) places places

-- the tokens of a value
abbrev pub tokens_in : Field → Value → List Token
tokens_in field (values.Text s) = field_tokens field s
tokens_in field _ = []

-- some value has a token with this text
abbrev pub some_has_token : Field → List ℕ → List Value → Bool
some_has_token field text [] = false
some_has_token field text (v ∷ vs) = has_token text (tokens_in field v) || some_has_token field text vs

abbrev pub some_has_prefix : Field → List ℕ → List Value → Bool
some_has_prefix field text [] = false
some_has_prefix field text (v ∷ vs) = has_prefix text (tokens_in field v) || some_has_prefix field text vs

-- the phrase stands in one value
abbrev pub some_has_phrase : Field → List Token → List Value → Bool
some_has_phrase field phrase [] = false
some_has_phrase field phrase (v ∷ vs) = has_phrase phrase (tokens_in field v) || some_has_phrase field phrase vs

-- each token stands somewhere in the values
abbrev pub each_stands : Field → List Token → List Value → Bool
each_stands field [] vs = true
each_stands field (t ∷ ts) vs = some_has_token field t.text vs && each_stands field ts vs

-- no token matches nothing, one is looked for, several stand as a phrase
abbrev pub phrase_holds : Field → List Token → List Value → Bool
phrase_holds field [] vs = false
phrase_holds field (t ∷ []) vs = some_has_token field t.text vs
phrase_holds field (t ∷ u ∷ ts) vs = some_has_phrase field (t ∷ u ∷ ts) vs

abbrev pub each_holds : Field → List Token → List Value → Bool
each_holds field [] vs = false
each_holds field (t ∷ ts) vs = each_stands field (t ∷ ts) vs

abbrev pub quoted_holds : Field → List ℕ → List Value → Bool
quoted_holds field text vs =
    if is_text field.kind then phrase_holds field (field_tokens field text) vs else equals_some (spelled field.kind text) vs

-- where no positions are kept, a word of several tokens needs each of them in the document
abbrev pub word_holds : Field → List ℕ → List Value → Bool
word_holds field text vs =
    if is_text field.kind && not field.positions then each_holds field (field_tokens field text) vs else quoted_holds field text vs

abbrev pub item_holds : Field → List Value → Item → Bool
item_holds field vs item =
    if item.quoted then quoted_holds field item.text vs else word_holds field item.text vs

abbrev pub some_item_holds : Field → List Value → List Item → Bool
some_item_holds field vs [] = false
some_item_holds field vs (item ∷ items) = item_holds field vs item || some_item_holds field vs items

-- what is asked of a field, which no unknown field meets
abbrev pub asks : Schema → ℕ → (Field → Bool) → Bool
asks schema number holds = option_map_or holds (slice_get schema.fields number) false

abbrev pub is_there : List Value → Bool
is_there [] = false
is_there (v ∷ vs) = true

abbrev mutual
  -- the meaning of a query on a document
  pub meaning : Schema → List DocField → Sought → Bool
  meaning s d sought.All = true
  meaning s d sought.Nothing = false
  meaning s d (sought.Word n text) = asks s n (λ f. word_holds f text (values_in d n))
  meaning s d (sought.Quoted n text) = asks s n (λ f. quoted_holds f text (values_in d n))
  meaning s d (sought.Prefix n text) = asks s n (λ f. some_has_prefix f (prefix_text f text) (values_in d n))
  meaning s d (sought.Exists n) = is_there (values_in d n)
  meaning s d (sought.Range n low high) = between low high (values_in d n)
  meaning s d (sought.AnyOf n items) = asks s n (λ f. some_item_holds f (values_in d n) items)
  meaning s d (sought.Not q) = not (meaning s d q)
  meaning s d (sought.And qs) = all_hold s d qs
  meaning s d (sought.Or qs) = some_hold s d qs

  pub all_hold : Schema → List DocField → Soughts → Bool
  all_hold s d no_more = true
  all_hold s d (more q qs) = meaning s d q && all_hold s d qs

  pub some_hold : Schema → List DocField → Soughts → Bool
  some_hold s d no_more = false
  some_hold s d (more q qs) = meaning s d q || some_hold s d qs

-- the same of a list of trees in memory
abbrev pub all_in : Schema → List DocField → List Query → Bool
all_in s d [] = true
all_in s d (q ∷ qs) = meaning s d (view q) && all_in s d qs

abbrev pub some_in : Schema → List DocField → List Query → Bool
some_in s d [] = false
some_in s d (q ∷ qs) = meaning s d (view q) || some_in s d qs

-- a second lies from the start on and before the end, as far as they stand
abbrev pub from_start : Option ℤ → ℤ → Bool
from_start None second = true
from_start (Some start) second = int_le start second

abbrev pub before_end : Option ℤ → ℤ → Bool
before_end None second = true
before_end (Some end) second = int_lt second end

abbrev pub second_within : TimeRange → Value → Bool
second_within times (values.Datetime second) = from_start times.start second && before_end times.end second
second_within times _ = false

abbrev pub some_within : TimeRange → List Value → Bool
some_within times [] = false
some_within times (v ∷ vs) = second_within times v || some_within times vs

abbrev pub has_time_within : TimeRange → Option ℕ → List DocField → Bool
has_time_within times None doc = false
has_time_within times (Some n) doc = some_within times (values_in doc n)

abbrev pub is_unlimited : Option ℤ → Option ℤ → Bool
is_unlimited None None = true
is_unlimited _ _ = false

-- a document lies in a range of times where the range has neither edge, or the document has a value of the timestamp field in it
abbrev pub within_times : Schema → TimeRange → List DocField → Bool
within_times s times doc = is_unlimited times.start times.end || has_time_within times s.timestamp doc
