-- Which queries are of a schema.
use Rattle.std.specs.Prelude.{◌≡◌, ℕ, Bool, true, false, List, [], ◌∷◌, slice_get, is_some, MatchOption}
use Rattle.clock_time.specs.Datetimes.{IsTimestampSecond}
use Rattle.doc_value.specs.Documents.{IsOfKind}
use Rattle.doc_value.specs.declared.doc.Value.{Value}
use Rattle.doc_value.specs.declared.doc.Value.TheVariants as values
use Rattle.doc_value.specs.declared.schema.Field.{Field}
use Rattle.doc_value.specs.declared.schema.Kind.{Kind}
use Rattle.doc_value.specs.declared.schema.Kind.TheVariants as kinds
use Rattle.doc_value.specs.declared.schema.Schema.{Schema}
use Rattle.query_ast.specs.declared.query.Item.{Item}
use Rattle.query_ast.specs.declared.query.Edge.{Edge}
use Rattle.query_ast.specs.declared.query.Edge.TheVariants as edges
use Rattle.query_ast.specs.Meaning.{is_text}
use Rattle.query_ast.specs.Spelled.{spelled}
use Rattle.query_ast.specs.Sought.{Sought, Soughts, no_more, more}
use Rattle.query_ast.specs.Sought as sought

-- the field that is asked stands in the schema, and this holds of it
abbrev pub HasField : Schema → ℕ → (Field → Type 0) → Type 0
HasField s n P = MatchOption (slice_get s.fields n) ⊥ P

-- a text is a value of the field's kind
abbrev pub Spells : List ℕ → Field → Type 0
Spells text f = is_some (spelled f.kind text) ≡ true

abbrev pub EachSpells : List Item → Field → Type 0
EachSpells [] f = Unit {0}
EachSpells (i ∷ is) f = Spells i.text f × EachSpells is f

-- ranges are of numbers and datetimes
abbrev pub has_order : Kind → Bool
has_order kinds.I64 = true
has_order kinds.U64 = true
has_order kinds.Datetime = true
has_order _ = false

-- a datetime is a second that `jiff` has as a Timestamp
abbrev pub IsInTime : Value → Type 0
IsInTime (values.Datetime second) = IsTimestampSecond second
IsInTime _ = Unit {0}

-- an edge is a value of the field's kind
abbrev pub IsEdgeOf : Kind → Edge → Type 0
IsEdgeOf kind edges.Unbounded = Unit {0}
IsEdgeOf kind (edges.Included v) = IsOfKind kind v × IsInTime v
IsEdgeOf kind (edges.Excluded v) = IsOfKind kind v × IsInTime v

abbrev pub IsRangeOf : Edge → Edge → Field → Type 0
IsRangeOf low high f = (has_order f.kind ≡ true) × IsEdgeOf f.kind low × IsEdgeOf f.kind high

abbrev mutual
  -- each field stands in the schema, words, quoted texts and members are values of it, prefixes are of texts, ranges of
  -- numbers and datetimes, and And and Or have at least two members
  pub IsQueryOf : Schema → Sought → Type 0
  IsQueryOf s sought.All = Unit {0}
  IsQueryOf s sought.Nothing = Unit {0}
  IsQueryOf s (sought.Word n text) = HasField s n (Spells text)
  IsQueryOf s (sought.Quoted n text) = HasField s n (Spells text)
  IsQueryOf s (sought.Prefix n text) = HasField s n (λ f. is_text f.kind ≡ true)
  IsQueryOf s (sought.Exists n) = HasField s n (λ f. Unit {0})
  IsQueryOf s (sought.Range n low high) = HasField s n (IsRangeOf low high)
  IsQueryOf s (sought.AnyOf n items) = HasField s n (EachSpells items)
  IsQueryOf s (sought.Not q) = IsQueryOf s q
  IsQueryOf s (sought.And qs) = AreTwo qs × AreQueriesOf s qs
  IsQueryOf s (sought.Or qs) = AreTwo qs × AreQueriesOf s qs

  pub AreQueriesOf : Schema → Soughts → Type 0
  AreQueriesOf s no_more = Unit {0}
  AreQueriesOf s (more q qs) = IsQueryOf s q × AreQueriesOf s qs

  -- at least two
  pub AreTwo : Soughts → Type 0
  AreTwo no_more = ⊥
  AreTwo (more q no_more) = ⊥
  AreTwo (more q (more p qs)) = Unit {0}
