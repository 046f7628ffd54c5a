-- The text that is printed of a query: a backslash before each byte that would end a word, before a first byte that begins
-- none, and before a word that would be an operator; one blank between parts; brackets where an And or an Or stands inside
-- another And, Or or Not.
use Rattle.std.specs.Prelude.{◌≡◌, ◌≢◌, ◌<◌, ◌≤◌, ℕ, IsUtf8, length, Ok, suc, ◌+◌, ◌||◌, Bool, true, false, not, List, [], ◌∷◌, ◌++◌, max, Some, slice_get, if◌then◌else◌, ℤ, pos, negsuc}
use Rattle.std.specs.Fmt.{decimal, signed_decimal}
use Rattle.std.specs.Option.{IfSome, option_map_or}
use Rattle.std.specs.Str.{bytes_eq}
use Rattle.jiff.specs.Types.{DateTime}
use Rattle.clock_time.specs.Datetimes.{IsShownAt, IsTimestampSecond, civil_text}
use Rattle.doc_value.specs.Documents.{AreNamed, AreNumbers, IsDynamic, PathsRise}
use Rattle.doc_value.specs.declared.schema.Field.{Field}
use Rattle.doc_value.specs.declared.schema.Schema.{Schema}
use Rattle.doc_value.specs.declared.doc.Value.{Value}
use Rattle.doc_value.specs.declared.doc.Value.TheVariants as values
use Rattle.query_ast.specs.declared.query.Item.{Item}
use Rattle.query_ast.specs.declared.query.Edge.{Edge}
use Rattle.query_ast.specs.declared.query.Edge.TheVariants as edges
use Rattle.query_ast.specs.Sought.{Sought, Soughts, no_more, more}
use Rattle.query_ast.specs.Sought as sought
use Rattle.query_reader.specs.Kinds.{kind_of, ends_word, is_escape_kind}
use Rattle.query_reader.specs.Resolve.{query_of}
use Rattle.query_reader.specs.declared.kind.Kind.{Kind}
use Rattle.query_reader.specs.declared.kind.Kind.TheVariants.{Plain, Quote}

-- the bytes that stand behind a backslash, in a word and in a quote
abbrev pub hides_in_word : ℕ → Bool
hides_in_word c = ends_word (kind_of c) || is_escape_kind (kind_of c)

abbrev pub is_quote_kind : Kind → Bool
is_quote_kind Quote = true
is_quote_kind _ = false

abbrev pub hides_in_quote : ℕ → Bool
hides_in_quote c = is_quote_kind (kind_of c) || is_escape_kind (kind_of c)

abbrev pub hiding : (ℕ → Bool) → List ℕ → List ℕ
hiding hides [] = []
hiding hides (c ∷ cs) = if hides c then 92 ∷ c ∷ hiding hides cs else c ∷ hiding hides cs

abbrev pub is_plain_kind : Kind → Bool
is_plain_kind Plain = true
is_plain_kind _ = false

-- `AND`, `OR`, `NOT` and `IN`
abbrev pub is_keyword : List ℕ → Bool
is_keyword w = bytes_eq w (65 ∷ 78 ∷ 68 ∷ []) || (bytes_eq w (79 ∷ 82 ∷ []) || (bytes_eq w (78 ∷ 79 ∷ 84 ∷ []) || bytes_eq w (73 ∷ 78 ∷ [])))

abbrev pub word_text : List ℕ → List ℕ
word_text [] = []
word_text (c ∷ cs) =
    if is_keyword (c ∷ cs) || not (is_plain_kind (kind_of c)) then 92 ∷ c ∷ hiding hides_in_word cs
    else c ∷ hiding hides_in_word cs

abbrev pub quote_text : List ℕ → List ℕ
quote_text w = 34 ∷ hiding hides_in_quote w ++ 34 ∷ []

-- a second that its digits read back as
abbrev pub IsPlainSecond : ℤ → Type 0
IsPlainSecond (pos n) = n ≤ 8_589_934_591
IsPlainSecond (negsuc n) = ⊥

-- a second is printed as its digits where they read back as that second, else as its date and time in quotes; one that no
-- datetime has, as its digits too
pub data IsSecondText (n : ℤ) : List ℕ → Type 0 where
  plain_second : IsPlainSecond n → IsSecondText n (signed_decimal n)
  dated_second : (IsPlainSecond n → ⊥) → (shown : DateTime) → IsShownAt n shown → IsTimestampSecond n → IsSecondText n (quote_text (civil_text shown))
  other_second : (IsTimestampSecond n → ⊥) → IsSecondText n (signed_decimal n)

-- what is printed, piece by piece: bytes, and seconds
pub data Piece : Type 0 where
  Written : List ℕ → Piece
  Second : ℤ → Piece

-- the bytes are these pieces
abbrev pub Spells : List Piece → List ℕ → Type 0
Spells [] bytes = bytes ≡ []
Spells (Written w ∷ ps) bytes = (rest : List ℕ) × (bytes ≡ w ++ rest) × Spells ps rest
Spells (Second n ∷ ps) bytes = (w : List ℕ) × (rest : List ℕ) × IsSecondText n w × (bytes ≡ w ++ rest) × Spells ps rest

-- the pieces were appended
abbrev pub Appends : List ℕ → List ℕ → List Piece → Type 0
Appends old new pieces = (bytes : List ℕ) × (new ≡ old ++ bytes) × Spells pieces bytes

-- a value as an edge
abbrev pub value_pieces : Value → List Piece
value_pieces (values.Text t) = Written t ∷ []
value_pieces (values.I64 n) = Written (signed_decimal n) ∷ []
value_pieces (values.U64 n) = Written (decimal n) ∷ []
value_pieces (values.Bool b) = Written (if b then 116 ∷ 114 ∷ 117 ∷ 101 ∷ [] else 102 ∷ 97 ∷ 108 ∷ 115 ∷ 101 ∷ []) ∷ []
value_pieces (values.Datetime n) = Second n ∷ []

abbrev pub edge_pieces : Edge → List Piece
edge_pieces edges.Unbounded = Written (42 ∷ []) ∷ []
edge_pieces (edges.Included v) = value_pieces v
edge_pieces (edges.Excluded v) = value_pieces v

-- a range has brackets, and braces beside an edge that is excluded
abbrev pub opening : Edge → List ℕ
opening (edges.Excluded v) = 123 ∷ []
opening _ = 91 ∷ []

abbrev pub closing : Edge → List ℕ
closing (edges.Excluded v) = 125 ∷ []
closing _ = 93 ∷ []

abbrev pub range_pieces : Edge → Edge → List Piece
range_pieces low high =
    Written (opening low) ∷ (edge_pieces low ++ (Written (32 ∷ 84 ∷ 79 ∷ 32 ∷ []) ∷ (edge_pieces high ++ Written (closing high) ∷ [])))

abbrev pub item_text : Item → List ℕ
item_text i = if i.quoted then quote_text i.text else word_text i.text

abbrev pub items_rest : List Item → List ℕ
items_rest [] = []
items_rest (i ∷ is) = 32 ∷ item_text i ++ items_rest is

abbrev pub items_text : List Item → List ℕ
items_text [] = []
items_text (i ∷ is) = item_text i ++ items_rest is

abbrev pub set_text : List Item → List ℕ
set_text is = 73 ∷ 78 ∷ 32 ∷ 91 ∷ items_text is ++ 93 ∷ []

abbrev pub path_of : List Field → ℕ → List ℕ
path_of fields n = option_map_or (λ f. f.path) (slice_get fields n) []

-- a field and its colon
abbrev pub field_text : List Field → ℕ → List ℕ
field_text fields n = word_text (path_of fields n) ++ 58 ∷ []

abbrev pub asked : List Field → ℕ → List ℕ → List Piece
asked fields n w = Written (field_text fields n) ∷ Written w ∷ []

abbrev pub blank_and : List ℕ
blank_and = 32 ∷ 65 ∷ 78 ∷ 68 ∷ 32 ∷ []

abbrev pub blank_or : List ℕ
blank_or = 32 ∷ 79 ∷ 82 ∷ 32 ∷ []

-- the brackets of an And or an Or inside another And, Or or Not
abbrev pub bracket_before : Sought → List ℕ
bracket_before (sought.And qs) = 40 ∷ []
bracket_before (sought.Or qs) = 40 ∷ []
bracket_before q = []

abbrev pub bracket_behind : Sought → List ℕ
bracket_behind (sought.And qs) = 41 ∷ []
bracket_behind (sought.Or qs) = 41 ∷ []
bracket_behind q = []

abbrev pub inner : Sought → List Piece → List Piece
inner q pieces = Written (bracket_before q) ∷ pieces ++ Written (bracket_behind q) ∷ []

abbrev mutual
  pub printed : List Field → Sought → List Piece
  printed fields sought.All = Written (42 ∷ []) ∷ []
  printed fields sought.Nothing = Written (78 ∷ 79 ∷ 84 ∷ 32 ∷ 42 ∷ []) ∷ []
  printed fields (sought.Word n w) = asked fields n (word_text w)
  printed fields (sought.Quoted n w) = asked fields n (quote_text w)
  printed fields (sought.Prefix n w) = asked fields n (word_text w ++ 42 ∷ [])
  printed fields (sought.Exists n) = asked fields n (42 ∷ [])
  printed fields (sought.Range n low high) = Written (field_text fields n) ∷ range_pieces low high
  printed fields (sought.AnyOf n items) = asked fields n (set_text items)
  printed fields (sought.Not q) = Written (78 ∷ 79 ∷ 84 ∷ 32 ∷ []) ∷ inner q (printed fields q)
  printed fields (sought.And qs) = printed_all fields blank_and [] qs
  printed fields (sought.Or qs) = printed_all fields blank_or [] qs

  -- the members, with this before the first and with this before each other
  pub printed_all : List Field → List ℕ → List ℕ → Soughts → List Piece
  printed_all fields between before no_more = []
  printed_all fields between before (more q qs) = Written before ∷ inner q (printed fields q) ++ printed_all fields between between qs

-- how many brackets and NOTs stand one in another
abbrev pub bracket_depth : Sought → ℕ
bracket_depth (sought.And qs) = 1
bracket_depth (sought.Or qs) = 1
bracket_depth q = 0

abbrev mutual
  pub nesting : Sought → ℕ
  nesting (sought.Not q) = suc (bracket_depth q + nesting q)
  nesting (sought.And qs) = nesting_all qs
  nesting (sought.Or qs) = nesting_all qs
  nesting sought.Nothing = 1
  nesting _ = 0

  pub nesting_all : Soughts → ℕ
  nesting_all no_more = 0
  nesting_all (more q qs) = max (bracket_depth q + nesting q) (nesting_all qs)

-- a query over a schema and some default fields, as a text gives it, and a text that is printed of it
pub record IsPrintedOf (schema : Schema) (defaults text : List ℕ) (q : Sought) (shown : List ℕ) : Type 0 where
  pub rise : PathsRise schema.fields
  pub named : AreNamed schema.fields
  pub dynamic : IfSome schema.dynamic (IsDynamic schema.fields)
  pub within : AreNumbers schema.fields defaults
  pub read : query_of schema defaults text ≡ Ok q
  pub printed : Spells (printed schema.fields q) shown
