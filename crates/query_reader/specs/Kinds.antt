-- The bytes that the grammar tells apart, and the words that are no words.
use Rattle.std.specs.Prelude.{◌≡◌, ◌<◌, length, slice_index, ℕ, ◌==◌, ◌||◌, ◌&&◌, if◌then◌else◌, Bool, true, false, List, [], ◌∷◌}
use Rattle.std.specs.Str.{bytes_eq}
use Rattle.query_reader.specs.declared.kind.Kind.{Kind}
use Rattle.query_reader.specs.declared.kind.Kind.TheVariants.{Blank, Quote, Open, Close, Star, Colon, Plus, Minus, Escape, Angle, SquareOpen, SquareClose, CurlyOpen, CurlyClose, Reserved, Plain}
use Rattle.query_reader.specs.declared.kind.Said.{Said}
use Rattle.query_reader.specs.declared.kind.Said.TheVariants.{SaidWord, SaidAnd, SaidOr, SaidNot}

abbrev pub is_one_of : List ℕ → ℕ → Bool
is_one_of [] c = false
is_one_of (d ∷ ds) c = (c == d) || is_one_of ds c

-- white space is a blank, a tab, a line feed or a carriage return
abbrev pub is_blank : ℕ → Bool
is_blank = is_one_of (32 ∷ 9 ∷ 10 ∷ 13 ∷ [])

-- the backquote and ^ ~ ! have no meaning
abbrev pub is_reserved : ℕ → Bool
is_reserved = is_one_of (96 ∷ 94 ∷ 126 ∷ 33 ∷ [])

unfoldable pub kind_of : ℕ → Kind
kind_of c =
    if is_blank c then Blank
    else if c == 34 then Quote
    else if c == 40 then Open
    else if c == 41 then Close
    else if c == 42 then Star
    else if c == 58 then Colon
    else if c == 43 then Plus
    else if c == 45 then Minus
    else if c == 92 then Escape
    else if is_one_of (60 ∷ 62 ∷ []) c then Angle
    else if c == 91 then SquareOpen
    else if c == 93 then SquareClose
    else if c == 123 then CurlyOpen
    else if c == 125 then CurlyClose
    else if is_reserved c then Reserved
    else Plain

-- there is a byte of this kind at the place
abbrev pub StandsAt : List ℕ → ℕ → Kind → Type 0
StandsAt text at kind = (at < length text) × (kind_of (slice_index text at) ≡ kind)

-- there is this byte at the place
abbrev pub ByteAt : List ℕ → ℕ → ℕ → Type 0
ByteAt text at c = (at < length text) × (slice_index text at ≡ c)

-- `AND`, `OR` and `NOT`, unescaped and alone, are operators and no words
unfoldable pub said : Bool → List ℕ → Said
said plain bytes =
    if plain && bytes_eq bytes (65 ∷ 78 ∷ 68 ∷ []) then SaidAnd
    else if plain && bytes_eq bytes (79 ∷ 82 ∷ []) then SaidOr
    else if plain && bytes_eq bytes (78 ∷ 79 ∷ 84 ∷ []) then SaidNot
    else SaidWord

-- an unescaped `IN`
unfoldable pub names_set : List ℕ → Bool
names_set bytes = bytes_eq bytes (73 ∷ 78 ∷ [])

-- the bytes that end a word
abbrev pub ends_word : Kind → Bool
ends_word Plain = false
ends_word Angle = false
ends_word Minus = false
ends_word Escape = false
ends_word _ = true

-- the bytes that begin a word
abbrev pub begins_word : Kind → Bool
begins_word Plain = true
begins_word Angle = true
begins_word Escape = true
begins_word _ = false

abbrev pub is_escape_kind : Kind → Bool
is_escape_kind Escape = true
is_escape_kind _ = false
