-- What a query text is, and which query it gives: a text from a place to a place, rule by rule.
use Rattle.std.specs.Prelude.{◌≡◌, ◌≢◌, ◌<◌, ◌≤◌, ◌++◌, [], ◌∷◌, take, ℕ, suc, ◌+◌, Bool, true, false, List, length, slice_index, slice_range, Some, None, ◌⊎◌}
use Rattle.query_reader.specs.Kinds.{kind_of, said, ends_word, begins_word, StandsAt, ByteAt}
use Rattle.query_reader.specs.Tree.{Tree, Trees, no_trees, behind, and_tree, or_tree, Leaf, Group, Not}
use Rattle.query_reader.specs.Asking.{Asking}
use Rattle.query_reader.specs.Asking as asks
use Rattle.query_reader.specs.Ranges.{ends_run}
use Rattle.query_reader.specs.declared.kind.Kind.TheVariants.{Blank, Quote, Open, Close, Star, Colon, Plus, Minus, Escape, Angle, SquareOpen, SquareClose, CurlyOpen, CurlyClose}
use Rattle.query_reader.specs.declared.kind.Said.{Said}
use Rattle.query_reader.specs.declared.kind.Said.TheVariants.{SaidWord, SaidAnd, SaidOr, SaidNot}
use Rattle.query_reader.specs.declared.tree.Span.{Span}
use Rattle.query_reader.specs.declared.special.Member.{Member}
use Rattle.query_reader.specs.declared.special.Bound.{Bound}
use Rattle.query_reader.specs.declared.special.Bound.TheVariants as bounds
use Rattle.query_reader.specs.declared.special.Compare.{Compare}
use Rattle.query_reader.specs.declared.special.Compare.TheVariants.{AtLeast, AtMost, Above, Below}
use Rattle.query_reader.specs.declared.special.Ranged.TheVariants.{Between, Compared}

abbrev pub span : ℕ → ℕ → Span
span i j = record { from = i; to = j }

abbrev pub member : ℕ → ℕ → Bool → Member
member i j quoted = record { place = span i j; quoted = quoted }

-- white space from a place to a place
pub data Blanks (text : List ℕ) : ℕ → ℕ → Type 0 where
  no_blank : {i : ℕ} → Blanks text i i
  blank : {i j : ℕ} → StandsAt text i Blank → Blanks text (i + 1) j → Blanks text i j

-- the letters of a word: plain characters, and any character behind a backslash; and whether there is no backslash
pub data Letters (text : List ℕ) (i : ℕ) : ℕ → Bool → Type 0 where
  no_letter : Letters text i i true
  letter : {j : ℕ} {p : Bool} → Letters text i j p → j < length text → ends_word (kind_of (slice_index text j)) ≡ false → kind_of (slice_index text j) ≢ Escape → Letters text i (j + 1) p
  escaped_letter : {j : ℕ} {p : Bool} → Letters text i j p → StandsAt text j Escape → j + 1 < length text → Letters text i (j + 1 + 1) false

-- a word, as long as it goes, and what it says; `<` and `>` may begin it, and `-` may not
pub record Word (text : List ℕ) (i j : ℕ) (s : Said) : Type 0 where
  pub plain : Bool
  pub letters : Letters text i j plain
  pub begins : begins_word (kind_of (slice_index text i)) ≡ true
  pub some : i < j
  pub ends : j < length text → ends_word (kind_of (slice_index text j)) ≡ true
  pub says : said plain (slice_range text i j) ≡ s

-- what a quote contains: any characters, `"` and `\` behind a backslash
pub data Quotes (text : List ℕ) (i : ℕ) : ℕ → Type 0 where
  no_quoted : Quotes text i i
  quoted_byte : {j : ℕ} → Quotes text i j → j < length text → kind_of (slice_index text j) ≢ Quote → kind_of (slice_index text j) ≢ Escape → Quotes text i (j + 1)
  escaped_byte : {j : ℕ} → Quotes text i j → StandsAt text j Escape → StandsAt text (j + 1) Quote ⊎ StandsAt text (j + 1) Escape → Quotes text i (j + 1 + 1)

-- plain = word | word "*" | quoted
pub data Asks (text : List ℕ) : ℕ → ℕ → Asking → Type 0 where
  a_word : {i j : ℕ} → Word text i j SaidWord → (j < length text → kind_of (slice_index text j) ≢ Colon) → (j < length text → kind_of (slice_index text j) ≢ Star) → Asks text i j (asks.Word (span i j))
  a_prefix : {i j : ℕ} → Word text i j SaidWord → StandsAt text j Star → Asks text i (j + 1) (asks.Prefix (span i j))
  a_quote : {i j : ℕ} → StandsAt text i Quote → Quotes text (i + 1) j → StandsAt text j Quote → Asks text i (j + 1) (asks.Quoted (span (i + 1) j))

-- a run of characters but white space, "]", "}" and ")", which does not begin with a quotation mark
pub data Run (text : List ℕ) (i : ℕ) : ℕ → Type 0 where
  run_one : i < length text → ends_run (kind_of (slice_index text i)) ≡ false → kind_of (slice_index text i) ≢ Quote → Run text i (i + 1)
  run_more : {j : ℕ} → Run text i j → j < length text → ends_run (kind_of (slice_index text j)) ≡ false → Run text i (j + 1)

-- a run goes on to white space, "]", "}", ")" or the text's end
abbrev pub RunEnds : List ℕ → ℕ → Type 0
RunEnds text j = j < length text → ends_run (kind_of (slice_index text j)) ≡ true

-- bound = "*" | quoted | run, where a run that is a star alone is no run
pub data Bounds (text : List ℕ) : ℕ → ℕ → Bound → Type 0 where
  a_star : {i : ℕ} → StandsAt text i Star → RunEnds text (i + 1) → Bounds text i (i + 1) bounds.Unbounded
  a_quoted : {i j : ℕ} → StandsAt text i Quote → Quotes text (i + 1) j → StandsAt text j Quote → Bounds text i (j + 1) (bounds.Quoted (span (i + 1) j))
  a_run : {i j : ℕ} → Run text i j → RunEnds text j → (StandsAt text i Star → i + 1 < j) → Bounds text i j (bounds.Run (span i j))

-- cmp = ">=" | "<=" | ">" | "<", as long as it goes
pub data Compares (text : List ℕ) (i : ℕ) : ℕ → Compare → Type 0 where
  at_least : ByteAt text i 62 → ByteAt text (i + 1) 61 → Compares text i (i + 1 + 1) AtLeast
  at_most : ByteAt text i 60 → ByteAt text (i + 1) 61 → Compares text i (i + 1 + 1) AtMost
  above : ByteAt text i 62 → (ByteAt text (i + 1) 61 → ⊥) → Compares text i (i + 1) Above
  below : ByteAt text i 60 → (ByteAt text (i + 1) 61 → ⊥) → Compares text i (i + 1) Below

-- { item ws }, where an item is a word or a quoted text
pub data Items (text : List ℕ) (i : ℕ) : ℕ → List Member → Type 0 where
  no_item : Items text i i []
  item_blank : {j : ℕ} {ms : List Member} → Items text i j ms → StandsAt text j Blank → Items text i (j + 1) ms
  item_word : {j k : ℕ} {ms : List Member} → Items text i j ms → Word text j k SaidWord → Items text i k (ms ++ member j k false ∷ [])
  item_quoted : {j k : ℕ} {ms : List Member} → Items text i j ms → StandsAt text j Quote → Quotes text (j + 1) k → StandsAt text k Quote → Items text i (k + 1) (ms ++ member (j + 1) k true ∷ [])

-- "[" or "{", and "]" or "}"
abbrev pub Opens : List ℕ → Bool → ℕ → Type 0
Opens text closed i = ((closed ≡ true) × StandsAt text i SquareOpen) ⊎ ((closed ≡ false) × StandsAt text i CurlyOpen)

abbrev pub Shuts : List ℕ → Bool → ℕ → Type 0
Shuts text closed i = ((closed ≡ true) × StandsAt text i SquareClose) ⊎ ((closed ≡ false) × StandsAt text i CurlyClose)

-- special = "*" | range | cmp bound | "IN" ws "[" ws { item ws } "]"; whether it ends in a bracket
pub data Specials (text : List ℕ) (i : ℕ) : ℕ → Asking → Bool → Type 0 where
  any_value : StandsAt text i Star → Specials text i (i + 1) asks.Any false
  -- range = ("[" | "{") ws bound ws1 "TO" ws1 bound ws ("]" | "}")
  a_range : {c d : Bool} {j k l m n o : ℕ} {low high : Bound} → Opens text c i → Blanks text (i + 1) j → Bounds text j k low → Blanks text k l → k < l
      → ByteAt text l 84 → ByteAt text (l + 1) 79 → Blanks text (l + 1 + 1) m → l + 1 + 1 < m → Bounds text m n high → Blanks text n o → Shuts text d o
      → Specials text i (o + 1) (asks.Within i (Between c low high d)) true
  compared : {j k : ℕ} {op : Compare} {b : Bound} → Compares text i j op → Bounds text j k b → b ≢ bounds.Unbounded → Specials text i k (asks.Within i (Compared op b)) false
  a_set : {j k : ℕ} {ms : List Member} → ByteAt text i 73 → ByteAt text (i + 1) 78 → Blanks text (i + 1 + 1) j → StandsAt text j SquareOpen → Items text (j + 1) k ms → StandsAt text k SquareClose
      → Specials text i (k + 1) (asks.OneOf i ms) true

-- a word behind a field's colon is no `IN` that begins a set: white space or "[" behind it
abbrev pub NoSetWord : List ℕ → Asking → Type 0
NoSetWord text (asks.Word s) = (s.to < length text) × ((kind_of (slice_index text s.to) ≡ Blank) ⊎ (kind_of (slice_index text s.to) ≡ SquareOpen)) → slice_range text s.from s.to ≢ 73 ∷ 78 ∷ []
NoSetWord text _ = Unit {0}

-- white space, which may be absent beside a bracket
abbrev pub Gap : List ℕ → Bool → ℕ → ℕ → Type 0
Gap text behind_bracket i j = Blanks text i j × ((i < j) ⊎ ((behind_bracket ≡ true) ⊎ StandsAt text j Open))

-- the members of an or and of an and, an operand with what stands before it, a clause: where it begins and ends, whether
-- it ends in a bracket, and how many brackets, NOTs and signs may stand one in another
mutual
  -- or = and { ws1 "OR" ws1 and }
  pub data Ors (text : List ℕ) : Trees → ℕ → ℕ → Bool → ℕ → Type 0 where
    one_and : {t : Trees} {i j n : ℕ} {b : Bool} → Ands text t i j b n → Ors text (behind no_trees (and_tree t)) i j b n
    by_or : {s t : Trees} {i j k l m o n : ℕ} {a b : Bool} → Ors text s i j a n → Gap text a j k → Word text k l SaidOr → Gap text false l m → Ands text t m o b n → Ors text (behind s (and_tree t)) i o b n

  -- and = unary { ws1 [ "AND" ws1 ] unary }
  pub data Ands (text : List ℕ) : Trees → ℕ → ℕ → Bool → ℕ → Type 0 where
    one_operand : {t : Tree} {i j n : ℕ} {b : Bool} → Unary text t i j b n → Ands text (behind no_trees t) i j b n
    next_operand : {s : Trees} {t : Tree} {i j k l n : ℕ} {a b : Bool} → Ands text s i j a n → Gap text a j k → Unary text t k l b n → Ands text (behind s t) i l b n
    by_and : {s : Trees} {t : Tree} {i j k l m o n : ℕ} {a b : Bool} → Ands text s i j a n → Gap text a j k → Word text k l SaidAnd → Gap text false l m → Unary text t m o b n → Ands text (behind s t) i o b n

  -- unary = "NOT" ws1 unary | "+" unary | "-" unary | clause
  pub data Unary (text : List ℕ) : Tree → ℕ → ℕ → Bool → ℕ → Type 0 where
    by_not : {t : Tree} {i j k l n : ℕ} {b : Bool} → Word text i j SaidNot → Gap text false j k → Unary text t k l b n → Unary text (Not t) i l b (suc n)
    by_plus : {t : Tree} {i j n : ℕ} {b : Bool} → StandsAt text i Plus → Unary text t (i + 1) j b n → Unary text t i j b (suc n)
    by_minus : {t : Tree} {i j n : ℕ} {b : Bool} → StandsAt text i Minus → Unary text t (i + 1) j b n → Unary text (Not t) i j b (suc n)
    -- clause = "*" | "(" ws or ws ")" | [ word ":" ] plain | word ":" ws special
    anything : {i n : ℕ} → StandsAt text i Star → Unary text (Leaf None asks.Any) i (i + 1) false n
    by_bracket : {t : Trees} {i j k l n : ℕ} {b : Bool} → StandsAt text i Open → Blanks text (i + 1) j → Ors text t j k b n → Blanks text k l → StandsAt text l Close → Unary text (Group (or_tree t)) i (l + 1) true (suc n)
    of_defaults : {i j n : ℕ} {a : Asking} → Asks text i j a → Unary text (Leaf None a) i j false n
    of_field : {i j k n : ℕ} {a : Asking} → Word text i j SaidWord → StandsAt text j Colon → kind_of (slice_index text (j + 1)) ≢ Angle → NoSetWord text a → Asks text (j + 1) k a → Unary text (Leaf (Some (span i j)) a) i k false n
    of_special : {i j k l n : ℕ} {a : Asking} {b : Bool} → Word text i j SaidWord → StandsAt text j Colon → Blanks text (j + 1) k → Specials text k l a b → Unary text (Leaf (Some (span i j)) a) i l b n

-- query = ws or ws, with at most so many brackets, NOTs and signs one in another
pub record IsQuery (n : ℕ) (text : List ℕ) (t : Tree) : Type 0 where
  pub members : Trees
  pub from : ℕ
  pub to : ℕ
  pub bracket : Bool
  pub before : Blanks text 0 from
  pub ors : Ors text members from to bracket n
  pub after : Blanks text to (length text)
  pub whole : or_tree members ≡ t

-- a query text
abbrev pub IsQueryText : List ℕ → Type 0
IsQueryText text = (t : Tree) × IsQuery 64 text t

-- some query text begins so
abbrev pub BeginsQuery : List ℕ → Type 0
BeginsQuery front = (tail : List ℕ) × IsQueryText (front ++ tail)

-- the length of the longest prefix of the text that some query has as its prefix too
pub record IsLongestFront (text : List ℕ) (at : ℕ) : Type 0 where
  pub within : at ≤ length text
  pub begins : BeginsQuery (take at text)
  pub longest : (n : ℕ) → n ≤ length text → BeginsQuery (take n text) → n ≤ at

-- Where an operand may begin, and how many brackets, NOTs and signs stand around it; and where the content of a bracket
-- begins, or the whole. What stands before it nests no deeper than 64.
mutual
  pub data Begins (text : List ℕ) : ℕ → ℕ → Type 0 where
    the_whole : Begins text 0 0
    a_bracket : {d i : ℕ} → Wants text d i → StandsAt text i Open → Begins text (d + 1) (i + 1)

  pub data Wants (text : List ℕ) : ℕ → ℕ → Type 0 where
    wants_first : {d i j : ℕ} → Begins text d i → Blanks text i j → Wants text d j
    -- behind other operands of the bracket, at once or behind an operator
    wants_next : {t : Trees} {d i s j k n : ℕ} {b : Bool} → Begins text d i → Blanks text i s → Ors text t s j b n → d + n ≤ 64 → Gap text b j k → Wants text d k
    wants_and : {t : Trees} {d i s j k l m n : ℕ} {b : Bool} → Begins text d i → Blanks text i s → Ors text t s j b n → d + n ≤ 64 → Gap text b j k → Word text k l SaidAnd → Gap text false l m → Wants text d m
    wants_or : {t : Trees} {d i s j k l m n : ℕ} {b : Bool} → Begins text d i → Blanks text i s → Ors text t s j b n → d + n ≤ 64 → Gap text b j k → Word text k l SaidOr → Gap text false l m → Wants text d m
    -- behind a `NOT` and behind a sign
    wants_negated : {d i j k : ℕ} → Wants text d i → Word text i j SaidNot → Gap text false j k → Wants text (d + 1) k
    wants_signed : {d i : ℕ} → Wants text d i → StandsAt text i Plus ⊎ StandsAt text i Minus → Wants text (d + 1) (i + 1)

-- a bracket, a sign or a `NOT` begins here
abbrev pub Nests : List ℕ → ℕ → Type 0
Nests text at = StandsAt text at Open ⊎ (StandsAt text at Plus ⊎ (StandsAt text at Minus ⊎ ((j : ℕ) × Word text at j SaidNot)))

-- the bracket, sign or `NOT` that begins here stands in 64 others
pub record IsTooDeepAt (text : List ℕ) (at : ℕ) : Type 0 where
  pub inside : Wants text 64 at
  pub nests : Nests text at
