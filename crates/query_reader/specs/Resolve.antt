-- What a query as it is written means over a schema: a query, or the first refusal from the left.
use Rattle.std.specs.Prelude.{◌≡◌, ℕ, suc, ◌-◌, ◌&&◌, not, nat_lt, is_some, Bool, true, false, List, [], ◌∷◌, length, map, slice_get, Option, Some, None, option_and_then, Result, Ok, Err, if◌then◌else◌}
use Rattle.std.specs.Option.{option_map_or}
use Rattle.std.specs.Str.{bytes_eq}
use Rattle.doc_value.specs.declared.schema.Field.{Field}
use Rattle.doc_value.specs.declared.schema.Kind.{Kind}
use Rattle.doc_value.specs.declared.schema.Schema.{Schema}
use Rattle.doc_value.specs.declared.doc.Value.{Value}
use Rattle.dynamic_paths.specs.LeafTexts.{leaf_text, fits}
use Rattle.query_ast.specs.declared.query.Item.{Item}
use Rattle.query_ast.specs.declared.query.Edge.{Edge}
use Rattle.query_ast.specs.declared.query.Edge.TheVariants as edges
use Rattle.query_ast.specs.FieldTokens.{field_tokens}
use Rattle.query_ast.specs.Meaning.{is_text}
use Rattle.query_ast.specs.Queries.{has_order}
use Rattle.query_ast.specs.Spelled.{spelled}
use Rattle.query_ast.specs.Sought.{Sought, Soughts, no_more, more}
use Rattle.query_ast.specs.Sought as sought
use Rattle.query_reader.specs.Asking.{Asking}
use Rattle.query_reader.specs.Asking as asks
use Rattle.query_reader.specs.Machine.{reads}
use Rattle.query_reader.specs.Texts.{text_at, run_at}
use Rattle.query_reader.specs.Tree.{Tree, Trees, no_trees, behind}
use Rattle.query_reader.specs.Tree as trees
use Rattle.query_reader.specs.declared.tree.Span.{Span}
use Rattle.query_reader.specs.declared.special.Bound.{Bound}
use Rattle.query_reader.specs.declared.special.Bound.TheVariants as bounds
use Rattle.query_reader.specs.declared.special.Compare.TheVariants.{AtLeast, AtMost, Above, Below}
use Rattle.query_reader.specs.declared.special.Member.{Member}
use Rattle.query_reader.specs.declared.special.Ranged.{Ranged}
use Rattle.query_reader.specs.declared.special.Ranged.TheVariants.{Between, Compared}
use Rattle.query_reader.specs.declared.fault.Fault.{Fault}
use Rattle.query_reader.specs.declared.fault.Fault.TheVariants as faults
use Rattle.query_reader.specs.declared.refusal.QueryError.{QueryError}
use Rattle.query_reader.specs.declared.refusal.QueryError.TheVariants as refusals

infixl 10 ◌>>=◌
abbrev pub ◌>>=◌ : {A B E : Type 0} → Result A E → (A → Result B E) → Result B E
(Ok x) >>= f = f x
(Err e) >>= f = Err e

abbrev pub first_of : Option ℕ → Option ℕ → Option ℕ
first_of (Some n) o = Some n
first_of None o = o

-- a place that is none for a value of its kind
abbrev pub place_unless : Bool → ℕ → Option ℕ
place_unless true at = None
place_unless false at = Some at

-- the first byte of the value, or of the clause where there is no value; of a quoted text it is the quotation mark
abbrev pub first_byte : Asking → ℕ → ℕ
first_byte asks.Any clause = clause
first_byte (asks.Word s) clause = s.from
first_byte (asks.Prefix s) clause = s.from
first_byte (asks.Quoted s) clause = s.from - 1
first_byte (asks.Within n r) clause = n
first_byte (asks.OneOf n ms) clause = n

abbrev pub member_byte : Member → ℕ
member_byte m = if m.quoted then m.place.from - 1 else m.place.from

-- where a text is no value of the kind
abbrev pub bad_bound : List ℕ → Kind → Bound → Option ℕ
bad_bound text kind bounds.Unbounded = None
bad_bound text kind (bounds.Quoted s) = place_unless (is_some (spelled kind (text_at text s))) (s.from - 1)
bad_bound text kind (bounds.Run s) = place_unless (is_some (spelled kind (run_at text s))) s.from

abbrev pub bad_range : List ℕ → Kind → Ranged → Option ℕ
bad_range text kind (Between lc low high hc) = first_of (bad_bound text kind low) (bad_bound text kind high)
bad_range text kind (Compared op b) = bad_bound text kind b

abbrev pub bad_members : List ℕ → Kind → List Member → Option ℕ
bad_members text kind [] = None
bad_members text kind (m ∷ ms) = first_of (place_unless (is_some (spelled kind (text_at text m.place))) (member_byte m)) (bad_members text kind ms)

abbrev pub bad_value : List ℕ → Asking → Field → Option ℕ
bad_value text asks.Any f = None
bad_value text (asks.Word s) f = place_unless (is_some (spelled f.kind (text_at text s))) s.from
bad_value text (asks.Prefix s) f = place_unless (is_text f.kind) s.from
bad_value text (asks.Quoted s) f = place_unless (is_some (spelled f.kind (text_at text s))) (s.from - 1)
bad_value text (asks.Within n r) f = if has_order f.kind then bad_range text f.kind r else Some n
bad_value text (asks.OneOf n ms) f = bad_members text f.kind ms

-- a text of several tokens on a text field without positions
abbrev pub is_unplaced : Field → List ℕ → Bool
is_unplaced f w = is_text f.kind && (not f.positions && nat_lt 1 (length (field_tokens f w)))

abbrev pub unplaced_members : List ℕ → Field → List Member → Option ℕ
unplaced_members text f [] = None
unplaced_members text f (m ∷ ms) = first_of (place_unless (not (m.quoted && is_unplaced f (text_at text m.place))) (member_byte m)) (unplaced_members text f ms)

abbrev pub unplaced : List ℕ → Asking → Field → Option ℕ
unplaced text (asks.Quoted s) f = place_unless (not (is_unplaced f (text_at text s))) (s.from - 1)
unplaced text (asks.OneOf n ms) f = unplaced_members text f ms
unplaced text _ f = None

-- what is asked of one field
abbrev pub edge_with : Bool → Option Value → Edge
edge_with closed None = edges.Unbounded
edge_with true (Some v) = edges.Included v
edge_with false (Some v) = edges.Excluded v

abbrev pub edge_of : List ℕ → Kind → Bool → Bound → Edge
edge_of text kind closed bounds.Unbounded = edges.Unbounded
edge_of text kind closed (bounds.Quoted s) = edge_with closed (spelled kind (text_at text s))
edge_of text kind closed (bounds.Run s) = edge_with closed (spelled kind (run_at text s))

abbrev pub range_of : List ℕ → Kind → ℕ → Ranged → Sought
range_of text kind n (Between lc low high hc) = sought.Range n (edge_of text kind lc low) (edge_of text kind hc high)
range_of text kind n (Compared AtLeast b) = sought.Range n (edge_of text kind true b) edges.Unbounded
range_of text kind n (Compared Above b) = sought.Range n (edge_of text kind false b) edges.Unbounded
range_of text kind n (Compared AtMost b) = sought.Range n edges.Unbounded (edge_of text kind true b)
range_of text kind n (Compared Below b) = sought.Range n edges.Unbounded (edge_of text kind false b)

abbrev pub item_of : List ℕ → Member → Item
item_of text m = record { text = text_at text m.place; quoted = m.quoted }

abbrev pub asked_of : List ℕ → Asking → ℕ → Field → Sought
asked_of text asks.Any n f = sought.Exists n
asked_of text (asks.Word s) n f = sought.Word n (text_at text s)
asked_of text (asks.Prefix s) n f = sought.Prefix n (text_at text s)
asked_of text (asks.Quoted s) n f = sought.Quoted n (text_at text s)
asked_of text (asks.Within from r) n f = range_of text f.kind n r
asked_of text (asks.OneOf from ms) n f = sought.AnyOf n (map (item_of text) ms)

abbrev pub and_then : Soughts → Sought → Soughts
and_then no_more q = more q no_more
and_then (more p ps) q = more p (and_then ps q)

-- the number of the field with this path
abbrev pub number_of : List Field → List ℕ → ℕ → Option ℕ
number_of [] path n = None
number_of (f ∷ fs) path n = if bytes_eq f.path path then Some n else number_of fs path (suc n)

-- a question to each of some fields, in their order
abbrev pub indexed_at : List Field → ℕ → Bool
indexed_at fields n = option_map_or (λ f. f.indexed) (slice_get fields n) true

abbrev pub all_indexed : List Field → List ℕ → Bool
all_indexed fields [] = true
all_indexed fields (n ∷ ns) = indexed_at fields n && all_indexed fields ns

abbrev pub bad_at : List Field → List ℕ → Asking → ℕ → Option ℕ
bad_at fields text ask n = option_and_then (bad_value text ask) (slice_get fields n)

abbrev pub first_bad : List Field → List ℕ → Asking → List ℕ → Option ℕ
first_bad fields text ask [] = None
first_bad fields text ask (n ∷ ns) = first_of (bad_at fields text ask n) (first_bad fields text ask ns)

abbrev pub unplaced_at : List Field → List ℕ → Asking → ℕ → Option ℕ
unplaced_at fields text ask n = option_and_then (unplaced text ask) (slice_get fields n)

abbrev pub first_unplaced : List Field → List ℕ → Asking → List ℕ → Option ℕ
first_unplaced fields text ask [] = None
first_unplaced fields text ask (n ∷ ns) = first_of (unplaced_at fields text ask n) (first_unplaced fields text ask ns)

abbrev pub asked_at : List Field → List ℕ → Asking → ℕ → Sought
asked_at fields text ask n = option_map_or (asked_of text ask n) (slice_get fields n) sought.Nothing

abbrev pub asked_after : List Field → List ℕ → Soughts → Asking → List ℕ → Soughts
asked_after fields text done ask [] = done
asked_after fields text done ask (n ∷ ns) = asked_after fields text (and_then done (asked_at fields text ask n)) ask ns

-- the Or over the fields, the one question where there is one; no field is refused
abbrev pub over_fields : Soughts → ℕ → Result Sought QueryError
over_fields no_more at = Err (refusals.NoDefaultField at)
over_fields (more q no_more) at = Ok q
over_fields (more q (more p ps)) at = Ok (sought.Or (more q (more p ps)))

module _ (fields : List Field) (text : List ℕ) (ask : Asking) (at : ℕ) (ns : List ℕ) where
  abbrev pub placed_clause : Option ℕ → Result Sought QueryError
  placed_clause (Some place) = Err (refusals.NoPositions place)
  placed_clause None = over_fields (asked_after fields text no_more ask ns) at

  abbrev pub valued_clause : Option ℕ → Result Sought QueryError
  valued_clause (Some place) = Err (refusals.BadValue place)
  valued_clause None = placed_clause (first_unplaced fields text ask ns)

  -- in this order: each field is indexed, has such a value, and positions where they are needed
  abbrev pub clause_of : Result Sought QueryError
  clause_of = if all_indexed fields ns then valued_clause (first_bad fields text ask ns) else Err (refusals.NotIndexed at)

-- a member of a set, as the leaf text of a path
abbrev pub leaf_item : List ℕ → List ℕ → Member → Item
leaf_item text path m = record { text = leaf_text path (text_at text m.place); quoted = m.quoted }

-- a question to a path that no field has, as one to the field that holds the leaf texts of what is not mapped; no leaf text
-- lies in a range
abbrev pub leaf_clause : List ℕ → List ℕ → ℕ → Asking → Result Sought QueryError
leaf_clause text path n asks.Any = Ok (sought.Prefix n (leaf_text path []))
leaf_clause text path n (asks.Word s) = Ok (sought.Word n (leaf_text path (text_at text s)))
leaf_clause text path n (asks.Prefix s) = Ok (sought.Prefix n (leaf_text path (text_at text s)))
leaf_clause text path n (asks.Quoted s) = Ok (sought.Quoted n (leaf_text path (text_at text s)))
leaf_clause text path n (asks.Within from r) = Err (refusals.BadValue from)
leaf_clause text path n (asks.OneOf from ms) = Ok (sought.AnyOf n (map (leaf_item text path) ms))

-- a question to a path so long that none of its leaf texts is kept: nothing matches
abbrev pub overlong_clause : Asking → Result Sought QueryError
overlong_clause asks.Any = Ok (sought.Not sought.All)
overlong_clause (asks.Word s) = Ok (sought.Not sought.All)
overlong_clause (asks.Prefix s) = Ok (sought.Not sought.All)
overlong_clause (asks.Quoted s) = Ok (sought.Not sought.All)
overlong_clause (asks.Within from r) = Err (refusals.BadValue from)
overlong_clause (asks.OneOf from ms) = Ok (sought.Not sought.All)

-- such a path is refused where the schema has no such field
abbrev pub unnamed_clause : List ℕ → List ℕ → Option ℕ → Asking → Result Sought QueryError
unnamed_clause text path None ask = Err (refusals.UnknownField path)
unnamed_clause text path (Some n) ask = if fits path then leaf_clause text path n ask else overlong_clause ask

module _ (schema : Schema) (defaults : List ℕ) (text : List ℕ) where
  abbrev pub named_clause : Option ℕ → Span → Asking → Result Sought QueryError
  named_clause None s ask = unnamed_clause text (text_at text s) schema.dynamic ask
  named_clause (Some n) s ask = clause_of schema.fields text ask (first_byte ask s.from) (n ∷ [])

  -- a clause without a field asks the default fields; a lone star asks nothing
  abbrev pub resolve_clause : Option Span → Asking → Result Sought QueryError
  resolve_clause (Some s) ask = named_clause (number_of schema.fields (text_at text s) 0) s ask
  resolve_clause None asks.Any = Ok sought.All
  resolve_clause None ask = clause_of schema.fields text ask (first_byte ask 0) defaults

  -- from the left, to the first refusal
  abbrev mutual
    pub resolve : Tree → Result Sought QueryError
    resolve (trees.Leaf field ask) = resolve_clause field ask
    resolve (trees.Group t) = resolve t
    resolve (trees.Not t) = resolve t >>= λ q. Ok (sought.Not q)
    resolve (trees.And ts) = resolve_each ts >>= λ qs. Ok (sought.And qs)
    resolve (trees.Or ts) = resolve_each ts >>= λ qs. Ok (sought.Or qs)

    pub resolve_each : Trees → Result Soughts QueryError
    resolve_each no_trees = Ok no_more
    resolve_each (behind ts t) = resolve_each ts >>= λ qs. resolve t >>= λ q. Ok (and_then qs q)

  -- the members of a list, behind others
  abbrev pub resolve_after : Soughts → List Tree → Result Soughts QueryError
  resolve_after done [] = Ok done
  resolve_after done (t ∷ ts) = resolve t >>= λ q. resolve_after (and_then done q) ts

  abbrev pub resolved : Result Tree Fault → Result Sought QueryError
  resolved (Ok t) = resolve t
  resolved (Err (faults.Syntax at)) = Err (refusals.Syntax at)
  resolved (Err (faults.TooDeep at)) = Err (refusals.TooDeep at)

  -- what a query text is over a schema and some default fields
  abbrev pub query_of : Result Sought QueryError
  query_of = resolved (reads text)

-- a call gave what was asked for, or wanted memory
abbrev pub Refuses : {A : Type 0} → Result A QueryError → QueryError → Type 0
Refuses r (refusals.Memory a) = Unit {0}
Refuses r e = r ≡ Err e

abbrev pub Gives : {A B : Type 0} → (B → A) → Result A QueryError → Result B QueryError → Type 0
Gives view r (Ok x) = r ≡ Ok (view x)
Gives view r (Err e) = Refuses r e
