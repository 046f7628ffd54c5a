-- Which keys of a dictionary a walk takes.
use Rattle.std.specs.Prelude.{◌≡◌, ℕ, ◌+◌, ◌^◌, ◌<◌, ◌≤◌, ◌==◌, Bool, true, false, ◌&&◌, ◌||◌, List, [], ◌∷◌, length, drop, Option, Some, None, nat_eq, nat_lt, nat_le, filter, ◌⊎◌}
use Rattle.std.specs.Int.{from_be_bytes, w64}
use Rattle.std.specs.List.{starts_with}
use Rattle.std.specs.Option.{option_map_or}
use Rattle.doc_value.specs.declared.schema.Kind.{Kind}
use Rattle.doc_value.specs.declared.schema.Kind.TheVariants as kinds
use Rattle.doc_value.specs.declared.schema.Schema.{Schema}
use Rattle.doc_value.specs.declared.doc.Value.{Value}
use Rattle.doc_value.specs.declared.doc.Value.TheVariants as values
use Rattle.doc_value.specs.Terms.{turned}
use Rattle.query_ast.specs.declared.query.Edge.{Edge}
use Rattle.query_ast.specs.declared.query.Edge.TheVariants as edges
use Rattle.term_dict.specs.Bounds.{AreBlocks, block_terms}
use Rattle.term_dict.specs.Keys.{is_below}
use Rattle.term_dict.specs.Terms.{area, lookup}
use Rattle.term_dict.specs.declared.term.Term.{Term}
use Rattle.split_bundle.specs.declared.placed.Placed.{Placed}
use Rattle.split_bundle.specs.declared.part_view.PartView.{PartView}
use Rattle.split_bundle.specs.Files.{Parts}
use Rattle.split_bundle.specs.Keys.{Occurrence}
use Rattle.split_bundle.specs.Lists.{has_key, keeps_places, terms_of}
use Rattle.split_bundle.specs.Lending.{block_place}
use Rattle.doc_sets.specs.declared.wanted.NumberRange.{NumberRange}
use Rattle.doc_sets.specs.declared.wanted.Wanted.{Wanted}
use Rattle.doc_sets.specs.declared.wanted.Wanted.TheVariants.{Each, Within}
use Rattle.doc_sets.specs.Needed.{IsListFor}

-- the number for which a value of an ordered kind stands: numbers stand as their values do
abbrev pub place_of : Kind → Value → Option ℕ
place_of kinds.I64 (values.I64 z) = Some (turned z)
place_of kinds.U64 (values.U64 n) = Some n
place_of kinds.Datetime (values.Datetime z) = Some (turned z)
place_of _ _ = None

-- the first number above a low edge, and the first one that is not below a high edge; an edge of another kind has none
abbrev pub from_of : Kind → Edge → ℕ
from_of kind edges.Unbounded = 0
from_of kind (edges.Included v) = option_map_or (λ n. n) (place_of kind v) (2 ^ 64)
from_of kind (edges.Excluded v) = option_map_or (λ n. n + 1) (place_of kind v) (2 ^ 64)

abbrev pub until_of : Kind → Edge → ℕ
until_of kind edges.Unbounded = 2 ^ 64
until_of kind (edges.Included v) = option_map_or (λ n. n + 1) (place_of kind v) 0
until_of kind (edges.Excluded v) = option_map_or (λ n. n) (place_of kind v) 0

-- the numbers between two edges
abbrev pub range_of : Kind → Edge → Edge → NumberRange
range_of kind low high = record { from = from_of kind low; until = until_of kind high }

-- eight bytes of a number in a range
abbrev pub is_within : NumberRange → List ℕ → Bool
is_within r term = (length term == 8) && (nat_le r.from (from_be_bytes w64 term) && nat_lt (from_be_bytes w64 term) r.until)

-- whether a key is wanted, by what stands behind its field's number
abbrev pub takes : Wanted → List ℕ → Bool
takes Each key = true
takes (Within r) key = is_within r (drop 2 key)

-- a key begins so and is wanted
abbrev pub is_walked : List ℕ → Wanted → List ℕ → Bool
is_walked prefix wanted key = starts_with nat_eq key prefix && takes wanted key

-- some wanted one of these terms has a key that is had
abbrev pub has_some_of : Wanted → List Term → List Occurrence → Bool
has_some_of wanted [] os = false
has_some_of wanted (t ∷ ts) os = (takes wanted t.key && has_key t.key os) || has_some_of wanted ts os

-- the terms of a block whose keys begin so
abbrev pub begun_in : List ℕ → List Term → ℕ → List Term
begun_in prefix terms number = filter (λ t. starts_with nat_eq t.key prefix) (block_terms terms number)

-- the dictionary has a term at its own key, and the lists of the key have positions or not
abbrev pub IsListed : Schema → List Placed → Parts → Bool → Term → Type 0
IsListed s documents p positions t = (lookup t.key (terms_of s documents p.keys) ≡ Some t.info) × (positions ≡ keeps_places s t.key)

-- the list of a key if it is wanted
abbrev pub AsksIf : PartView → Schema → List Placed → Parts → Wanted → List ℕ → ℕ → ℕ → Type 0
AsksIf v s documents p wanted key at len = (takes wanted key ≡ true) × IsListFor v s documents p key at len

abbrev pub AsksTerms : PartView → Schema → List Placed → Parts → Wanted → List Term → ℕ → ℕ → Type 0
AsksTerms v s documents p wanted [] at len = ⊥
AsksTerms v s documents p wanted (t ∷ ts) at len = AsksIf v s documents p wanted t.key at len ⊎ AsksTerms v s documents p wanted ts at len

-- a block of the dictionary
pub record IsBlock (s : Schema) (documents : List Placed) (p : Parts) (number at len : ℕ) : Type 0 where
  pub at_is : at ≡ block_place p (terms_of s documents p.keys) number
  pub len_is : len ≡ length (area (block_terms (terms_of s documents p.keys) number))

-- what is asked for of a block: the block, and the lists of its wanted terms that begin so
abbrev pub AsksBlock : PartView → Schema → List Placed → Parts → List ℕ → Wanted → ℕ → ℕ → ℕ → Type 0
AsksBlock v s documents p prefix wanted number at len =
    IsBlock s documents p number at len ⊎ AsksTerms v s documents p wanted (begun_in prefix (terms_of s documents p.keys) number) at len

-- a block that can have keys which begin so
pub record IsWalked (v : PartView) (prefix : List ℕ) (number : ℕ) : Type 0 where
  pub start : ℕ
  pub end : ℕ
  pub blocks : AreBlocks v.footer.index prefix (λ first. is_below first prefix || starts_with nat_eq first prefix) start end
  pub from : start ≤ number
  pub until : number < end

-- the blocks that can have keys which begin so
abbrev pub AsksWalkBlock : PartView → Schema → List Placed → Parts → List ℕ → ℕ → ℕ → Type 0
AsksWalkBlock v s documents p prefix at len = (number : ℕ) × IsWalked v prefix number × IsBlock s documents p number at len

-- the lists of the wanted keys that begin so
abbrev pub AsksWalkList : PartView → Schema → List Placed → Parts → List ℕ → Wanted → ℕ → ℕ → Type 0
AsksWalkList v s documents p prefix wanted at len =
    (number : ℕ) × IsWalked v prefix number × AsksTerms v s documents p wanted (begun_in prefix (terms_of s documents p.keys) number) at len

-- what is asked for of a walk
abbrev pub AsksWalk : PartView → Schema → List Placed → Parts → List ℕ → Wanted → ℕ → ℕ → Type 0
AsksWalk v s documents p prefix wanted at len = AsksWalkBlock v s documents p prefix at len ⊎ AsksWalkList v s documents p prefix wanted at len
