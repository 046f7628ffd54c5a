-- Which parts of a split are asked for.
use Rattle.std.specs.Prelude.{◌≡◌, ℕ, ◌+◌, ◌^◌, ◌<◌, ◌⊎◌, true, List, [], ◌∷◌, length, Some, slice_get}
use Rattle.std.specs.List.{AllByRecursion}
use Rattle.doc_value.specs.declared.schema.Schema.{Schema}
use Rattle.doc_value.specs.declared.schema.Field.{Field}
use Rattle.doc_value.specs.Documents.{values_in}
use Rattle.term_dict.specs.Terms.{area, lookup}
use Rattle.term_dict.specs.Bounds.{IsBlockOf, block_terms}
use Rattle.term_dict.specs.declared.term.TermInfo.{TermInfo}
use Rattle.split_bundle.specs.declared.placed.Placed.{Placed}
use Rattle.split_bundle.specs.declared.part_view.PartView.{PartView}
use Rattle.split_bundle.specs.declared.layout.Sections.{Sections}
use Rattle.split_bundle.specs.Files.{Parts}
use Rattle.split_bundle.specs.Lists.{keeps_places, terms_of}
use Rattle.split_bundle.specs.Lending.{IsPartOf, block_place, length_of_column, start_of_column}
use Rattle.doc_sets.specs.Asked.{AllNear}
use Rattle.doc_sets.specs.Values.{AllHave64}
use Rattle.doc_sets.specs.Faults.{LacksPart}
use Rattle.doc_sets.specs.declared.leaf_error.LeafError.{LeafError}
use Rattle.split_bundle.specs.Keys.{field_key}
use Rattle.text_tokens.specs.declared.tokens.Token.{Token}

-- a view of a split of these documents, of which no token stands far behind its value's first, and each value is within
-- its type; its dictionary has fewer blocks than 2 ^ 32
pub record IsSearched (v : PartView) (s : Schema) (documents : List Placed) (p : Parts) : Type 0 where
  pub part : IsPartOf v s documents p
  pub near : (n : ℕ) (f : Field) → slice_get s.fields n ≡ Some f → AllByRecursion (λ d. AllNear f (values_in d.doc n)) documents
  pub typed : (n : ℕ) → AllByRecursion (λ d. AllHave64 (values_in d.doc n)) documents
  pub few_blocks : length v.footer.index < 2 ^ 32

-- where the sections of postings, of positions and of columns start in the file
abbrev pub postings_start : Sections → ℕ
postings_start s = 4 + s.documents + s.dictionary

abbrev pub positions_start : Sections → ℕ
positions_start s = 4 + s.documents + s.dictionary + s.postings

abbrev pub columns_start : Sections → ℕ
columns_start s = 4 + s.documents + s.dictionary + s.postings + s.positions

-- the block in which a key stands, if it is in the dictionary
pub record IsBlockFor (v : PartView) (s : Schema) (documents : List Placed) (p : Parts) (key : List ℕ) (at len : ℕ) : Type 0 where
  pub number : ℕ
  pub is_block : IsBlockOf v.footer.index key (Some number)
  pub at_is : at ≡ block_place p (terms_of s documents p.keys) number
  pub len_is : len ≡ length (area (block_terms (terms_of s documents p.keys) number))

-- the list of a key's term
pub record IsListFor (v : PartView) (s : Schema) (documents : List Placed) (p : Parts) (key : List ℕ) (at len : ℕ) : Type 0 where
  pub info : TermInfo
  pub is_term : lookup key (terms_of s documents p.keys) ≡ Some info
  pub at_is : at ≡ postings_start v.footer.layout.sections + info.postings
  pub len_is : len ≡ info.postings_len

-- the positions of a key's term, where they are kept
pub record ArePlacesFor (v : PartView) (s : Schema) (documents : List Placed) (p : Parts) (key : List ℕ) (at len : ℕ) : Type 0 where
  pub kept : keeps_places s key ≡ true
  pub info : TermInfo
  pub is_term : lookup key (terms_of s documents p.keys) ≡ Some info
  pub at_is : at ≡ positions_start v.footer.layout.sections + info.positions
  pub len_is : len ≡ info.positions_len

-- the column of a fast field
pub record IsColumnFor (v : PartView) (s : Schema) (p : Parts) (number at len : ℕ) : Type 0 where
  pub field : Field
  pub here : slice_get s.fields number ≡ Some field
  pub fast : field.fast ≡ true
  pub at_is : at ≡ columns_start v.footer.layout.sections + start_of_column number p.column_starts
  pub len_is : len ≡ length_of_column number (length p.columns) p.column_starts

-- what is asked for of a key: the block in which it would stand, and the list of its term
abbrev pub AsksKey : PartView → Schema → List Placed → Parts → List ℕ → ℕ → ℕ → Type 0
AsksKey v s documents p key at len = IsBlockFor v s documents p key at len ⊎ IsListFor v s documents p key at len

-- what is asked for of a key whose places are looked up: the same, and the positions of its term
abbrev pub AsksPlaces : PartView → Schema → List Placed → Parts → List ℕ → ℕ → ℕ → Type 0
AsksPlaces v s documents p key at len =
    IsBlockFor v s documents p key at len ⊎ (IsListFor v s documents p key at len ⊎ ArePlacesFor v s documents p key at len)

-- what is asked for of one of some keys
abbrev pub AsksOneOf : (List ℕ → ℕ → ℕ → Type 0) → List (List ℕ) → ℕ → ℕ → Type 0
AsksOneOf asked [] at len = ⊥
AsksOneOf asked (key ∷ keys) at len = asked key at len ⊎ AsksOneOf asked keys at len

-- want of memory, or that no piece has a part that is asked for of these keys
abbrev pub LacksKeys : PartView → Schema → List Placed → Parts → List (List ℕ) → LeafError → Type 0
LacksKeys v s documents p keys e = LacksPart (AsksOneOf (AsksKey v s documents p) keys) v.pieces e

-- the same where their places are looked up
abbrev pub LacksPlaces : PartView → Schema → List Placed → Parts → List (List ℕ) → LeafError → Type 0
LacksPlaces v s documents p keys e = LacksPart (AsksOneOf (AsksPlaces v s documents p) keys) v.pieces e

-- the keys of some tokens of a field
abbrev pub token_keys : ℕ → List Token → List (List ℕ)
token_keys number [] = []
token_keys number (t ∷ ts) = field_key number t.text ∷ token_keys number ts
