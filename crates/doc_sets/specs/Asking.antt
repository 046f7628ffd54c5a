-- Which parts of a split are asked for by what is looked up in it.
use Rattle.std.specs.Prelude.{ℕ, ◌⊎◌, List, [], ◌∷◌}
use Rattle.doc_value.specs.declared.schema.Schema.{Schema}
use Rattle.split_bundle.specs.declared.placed.Placed.{Placed}
use Rattle.split_bundle.specs.declared.part_view.PartView.{PartView}
use Rattle.split_bundle.specs.Files.{Parts}
use Rattle.doc_sets.specs.declared.leaf_error.LeafError.{LeafError}
use Rattle.doc_sets.specs.declared.dictionary_lookup.Lookup.{Lookup}
use Rattle.doc_sets.specs.declared.dictionary_lookup.Lookup.TheVariants.{Count, Documents, Places, Values, Walk}
use Rattle.doc_sets.specs.Faults.{LacksPart}
use Rattle.doc_sets.specs.Needed.{IsBlockFor, IsColumnFor, IsListFor, ArePlacesFor}
use Rattle.doc_sets.specs.Walks.{AsksWalkBlock, AsksWalkList}

-- the blocks of the dictionary
abbrev pub AsksBlockOf : PartView → Schema → List Placed → Parts → Lookup → ℕ → ℕ → Type 0
AsksBlockOf v s documents p (Count key) at len = IsBlockFor v s documents p key at len
AsksBlockOf v s documents p (Documents key) at len = IsBlockFor v s documents p key at len
AsksBlockOf v s documents p (Places key) at len = IsBlockFor v s documents p key at len
AsksBlockOf v s documents p (Walk prefix wanted) at len = AsksWalkBlock v s documents p prefix at len
AsksBlockOf v s documents p (Values number range) at len = ⊥

-- the lists, the positions and the columns
abbrev pub AsksListOf : PartView → Schema → List Placed → Parts → Lookup → ℕ → ℕ → Type 0
AsksListOf v s documents p (Count key) at len = ⊥
AsksListOf v s documents p (Documents key) at len = IsListFor v s documents p key at len
AsksListOf v s documents p (Places key) at len = IsListFor v s documents p key at len ⊎ ArePlacesFor v s documents p key at len
AsksListOf v s documents p (Walk prefix wanted) at len = AsksWalkList v s documents p prefix wanted at len
AsksListOf v s documents p (Values number range) at len = IsColumnFor v s p number at len

-- the same of some look-ups
abbrev pub AsksBlocks : PartView → Schema → List Placed → Parts → List Lookup → ℕ → ℕ → Type 0
AsksBlocks v s documents p [] at len = ⊥
AsksBlocks v s documents p (l ∷ ls) at len = AsksBlockOf v s documents p l at len ⊎ AsksBlocks v s documents p ls at len

abbrev pub AsksLists : PartView → Schema → List Placed → Parts → List Lookup → ℕ → ℕ → Type 0
AsksLists v s documents p [] at len = ⊥
AsksLists v s documents p (l ∷ ls) at len = AsksListOf v s documents p l at len ⊎ AsksLists v s documents p ls at len

abbrev pub AsksLookups : PartView → Schema → List Placed → Parts → List Lookup → ℕ → ℕ → Type 0
AsksLookups v s documents p ls at len = AsksBlocks v s documents p ls at len ⊎ AsksLists v s documents p ls at len

-- want of memory, or that no piece has a part that is asked for
abbrev pub LacksLookups : PartView → Schema → List Placed → Parts → List Lookup → LeafError → Type 0
LacksLookups v s documents p ls e = LacksPart (AsksLookups v s documents p ls) v.pieces e
