-- Why there is no answer over a view of a split.
use Rattle.std.specs.Prelude.{◌≡◌, ℕ, List, None}
use Rattle.split_bundle.specs.declared.pieces.FilePiece.{FilePiece}
use Rattle.split_bundle.specs.declared.split_error.SplitError.{SplitError}
use Rattle.split_bundle.specs.declared.split_error.SplitError.TheVariants as splits
use Rattle.split_bundle.specs.Pieces.{held_in}
use Rattle.doc_sets.specs.declared.leaf_error.LeafError.{LeafError}
use Rattle.doc_sets.specs.declared.leaf_error.LeafError.TheVariants.{Memory, Corrupt, Missing}

-- the fault of a reader of a view, of which the head and the foot are the footer's
abbrev pub fault_of : SplitError → LeafError
fault_of (splits.Memory a) = Memory a
fault_of splits.BadMagic = Corrupt 6
fault_of (splits.Truncated at) = Missing at
fault_of (splits.BadSection number) = Corrupt number
fault_of (splits.BadVersion number) = Corrupt 6

-- want of memory, or a part that is asked for and that no piece has
abbrev pub LacksPart : (ℕ → ℕ → Type 0) → List FilePiece → LeafError → Type 0
LacksPart asked pieces (Memory a) = Unit {0}
LacksPart asked pieces (Missing at) = (len : ℕ) × asked at len × (held_in pieces at len ≡ None)
LacksPart asked pieces (Corrupt section) = ⊥

abbrev pub IsMemory : LeafError → Type 0
IsMemory (Memory a) = Unit {0}
IsMemory (Missing at) = ⊥
IsMemory (Corrupt section) = ⊥
