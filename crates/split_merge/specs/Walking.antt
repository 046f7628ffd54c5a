-- Walks over the terms of several dictionaries side by side, from the least key on.
use Rattle.std.specs.Prelude.{◌≡◌, ℕ, zero, suc, ◌<◌, Bool, true, false, List, [], ◌∷◌, length, filter, Option, Some, None, ◌⊎◌, ⊤, if◌then◌else◌}
use Rattle.std.specs.Borrow.{Bor}
use Rattle.std.specs.List.{AllByRecursion, AllZip}
use Rattle.std.specs.Option.{option_copied}
use Rattle.doc_value.specs.declared.schema.Schema.{Schema}
use Rattle.term_dict.specs.Keys.{is_below}
use Rattle.term_dict.specs.Readers.{Lends}
use Rattle.term_dict.specs.declared.index.BlockStart.{BlockStart}
use Rattle.term_dict.specs.declared.term.Term.{Term}
use Rattle.term_dict.specs.declared.term.TermInfo.{TermInfo}
use Rattle.split_bundle.specs.declared.placed.Placed.{Placed}
use Rattle.split_bundle.specs.declared.split_view.SplitView.{SplitView}
use Rattle.split_bundle.specs.Files.{Parts}
use Rattle.split_bundle.specs.Lists.{terms_of}
use Rattle.split_bundle.specs.SplitViews.{IsViewOf}
use Rattle.split_merge.specs.declared.key_walks.Front.{Front}
use Rattle.split_merge.specs.declared.key_walks.KeyWalk.{KeyWalk}

-- the key that a walk stands at, if it is not at its end
abbrev pub key_in : Option (Bor (List ℕ) × TermInfo) → Option (List ℕ)
key_in None = None
key_in (Some x) = Some x.0.now

abbrev pub key_of : KeyWalk → Option (List ℕ)
key_of w = key_in w.next

-- a walk stands at a key with these numbers
abbrev pub IsAt : KeyWalk → List ℕ → TermInfo → Type 0
IsAt w key info = (own : Bor (List ℕ)) × (w.next ≡ Some (own, info)) × (own.now ≡ key)

-- a walk that is to give these terms
abbrev pub GivesTerms : KeyWalk → List Term → Type 0
GivesTerms w [] = w.next ≡ None
GivesTerms w (t ∷ ts) = (x : Bor (List ℕ) × TermInfo) × (w.next ≡ Some x) × (x.0.now ≡ t.key) × (x.1 ≡ t.info) × Lends w.terms ts

-- a key above a last one, if there is one
abbrev pub is_past : Option (List ℕ) → List ℕ → Bool
is_past None key = true
is_past (Some last) key = is_below last key

abbrev pub terms_past : Option (List ℕ) → List Term → List Term
terms_past last terms = filter (λ t. is_past last t.key) terms

-- a walk over the dictionary of a view that stands behind a last key, if there is one
pub record IsWalkOf (s : Schema) (last : Option (List ℕ)) (v : SplitView) (w : KeyWalk) : Type 0 where
  pub ahead : (key : List ℕ) → key_of w ≡ Some key → is_past last key ≡ true
  pub only : (documents : List Placed) (p : Parts) → IsViewOf v s documents p → GivesTerms w (terms_past last (terms_of s documents p.keys))

-- the index of a split's dictionary
abbrev pub IsIndexOf : Schema → SplitView → List BlockStart → Type 0
IsIndexOf s v index = (documents : List Placed) (p : Parts) → IsViewOf v s documents p → index ≡ p.index

abbrev pub AreWalks : Schema → Option (List ℕ) → List SplitView → List KeyWalk → Type 0
AreWalks s last views walks = AllZip (IsWalkOf s last) views walks

-- some walk stands at a key
abbrev pub SomeAt : List ℕ → List KeyWalk → Type 0
SomeAt key [] = ⊥
SomeAt key (w ∷ ws) = (key_of w ≡ Some key) ⊎ SomeAt key ws

-- a walk does not stand below a key
abbrev pub IsNotBelow : List ℕ → KeyWalk → Type 0
IsNotBelow key w = (other : List ℕ) → key_of w ≡ Some other → is_below other key ≡ false

abbrev pub AreEnded : List KeyWalk → Type 0
AreEnded walks = AllByRecursion (λ w. w.next ≡ None) walks

-- a walk does not stand at a key
abbrev pub IsElsewhere : List ℕ → KeyWalk → Type 0
IsElsewhere key w = key_of w ≡ Some key → ⊥

-- a walk does not stand below a key, if there is one, or else it is at its end
abbrev pub IsBeyond : Option (List ℕ) → KeyWalk → Type 0
IsBeyond None w = w.next ≡ None
IsBeyond (Some key) w = IsNotBelow key w

-- the walk at a place stands at a key
abbrev pub StandsAtPlace : ℕ → List ℕ → List KeyWalk → Type 0
StandsAtPlace i key [] = ⊥
StandsAtPlace zero key (w ∷ ws) = key_of w ≡ Some key
StandsAtPlace (suc i) key (w ∷ ws) = StandsAtPlace i key ws

-- each walk but the one at a place
abbrev pub AllBut : ℕ → (KeyWalk → Type 0) → List KeyWalk → Type 0
AllBut i P [] = ⊤
AllBut zero P (w ∷ ws) = AllByRecursion P ws
AllBut (suc i) P (w ∷ ws) = P w × AllBut i P ws

-- whether a key is below another one, if there is one
abbrev pub is_before : List ℕ → Option (List ℕ) → Bool
is_before key None = true
is_before key (Some bound) = is_below key bound

-- the walk at a place stands at the least key, and this bound, if there is one, is not above the keys of the others
pub record IsFrontAt (walk : ℕ) (key : List ℕ) (bound : Option (List ℕ)) (walks : List KeyWalk) : Type 0 where
  pub at : StandsAtPlace walk key walks
  pub others : AllBut walk (IsBeyond bound) walks
  pub least : (other : List ℕ) → bound ≡ Some other → is_below other key ≡ false

abbrev pub IsFront : Front → List KeyWalk → Type 0
IsFront f walks = IsFrontAt f.walk f.key.now (option_copied f.bound) walks

-- the same, or that all walks are at their ends
abbrev pub FrontIs : Option Front → List KeyWalk → Type 0
FrontIs None walks = AreEnded walks
FrontIs (Some f) walks = IsFront f walks

-- what is known where the walk in front, if there was one alone, went on
abbrev pub WasFront : Option Front → List KeyWalk → Type 0
WasFront None walks = ⊤
WasFront (Some f) walks = (f.walk < length walks) × AllBut f.walk (IsBeyond (option_copied f.bound)) walks

-- the lesser of two keys that there may be
abbrev pub lesser : Option (List ℕ) → Option (List ℕ) → Option (List ℕ)
lesser None b = b
lesser (Some a) None = Some a
lesser (Some a) (Some b) = if is_below b a then Some b else Some a
