-- How the parts of a bucket change.
use Rattle.std.specs.Prelude.{◌≡◌, ◌≢◌, ℕ, ◌+◌, ◌^◌, ◌<◌, Bool, true, false, List, [], ◌∷◌, ◌++◌, length, Option, Some, None}
use Rattle.std.specs.Option.{option_map_or}
use Rattle.doc_value.specs.declared.doc.DocField.{DocField}
use Rattle.agg_nested.specs.Partials.{AreStanding}
use Rattle.agg_nested.specs.declared.group.Group.{Group}
use Rattle.agg_nested.specs.declared.request.NamedFlat.{NamedFlat}

-- what is counted for a bucket stands for documents; where nothing is, for none
abbrev pub GroupStands : List NamedFlat → Option Group → List (List DocField) → Type 0
GroupStands nested None documents = documents ≡ []
GroupStands nested (Some group) documents = AreStanding nested group.parts.items documents

-- the number of the last document that was counted, 0 where none was
abbrev pub last_of : Option Group → ℕ
last_of o = option_map_or (λ group. group.last) o 0

-- there is room for the document of this number, unless it is counted already
abbrev pub CanRaise : List NamedFlat → ℕ → Option Group → Type 0
CanRaise nested number o = last_of o ≢ number → (documents : List (List DocField)) × GroupStands nested o documents × (length documents + 1 < 2 ^ 62)

-- the document of this number is counted: where it wasn't yet, one more
pub record IsRaised (nested : List NamedFlat) (doc : List DocField) (number : ℕ) (old new : Option Group) : Type 0 where
  pub last : last_of new ≡ number
  pub first : last_of old ≢ number → (documents : List (List DocField)) → GroupStands nested old documents → GroupStands nested new (documents ++ doc ∷ [])
  pub again : last_of old ≡ number → (documents : List (List DocField)) → GroupStands nested old documents → GroupStands nested new documents

-- it is counted in these buckets, and in no others
pub record IsRaisedAt {Q : Type 0} (at : Q → Bool) (nested : List NamedFlat) (doc : List DocField) (number : ℕ) (old new : Q → Option Group) : Type 0 where
  pub here : (q : Q) → at q ≡ true → IsRaised nested doc number (old q) (new q)
  pub others : (q : Q) → at q ≡ false → new q ≡ old q

-- there is room for what both count
abbrev pub CanJoin : List NamedFlat → Option Group → Option Group → Type 0
CanJoin nested a b = (mine : List (List DocField)) × (yours : List (List DocField)) × GroupStands nested a mine × GroupStands nested b yours × (length mine + length yours < 2 ^ 62)

-- what both count is counted
pub record IsJoined (nested : List NamedFlat) (old other new : Option Group) : Type 0 where
  pub last : last_of new ≡ last_of old
  pub stands : (mine yours : List (List DocField)) → GroupStands nested old mine → GroupStands nested other yours → GroupStands nested new (mine ++ yours)

-- a group is added in these buckets, and in no others
pub record IsJoinedAt {Q : Type 0} (at : Q → Bool) (nested : List NamedFlat) (other : Group) (old new : Q → Option Group) : Type 0 where
  pub here : (q : Q) → at q ≡ true → IsJoined nested (old q) (Some other) (new q)
  pub others : (q : Q) → at q ≡ false → new q ≡ old q

-- all groups are added, each in its bucket
abbrev pub AreJoined : {Q : Type 0} → List NamedFlat → (Q → Option Group) → (Q → Option Group) → (Q → Option Group) → Type 0
AreJoined {Q} nested old other new = (q : Q) → IsJoined nested (old q) (other q) (new q)
