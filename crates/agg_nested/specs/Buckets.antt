-- The groups of the buckets of an aggregation, and which documents they stand for.
use Rattle.std.specs.Prelude.{◌≡◌, ◌≢◌, ℕ, ◌<◌, ◌≤◌, ◌^◌, List, [], length, Option, None, nat_eq}
use Rattle.std.specs.HashMap.{get, get_by_text}
use Rattle.std.specs.List.{AllZip}
use Rattle.std.specs.Option.{option_map_or}
use Rattle.std.specs.Ordering.{int_eq}
use Rattle.doc_value.specs.declared.doc.DocField.{DocField}
use Rattle.agg_model.specs.Counting.{text, signed, unsigned, truth, datetime}
use Rattle.agg_nested.specs.Groups.{GroupStands, last_of}
use Rattle.agg_nested.specs.Partials.{FlatStands}
use Rattle.agg_nested.specs.Spots.{Spot, value, step, range, documents_at}
use Rattle.agg_nested.specs.declared.flat_part.FlatPart.{FlatPart}
use Rattle.agg_nested.specs.declared.group.Group.{Group}
use Rattle.agg_nested.specs.declared.groups.Groups.{Groups}
use Rattle.agg_nested.specs.declared.nested_partial.NestedPart.{NestedPart}
use Rattle.agg_nested.specs.declared.nested_partial.NestedPartial.{NestedPartial}
use Rattle.agg_nested.specs.declared.request.FlatAgg.{FlatAgg}
use Rattle.agg_nested.specs.declared.request.NamedFlat.{NamedFlat}
use Rattle.agg_nested.specs.declared.request.NestedAgg.{NestedAgg}

-- the group of a bucket, if there is one
abbrev pub group_at : Groups → Spot → Option Group
group_at groups (value (text t)) = get_by_text groups.texts t
group_at groups (value (signed z)) = get int_eq groups.signed z
group_at groups (value (unsigned z)) = get int_eq groups.unsigned z
group_at groups (value (truth z)) = get int_eq groups.truths z
group_at groups (value (datetime z)) = get int_eq groups.datetimes z
group_at groups (step z) = get int_eq groups.steps z
group_at groups (range n) = get nat_eq groups.ranges n

-- the parts of a bucket: those of its group, or the vacant ones where there is none
abbrev pub parts_of : List FlatPart → Option Group → List FlatPart
parts_of vacant o = option_map_or (λ group. group.parts.items) o vacant

abbrev pub AreVacant : Groups → Type 0
AreVacant groups = (spot : Spot) → group_at groups spot ≡ None

-- what is counted for each bucket stands for the documents of this bucket
pub record GroupsStand (agg : FlatAgg) (nested : List NamedFlat) (groups : Groups) (documents : List (List DocField)) : Type 0 where
  pub each : (spot : Spot) → GroupStands nested (group_at groups spot) (documents_at agg documents spot)
  pub last : (spot : Spot) → last_of (group_at groups spot) ≤ length documents

-- the part of an aggregation stands for documents, and where anything is nested, what it has of each bucket for the documents of this bucket
pub record PartStands (asked : NestedAgg) (part : NestedPart) (documents : List (List DocField)) : Type 0 where
  pub flat : FlatStands asked.agg part.flat documents
  pub groups : asked.nested ≢ [] → GroupsStand asked.agg asked.nested part.groups documents

-- the partial of a request stands for documents
pub record NestedStands (request : List NestedAgg) (partial : NestedPartial) (documents : List (List DocField)) : Type 0 where
  pub many : partial.documents ≡ length documents
  pub parts : AllZip (λ asked part. PartStands asked part documents) request partial.parts.items

-- how many documents a partial counts
abbrev pub documents_counted : NestedPartial → ℕ
documents_counted partial = partial.documents

-- the part of an aggregation stands for some documents, so many
pub record IsPartFor (asked : NestedAgg) (number : ℕ) (part : NestedPart) : Type 0 where
  pub documents : List (List DocField)
  pub stands : PartStands asked part documents
  pub many : length documents ≡ number

abbrev pub ArePartsFor : List NestedAgg → ℕ → List NestedPart → Type 0
ArePartsFor request number parts = AllZip (λ asked part. IsPartFor asked number part) request parts

-- a partial of the request: each part stands for as many documents as are counted, whichever they are
pub record IsNestedPartial (request : List NestedAgg) (partial : NestedPartial) : Type 0 where
  pub few : partial.documents < 2 ^ 62
  pub parts : ArePartsFor request partial.documents partial.parts.items
