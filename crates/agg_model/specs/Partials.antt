-- Which documents a partial stands for, and what is known of every partial.
use Rattle.std.specs.Prelude.{◌≡◌, ℕ, ◌++◌, ◌+◌, ◌^◌, ◌<◌, ◌≤◌, Bool, true, List, [], ◌∷◌, length, Option, Some, None, if◌then◌else◌, ℤ, pos, ◌*ℤ◌}
use Rattle.std.specs.HashMap as hash
use Rattle.std.specs.BTreeMap as tree
use Rattle.std.specs.Int.RustNames.{unsigned_abs, FitsSigned}
use Rattle.std.specs.Int.{w64}
use Rattle.std.specs.List.{AllZip, list_any, slice_index_or}
use Rattle.std.specs.Option.{IfSome, option_map_or, unwrap_or}
use Rattle.std.specs.Ordering.{int_eq, int_cmp}
use Rattle.doc_value.specs.declared.doc.Value.{Value}
use Rattle.doc_value.specs.declared.doc.DocField.{DocField}
use Rattle.agg_model.specs.Counting.{Slot, text, signed, unsigned, truth, datetime, slot_of, same_slot, truth_number, step_of, value_count, step_count}
use Rattle.agg_model.specs.Tallies.{raised, merged, HaveRoom, step_sum}
use Rattle.agg_model.specs.declared.request.Agg.{Agg}
use Rattle.agg_model.specs.declared.request.Agg.TheVariants.{Terms, Histogram}
use Rattle.agg_model.specs.declared.request.NamedAgg.{NamedAgg}
use Rattle.agg_model.specs.declared.tallies.Tally.{Tally}
use Rattle.agg_model.specs.declared.counts.Counts.{Counts}
use Rattle.agg_model.specs.declared.partial.Partial.{Partial}

-- some value is counted at the slot
abbrev pub IsSlotOfValue : Slot → Type 0
IsSlotOfValue (text t) = Unit {0}
IsSlotOfValue (signed z) = FitsSigned w64 z
IsSlotOfValue (unsigned z) = (n : ℕ) × (z ≡ pos n) × (n < 2 ^ 64)
IsSlotOfValue (truth z) = (b : Bool) × (z ≡ truth_number b)
IsSlotOfValue (datetime z) = FitsSigned w64 z

-- the tally at a slot
abbrev pub tally_at : Counts → Slot → Option Tally
tally_at counts (text t) = hash.get_by_text counts.texts t
tally_at counts (signed z) = hash.get int_eq counts.signed z
tally_at counts (unsigned z) = hash.get int_eq counts.unsigned z
tally_at counts (truth z) = hash.get int_eq counts.truths z
tally_at counts (datetime z) = hash.get int_eq counts.datetimes z

-- how many documents it counts for a value, and for a step
abbrev pub tallied : Option Tally → ℕ
tallied o = option_map_or (λ t. t.count) o 0

abbrev pub in_step : Counts → ℤ → Option ℕ
in_step counts step = tree.get int_cmp counts.steps step

-- a part stands for documents where each of its counts is that of the documents
abbrev pub CountsFor : Agg → Counts → List (List DocField) → Type 0
CountsFor (Terms field size) counts documents =
    (value : Value) → tallied (tally_at counts (slot_of value)) ≡ value_count field documents value
CountsFor (Histogram field interval offset least dated) counts documents =
    (step : ℤ) → unwrap_or (in_step counts step) 0 ≡ step_count field interval offset documents step

-- a partial stands for documents where it counts so many, and each part stands for them
pub record StandsFor (request : List NamedAgg) (partial : Partial) (documents : List (List DocField)) : Type 0 where
  pub many : partial.documents ≡ length documents
  pub parts : AllZip (λ named counts. CountsFor named.agg counts documents) request partial.parts.items

-- a tally of some of the first so many documents
pub record IsTally (number : ℕ) (slot : Slot) (tally : Tally) : Type 0 where
  pub fits : IsSlotOfValue slot
  pub some : 0 < tally.count
  pub most : tally.count ≤ number
  pub last : tally.last ≤ number

-- a step in which some whole number of 64 bits lies; its number and its place on the scale are small
pub record IsNear (interval offset step : ℤ) : Type 0 where
  pub near : unsigned_abs (step *ℤ interval) < 2 ^ 98
  pub close : unsigned_abs step < 2 ^ 98
  pub whole : (z : ℤ) × (unsigned_abs z ≤ 2 ^ 64) × (step ≡ step_of interval offset z)

-- a step with some of so many documents
pub record IsStep (number : ℕ) (interval offset step : ℤ) (count : ℕ) : Type 0 where
  pub some : 0 < count
  pub most : count ≤ number
  pub place : IsNear interval offset step

abbrev pub interval_of : Agg → ℤ
interval_of (Terms field size) = pos 1
interval_of (Histogram field interval offset least dated) = interval

abbrev pub offset_of : Agg → ℤ
offset_of (Terms field size) = pos 0
offset_of (Histogram field interval offset least dated) = offset

-- a part of so many documents
pub record IsPart (number : ℕ) (agg : Agg) (counts : Counts) : Type 0 where
  pub tallies : (slot : Slot) → IfSome (tally_at counts slot) (IsTally number slot)
  pub steps : (step : ℤ) → IfSome (in_step counts step) (IsStep number (interval_of agg) (offset_of agg) step)

-- a partial of the request
pub record IsPartialOf (request : List NamedAgg) (partial : Partial) : Type 0 where
  pub few : partial.documents < 2 ^ 62
  pub parts : AllZip (λ named counts. IsPart partial.documents named.agg counts) request partial.parts.items

-- a document of this number has counted for the value, and for no other
pub record IsRaised (number : ℕ) (value : Value) (old new : Counts) : Type 0 where
  pub tallies : (slot : Slot) → tally_at new slot
      ≡ (if same_slot (slot_of value) slot then Some (raised number (tally_at old (slot_of value))) else tally_at old slot)
  pub steps : new.steps ≡ old.steps
  pub slot : IsSlotOfValue (slot_of value)

-- a document of this number has counted for each of the values once
pub record AreRaised (number : ℕ) (values : List Value) (old new : Counts) : Type 0 where
  pub tallies : (slot : Slot) → tally_at new slot
      ≡ (if list_any (λ v. same_slot (slot_of v) slot) values then Some (raised number (tally_at old slot)) else tally_at old slot)
  pub steps : new.steps ≡ old.steps
  pub slots : (slot : Slot) → list_any (λ v. same_slot (slot_of v) slot) values ≡ true → IsSlotOfValue slot

-- each count leaves room for as much again
pub record HasRoom (counts : Counts) : Type 0 where
  pub tallies : HaveRoom (tally_at counts)
  pub steps : (step : ℤ) → IfSome (in_step counts step) (λ count. count < 2 ^ 62)

-- a part in which nothing is counted
pub record IsVacant (counts : Counts) : Type 0 where
  pub tallies : (slot : Slot) → tally_at counts slot ≡ None
  pub steps : (step : ℤ) → in_step counts step ≡ None

-- one more document lies in a step
pub record IsStepRaised (step : ℤ) (old new : Counts) : Type 0 where
  pub steps : (other : ℤ) → in_step new other
      ≡ (if int_eq step other then Some (unwrap_or (in_step old step) 0 + 1) else in_step old other)
  pub tallies : (slot : Slot) → tally_at new slot ≡ tally_at old slot

-- how many documents a partial counts
abbrev pub documents_in : Partial → ℕ
documents_in partial = partial.documents

-- one more document, behind so many, was counted for an aggregation
pub record IsCollected (documents : ℕ) (doc : List DocField) (agg : Agg) (old new : Counts) : Type 0 where
  pub part : IsPart (documents + 1) agg new
  pub counts : (ds : List (List DocField)) → CountsFor agg old ds → CountsFor agg new (ds ++ doc ∷ [])

-- the same for each aggregation of a request
pub record AreCollected (documents : ℕ) (doc : List DocField) (request : List NamedAgg) (old new : List Counts) : Type 0 where
  pub parts : AllZip (λ named counts. IsPart (documents + 1) named.agg counts) request new
  pub counts : (ds : List (List DocField)) → AllZip (λ named part. CountsFor named.agg part ds) request old
      → AllZip (λ named part. CountsFor named.agg part (ds ++ doc ∷ [])) request new

-- what two parts count together
pub record IsMerged (mine yours new : Counts) : Type 0 where
  pub tallies : (slot : Slot) → tally_at new slot ≡ merged (tally_at mine slot) (tally_at yours slot)
  pub steps : (step : ℤ) → in_step new step ≡ step_sum (in_step mine step) (in_step yours step)

-- the same for each part of two partials of one request
pub record AreMerged (mine yours new : List Counts) : Type 0 where
  pub long : length new ≡ length mine
  pub each : (k : ℕ) (d : Counts) → k < length mine → IsMerged (slice_index_or mine k d) (slice_index_or yours k d) (slice_index_or new k d)
