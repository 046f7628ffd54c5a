-- The values of a part in a list, in no order.
use Rattle.std.specs.Prelude.{List, ◌++◌, map, ℤ, pos, String}
use Rattle.std.specs.declared.alloc.Global.{Global}
use Rattle.std.specs.Int.RustNames.{unsigned_abs}
use Rattle.std.specs.Ordering.{int_eq}
use Rattle.std.specs.HashMap.{IsUnique}
use Rattle.std.specs.String.{string_bytes, string_eq}
use Rattle.doc_value.specs.declared.doc.Value.{Value}
use Rattle.doc_value.specs.declared.doc.Value.TheVariants as values
use Rattle.agg_model.specs.Counting.{Slot, text, signed, unsigned, truth, datetime}
use Rattle.agg_model.specs.declared.counts.Counts.{Counts}
use Rattle.agg_model.specs.declared.ranking.ValueCount.{ValueCount}
use Rattle.agg_model.specs.declared.ranking.WholeKind.{WholeKind}
use Rattle.agg_model.specs.declared.ranking.WholeKind.TheVariants as kinds
use Rattle.agg_model.specs.declared.tallies.Tally.{Tally}

abbrev pub slot_at : WholeKind → ℤ → Slot
slot_at kinds.Signed z = signed z
slot_at kinds.Unsigned z = unsigned z
slot_at kinds.Truth z = truth z
slot_at kinds.Datetime z = datetime z

-- the value that is counted at a slot
abbrev pub value_at : Slot → Value
value_at (text t) = values.Text t
value_at (signed z) = values.I64 z
value_at (unsigned z) = values.U64 (unsigned_abs z)
value_at (truth z) = values.Bool (int_eq z (pos 1))
value_at (datetime z) = values.Datetime z

abbrev pub counted : Slot → Tally → ValueCount
counted slot tally = record { value = value_at slot; count = tally.count }

-- the entries of a map, each with the slot of its key
abbrev pub listed : {K : Type 0} → (K → Slot) → List (K × Tally) → List ValueCount
listed slot es = map (λ e. counted (slot e.0) e.1) es

abbrev pub text_slot : String Global → Slot
text_slot key = text (string_bytes key)

-- all values of a part
abbrev pub all_listed : Counts → List ValueCount
all_listed counts =
    listed text_slot counts.texts.entries ++ listed signed counts.signed.entries ++ listed unsigned counts.unsigned.entries
    ++ listed truth counts.truths.entries ++ listed datetime counts.datetimes.entries

-- no two keys of a map are equal
pub record AreUnique (counts : Counts) : Type 0 where
  pub texts : IsUnique string_eq counts.texts
  pub signed : IsUnique int_eq counts.signed
  pub unsigned : IsUnique int_eq counts.unsigned
  pub truths : IsUnique int_eq counts.truths
  pub datetimes : IsUnique int_eq counts.datetimes
