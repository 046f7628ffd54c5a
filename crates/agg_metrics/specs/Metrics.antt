-- The sum and the extremes of a list of whole numbers, and which part stands for them.
use Rattle.std.specs.Prelude.{◌≡◌, ℕ, ◌+◌, ◌-◌, ◌^◌, ◌<◌, List, [], ◌∷◌, Option, Some, None, ℤ, pos, negsuc, ◌+ℤ◌}
use Rattle.std.specs.Int.{int_min, int_max}
use Rattle.std.specs.Int.RustNames.{unsigned_abs}
use Rattle.std.specs.List.{All}
use Rattle.std.specs.Option.{option_map_or}
use Rattle.agg_metrics.specs.declared.metric_part.MetricPart.{MetricPart}

-- below 2^64 in size, as the value of a u64 and of an i64 is
abbrev pub IsWhole : ℤ → Type 0
IsWhole value = unsigned_abs value < 2 ^ 64

abbrev pub total : List ℤ → ℤ
total [] = pos 0
total (value ∷ values) = value +ℤ total values

-- the least of all, if there are any
abbrev pub least_of : List ℤ → Option ℤ
least_of [] = None
least_of (value ∷ values) = Some (option_map_or (int_min value) (least_of values) value)

-- the greatest of all, if there are any
abbrev pub greatest_of : List ℤ → Option ℤ
greatest_of [] = None
greatest_of (value ∷ values) = Some (option_map_or (int_max value) (greatest_of values) value)

-- the least, or the greatest number of 128 bits where there is none
abbrev pub lowest : List ℤ → ℤ
lowest values = option_map_or (λ value. value) (least_of values) (pos (2 ^ 127 - 1))

-- the greatest, or the least number of 128 bits where there is none
abbrev pub highest : List ℤ → ℤ
highest values = option_map_or (λ value. value) (greatest_of values) (negsuc (2 ^ 127 - 1))

-- a part stands for so many values that were counted, and for these that were added
pub record IsMetricOf (counted : ℕ) (values : List ℤ) (part : MetricPart) : Type 0 where
  pub wholes : All IsWhole values
  pub count : part.count ≡ counted
  pub sum : part.sum ≡ total values
  pub least : part.least ≡ lowest values
  pub greatest : part.greatest ≡ highest values

-- there is room for another number, and for another part that has room
pub record HasRoom (part : MetricPart) : Type 0 where
  pub count : part.count < 2 ^ 126
  pub sum : unsigned_abs part.sum < 2 ^ 126

-- there is room for so many more to be counted
abbrev pub RoomFor : ℕ → MetricPart → Type 0
RoomFor values part = part.count + values < 2 ^ 126
