-- A walk over a column by documents that follow one another.
use Rattle.std.specs.Prelude.{ℕ, ◌<◌, ◌≤◌, ◌-◌}
use Rattle.fast_fields.specs.Lookups.{document_of}
use Rattle.fast_fields.specs.declared.column.Column.{Column}

-- at the place before this one stands a document below it
pub record IsBehind (c : Column) (next : ℕ) : Type 0 where
  pub within : next ≤ c.count
  pub before : 0 < next → document_of c (next - 1) < next
