-- Tables of classes by spans of numbers.
use Rattle.std.specs.Prelude.{◌≡◌, ℕ, ℤ, ◌-◌, ◌/◌, ◌^◌, ◌≤◌, List, Some, slice_get}
use Rattle.doc_value.specs.declared.schema.Kind.{Kind}
use Rattle.agg_model.specs.declared.request.Agg.{Agg}
use Rattle.doc_tallies.specs.declared.classes.Class.{Class}
use Rattle.doc_tallies.specs.declared.span.Span.{Span}
use Rattle.doc_tallies.specs.Marks.{mark_of}

-- a number stands at a place: from the least one on, as many numbers at each place as the span says
pub record StandsAt (span : Span) (place n : ℕ) : Type 0 where
  pub least : span.least ≤ n
  pub there : (n - span.least) / 2 ^ span.shift ≡ place

-- each number at a place counts for this
abbrev pub IsMarkAt : Agg → Kind → Span → ℕ → ℤ → Type 0
IsMarkAt agg kind span place mark = (n : ℕ) → StandsAt span place n → mark_of agg kind n ≡ mark

-- what a class of a table is marked with is what each number at its place counts for
abbrev pub IsTable : Agg → Kind → Span → List Class → Type 0
IsTable agg kind span cells = (place : ℕ) (c : Class) (mark : ℤ) → slice_get cells place ≡ Some c → c.mark ≡ Some mark → IsMarkAt agg kind span place mark
