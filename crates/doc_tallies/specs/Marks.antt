-- What tells documents apart for an aggregation, by their numbers in a column.
use Rattle.std.specs.Prelude.{◌≡◌, ℕ, ℤ, pos, negsuc, ◌-◌, nat_lt, List, length, Option, None, if◌then◌else◌}
use Rattle.std.specs.Option.{option_map, option_map_or}
use Rattle.doc_value.specs.declared.doc.DocField.{DocField}
use Rattle.doc_value.specs.declared.schema.Kind.{Kind}
use Rattle.doc_value.specs.declared.schema.Kind.TheVariants as kinds
use Rattle.agg_model.specs.Counting.{first_whole, step_of}
use Rattle.doc_value.specs.Documents.{values_in}
use Rattle.agg_model.specs.declared.request.Agg.{Agg}
use Rattle.agg_model.specs.declared.request.Agg.TheVariants.{Terms, Histogram}
use Rattle.fast_fields.specs.Readers.{first_number}
use Rattle.fast_fields.specs.declared.entries.Entry.{Entry}

-- the signed number of which this is the turned one
abbrev pub unturned : ℕ → ℤ
unturned n = if nat_lt n 9223372036854775808 then negsuc (9223372036854775807 - n) else pos (n - 9223372036854775808)

-- the whole number for which a number of a column stands; that of a text is its place among the texts
abbrev pub whole_number : Kind → ℕ → ℤ
whole_number kinds.Text n = pos n
whole_number kinds.TextList n = pos n
whole_number kinds.I64 n = unturned n
whole_number kinds.U64 n = pos n
whole_number kinds.Bool n = pos n
whole_number kinds.Datetime n = unturned n

-- what a number of a column counts for: itself, or the step in which it lies
abbrev pub mark_of : Agg → Kind → ℕ → ℤ
mark_of (Terms field size) kind n = pos n
mark_of (Histogram field interval offset least dated) kind n = step_of interval offset (whole_number kind n)

-- what a document counts for, if it has a value
abbrev pub mark_at : Agg → Kind → List Entry → ℕ → Option ℤ
mark_at agg kind entries n = option_map (mark_of agg kind) (first_number n entries)

-- a kind of which a document has at most one value
abbrev pub IsSingle : Kind → Type 0
IsSingle kinds.Text = Unit {0}
IsSingle kinds.TextList = ⊥
IsSingle kinds.I64 = Unit {0}
IsSingle kinds.U64 = Unit {0}
IsSingle kinds.Bool = Unit {0}
IsSingle kinds.Datetime = Unit {0}

-- the whole number of a first value, by its number in a column, if there is one
abbrev pub whole_there : Kind → Option ℕ → Option ℤ
whole_there kinds.Text o = None
whole_there kinds.TextList o = None
whole_there kinds.I64 o = option_map unturned o
whole_there kinds.U64 o = option_map pos o
whole_there kinds.Bool o = None
whole_there kinds.Datetime o = option_map unturned o

-- a document has one value of a field of a kind, of which the column has this number, or none
pub record HasFirst (field : ℕ) (kind : Kind) (value : Option ℕ) (doc : List DocField) : Type 0 where
  pub many : length (values_in doc field) ≡ option_map_or (λ n. 1) value 0
  pub first : first_whole field doc ≡ whole_there kind value
