-- Values within their types.
use Rattle.std.specs.Prelude.{◌^◌, ◌<◌, List, [], ◌∷◌}
use Rattle.std.specs.Int.{w64}
use Rattle.std.specs.Int.RustNames.{FitsSigned}
use Rattle.doc_value.specs.declared.doc.Value.{Value}
use Rattle.doc_value.specs.declared.doc.Value.TheVariants as values
use Rattle.query_ast.specs.declared.query.Edge.{Edge}
use Rattle.query_ast.specs.declared.query.Edge.TheVariants as edges

-- a number or a datetime has 64 bits
abbrev pub Has64 : Value → Type 0
Has64 (values.Text t) = Unit {0}
Has64 (values.I64 z) = FitsSigned w64 z
Has64 (values.U64 n) = n < 2 ^ 64
Has64 (values.Bool b) = Unit {0}
Has64 (values.Datetime z) = FitsSigned w64 z

abbrev pub AllHave64 : List Value → Type 0
AllHave64 [] = Unit {0}
AllHave64 (v ∷ vs) = Has64 v × AllHave64 vs

-- the same of an edge of a range
abbrev pub EdgeHas64 : Edge → Type 0
EdgeHas64 edges.Unbounded = Unit {0}
EdgeHas64 (edges.Included v) = Has64 v
EdgeHas64 (edges.Excluded v) = Has64 v
