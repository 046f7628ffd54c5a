-- The bytes under which a dictionary lists a value, and the order of values.
use Rattle.std.specs.Prelude.{ℕ, ◌+◌, ◌-◌, ◌^◌, ℤ, pos, negsuc, Bool, true, false, List, [], ◌∷◌}
use Rattle.std.specs.Int.{to_be_bytes, w64}
use Rattle.std.specs.Ordering.{nat_cmp, int_cmp, bool_cmp}
use Rattle.std.specs.Cmp.Lexicographic.{slice_cmp}
use Rattle.std.specs.declared.cmp.Ordering.{Ordering}
use Rattle.doc_value.specs.declared.doc.Value.{Value}
use Rattle.doc_value.specs.declared.doc.Value.TheVariants as values

-- a signed number with the top one of its 64 bits turned, so that greater ones have greater bytes
abbrev pub turned : ℤ → ℕ
turned (pos n) = n + 2 ^ 63
turned (negsuc n) = 2 ^ 63 - 1 - n

abbrev pub truth_byte : Bool → ℕ
truth_byte false = 0
truth_byte true = 1

-- a text's are its bytes, a number's eight bytes with the high one first, a truth value's a 0 or a 1
abbrev pub term_bytes : Value → List ℕ
term_bytes (values.Text t) = t
term_bytes (values.I64 z) = to_be_bytes w64 (turned z)
term_bytes (values.U64 n) = to_be_bytes w64 n
term_bytes (values.Bool b) = truth_byte b ∷ []
term_bytes (values.Datetime z) = to_be_bytes w64 (turned z)

-- where a value's kind stands among the kinds of values
abbrev pub kind_place : Value → ℕ
kind_place (values.Text t) = 0
kind_place (values.I64 z) = 1
kind_place (values.U64 n) = 2
kind_place (values.Bool b) = 3
kind_place (values.Datetime z) = 4

-- texts by their bytes, numbers and datetimes by value, false before true; values of unlike kinds by their kinds
abbrev pub value_cmp : Value → Value → Ordering
value_cmp (values.Text a) (values.Text b) = slice_cmp nat_cmp a b
value_cmp (values.I64 a) (values.I64 b) = int_cmp a b
value_cmp (values.U64 a) (values.U64 b) = nat_cmp a b
value_cmp (values.Bool a) (values.Bool b) = bool_cmp a b
value_cmp (values.Datetime a) (values.Datetime b) = int_cmp a b
value_cmp a b = nat_cmp (kind_place a) (kind_place b)
