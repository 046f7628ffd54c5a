use Rattle.std.proofs.Common.{◌≡◌, ◌++◌, [], List, ℕ, drop, IsUtf8}
use denote.Text.{Utf8}
use denote.Shadow.{shadow}
use Rattle.query_ast.specs.Sought.{view_all}
use Rattle.query_reader.specs.Printed.{Spells, printed_all}
use Rattle.query_reader.proofs.printer.+print.Given as goal

-- what was printed and the members that are left are the members
abbrev pub invariant-push_all-loop-part : goal.invariant-push_all-loop-part
invariant-push_all-loop-part l =
    shadow (Utf8 l.gap) × IsUtf8 l.between
    × ((bytes : List ℕ) × (l.out ≡ l.fn.out ++ bytes)
    × ((rest : List ℕ) → Spells (printed_all l.fields l.between l.gap (view_all (drop l.part-index l.parts))) rest → Spells (printed_all l.fields l.between [] (view_all l.parts)) (bytes ++ rest)))
