use Rattle.std.proofs.Common.{◌≡◌, ◌∷◌, map, take}
use Rattle.agg_nested.specs.Checking.{field_of}
use Rattle.doc_tallies.proofs.fields.fields_of.Given as goal

abbrev pub invariant-loop-named : goal.invariant-loop-named
invariant-loop-named l = l.fields.items ≡ field_of l.asked.agg ∷ map (λ named. field_of named.agg) (take l.named-index l.asked.nested)
