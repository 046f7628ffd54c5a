use Rattle.std.proofs.Common.{◌≡◌, ℕ, List}
use Rattle.std.specs.HashMap.{get_by_text}
use Rattle.std.specs.List.{IsDistinct}
use Rattle.std.specs.Map.{lookup, keys_of}
use Rattle.std.specs.Str.{bytes_eq}
use Rattle.std.specs.String.{string_bytes, string_eq}
use Rattle.agg_model.specs.Tallies.{merged}
use Rattle.agg_model.proofs.tallies.merge_texts.Given as goal

-- what was added and what is left are what is to be added
abbrev pub invariant-loop-text : goal.invariant-loop-text
invariant-loop-text l =
    ((q : List ℕ) → merged (get_by_text l.tallies q) (lookup (λ k. bytes_eq q (string_bytes k)) l.text-iterator) ≡ merged (get_by_text l.initial.tallies q) (get_by_text l.other q))
    × IsDistinct string_eq (keys_of l.text-iterator)
