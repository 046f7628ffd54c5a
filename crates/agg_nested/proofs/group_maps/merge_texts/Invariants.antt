use Rattle.std.proofs.Common.{ℕ, List}
use Rattle.std.specs.HashMap.{get_by_text}
use Rattle.std.specs.List.{IsDistinct}
use Rattle.std.specs.Map.{lookup, keys_of}
use Rattle.std.specs.Str.{bytes_eq}
use Rattle.std.specs.String.{string_bytes, string_eq}
use Rattle.agg_nested.proofs.Joining.{IsLeft}
use Rattle.agg_nested.proofs.group_maps.merge_texts.Given as goal

abbrev pub invariant-loop-text : goal.invariant-loop-text
invariant-loop-text l =
    IsLeft l.nested (get_by_text l.initial.groups) (get_by_text l.others) (get_by_text l.groups) (λ (q : List ℕ). lookup (λ k. bytes_eq q (string_bytes k)) l.text-iterator)
    × IsDistinct string_eq (keys_of l.text-iterator)
