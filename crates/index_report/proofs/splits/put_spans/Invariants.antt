use Rattle.std.proofs.Common.{◌≡◌, ◌++◌, ◌∷◌, take, string_bytes}
use Rattle.std.specs.Prelude.{flat_map}
use Rattle.index_report.specs.Reports.{span_word}
use Rattle.index_report.proofs.splits.put_spans.Given as goal

-- the spans so far stand behind what was there
abbrev pub invariant-loop-span : goal.invariant-loop-span
invariant-loop-span l = string_bytes l.out ≡ string_bytes l.initial.out ++ flat_map (λ s. 32 ∷ span_word s) (take l.span-index l.spans)
