-- A partition's fields are given back by its name.
use Rattle.std.specs.Prelude.{◌≡◌, ℕ, ◌≤◌, ◌-◌, List, ◌++◌, length, take, drop, replicate}
use Rattle.std.proofs.Common.{sym, ap, ◌∙◌, arith}
use Rattle.std.proofs.lemmas.List.{length-take-le, take-append-drop}
use Rattle.source_checkpoint.specs.Names.{IsPartition}
use Rattle.source_checkpoint.specs.declared.partition.Partition.TheInside.{Inside}

pub name_again : (k : Inside) → (k.len ≤ 64) × (length k.bytes ≡ 64) × (drop k.len k.bytes ≡ replicate (64 - k.len) 0) × IsPartition (take k.len k.bytes)
    → ◌≡◌ {A = Inside} (record { bytes = take k.len k.bytes ++ replicate (64 - length (take k.len k.bytes)) 0; len = length (take k.len k.bytes) }) k
name_again k h =
    let len : length (take k.len k.bytes) ≡ k.len = length-take-le k.len k.bytes (omega arith) in
    let bytes : take k.len k.bytes ++ replicate (64 - length (take k.len k.bytes)) 0 ≡ k.bytes =
    ap (λ (n : ℕ). take k.len k.bytes ++ replicate (64 - n) 0) len ∙ ap (λ (l : List ℕ). take k.len k.bytes ++ l) (sym h.2) ∙ take-append-drop k.len k.bytes in
    λ i. record { bytes = bytes i; len = len i }
