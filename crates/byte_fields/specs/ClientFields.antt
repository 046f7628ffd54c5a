-- A client's fields are given back by its bytes.
use Rattle.std.specs.Prelude.{◌≡◌, ℕ, ◌≤◌, ◌-◌, List, ◌++◌, length, take, drop, replicate}
use Rattle.std.proofs.Common.{sym, ap, ◌∙◌, arith}
use Rattle.std.proofs.lemmas.List.{length-take-le, take-append-drop}
use Rattle.byte_fields.specs.declared.client.Client.TheInside.{Inside}

pub client_again : (k : Inside) → (k.len ≤ 32) × (length k.bytes ≡ 32) × (drop k.len k.bytes ≡ replicate (32 - k.len) 0)
    → ◌≡◌ {A = Inside} (record { bytes = take k.len k.bytes ++ replicate (32 - length (take k.len k.bytes)) 0; len = length (take k.len k.bytes) }) k
client_again k h =
    let len : length (take k.len k.bytes) ≡ k.len = length-take-le k.len k.bytes (omega arith) in
    let bytes : take k.len k.bytes ++ replicate (32 - length (take k.len k.bytes)) 0 ≡ k.bytes =
    ap (λ (n : ℕ). take k.len k.bytes ++ replicate (32 - n) 0) len ∙ ap (λ (l : List ℕ). take k.len k.bytes ++ l) (sym h.2) ∙ take-append-drop k.len k.bytes in
    λ i. record { bytes = bytes i; len = len i }
