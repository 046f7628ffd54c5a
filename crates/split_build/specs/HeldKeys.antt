-- Keys as they are held.
use Rattle.std.specs.Prelude.{ℕ, List, map, Vec}
use Rattle.std.specs.declared.alloc.Global.{Global}

abbrev pub key_bytes : List (Vec ℕ Global) → List (List ℕ)
key_bytes ks = map (λ k. k.items) ks
