-- What is said of a store where it tells, through one call and through several.
use Rattle.std.proofs.Common.{Option, Some, None}
use Rattle.object_store.specs.Store.{State, WhereTold}

pub told_map : (a b : Option State) {P Q : State → State → Type 0} → ((o n : State) → P o n → Q o n) → WhereTold a b P → WhereTold a b Q
told_map None b f h = tt
told_map (Some o) None f h = h
told_map (Some o) (Some n) f h = f o n h

pub told_then : (a b c : Option State) {P Q R : State → State → Type 0} → ((o m n : State) → P o m → Q m n → R o n) → WhereTold a b P → WhereTold b c Q → WhereTold a c R
told_then None b c f h k = tt
told_then (Some o) None c f h k = absurd h
told_then (Some o) (Some m) None f h k = k
told_then (Some o) (Some m) (Some n) f h k = f o m n h k
