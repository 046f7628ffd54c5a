-- By what a call of the world fails: by the store, or by all but a key that is foreign.
use Rattle.index_world.specs.Calls.{Fault, store_fault, is_foreign, is_full, is_expired}

-- the store failed
abbrev pub IsOfStore : Fault → Type 0
IsOfStore (store_fault before after) = Unit {0}
IsOfStore (is_foreign key) = ⊥
IsOfStore is_full = ⊥
IsOfStore (is_expired planned_at now) = ⊥

abbrev pub IsNotForeign : Fault → Type 0
IsNotForeign (store_fault before after) = Unit {0}
IsNotForeign (is_foreign key) = ⊥
IsNotForeign is_full = Unit {0}
IsNotForeign (is_expired planned_at now) = ⊥
