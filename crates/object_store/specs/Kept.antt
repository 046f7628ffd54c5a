-- What a store in memory keeps, as a state.
use Rattle.std.specs.Prelude.{ℕ, List, map}
use Rattle.object_store.specs.declared.kept.LateObject.{LateObject}
use Rattle.object_store.specs.declared.kept.Kept.{Kept}
use Rattle.object_store.specs.Store.{State}

abbrev pub late_entry : LateObject → List ℕ × List ℕ
late_entry l = (l.object.key, l.object.content)

abbrev pub state_of : Kept → State
state_of k = record { objects = k.shelf.objects; late = map late_entry k.late.items }
