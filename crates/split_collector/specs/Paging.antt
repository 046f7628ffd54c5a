-- What came of one page of a sweep.
use Rattle.std.specs.Prelude.{◌≡◌, ℕ, true, List, Option, Some, Result, Ok, Err, ⊤}
use Rattle.std.specs.declared.alloc.AllocError.{AllocError}
use Rattle.object_store.specs.Key.{IsKey}
use Rattle.object_store.specs.Store.{is_behind}
use Rattle.split_collector.specs.Ending.{Told, told}
use Rattle.split_collector.specs.Turns.{Turn, behind_sweep, ended, to_list}
use Rattle.split_collector.specs.declared.tries.Paged.{Paged}
use Rattle.split_collector.specs.declared.tries.Paged.TheVariants.{Ended, Next, Last}

-- where it leads
abbrev pub paged_turn : Result Paged AllocError → Turn Told
paged_turn (Ok (Ended outcome)) = ended (Ok outcome)
paged_turn (Ok (Next key)) = to_list (Some key)
paged_turn (Ok Last) = behind_sweep told
paged_turn (Err refused) = ended (Err refused)

-- the next page begins behind the key behind which this one began
abbrev pub GoesBehind : Option (List ℕ) → Paged → Type 0
GoesBehind behind (Ended outcome) = ⊤
GoesBehind behind (Next key) = (is_behind behind key ≡ true) × IsKey key
GoesBehind behind Last = ⊤
