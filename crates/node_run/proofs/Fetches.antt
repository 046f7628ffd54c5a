-- Fetches one after another: whatever lands and fails they move the core as calls of the world do, and they fail by the store, or since they come too late.
use Rattle.std.specs.Prelude.{Result, Ok, Err, ⊤, List, [], ◌∷◌}
use Rattle.index_world.specs.Calls.{Fate, Gives, Grace, Trouble, fetched}
use Rattle.index_world.specs.Core.{Core}
use Rattle.root_search.specs.Steps.{fetched_each, unless_fault}
use Rattle.call_laws.proofs.CallMoves.{Moves, fetched_moves, moves_on}
use Rattle.call_laws.proofs.CallTells.{FetchTrouble, IfErr, IsFetchTrouble, fetched_own}

pub unless_fault_moves : {core : Core} (answer : Result ⊤ Trouble) (mid : Core) (next : Core → Gives Trouble ⊤) → Moves core mid → Moves mid (next mid).core →
    Moves core (unless_fault answer mid next).core
unless_fault_moves (Ok done) mid next m n = moves_on m n
unless_fault_moves (Err trouble) mid next m n = m

pub each_moves : (grace : Grace) (more : List Fate) (fate : Fate) (core : Core) → Moves core (fetched_each grace fate more core).core
each_moves grace [] fate core = fetched_moves grace fate core
each_moves grace (next ∷ more) fate core =
    let given = fetched grace fate core in
    unless_fault_moves given.answer given.core (fetched_each grace next more) (fetched_moves grace fate core) (each_moves grace more next given.core)

pub unless_fault_own : (r : Result ⊤ Trouble) (core : Core) (next : Core → Gives Trouble ⊤) → IfErr IsFetchTrouble r → FetchTrouble (next core) → FetchTrouble (unless_fault r core next)
unless_fault_own (Ok done) core next g n = n
unless_fault_own (Err trouble) core next g n = g

pub each_own : (grace : Grace) (more : List Fate) (fate : Fate) (core : Core) → FetchTrouble (fetched_each grace fate more core)
each_own grace [] fate core = fetched_own grace fate core
each_own grace (next ∷ more) fate core =
    let given = fetched grace fate core in
    unless_fault_own given.answer given.core (fetched_each grace next more) (fetched_own grace fate core) (each_own grace more next given.core)
