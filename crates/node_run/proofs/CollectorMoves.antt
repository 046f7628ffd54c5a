-- Whatever lands and fails, a step of the collector moves the core as calls of the world do.
use Rattle.std.proofs.Common.{ℕ, zero, suc, List, refl}
use Rattle.std.specs.Prelude.{Option}
use Rattle.index_world.specs.Calls.{Fate}
use Rattle.index_world.specs.Collecting.{removal_offer, stale_offer}
use Rattle.index_world.specs.Core.{Core}
use Rattle.split_collector.specs.Outcomes.{Outcome}
use Rattle.split_collector.specs.Steps.{CallLuck, CollectorLuck, alone, end_at, ends_behind, first_fate, max_calls, other_fates, step_collector, turned}
use Rattle.split_collector.specs.Turns.{Turn, ended, to_doom, to_list, to_mark, to_remove, to_sweep}
use Rattle.call_laws.proofs.CallMoves.{Moves, stays, moves_on, troubled_moves, file_got_moves}
use Rattle.call_laws.proofs.CollectingMoves.{appended_if_moves, doom_moves, sweep_moves}

-- ---- a step

pub called_moves : (turn : Turn (Option Outcome)) (luck : CallLuck) (core : Core) → Moves core (turned turn luck core).core
called_moves to_mark luck core = appended_if_moves luck.fate 0 stale_offer core
called_moves to_doom luck core = moves_on (doom_moves luck.fate core) (troubled_moves _ _)
called_moves to_remove luck core = appended_if_moves luck.fate 0 removal_offer core
called_moves (to_list behind) luck core = moves_on (file_got_moves luck.fate.first core) (troubled_moves _ _)
called_moves (to_sweep number next) luck core = moves_on (sweep_moves luck.fate.unasked number luck.fate core) (troubled_moves _ _)
called_moves (ended outcome) luck core = stays refl

pub alone_moves : (calls : ℕ) (turn : Turn (Option Outcome)) (fates : List Fate) (ends : List (List ℕ)) (core : Core) → Moves core (alone calls turn fates ends core).core
alone_moves zero turn fates ends core = stays refl
alone_moves (suc calls) turn fates ends core =
    moves_on (called_moves turn (record { fate = first_fate fates; end = end_at turn ends }) core) (alone_moves calls _ (other_fates fates) (ends_behind turn ends) _)

pub collector_moves : (luck : CollectorLuck) (core : Core) → Moves core (step_collector luck core).core
collector_moves luck core = alone_moves (max_calls luck) to_mark _ luck.ends core
