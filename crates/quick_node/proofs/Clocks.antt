-- Whatever lands and fails, what the clock tells is changed by a line `at` alone.
use Rattle.std.proofs.Common.{◌≡◌, [], ◌∷◌, refl, sym, ap, ◌∙◌, Bool, true, false}
use Rattle.std.specs.Prelude.{Some, None}
use Rattle.index_world.specs.Calls.{loaded}
use Rattle.upkeep_run.specs.declared.work.Aim.TheVariants.{Deleting, Merging}
use Rattle.node_run.specs.Node.{Node, Line, At, Assign, StepIndexer, RestartIndexer, RestartClient, StepMerger, RestartMerger, StepDeleter, RestartDeleter, StepCollector, RestartCollector, RestartNode, Open, StepClient, Outcome}
use Rattle.node_run.specs.Turns.{LineLuck, indexer_at, client_named, with_deleter, with_merger, full_turn, or_quiet, turn_by, Turn}
use Rattle.call_laws.proofs.CallMoves.{loaded_moves}
use Rattle.node_run.proofs.Moving.{assign_same, open_same, restart_same, indexer_turn_moves, client_turn_moves, worker_turn_moves, collector_turn_moves}
use Rattle.quick_node.specs.Reading.{last_moment}

-- the moment that a line sets, if it sets one
full_ticks : (luck : LineLuck) (node : Node) (line : Line) → (full_turn luck node line).node.core.clock ≡ last_moment node.core.clock (line ∷ [])
full_ticks luck node (At moment) = refl
full_ticks luck node (Assign i names) = ap (λ c. c.clock) (assign_same (indexer_at node.indexers i).place i names (indexer_at node.indexers i) node)
full_ticks luck node (StepIndexer i) = (indexer_turn_moves node.down luck i node).ticks
full_ticks luck node (RestartIndexer i) = refl
full_ticks luck node (RestartClient name) = refl
full_ticks luck node StepMerger = (worker_turn_moves node.down Merging node.merger with_merger luck node).ticks
full_ticks luck node RestartMerger = refl
full_ticks luck node StepDeleter = (worker_turn_moves node.down Deleting node.deleter with_deleter luck node).ticks
full_ticks luck node RestartDeleter = refl
full_ticks luck node StepCollector = (collector_turn_moves node.down luck node).ticks
full_ticks luck node RestartCollector = refl
full_ticks luck node RestartNode =
    let given = loaded luck.world node.core in
    ap (λ c. c.clock) (restart_same given.answer given.core node) ∙ (loaded_moves luck.world node.core).ticks
full_ticks luck node (Open name text) =
    ap (λ c. c.clock) (open_same (client_named name node.clients).request name text (client_named name node.clients) node)
full_ticks luck node (StepClient name) = (client_turn_moves node.down luck name node).ticks

none_is_some : (outcome : Outcome) → None ≡ Some outcome → ⊥
none_is_some outcome e = cc

-- an answered line sets the clock where it is an `at`
pub turn_ticks : (node : Node) (line : Line) (outcome : Outcome) (last : Node) → Turn node line (Some outcome) last →
    last.core.clock ≡ last_moment node.core.clock (line ∷ [])
turn_ticks node line outcome last t = early t.luck.early t.is
  where
    quiet_by : (b : Bool) → or_quiet b line (full_turn t.luck node line) ≡ record { said = Some outcome; node = last } →
        last.core.clock ≡ last_moment node.core.clock (line ∷ [])
    quiet_by true e = absurd (none_is_some outcome (ap (λ r. r.said) e))
    quiet_by false e = ap (λ r. r.node.core.clock) (sym e) ∙ full_ticks t.luck node line

    early : (b : Bool) → turn_by b t.luck node line ≡ record { said = Some outcome; node = last } → last.core.clock ≡ last_moment node.core.clock (line ∷ [])
    early true e = absurd (none_is_some outcome (ap (λ r. r.said) e))
    early false e = quiet_by t.luck.short e
