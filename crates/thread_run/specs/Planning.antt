-- Who answers which request.
use Rattle.std.specs.Prelude.{◌≡◌, ℕ, List, length}
use Rattle.run_plan.specs.Asked.{AreAsked}
use Rattle.run_plan.specs.declared.clients.Asking.{Asking}
use Rattle.run_plan.specs.declared.clients.Request.{Request}
use Rattle.thread_run.specs.Sharing.{AreShares}
use Rattle.thread_run.specs.declared.planning.Plan.{Plan}

-- The requests are those of these clients, and each of so many searchers has its share of the clients: the first one is the first searcher's, the
-- next the next's, and behind the last it is the first searcher's turn again.
pub record IsPlanned (requests : List Request) (searchers : ℕ) (plan : Plan) : Type 0 where
  pub askings : List Asking
  pub asked : AreAsked requests askings plan.by.items
  pub clients : plan.clients ≡ length askings
  pub as_many : length plan.shares.items ≡ searchers
  pub are_shares : AreShares searchers 0 askings plan.shares.items
