-- Room for what comes of a run.
use Rattle.std.specs.Prelude.{◌≡◌, ◌+◌, ◌≤◌, ℕ, [], vec_capacity}
use Rattle.thread_run.specs.Outcome.{HasRoom, Vacant}
use Rattle.thread_run.specs.declared.room.Room.{Room}

-- All lists are empty, and there is room for the jobs of so many indexers and searchers and three more, for what comes of each, and for so many logs.
pub record IsRoom {L : Type 0} (indexers searchers logs : ℕ) (room : Room L) : Type 0 where
  pub no_jobs : room.jobs.items ≡ []
  pub no_posts : room.posts.items ≡ []
  pub no_outcome : Vacant room.outcome
  pub no_logs : room.ended.logs.items ≡ []
  pub no_ends : room.ended.ends.items ≡ []
  pub jobs : indexers + searchers + 3 ≤ vec_capacity room.jobs
  pub posts : indexers ≤ vec_capacity room.posts
  pub outcome : HasRoom (indexers + searchers + 3) room.outcome
  pub logs_fit : logs ≤ vec_capacity room.ended.logs
  pub ends : indexers + (indexers + searchers + 3) ≤ vec_capacity room.ended.ends
