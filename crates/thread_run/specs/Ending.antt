-- The logs and the ends of the indexers of a run.
use Rattle.std.specs.Prelude.{ℕ, suc, List, [], ◌∷◌}
use Rattle.indexing_run.specs.declared.indexing.IndexerEnd.TheVariants as indexers
use Rattle.thread_run.specs.declared.outcome.Indexed.{Indexed}
use Rattle.thread_run.specs.declared.end_lines.ActorEnd.{ActorEnd}
use Rattle.thread_run.specs.declared.end_lines.ActorEnd.TheVariants as ends
use Rattle.thread_run.specs.declared.staffing.Post.{Post}
use Rattle.thread_run.specs.declared.staffing.Post.TheVariants as posts

module _ {L : Type 0} where
  -- how many of them work
  abbrev pub at_work : List (Post L) → ℕ
  at_work [] = 0
  at_work (posts.Working ∷ all) = suc (at_work all)
  at_work (posts.Failed log before after ∷ all) = at_work all
  at_work (posts.Short log ∷ all) = at_work all

  -- the log of each: of one that worked it is that of the next indexer that ended
  abbrev pub logs_behind : List (Post L) → List (Indexed L) → List L
  logs_behind [] indexed = []
  logs_behind (posts.Working ∷ all) [] = []
  logs_behind (posts.Working ∷ all) (one ∷ indexed) = one.indexer.log ∷ logs_behind all indexed
  logs_behind (posts.Failed log before after ∷ all) indexed = log ∷ logs_behind all indexed
  logs_behind (posts.Short log ∷ all) indexed = log ∷ logs_behind all indexed

  -- the end of each, the first of which has this place: one whose log failed ends with that fault
  abbrev pub ends_from : (place : ℕ) → List (Post L) → List (Indexed L) → List ActorEnd
  ends_from place [] indexed = []
  ends_from place (posts.Working ∷ all) [] = []
  ends_from place (posts.Working ∷ all) (one ∷ indexed) = ends.Indexer place one.end ∷ ends_from (suc place) all indexed
  ends_from place (posts.Failed log before after ∷ all) indexed = ends.Indexer place (indexers.SourceFault before after) ∷ ends_from (suc place) all indexed
  ends_from place (posts.Short log ∷ all) indexed = ends.Indexer place indexers.Memory ∷ ends_from (suc place) all indexed
