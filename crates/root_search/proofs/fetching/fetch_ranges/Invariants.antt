use Rattle.std.proofs.Common.{◌≡◌, ◌++◌, ℕ, List, take}
use Rattle.source_log.specs.Log.{Log}
use Rattle.index_config.specs.declared.config.IndexConfig.{IndexConfig}
use Rattle.index_world.specs.Core.{Core, IsConfigured}
use Rattle.index_world.specs.Gate.{grace_of}
use Rattle.leaf_search.specs.FileRanges.{total}
use Rattle.root_search.specs.Fetching.{IsFileAt}
use Rattle.root_search.specs.FetchedSplits.{pieces_at}
use Rattle.root_search.specs.FetchCalls.{AreKeptBehind, FetchCall}
use Rattle.root_search.proofs.CallsMade.{AllGave}
use Rattle.root_search.proofs.Fetches.{Made}
use Rattle.root_search.proofs.fetching.fetch_ranges.Given as goal

abbrev pub invariant-loop-range : goal.invariant-loop-range
invariant-loop-range g l = record {
  later : g.G.Gate.since l.fn.gate l.gate;
  step : (config : IndexConfig) (bytes : List ℕ) (core : Core) (log : Log) → g.G.Gate.Stands l.fn.gate core log → IsConfigured config core → (file : IsFileAt core (grace_of config l.plan).until l.plan l.place bytes)
      → Made (grace_of config l.plan) file.row.number g.G.Gate.Stands g.G.Gate.Between g.G.Gate.Adds g.G.Gate.bytes_fetched core log l.range-index (total (take l.range-index l.ranges)) l.fn.gate l.gate × (l.pieces ≡ l.fn.pieces ++ pieces_at bytes (take l.range-index l.ranges));
  reads : (calls : List FetchCall) × AllGave g.G.Gate.Stands g.G.Gate.Between g.G.Gate.Owns g.G.Gate.Adds g.G.Gate.bytes_fetched g.G.Gate.told g.G.Gate.Answers l.plan l.place calls l.fn.gate l.gate × AreKeptBehind l.fn.pieces l.pieces calls;
}
