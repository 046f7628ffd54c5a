use Rattle.meta_store.specs.History.{history}
use Rattle.meta_store.specs.Ledgers.{ledger}
use Rattle.index_report.proofs.Listing.{are_named}
use Rattle.index_report.proofs.laws.partitions_are_named.Goals as goal

pub returns : goal.returns
returns c = λ reads entries legal. are_named reads (history entries) (ledger reads (history entries)) legal (c.counted.ensures reads entries legal).checkpoints
