use Rattle.meta_store.specs.History.{history}
use Rattle.meta_store.proofs.Counted.{numbered}
use Rattle.meta_store.proofs.laws.numbered.Goals as goal

pub returns : goal.returns
returns c reads entries legal = numbered reads (history entries) legal
