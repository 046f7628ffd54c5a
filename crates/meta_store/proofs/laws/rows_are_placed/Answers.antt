use Rattle.meta_store.specs.History.{history}
use Rattle.meta_store.proofs.Within.{placed}
use Rattle.meta_store.proofs.laws.rows_are_placed.Goals as goal

pub returns : goal.returns
returns c reads entries legal = placed reads (history entries) legal
