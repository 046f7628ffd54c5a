use Rattle.meta_store.specs.History.{history}
use Rattle.meta_store.proofs.Formed.{formed}
use Rattle.meta_store.proofs.laws.formed.Goals as goal

pub returns : goal.returns
returns c reads entries legal = formed reads (history entries) legal
