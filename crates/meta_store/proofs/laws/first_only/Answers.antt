use Rattle.meta_store.specs.History.{history}
use Rattle.meta_store.proofs.ByWords.{first_only}
use Rattle.meta_store.proofs.laws.first_only.Goals as goal

pub returns : goal.returns
returns c reads entries legal = first_only reads (history entries) legal
