use Rattle.meta_store.specs.History.{history}
use Rattle.meta_store.proofs.ByWords.{in_words}
use Rattle.meta_store.proofs.laws.in_words.Goals as goal

pub returns : goal.returns
returns c reads entries legal = in_words reads (history entries) legal
