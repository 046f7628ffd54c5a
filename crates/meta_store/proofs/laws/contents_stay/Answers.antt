use Rattle.meta_store.proofs.Current.{contents_kept}
use Rattle.meta_store.specs.History.{history}
use Rattle.meta_store.proofs.laws.contents_stay.Goals as goal

pub returns : goal.returns
returns c reads entries legal task may meaning records = contents_kept meaning reads (history entries) task legal may records
