use Rattle.meta_store.proofs.Raised.{contents_raised}
use Rattle.split_states.specs.Rows.{joined_spans}
use Rattle.meta_store.proofs.laws.raises_leave.Goals as goal

pub returns-clause-raise : goal.returns-clause-raise
returns-clause-raise c meaning tasks records upto row = contents_raised meaning tasks records upto row.spans

pub returns-clause-replace : goal.returns-clause-replace
returns-clause-replace c meaning tasks records upto ops rows old row = contents_raised meaning tasks records upto (joined_spans rows old)
