use Rattle.std.proofs.Common.{ap, sym}
use Rattle.meta_journal.specs.declared.journal_error.JournalError.{JournalError}
use Rattle.meta_journal.specs.Journal.{place_refused}
use Rattle.meta_journal.proofs.place.place_refused.Goals as goal

pub returns-in-StoreFault : goal.returns-in-StoreFault
returns-in-StoreFault c = ap (λ (e : JournalError). place_refused c.args.place e) (sym c.in-StoreFault.is)
