use Rattle.meta_journal.specs.declared.journal_error.JournalError.TheVariants.{Foreign}
use Rattle.meta_journal.specs.Journal.{Adopts}
use Rattle.meta_journal.proofs.Calls.{told_same, foreign_adopts}
use Rattle.meta_journal.proofs.trying.taken.Goals as goal

pub returns-then-settled-clause-kinds : goal.returns-then-settled-clause-kinds
returns-then-settled-clause-kinds g c = cc

pub returns-then-settled-clause-adopts : goal.returns-then-settled-clause-adopts
returns-then-settled-clause-adopts g c = told_same (g.S.ObjectStore.told c.args.store.now) (Adopts c.args.number (Foreign c.meta_key.result)) (foreign_adopts c.args.number c.meta_key.result c.meta_key.ensures)
