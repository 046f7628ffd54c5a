use Rattle.std.proofs.Common.{subst, arith, Result}
use Rattle.meta_journal.specs.declared.entry.Entry.{Entry}
use Rattle.meta_journal.specs.declared.entry_error.EntryError.{EntryError}
use Rattle.meta_journal.specs.Reading.{Reads}
use Rattle.meta_journal.proofs.EntryLaws.{entry_found, entry_again}
use Rattle.meta_journal.proofs.reading.decode_entry.Goals as goal

pub returns-clause-found : goal.returns-clause-found
returns-clause-found c = entry_found c.args.bytes.now c.entry_whole.result (λ i. omega (arith, c.type_inv.bytes i)) c.entry_whole.ensures

pub returns-clause-only : goal.returns-clause-only
returns-clause-only c = λ e can spells. subst (λ (r : Result Entry EntryError). Reads c.entry_whole.result r) (entry_again c.args.bytes.now e can spells) c.entry_whole.ensures
