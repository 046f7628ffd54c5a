use Rattle.std.proofs.Common.{Ok, Err, refl, inl}
use Rattle.object_store.specs.declared.store.CreateError.TheVariants as creates
use Rattle.object_store.proofs.Told.{told_map, told_then}
use Rattle.meta_journal.specs.declared.journal_error.JournalError.TheVariants.{StoreFault}
use Rattle.meta_journal.specs.Journal.{Tries, Adopts, Appends, created, create_failed}
use Rattle.meta_journal.proofs.Calls.{adopts_appends}
use Rattle.meta_journal.proofs.trying.append_at.Goals as goal

pub returns-in-Ok-clause-answer : goal.returns-in-Ok-clause-answer
returns-in-Ok-clause-answer g c =
    told_map (g.S.ObjectStore.told c.args.store.now) (g.S.ObjectStore.told c.create_entry.new.store) {P = Tries c.args.number c.args.entry.now created} {Q = Appends c.args.number c.args.entry.now (Ok c.args.number)} (λ o n h. (refl, h)) c.in-Ok.ensures.tried

pub returns-in-Err-Exists-clause-answer : goal.returns-in-Err-Exists-clause-answer
returns-in-Err-Exists-clause-answer g c =
    told_then (g.S.ObjectStore.told c.args.store.now) (g.S.ObjectStore.told c.create_entry.new.store) (g.S.ObjectStore.told c.taken.new.store) {P = Tries c.args.number c.args.entry.now (Err creates.Exists)} {Q = Adopts c.args.number c.taken.result} {R = Appends c.args.number c.args.entry.now (Err c.taken.result)}
    (λ o m s h k. adopts_appends c.args.number c.args.entry.now o m s h c.taken.result k) (rw c.in-Err-Exists.field-0-is at c.in-Err-Exists.ensures.tried) c.taken.ensures.adopts

pub returns-in-Err-Failed-clause-answer : goal.returns-in-Err-Failed-clause-answer
returns-in-Err-Failed-clause-answer g c =
    told_map (g.S.ObjectStore.told c.args.store.now) (g.S.ObjectStore.told c.create_entry.new.store) {P = Tries c.args.number c.args.entry.now create_failed} {Q = Appends c.args.number c.args.entry.now (Err (StoreFault c.args.before c.faults.result))}
    (λ o n h. inl h) (rw c.in-Err-Failed.field-0-is at c.in-Err-Failed.ensures.tried)
