use Rattle.std.proofs.Common.{Ok, Err, refl, inl}
use Rattle.object_store.specs.declared.store.CreateError.TheVariants as creates
use Rattle.object_store.proofs.Told.{told_map, told_then}
use Rattle.meta_journal.specs.declared.journal_error.JournalError.TheVariants.{StoreFault}
use Rattle.meta_journal.specs.Journal.{Tries, ReadsEntry, SettlesAt, fence, created, create_failed}
use Rattle.meta_journal.proofs.Calls.{reads_settles}
use Rattle.meta_journal.proofs.trying.settle_at.Goals as goal

pub returns-in-Ok-clause-answer : goal.returns-in-Ok-clause-answer
returns-in-Ok-clause-answer g c =
    told_map (g.S.ObjectStore.told c.args.store.now) (g.S.ObjectStore.told c.create_fence.new.store) {P = Tries c.args.number (fence c.args.moment) created} {Q = SettlesAt c.args.number c.args.moment (Ok (fence c.args.moment))} (λ o n h. inl (refl, h)) c.in-Ok.ensures.tried

pub returns-in-Err-Exists-clause-answer : goal.returns-in-Err-Exists-clause-answer
returns-in-Err-Exists-clause-answer g c =
    told_then (g.S.ObjectStore.told c.args.store.now) (g.S.ObjectStore.told c.create_fence.new.store) (g.S.ObjectStore.told c.read_entry.new.store) {P = Tries c.args.number (fence c.args.moment) (Err creates.Exists)} {Q = ReadsEntry c.args.number c.read_entry.result} {R = SettlesAt c.args.number c.args.moment c.read_entry.result}
    (λ o m s h k. reads_settles c.args.number c.args.moment o m s h c.read_entry.result k) (rw c.in-Err-Exists.field-0-is at c.in-Err-Exists.ensures.tried) c.read_entry.ensures.reads

pub returns-in-Err-Failed-clause-answer : goal.returns-in-Err-Failed-clause-answer
returns-in-Err-Failed-clause-answer g c =
    told_map (g.S.ObjectStore.told c.args.store.now) (g.S.ObjectStore.told c.create_fence.new.store) {P = Tries c.args.number (fence c.args.moment) create_failed} {Q = SettlesAt c.args.number c.args.moment (Err (StoreFault c.args.before c.faults.result))}
    (λ o n h. inl h) (rw c.in-Err-Failed.field-0-is at c.in-Err-Failed.ensures.tried)
