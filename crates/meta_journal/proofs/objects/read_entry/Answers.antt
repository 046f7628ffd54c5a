use Rattle.std.proofs.Common.{◌≡◌, ◌∙◌, List, ℕ, Ok, Err, ap, sym, subst}
use Rattle.object_store.specs.Store.{LandsThen, Gets}
use Rattle.object_store.proofs.Told.{told_map, told_then}
use Rattle.meta_journal.specs.declared.journal_error.JournalError.TheVariants.{StoreFault}
use Rattle.meta_journal.specs.Journal.{DecodesTo, ReadsEntry}
use Rattle.meta_journal.specs.Reading.{kind_at}
use Rattle.meta_journal.proofs.Calls.{no_more, piece_read, front_read, read_behind, absent_read, refused_read}
use Rattle.meta_journal.proofs.objects.read_entry.Goals as goal

pub returns-in-Err-Absent-clause-reads : goal.returns-in-Err-Absent-clause-reads
returns-in-Err-Absent-clause-reads g c = told_map _ _ (absent_read c.args.number c.meta_key-key.result 65536 c.meta_key-key.ensures) (rw c.in-Err-Absent.field-0-is at c.in-Err-Absent.ensures.step)

pub returns-in-Err-Failed-clause-reads : goal.returns-in-Err-Failed-clause-reads
returns-in-Err-Failed-clause-reads g c = told_map _ _ (refused_read c.args.number c.meta_key-key.result 65536 c.in-Err-Failed.field-0 (StoreFault c.args.before c.faults.result) (λ s. tt)) c.in-Err-Failed.ensures.step

pub returns-then-piece-le-FRONT-clause-reads : goal.returns-then-piece-le-FRONT-clause-reads
returns-then-piece-le-FRONT-clause-reads g c =
    let decoded = subst (λ (l : List ℕ). DecodesTo l c.meta_key-key.result c.entry_of_object.result) c.as_slice.ensures c.entry_of_object.ensures in
    told_map _ _ (piece_read c.args.number c.meta_key-key.result 65536 c.in-Ok.piece c.entry_of_object.result c.meta_key-key.ensures (no_more c.in-Ok.piece c.if-piece-le-FRONT.true) decoded) c.in-Ok.ensures.step

pub returns-in-Ok-kind_at-clause-reads : goal.returns-in-Ok-kind_at-clause-reads
returns-in-Ok-kind_at-clause-reads g c =
    told_then (g.S.ObjectStore.told c.args.store.now) (g.S.ObjectStore.told c.get.new.self) (g.S.ObjectStore.told c.read_whole.new.store) {P = LandsThen (Gets c.meta_key-key.result 0 65536 (Ok c.in-Ok.piece))}
    {Q = ReadsEntry c.args.number c.read_whole.result} {R = ReadsEntry c.args.number c.read_whole.result}
    (λ o m s h k. read_behind c.args.number c.meta_key-key.result 65536 (Ok c.in-Ok.piece) c.read_whole.result o m s h k) c.in-Ok.ensures.step c.read_whole.ensures.reads

pub returns-in-Ok-clause-reads : goal.returns-in-Ok-clause-reads
returns-in-Ok-clause-reads g c =
    let fault : kind_at c.in-Ok.piece.bytes ≡ Err c.in-Err.field-0 = ap kind_at (sym c.as_slice-in-Ok.ensures) ∙ sym c.in-Err.ensures.exact in
    told_map _ _ (front_read c.args.number c.meta_key-key.result c.in-Ok.piece c.in-Err.field-0 c.meta_key-key.ensures c.if-piece-le-FRONT.false fault) c.in-Ok.ensures.step
