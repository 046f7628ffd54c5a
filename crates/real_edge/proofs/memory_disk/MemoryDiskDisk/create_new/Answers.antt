use Rattle.std.proofs.Common.{refl, sym, ◌∙◌}
use Rattle.std.specs.FinMap as finmap
use Rattle.real_edge.proofs.Lasting.{none_of, added, unmade, same_more}
use Rattle.real_edge.proofs.memory_disk.MemoryDiskDisk.create_new.Goals as goal

pub returns-then-is_err-clause-step : goal.returns-then-is_err-clause-step
returns-then-is_err-clause-step c = unmade c.args.self.now.files.objects c.args.self.now.synced.objects c.args.name.now

pub returns-then-stands-clause-step : goal.returns-then-stands-clause-step
returns-then-stands-clause-step c = same_more c.args.self.now.files.objects c.args.self.now.files.objects c.args.self.now.synced.objects refl

pub add-requires : goal.add-requires
add-requires c = none_of (finmap.get c.args.self.now.files.objects c.args.name.now) (sym c.stands.ensures ∙ c.if-stands.false)

pub returns-in-Ok-clause-step : goal.returns-in-Ok-clause-step
returns-in-Ok-clause-step c =
    added c.args.self.now.files.objects c.add.new.self.objects c.args.self.now.synced.objects c.args.name.now c.args.content.now (sym c.stands.ensures ∙ c.if-stands.false) c.in-Ok.ensures.ok

pub returns-in-Err-clause-step : goal.returns-in-Err-clause-step
returns-in-Err-clause-step c = same_more c.args.self.now.files.objects c.add.new.self.objects c.args.self.now.synced.objects c.in-Err.ensures.err
