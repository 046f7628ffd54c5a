use Rattle.std.proofs.Common.{ℕ, List, refl, sym, ap, ◌∙◌}
use Rattle.std.specs.FinMap as finmap
use Rattle.real_edge.proofs.Lasting.{none_of, linked, unlinked, same_more}
use Rattle.real_edge.proofs.memory_disk.MemoryDiskDisk.link.Goals as goal

pub returns-then-is_err-clause-step : goal.returns-then-is_err-clause-step
returns-then-is_err-clause-step c = unlinked c.args.self.now.files.objects c.args.self.now.synced.objects c.args.to.now (finmap.get c.args.self.now.files.objects c.args.from.now)

pub returns-then-stands-clause-step : goal.returns-then-stands-clause-step
returns-then-stands-clause-step c = (sym c.stands.ensures ∙ c.if-stands.true, refl, λ f left. left)

pub returns-in-Err-clause-step : goal.returns-in-Err-clause-step
returns-in-Err-clause-step c = same_more c.args.self.now.files.objects c.args.self.now.files.objects c.args.self.now.synced.objects refl

pub returns-in_default-clause-step : goal.returns-in_default-clause-step
returns-in_default-clause-step c = unlinked c.args.self.now.files.objects c.args.self.now.synced.objects c.args.to.now (finmap.get c.args.self.now.files.objects c.args.from.now)

pub add-requires : goal.add-requires
add-requires c = none_of (finmap.get c.args.self.now.files.objects c.args.to.now) (sym c.stands.ensures ∙ c.if-stands.false)

pub returns-in-Ok-add-clause-step : goal.returns-in-Ok-add-clause-step
returns-in-Ok-add-clause-step c =
    linked c.args.self.now.files.objects c.add.new.self.objects c.args.self.now.synced.objects c.args.from.now c.args.to.now c.in-Some.content (sym c.stands.ensures ∙ c.if-stands.false) (sym c.in-Some.is ∙ c.in-Ok.ensures)
    (c.in-Ok-add.ensures.ok ∙ ap (λ (x : List ℕ). finmap.insert c.args.self.now.files.objects c.args.to.now x) c.as_slice.ensures)

pub returns-clause-step : goal.returns-clause-step
returns-clause-step c = same_more c.args.self.now.files.objects c.add.new.self.objects c.args.self.now.synced.objects c.in-Err-add.ensures.err
