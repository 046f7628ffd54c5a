use Rattle.std.proofs.Common.{◌≡◌, ◌-◌, ◌∙◌, ap, subst, ℕ, List, Option}
use Rattle.std.specs.Prelude.{min, IfSome}
use Rattle.source_log.specs.Log.{IsSliceOf}
use Rattle.real_edge.specs.Growing.{Grown, bytes_of}
use Rattle.real_edge.specs.Lines.{records_in}
use Rattle.real_edge.proofs.Logs.{told-sound, told-slice}
use Rattle.real_edge.proofs.file_log.FileLogSourceLog.read.Goals as goal

pub returns-in-Ok-clause-slice : goal.returns-in-Ok-clause-slice
returns-in-Ok-clause-slice g c =
    let told : Option (List Grown) = g.G.GrowingFiles.told c.args.self.now.files in
    let same : g.G.GrowingFiles.told c.is_passed_over.new.self.files ≡ told = ap g.G.GrowingFiles.told c.is_passed_over.ensures.files in
    told-slice told (g.G.GrowingFiles.told c.records.new.self.files) c.args.partition.now c.args.from c.min-most.result c.args.max c.in-Ok.records
    (c.in-Ok.ensures.same ∙ same) (c.min-most.ensures ∙ ap (λ (n : ℕ). min n (18446744073709551615 - c.args.from)) c.from.ensures) (g.met.G.GrowingFiles.sound c.args.self.now.files)
    (subst (λ (o : Option (List Grown)). IfSome o (λ files. IsSliceOf (records_in (bytes_of files c.args.partition.now)) c.args.from c.min-most.result c.in-Ok.records)) same c.in-Ok.ensures.slice)

pub returns-in-Ok-clause-sound : goal.returns-in-Ok-clause-sound
returns-in-Ok-clause-sound g c = told-sound (g.G.GrowingFiles.told c.records.new.self.files) (g.met.G.GrowingFiles.sound c.records.new.self.files)

pub returns-after-not-is_memory-clause-sound : goal.returns-after-not-is_memory-clause-sound
returns-after-not-is_memory-clause-sound g c = told-sound (g.G.GrowingFiles.told c.failed.new.self.files) (g.met.G.GrowingFiles.sound c.failed.new.self.files)
