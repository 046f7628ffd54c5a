use Rattle.std.proofs.Common.{◌∙◌, sym, subst}
use Rattle.index_world.specs.Answering.{Answered}
use Rattle.index_world.specs.Core.{IsUnusedIn}
use Rattle.upkeep_run.specs.Ending.{Ends, EndsReplace}
use Rattle.upkeep_run.specs.Places.{WorkerPlace}
use Rattle.upkeep_run.specs.Standing.{HoldsOwn, PlaceStands, StepsAs}
use Rattle.upkeep_run.specs.declared.work.Aim.TheVariants.{Deleting}
use Rattle.upkeep_run.specs.declared.work.WorkerPlace.{WorkerPlace as HeldPlace}
use Rattle.upkeep_run.specs.declared.work.WorkerPlace.TheVariants as places
use Rattle.upkeep_run.proofs.Ended.{delete_ends}
use Rattle.upkeep_run.proofs.Holding.{idle_owns, may_replace}
use Rattle.upkeep_run.proofs.Corrupted.{corrupt_delete, plan_gives, replace_gives, upload_gives}
use Rattle.upkeep_run.proofs.delete_worker.DeleteWorker.step.Goals as goal

pub returns-in-Idle-clause-step : goal.returns-in-Idle-clause-step
returns-in-Idle-clause-step g c = λ place core log is s stands.
    let at = subst (λ k. PlaceStands Deleting log core k place) (sym c.replace.ensures.value ∙ c.in-Idle.is) s in
    subst (λ (p : WorkerPlace). StepsAs g.G.Gate.Stands g.G.Gate.Between g.G.Gate.Owns g.G.Gate.Adds Deleting c.plan.result p core log c.plan.new.place c.args.gate.now c.plan.new.gate) (sym at) (c.plan.ensures.step core log stands)

pub returns-in-Fetching-clause-step : goal.returns-in-Fetching-clause-step
returns-in-Fetching-clause-step g c = λ place core log is s stands.
    let at = subst (λ k. PlaceStands Deleting log core k place) (sym c.replace.ensures.value ∙ c.in-Fetching.is) s in
    subst (λ (p : WorkerPlace). StepsAs g.G.Gate.Stands g.G.Gate.Between g.G.Gate.Owns g.G.Gate.Adds Deleting c.work_on.result p core log c.work_on.new.self.place c.args.gate.now c.work_on.new.gate) (sym at.1) (c.work_on.ensures.step core log at.0 is stands at.2 at.3 at.4)

pub returns-in-Staged-clause-step : goal.returns-in-Staged-clause-step
returns-in-Staged-clause-step g c = λ place core log is s stands.
    let at = subst (λ k. PlaceStands Deleting log core k place) (sym c.replace.ensures.value ∙ c.in-Staged.is) s in
    subst (λ (p : WorkerPlace). StepsAs g.G.Gate.Stands g.G.Gate.Between g.G.Gate.Owns g.G.Gate.Adds Deleting c.upload.result p core log c.upload.new.place c.args.gate.now c.upload.new.gate) (sym at.1) (c.upload.ensures.step Deleting core log at.0 stands at.2 at.3 at.4 at.5)

pub returns-in-Uploaded-clause-step : goal.returns-in-Uploaded-clause-step
returns-in-Uploaded-clause-step g c = λ place core log is s stands.
    let at = subst (λ k. PlaceStands Deleting log core k place) (sym c.replace.ensures.value ∙ c.in-Uploaded.is) s in
    subst (λ (k : HeldPlace). StepsAs g.G.Gate.Stands g.G.Gate.Between g.G.Gate.Owns g.G.Gate.Adds Deleting c.replace_rows.result place core log k c.args.gate.now c.replace_rows.new.gate) (sym c.replace.ensures.after)
    (subst (λ (p : WorkerPlace). StepsAs g.G.Gate.Stands g.G.Gate.Between g.G.Gate.Owns g.G.Gate.Adds Deleting c.replace_rows.result p core log places.Idle c.args.gate.now c.replace_rows.new.gate) (sym at.1) (c.replace_rows.ensures.step Deleting core log at.0 stands at.2 at.2.upto at.3 at.4))

pub returns-in-Uploaded-clause-owns : goal.returns-in-Uploaded-clause-owns
returns-in-Uploaded-clause-owns g c = idle_owns g.G.Gate.Owns c.replace_rows.new.gate c.replace.new.dest c.replace.ensures.after

pub upload-requires-clause-owned : goal.upload-requires-clause-owned
upload-requires-clause-owned g c = subst (HoldsOwn g.G.Gate.Owns c.args.gate.now) (sym c.replace.ensures.value ∙ c.in-Staged.is) c.requires.owns

pub upload-requires-clause-begun : goal.upload-requires-clause-begun
upload-requires-clause-begun g c = λ log begins.
    let given = c.requires.begun log begins in
    let at = subst (λ k. PlaceStands Deleting log given.1 k given.0) (sym c.replace.ensures.value ∙ c.in-Staged.is) given.2 in
    (given.1, given.3, subst (IsUnusedIn given.1) (sym at.3) at.5.unused)

pub replace_rows-requires : goal.replace_rows-requires
replace_rows-requires g c = λ log begins.
    let given = c.requires.begun log begins in
    let at = subst (λ k. PlaceStands Deleting log given.1 k given.0) (sym c.replace.ensures.value ∙ c.in-Uploaded.is) given.2 in
    (given.1, given.3, may_replace log given.1 at.0 _ _ _ at.3 at.2.old at.2.upto at.4)

pub returns-in-Idle-clause-ends : goal.returns-in-Idle-clause-ends
returns-in-Idle-clause-ends g c = delete_ends g.G.Gate.told g.G.Gate.configured g.G.Gate.Answers c.args.self.now.place c.plan.result c.plan.new.place c.args.gate.now c.plan.new.gate places.Idle (sym c.replace.ensures.value ∙ c.in-Idle.is) c.plan.ensures.ends

pub returns-in-Fetching-clause-ends : goal.returns-in-Fetching-clause-ends
returns-in-Fetching-clause-ends g c =
    delete_ends g.G.Gate.told g.G.Gate.configured g.G.Gate.Answers c.args.self.now.place c.work_on.result c.work_on.new.self.place c.args.gate.now c.work_on.new.gate (places.Fetching c.in-Fetching.work) (sym c.replace.ensures.value ∙ c.in-Fetching.is) c.work_on.ensures.ends

pub returns-in-Staged-clause-ends : goal.returns-in-Staged-clause-ends
returns-in-Staged-clause-ends g c =
    delete_ends g.G.Gate.told g.G.Gate.configured g.G.Gate.Answers c.args.self.now.place c.upload.result c.upload.new.place c.args.gate.now c.upload.new.gate (places.Staged c.in-Staged.plan c.in-Staged.staged c.in-Staged.bytes) (sym c.replace.ensures.value ∙ c.in-Staged.is) c.upload.ensures.ends

pub returns-in-Uploaded-clause-ends : goal.returns-in-Uploaded-clause-ends
returns-in-Uploaded-clause-ends g c =
    delete_ends g.G.Gate.told g.G.Gate.configured g.G.Gate.Answers c.args.self.now.place c.replace_rows.result c.replace.new.dest c.args.gate.now c.replace_rows.new.gate (places.Uploaded c.in-Uploaded.plan c.in-Uploaded.uploaded) (sym c.replace.ensures.value ∙ c.in-Uploaded.is)
    (subst (λ (k : HeldPlace). Ends (EndsReplace c.in-Uploaded.plan.upto (λ (call : Answered). g.G.Gate.Answers c.args.gate.now call c.replace_rows.new.gate) c.in-Uploaded.plan c.in-Uploaded.uploaded.number) c.replace_rows.result k) (sym c.replace.ensures.after) c.replace_rows.ensures.ends)

pub work_on-requires-clause-begun : goal.work_on-requires-clause-begun
work_on-requires-clause-begun g c = λ log begins.
    let given = c.requires.begun log begins in
    let at = subst (λ k. PlaceStands Deleting log given.1 k given.0) (sym c.replace.ensures.value ∙ c.in-Fetching.is) given.2 in
    (given.1, at.0, at.2, at.3, at.4, given.3)

pub returns-in-Idle-clause-corrupt : goal.returns-in-Idle-clause-corrupt
returns-in-Idle-clause-corrupt g c =
    corrupt_delete g.G.Gate.configured g.G.Gate.Answers c.args.self.now.place c.plan.result c.args.gate.now c.plan.new.gate places.Idle (sym c.replace.ensures.value ∙ c.in-Idle.is)
    (plan_gives Deleting (λ (call : Answered). g.G.Gate.Answers c.args.gate.now call c.plan.new.gate) c.plan.result c.plan.new.place c.plan.ensures.ends)

pub returns-in-Fetching-clause-corrupt : goal.returns-in-Fetching-clause-corrupt
returns-in-Fetching-clause-corrupt g c =
    corrupt_delete g.G.Gate.configured g.G.Gate.Answers c.args.self.now.place c.work_on.result c.args.gate.now c.work_on.new.gate (places.Fetching c.in-Fetching.work) (sym c.replace.ensures.value ∙ c.in-Fetching.is) c.work_on.ensures.corrupt

pub returns-in-Staged-clause-corrupt : goal.returns-in-Staged-clause-corrupt
returns-in-Staged-clause-corrupt g c =
    corrupt_delete g.G.Gate.configured g.G.Gate.Answers c.args.self.now.place c.upload.result c.args.gate.now c.upload.new.gate (places.Staged c.in-Staged.plan c.in-Staged.staged c.in-Staged.bytes) (sym c.replace.ensures.value ∙ c.in-Staged.is)
    (upload_gives (λ (call : Answered). g.G.Gate.Answers c.args.gate.now call c.upload.new.gate) c.in-Staged.plan c.in-Staged.staged.number c.in-Staged.bytes (g.G.Gate.told c.args.gate.now) (g.G.Gate.told c.upload.new.gate) c.upload.result c.upload.new.place c.upload.ensures.ends)

pub returns-in-Uploaded-clause-corrupt : goal.returns-in-Uploaded-clause-corrupt
returns-in-Uploaded-clause-corrupt g c =
    corrupt_delete g.G.Gate.configured g.G.Gate.Answers c.args.self.now.place c.replace_rows.result c.args.gate.now c.replace_rows.new.gate (places.Uploaded c.in-Uploaded.plan c.in-Uploaded.uploaded) (sym c.replace.ensures.value ∙ c.in-Uploaded.is)
    (replace_gives c.in-Uploaded.plan.upto (λ (call : Answered). g.G.Gate.Answers c.args.gate.now call c.replace_rows.new.gate) c.in-Uploaded.plan c.in-Uploaded.uploaded.number c.replace_rows.result places.Idle c.replace_rows.ensures.ends)
