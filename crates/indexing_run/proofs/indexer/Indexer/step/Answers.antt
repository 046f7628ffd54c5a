use Rattle.std.proofs.Common.{◌∙◌, sym, subst}
use Rattle.indexing_run.specs.Places.{idle, reading, staged, uploaded}
use Rattle.indexing_run.specs.Standing.{PlaceStands, HoldsOwn}
use Rattle.indexing_run.proofs.Stepping.{set_idle, as_placed}
use Rattle.indexing_run.proofs.Holding.{held_is_publishable}
use Rattle.index_world.specs.Core.{IsUnusedIn}
use Rattle.index_world.specs.Gate.{IsPublishable}
use Rattle.indexing_run.specs.declared.indexer.IndexerPlace.TheVariants as places
use Rattle.indexing_run.proofs.Ended.{ends_from}
use Rattle.indexing_run.proofs.indexer.Indexer.step.Goals as goal

pub returns-in-Idle-clause-step : goal.returns-in-Idle-clause-step
returns-in-Idle-clause-step g c = λ indexer core read s stands.
    let before = set_idle g.L.SourceLog.told g.L.SourceLog.fault_count c.args.self.now indexer core read c.replace.new.dest c.replace.ensures.after s in
    let place = subst (λ k. PlaceStands read core k indexer.place) (sym c.replace.ensures.value ∙ c.in-Idle.is) s.place in
    as_placed g.L.SourceLog.told g.L.SourceLog.fault_count g.G.Gate.Stands g.G.Gate.Between g.G.Gate.Owns g.G.Gate.Adds c.take_checkpoints.result indexer core read c.take_checkpoints.new.self c.args.gate.now c.take_checkpoints.new.gate idle place
    (c.take_checkpoints.ensures.step indexer core read before stands)

pub returns-in-Reading-clause-step : goal.returns-in-Reading-clause-step
returns-in-Reading-clause-step g c = λ indexer core read s stands.
    let before = set_idle g.L.SourceLog.told g.L.SourceLog.fault_count c.args.self.now indexer core read c.replace.new.dest c.replace.ensures.after s in
    let place = subst (λ k. PlaceStands read core k indexer.place) (sym c.replace.ensures.value ∙ c.in-Reading.is) s.place in
    as_placed g.L.SourceLog.told g.L.SourceLog.fault_count g.G.Gate.Stands g.G.Gate.Between g.G.Gate.Owns g.G.Gate.Adds c.go_on.result indexer core read c.go_on.new.self c.args.gate.now c.go_on.new.gate (reading place.0) place.1
    (c.go_on.ensures.step indexer core read place.0 before stands place.2 place.3 place.4)

pub returns-in-Staged-clause-step : goal.returns-in-Staged-clause-step
returns-in-Staged-clause-step g c = λ indexer core read s stands.
    let before = set_idle g.L.SourceLog.told g.L.SourceLog.fault_count c.args.self.now indexer core read c.replace.new.dest c.replace.ensures.after s in
    let place = subst (λ k. PlaceStands read core k indexer.place) (sym c.replace.ensures.value ∙ c.in-Staged.is) s.place in
    as_placed g.L.SourceLog.told g.L.SourceLog.fault_count g.G.Gate.Stands g.G.Gate.Between g.G.Gate.Owns g.G.Gate.Adds c.upload.result indexer core read c.upload.new.self c.args.gate.now c.upload.new.gate (staged place.0) place.1
    (c.upload.ensures.step indexer core read place.0 before stands place.2 place.3 place.4)

pub returns-in-Uploaded-clause-step : goal.returns-in-Uploaded-clause-step
returns-in-Uploaded-clause-step g c = λ indexer core read s stands.
    let before = set_idle g.L.SourceLog.told g.L.SourceLog.fault_count c.args.self.now indexer core read c.replace.new.dest c.replace.ensures.after s in
    let place = subst (λ k. PlaceStands read core k indexer.place) (sym c.replace.ensures.value ∙ c.in-Uploaded.is) s.place in
    as_placed g.L.SourceLog.told g.L.SourceLog.fault_count g.G.Gate.Stands g.G.Gate.Between g.G.Gate.Owns g.G.Gate.Adds c.publish.result indexer core read c.publish.new.self c.args.gate.now c.publish.new.gate (uploaded place.0) place.1
    (c.publish.ensures.step indexer core read place.0 before stands place.2 place.3)

pub returns-in-Idle-clause-owns : goal.returns-in-Idle-clause-owns
returns-in-Idle-clause-owns g c = c.take_checkpoints.ensures.owns (subst (HoldsOwn g.G.Gate.Owns c.args.gate.now) (sym c.replace.ensures.after) tt)

pub returns-in-Reading-clause-owns : goal.returns-in-Reading-clause-owns
returns-in-Reading-clause-owns g c = c.go_on.ensures.owns (subst (HoldsOwn g.G.Gate.Owns c.args.gate.now) (sym c.replace.ensures.after) tt)

pub returns-in-Staged-clause-owns : goal.returns-in-Staged-clause-owns
returns-in-Staged-clause-owns g c = c.upload.ensures.owns (subst (HoldsOwn g.G.Gate.Owns c.args.gate.now) (sym c.replace.ensures.after) tt)

pub returns-in-Uploaded-clause-owns : goal.returns-in-Uploaded-clause-owns
returns-in-Uploaded-clause-owns g c = c.publish.ensures.owns (subst (HoldsOwn g.G.Gate.Owns c.args.gate.now) (sym c.replace.ensures.after) tt)

pub upload-requires-clause-owned : goal.upload-requires-clause-owned
upload-requires-clause-owned g c = subst (HoldsOwn g.G.Gate.Owns c.args.gate.now) (sym c.replace.ensures.value ∙ c.in-Staged.is) c.requires.owns

pub upload-requires-clause-begun : goal.upload-requires-clause-begun
upload-requires-clause-begun g c = λ read begins.
    let given = c.requires.begun read begins in
    let place = subst (λ k. PlaceStands read given.1 k given.0.place) (sym c.replace.ensures.value ∙ c.in-Staged.is) given.2.place in
    (given.1, given.3, subst (IsUnusedIn given.1) (sym place.2) place.4.unused)

pub publish-requires : goal.publish-requires
publish-requires g c = λ read begins.
    let given = c.requires.begun read begins in
    let place = subst (λ k. PlaceStands read given.1 k given.0.place) (sym c.replace.ensures.value ∙ c.in-Uploaded.is) given.2.place in
    (given.1, given.3, subst (IsPublishable read given.1) (sym place.2) (held_is_publishable read given.1 place.0 place.3))

pub returns-in-Idle-clause-ends : goal.returns-in-Idle-clause-ends
returns-in-Idle-clause-ends g c =
    ends_from g.L.SourceLog.told g.L.SourceLog.fault_count g.G.Gate.told g.G.Gate.configured g.G.Gate.Answers c.args.self.now c.take_checkpoints.result c.take_checkpoints.new.self c.args.gate.now c.take_checkpoints.new.gate places.Idle (sym c.replace.ensures.value ∙ c.in-Idle.is)
    c.take_checkpoints.ensures.assignment (c.take_checkpoints.ensures.ends c.replace.ensures.after)

pub returns-in-Reading-clause-ends : goal.returns-in-Reading-clause-ends
returns-in-Reading-clause-ends g c =
    ends_from g.L.SourceLog.told g.L.SourceLog.fault_count g.G.Gate.told g.G.Gate.configured g.G.Gate.Answers c.args.self.now c.go_on.result c.go_on.new.self c.args.gate.now c.go_on.new.gate (places.Reading c.in-Reading.batch) (sym c.replace.ensures.value ∙ c.in-Reading.is)
    c.go_on.ensures.assignment (c.go_on.ensures.ends c.replace.ensures.after)

pub returns-in-Staged-clause-ends : goal.returns-in-Staged-clause-ends
returns-in-Staged-clause-ends g c =
    ends_from g.L.SourceLog.told g.L.SourceLog.fault_count g.G.Gate.told g.G.Gate.configured g.G.Gate.Answers c.args.self.now c.upload.result c.upload.new.self c.args.gate.now c.upload.new.gate (places.Staged c.in-Staged.staged c.in-Staged.bytes) (sym c.replace.ensures.value ∙ c.in-Staged.is)
    c.upload.ensures.assignment (c.upload.ensures.ends c.replace.ensures.after)

pub returns-in-Uploaded-clause-ends : goal.returns-in-Uploaded-clause-ends
returns-in-Uploaded-clause-ends g c =
    ends_from g.L.SourceLog.told g.L.SourceLog.fault_count g.G.Gate.told g.G.Gate.configured g.G.Gate.Answers c.args.self.now c.publish.result c.publish.new.self c.args.gate.now c.publish.new.gate (places.Uploaded c.in-Uploaded.uploaded) (sym c.replace.ensures.value ∙ c.in-Uploaded.is)
    c.publish.ensures.assignment (c.publish.ensures.ends c.replace.ensures.after)
