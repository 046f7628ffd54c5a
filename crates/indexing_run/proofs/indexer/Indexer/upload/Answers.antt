use Rattle.std.proofs.Common.{◌∙◌, sym, subst, List, ℕ, ap, Ok, Err}
use Rattle.index_world.specs.Core.{IsUnusedIn}
use Rattle.indexing_run.specs.Standing.{HoldsOwn}
use Rattle.indexing_run.specs.declared.indexer.IndexerPlace.TheVariants as places
use Rattle.indexing_run.proofs.Stepping.{as_put, uploads, upload_fails}
use Rattle.indexing_run.proofs.Holding.{own_later}
use Rattle.meta_journal.specs.Places.{split_key}
use Rattle.object_store.specs.Store.{WhereTold}
use Rattle.index_world.specs.Asked.{Behind, UploadsFile}
use Rattle.indexing_run.specs.declared.outcome.IndexerOutcome.{IndexerOutcome as Said}
use Rattle.indexing_run.specs.declared.outcome.IndexerOutcome.TheVariants as said
use Rattle.indexing_run.specs.Ending.{EndsUpload}
use Rattle.indexing_run.proofs.Ended.{ends_by}
use Rattle.index_world.specs.Answering.{Answered, upload_answered}
use Rattle.indexing_run.proofs.indexer.Indexer.upload.Goals as goal

pub returns-in-Ok-clause-step : goal.returns-in-Ok-clause-step
returns-in-Ok-clause-step g c = λ indexer core read held s stands same file h.
    let e = c.in-Ok.ensures.step core read stands (subst (IsUnusedIn core) (sym same) h.unused) in
    as_put c.args.self.now (places.Uploaded c.in-Ok.uploaded) c.put.new.place c.put.ensures
    (uploads g.L.SourceLog.told g.L.SourceLog.fault_count g.G.Gate.Stands g.G.Gate.Between g.G.Gate.Owns g.G.Gate.Adds indexer core read c.args.self.now c.args.gate.now c.upload.new.self s held c.args.staged.number c.as_slice.result.now same
    (c.as_slice.ensures ∙ file) c.in-Ok.uploaded g.met.G.Gate.between_goes h e)

pub returns-in-Err-clause-step : goal.returns-in-Err-clause-step
returns-in-Err-clause-step g c = λ indexer core read held s stands same file h.
    let e = c.in-Err.ensures.step core read stands (subst (IsUnusedIn core) (sym same) h.unused) in
    upload_fails g.L.SourceLog.told g.L.SourceLog.fault_count g.G.Gate.Stands g.G.Gate.Between g.G.Gate.Owns g.G.Gate.Adds indexer core read c.args.self.now c.args.gate.now c.upload.new.self s held c.args.staged.number c.as_slice.result.now same
    (c.as_slice.ensures ∙ file) c.in-Err.error c.faulted.result c.faulted.ensures.trouble e

pub returns-in-Err-clause-owns : goal.returns-in-Err-clause-owns
returns-in-Err-clause-owns g c = λ h. own_later g.G.Gate.Owns g.G.Gate.since g.met.G.Gate.since_owns c.args.gate.now c.upload.new.self c.args.self.now.place c.upload.ensures.later h

pub returns-in-Ok-clause-owns : goal.returns-in-Ok-clause-owns
returns-in-Ok-clause-owns g c = λ h. subst (HoldsOwn g.G.Gate.Owns c.upload.new.self) (sym c.put.ensures) tt

pub returns-in-Ok-clause-later : goal.returns-in-Ok-clause-later
returns-in-Ok-clause-later g c = g.met.L.SourceLog.since_itself c.args.self.now.log

pub returns-in-Err-clause-later : goal.returns-in-Err-clause-later
returns-in-Err-clause-later g c = g.met.L.SourceLog.since_itself c.args.self.now.log

pub returns-in-Ok-clause-later_gate : goal.returns-in-Ok-clause-later_gate
returns-in-Ok-clause-later_gate g c = c.upload.ensures.later

pub returns-in-Err-clause-later_gate : goal.returns-in-Err-clause-later_gate
returns-in-Err-clause-later_gate g c = c.upload.ensures.later

pub returns-in-Ok-clause-ends : goal.returns-in-Ok-clause-ends
returns-in-Ok-clause-ends g c = λ idle.
    let number = c.args.staged.number in (
      Ok c.in-Ok.uploaded,
      c.in-Ok.ensures.kinds,
      subst (λ (bytes : List ℕ). WhereTold (g.G.Gate.told c.args.gate.now) (g.G.Gate.told c.upload.new.self) (Behind (UploadsFile (split_key number) bytes (Ok c.in-Ok.uploaded)))) c.as_slice.ensures c.in-Ok.ensures.answers,
      subst (λ (bytes : List ℕ). g.G.Gate.Answers c.args.gate.now (upload_answered number bytes (Ok c.in-Ok.uploaded)) c.upload.new.self) c.as_slice.ensures c.in-Ok.ensures.answered,
      (ap said.Uploaded (sym c.in-Ok.ensures.kinds), c.put.ensures),
    )

pub returns-in-Err-clause-ends : goal.returns-in-Err-clause-ends
returns-in-Err-clause-ends g c = λ idle.
    let number = c.args.staged.number in
    ends_by (EndsUpload (λ (call : Answered). g.G.Gate.Answers c.args.gate.now call c.upload.new.self) number c.args.bytes.now (g.G.Gate.told c.args.gate.now) (g.G.Gate.told c.upload.new.self)) c.faulted.result c.args.self.now.place idle (λ (outcome : Said) e. (
      Err c.in-Err.error,
      c.in-Err.ensures.kinds,
      subst (λ (bytes : List ℕ). WhereTold (g.G.Gate.told c.args.gate.now) (g.G.Gate.told c.upload.new.self) (Behind (UploadsFile (split_key number) bytes (Err c.in-Err.error)))) c.as_slice.ensures c.in-Err.ensures.answers,
      subst (λ (bytes : List ℕ). g.G.Gate.Answers c.args.gate.now (upload_answered number bytes (Err c.in-Err.error)) c.upload.new.self) c.as_slice.ensures c.in-Err.ensures.answered,
      (sym c.faulted.ensures.exact ∙ e, idle),
    ))
