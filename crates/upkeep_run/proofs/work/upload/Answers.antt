use Rattle.std.proofs.Common.{◌∙◌, sym, subst, ap, List, ℕ, Ok, Err}
use Rattle.index_world.specs.Answering.{Answered, upload_answered}
use Rattle.index_world.specs.Asked.{Behind, UploadsFile}
use Rattle.index_world.specs.Core.{IsUnusedIn}
use Rattle.meta_journal.specs.Places.{split_key}
use Rattle.object_store.specs.Store.{WhereTold}
use Rattle.upkeep_run.specs.Ending.{EndsUpload}
use Rattle.upkeep_run.specs.Standing.{HoldsOwn, StepsAs}
use Rattle.upkeep_run.specs.Places.{staged}
use Rattle.upkeep_run.specs.declared.outcome.UpkeepOutcome.{UpkeepOutcome as Said}
use Rattle.upkeep_run.specs.declared.outcome.UpkeepOutcome.TheVariants as said
use Rattle.upkeep_run.proofs.Ended.{ends_by}
use Rattle.upkeep_run.proofs.Holding.{idle_owns, sound_legal}
use Rattle.upkeep_run.proofs.Stepping.{uploads, upload_fails}
use Rattle.upkeep_run.proofs.work.upload.Goals as goal

pub returns-in-Ok-clause-step : goal.returns-in-Ok-clause-step
returns-in-Ok-clause-step g c = λ aim core log held stands holds same file h.
    let bytes = c.as_slice.result.now in
    subst (λ k. StepsAs g.G.Gate.Stands g.G.Gate.Between g.G.Gate.Owns g.G.Gate.Adds aim (Ok (said.Uploaded c.args.staged.number)) (staged held) core log k c.args.gate.now c.upload.new.self) (sym c.put.ensures)
    (uploads g.G.Gate.Stands g.G.Gate.Between g.G.Gate.Owns g.G.Gate.Adds aim core log c.args.gate.now c.upload.new.self held c.args.staged.number bytes same (c.as_slice.ensures ∙ file) c.args.plan c.in-Ok.uploaded g.met.G.Gate.between_goes
    (λ after there. sound_legal after log (g.met.G.Gate.is_sound c.upload.new.self after log there)) holds h (c.in-Ok.ensures.step core log stands (subst (IsUnusedIn core) (sym same) h.unused)))

pub returns-in-Err-clause-step : goal.returns-in-Err-clause-step
returns-in-Err-clause-step g c = λ aim core log held stands holds same file h.
    let bytes = c.as_slice.result.now in
    upload_fails g.G.Gate.Stands g.G.Gate.Between g.G.Gate.Owns g.G.Gate.Adds aim core log c.args.gate.now c.upload.new.self held c.args.staged.number bytes same (c.as_slice.ensures ∙ file) c.args.place.now c.in-Err.error c.faulted.result c.requires.place
    c.faulted.ensures.trouble (c.in-Err.ensures.step core log stands (subst (IsUnusedIn core) (sym same) h.unused))

pub returns-in-Ok-clause-owns : goal.returns-in-Ok-clause-owns
returns-in-Ok-clause-owns g c = subst (HoldsOwn g.G.Gate.Owns c.upload.new.self) (sym c.put.ensures) tt

pub returns-in-Err-clause-owns : goal.returns-in-Err-clause-owns
returns-in-Err-clause-owns g c = idle_owns g.G.Gate.Owns c.upload.new.self c.args.place.now c.requires.place

pub returns-in-Ok-clause-ends : goal.returns-in-Ok-clause-ends
returns-in-Ok-clause-ends g c =
    let number = c.args.staged.number in (
      Ok c.in-Ok.uploaded,
      c.in-Ok.ensures.kinds,
      subst (λ (bytes : List ℕ). WhereTold (g.G.Gate.told c.args.gate.now) (g.G.Gate.told c.upload.new.self) (Behind (UploadsFile (split_key number) bytes (Ok c.in-Ok.uploaded)))) c.as_slice.ensures c.in-Ok.ensures.answers,
      subst (λ (bytes : List ℕ). g.G.Gate.Answers c.args.gate.now (upload_answered number bytes (Ok c.in-Ok.uploaded)) c.upload.new.self) c.as_slice.ensures c.in-Ok.ensures.answered,
      (ap said.Uploaded (sym c.in-Ok.ensures.kinds), c.put.ensures),
    )

pub returns-in-Err-clause-ends : goal.returns-in-Err-clause-ends
returns-in-Err-clause-ends g c =
    let number = c.args.staged.number in
    ends_by (EndsUpload (λ (call : Answered). g.G.Gate.Answers c.args.gate.now call c.upload.new.self) c.args.plan number c.args.bytes.now (g.G.Gate.told c.args.gate.now) (g.G.Gate.told c.upload.new.self)) c.faulted.result c.args.place.now c.requires.place (λ (outcome : Said) e. (
      Err c.in-Err.error,
      c.in-Err.ensures.kinds,
      subst (λ (bytes : List ℕ). WhereTold (g.G.Gate.told c.args.gate.now) (g.G.Gate.told c.upload.new.self) (Behind (UploadsFile (split_key number) bytes (Err c.in-Err.error)))) c.as_slice.ensures c.in-Err.ensures.answers,
      subst (λ (bytes : List ℕ). g.G.Gate.Answers c.args.gate.now (upload_answered number bytes (Err c.in-Err.error)) c.upload.new.self) c.as_slice.ensures c.in-Err.ensures.answered,
      (sym c.faulted.ensures.exact ∙ e, c.requires.place),
    ))
