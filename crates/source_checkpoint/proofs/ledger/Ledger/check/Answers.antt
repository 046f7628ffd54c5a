use Rattle.std.proofs.Common.{◌≡◌, [], List, ap, ap₂, ◌∙◌}
use Rattle.source_checkpoint.specs.declared.delta.Part.{Part}
use Rattle.source_checkpoint.specs.declared.ledger.Checkpoint.{Checkpoint}
use Rattle.source_checkpoint.specs.Deltas.{answer_to_admit}
use Rattle.source_checkpoint.specs.Checkpoints.{Checkpoints, checkpoint_at}
use Rattle.source_checkpoint.proofs.Answering.{admit_answer}
use Rattle.source_checkpoint.proofs.ledger.Ledger.check.Goals as goal

pub returns-clause-ok : goal.returns-clause-ok
returns-clause-ok c =
    let list : c.as_slice.result.now ≡ c.args.self.now.list = c.as_slice.ensures.value ∙ ap (λ (k : Checkpoints). k.list) c.self.view_is in
    let answer : c.check_parts.result ≡ answer_to_admit (checkpoint_at c.args.self.now.list) [] c.args.delta.now =
    c.check_parts.ensures ∙ ap₂ (λ (l : List Checkpoint) (d : List Part). answer_to_admit (checkpoint_at l) [] d) list c.as_slice-2.ensures in
    rw answer (admit_answer (checkpoint_at c.args.self.now.list) c.args.delta.now)
