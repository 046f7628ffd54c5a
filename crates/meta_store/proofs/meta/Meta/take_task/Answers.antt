use Rattle.std.proofs.Common.{◌≡◌, ◌≤◌, ◌+◌, ◌++◌, ◌∷◌, [], length, ap, ◌∙◌, refl, arith}
use Rattle.std.proofs.lemmas.List.{length_push}
use Rattle.meta_store.specs.Room.{Kept}
use Rattle.meta_store.specs.Tasks.{task_of}
use Rattle.delete_tasks.specs.Ledger.{last_of}
use Rattle.delete_tasks.specs.Removes.{DeleteTask}
use Rattle.delete_tasks.proofs.Last.{last_push}
use Rattle.meta_store.proofs.Fitting.{merged_more}
use Rattle.meta_store.proofs.meta.Meta.take_task.Goals as goal

pub invariant_of-self : goal.invariant_of-self
invariant_of-self c =
    let now : c.self.inside.revision ≡ c.args.self.now.state.revision = ap (λ (k : Kept). k.state.revision) c.self.view_is in
    let pushed : last_of c.add_reserved.new.self.list ≡ c.args.opstamp =
    ap last_of c.add_reserved.ensures ∙ (last_push c.self.inside.tasks.list c.task_read.result ∙ ap (λ (t : DeleteTask). t.opstamp) c.task_read.ensures) in
    let was : last_of c.self.inside.tasks.list ≡ c.args.self.now.state.last_opstamp = ap (λ (k : Kept). k.state.last_opstamp) c.self.view_is in
    let count : length c.self.inside.tasks.list ≡ length c.args.self.now.state.tasks = ap (λ (k : Kept). length k.state.tasks) c.self.view_is in
    let more : length c.add_reserved.new.self.list ≡ length c.self.inside.tasks.list + 1 = ap length c.add_reserved.ensures ∙ length_push c.self.inside.tasks.list c.task_read.result in (
      omega (arith, now, c.requires.few),
      omega (arith, c.self.invariant.1),
      (omega (arith, pushed, was, more, c.requires.next, c.self.invariant.2.0), omega (arith, more, count, c.requires.within)),
      c.self.invariant.3,
      merged_more c.self.inside.revision c.self.inside.rows.list c.self.invariant.4,
      c.self.invariant.5,
    )

pub returns : goal.returns
returns c =
    let pushed : last_of c.add_reserved.new.self.list ≡ c.args.opstamp =
    ap last_of c.add_reserved.ensures ∙ (last_push c.self.inside.tasks.list c.task_read.result ∙ ap (λ (t : DeleteTask). t.opstamp) c.task_read.ensures) in
    let kept : c.add_reserved.new.self.list ≡ c.self.inside.tasks.list ++ task_of c.args.opstamp c.args.reading.query c.args.times ∷ [] =
    c.add_reserved.ensures ∙ ap (λ (t : DeleteTask). c.self.inside.tasks.list ++ t ∷ []) c.task_read.ensures in
    rw (pushed, kept, c.push_reserved.ensures.items, c.max-self-inside.ensures, ← c.self.view_is) refl
