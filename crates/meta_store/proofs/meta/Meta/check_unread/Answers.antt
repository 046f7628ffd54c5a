use Rattle.std.proofs.Common.{ap, sym, ◌∙◌}
use Rattle.meta_journal.specs.declared.entry.Act.{Act}
use Rattle.meta_store.specs.Answers.{answer_behind}
use Rattle.meta_store.proofs.meta.Meta.check_unread.Goals as goal

pub returns-in-Fence : goal.returns-in-Fence
returns-in-Fence c reading = ap (λ (act : Act). answer_behind reading c.args.settings.now c.args.self.now.state c.args.moment act) (sym c.in-Fence.is)

pub returns-in-Stage : goal.returns-in-Stage
returns-in-Stage c reading = c.check_stage.ensures ∙ ap (λ (act : Act). answer_behind reading c.args.settings.now c.args.self.now.state c.args.moment act) (sym c.in-Stage.is)

pub returns-in-Publish : goal.returns-in-Publish
returns-in-Publish c reading = c.check_publish.ensures ∙ ap (λ (act : Act). answer_behind reading c.args.settings.now c.args.self.now.state c.args.moment act) (sym c.in-Publish.is)

pub returns-in-Replace : goal.returns-in-Replace
returns-in-Replace c reading = c.check_replace.ensures ∙ ap (λ (act : Act). answer_behind reading c.args.settings.now c.args.self.now.state c.args.moment act) (sym c.in-Replace.is)

pub returns-in-Raise : goal.returns-in-Raise
returns-in-Raise c reading = c.check_raise.ensures ∙ ap (λ (act : Act). answer_behind reading c.args.settings.now c.args.self.now.state c.args.moment act) (sym c.in-Raise.is)

pub returns-in-MarkStaged : goal.returns-in-MarkStaged
returns-in-MarkStaged c reading = c.check_marked.ensures ∙ ap (λ (act : Act). answer_behind reading c.args.settings.now c.args.self.now.state c.args.moment act) (sym c.in-MarkStaged.is)

pub returns-in-Remove : goal.returns-in-Remove
returns-in-Remove c reading = c.check_removed.ensures ∙ ap (λ (act : Act). answer_behind reading c.args.settings.now c.args.self.now.state c.args.moment act) (sym c.in-Remove.is)

pub returns-in-Retire : goal.returns-in-Retire
returns-in-Retire c reading = c.check_retired.ensures ∙ ap (λ (act : Act). answer_behind reading c.args.settings.now c.args.self.now.state c.args.moment act) (sym c.in-Retire.is)
