use Rattle.std.proofs.Common.{ap, sym, ◌∙◌}
use Rattle.meta_journal.specs.declared.entry.Act.{Act}
use Rattle.meta_store.specs.History.{at}
use Rattle.meta_store.specs.State.{after}
use Rattle.meta_store.proofs.meta.Meta.take_unread.Goals as goal

pub returns-in-Fence : goal.returns-in-Fence
returns-in-Fence c reading = c.take_fence.ensures reading ∙ ap (λ (act : Act). after reading (at c.args.moment act) c.args.self.now.state) (sym c.in-Fence.is)

pub returns-in-Publish : goal.returns-in-Publish
returns-in-Publish c reading = c.take_publish.ensures reading ∙ ap (λ (act : Act). after reading (at c.args.moment act) c.args.self.now.state) (sym c.in-Publish.is)

pub returns-in-Raise : goal.returns-in-Raise
returns-in-Raise c reading = c.take_raise.ensures reading ∙ ap (λ (act : Act). after reading (at c.args.moment act) c.args.self.now.state) (sym c.in-Raise.is)

pub returns-in-MarkStaged : goal.returns-in-MarkStaged
returns-in-MarkStaged c reading = c.take_marked.ensures reading ∙ ap (λ (act : Act). after reading (at c.args.moment act) c.args.self.now.state) (sym c.in-MarkStaged.is)

pub returns-in-Remove : goal.returns-in-Remove
returns-in-Remove c reading = c.take_removed.ensures reading ∙ ap (λ (act : Act). after reading (at c.args.moment act) c.args.self.now.state) (sym c.in-Remove.is)

pub returns-in-Retire : goal.returns-in-Retire
returns-in-Retire c reading = c.take_retired.ensures reading ∙ ap (λ (act : Act). after reading (at c.args.moment act) c.args.self.now.state) (sym c.in-Retire.is)

pub returns-in-Stage : goal.returns-in-Stage
returns-in-Stage c reading = c.take_stage.ensures reading ∙ ap (λ (act : Act). after reading (at c.args.moment act) c.args.self.now.state) (sym c.in-Stage.is)

pub returns-in-Replace : goal.returns-in-Replace
returns-in-Replace c reading = c.take_replace.ensures reading ∙ ap (λ (act : Act). after reading (at c.args.moment act) c.args.self.now.state) (sym c.in-Replace.is)
