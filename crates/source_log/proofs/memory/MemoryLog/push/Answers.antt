use Rattle.source_log.proofs.Pushed.{pushed_log, pushed_this, pushed_others}
use Rattle.source_log.proofs.memory.MemoryLog.push.Goals as goal

pub invariant_of-self : goal.invariant_of-self
invariant_of-self c =
    pushed_log c.args.partition.now c.in_ok-held.held c.self.inside.parts.items c.add_record.new.parts.items c.add_record.result
    c.add_record.ensures.named c.self.invariant c.add_record.ensures.ok c.add_record.ensures.room c.add_record.ensures.err

pub returns-clause-this : goal.returns-clause-this
returns-clause-this c =
    rw (← c.self.view_is, ← c.in_ok-held.ensures) (pushed_this c.args.partition.now c.in_ok-held.held c.self.inside.parts.items c.add_record.new.parts.items c.add_record.result c.self.invariant c.add_record.ensures.ok)

pub returns-clause-others : goal.returns-clause-others
returns-clause-others c =
    rw (← c.self.view_is) (pushed_others c.args.partition.now c.in_ok-held.held c.self.inside.parts.items c.add_record.new.parts.items c.add_record.result c.add_record.ensures.ok)
