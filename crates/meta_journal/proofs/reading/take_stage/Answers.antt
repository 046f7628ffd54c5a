use Rattle.std.proofs.Common.{refl}
use Rattle.meta_journal.specs.declared.reading.Kind.TheVariants.{Stage}
use Rattle.meta_journal.proofs.Acts.{stage_read}
use Rattle.meta_journal.proofs.reading.take_stage.Goals as goal

pub returns : goal.returns
returns c = record {
  exact = stage_read c.args.bytes.now Stage c.args.at c.in_ok-number.number c.in_ok-number.next c.in_ok-delta.delta c.in_ok-delta.next c.in_ok-facts.facts c.in_ok-facts.next
      refl c.in_ok-number.ensures.exact c.in_ok-delta.ensures.exact c.in_ok-facts.ensures.exact;
}
