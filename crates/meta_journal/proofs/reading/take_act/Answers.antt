use Rattle.meta_journal.proofs.Acts.{fence_read, create_read, publish_read, replace_read, raise_read, marked_read, removed_read, retired_read}
use Rattle.meta_journal.proofs.reading.take_act.Goals as goal

pub returns-in-Fence : goal.returns-in-Fence
returns-in-Fence c = record { exact = fence_read c.args.bytes.now c.args.kind c.args.at c.in-Fence.is }

pub returns-in_ok-config-in-Create-2 : goal.returns-in_ok-config-in-Create-2
returns-in_ok-config-in-Create-2 c = record {
  exact = create_read c.args.bytes.now c.args.kind c.args.at c.in_ok-config-in-Create.config.now c.in_ok-config-in-Create-2.config c.in_ok-config-in-Create.next c.in-Create.is c.in_ok-config-in-Create.ensures.exact c.in_ok-config-in-Create-2.ensures;
}

pub returns-in_ok-number-in-Publish : goal.returns-in_ok-number-in-Publish
returns-in_ok-number-in-Publish c = record { exact = publish_read c.args.bytes.now c.args.kind c.args.at c.in_ok-number-in-Publish.number c.in_ok-number-in-Publish.next c.in-Publish.is c.in_ok-number-in-Publish.ensures.exact }

pub returns-in_ok-upto-in-Replace : goal.returns-in_ok-upto-in-Replace
returns-in_ok-upto-in-Replace c = record {
  exact = replace_read c.args.bytes.now c.args.kind c.args.at c.in_ok-new-in-Replace.new c.in_ok-new-in-Replace.next c.in_ok-upto-in-Replace.upto c.in_ok-old-in-Replace.next c.in_ok-old-in-Replace.old c.in_ok-upto-in-Replace.next
      c.in-Replace.is c.in_ok-new-in-Replace.ensures.exact c.in_ok-old-in-Replace.ensures.exact c.in_ok-upto-in-Replace.ensures.exact;
}

pub returns-in_ok-upto-in-Raise : goal.returns-in_ok-upto-in-Raise
returns-in_ok-upto-in-Raise c = record {
  exact = raise_read c.args.bytes.now c.args.kind c.args.at c.in_ok-number-in-Raise.number c.in_ok-number-in-Raise.next c.in_ok-upto-in-Raise.upto c.in_ok-upto-in-Raise.next
      c.in-Raise.is c.in_ok-number-in-Raise.ensures.exact c.in_ok-upto-in-Raise.ensures.exact;
}

pub returns-in_ok-numbers-in-MarkStaged : goal.returns-in_ok-numbers-in-MarkStaged
returns-in_ok-numbers-in-MarkStaged c = record { exact = marked_read c.args.bytes.now c.args.kind c.args.at c.in_ok-numbers-in-MarkStaged.numbers c.in_ok-numbers-in-MarkStaged.next c.in_ok-numbers-in-MarkStaged.ensures.exact c.in-MarkStaged.is }

pub returns-in_ok-numbers-in-Remove : goal.returns-in_ok-numbers-in-Remove
returns-in_ok-numbers-in-Remove c = record { exact = removed_read c.args.bytes.now c.args.kind c.args.at c.in_ok-numbers-in-Remove.numbers c.in_ok-numbers-in-Remove.next c.in_ok-numbers-in-Remove.ensures.exact c.in-Remove.is }

pub returns-in_ok-numbers-in-Retire : goal.returns-in_ok-numbers-in-Retire
returns-in_ok-numbers-in-Retire c = record { exact = retired_read c.args.bytes.now c.args.kind c.args.at c.in_ok-numbers-in-Retire.numbers c.in_ok-numbers-in-Retire.next c.in_ok-numbers-in-Retire.ensures.exact c.in-Retire.is }
