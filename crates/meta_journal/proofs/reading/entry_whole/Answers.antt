use Rattle.meta_journal.proofs.Acts.{whole_read, more_behind}
use Rattle.meta_journal.proofs.reading.entry_whole.Goals as goal

pub returns : goal.returns
returns c = whole_read c.args.bytes.now c.in_ok-kind.kind c.in_ok-moment.moment c.in_ok-moment.next c.in_ok-act.act c.in_ok-act.next c.in_ok-kind.ensures.exact c.in_ok-moment.ensures.exact c.in_ok-act.ensures.exact c.if-next-bytes.false

pub returns-then-next-bytes : goal.returns-then-next-bytes
returns-then-next-bytes c = more_behind c.args.bytes.now c.in_ok-kind.kind c.in_ok-moment.moment c.in_ok-moment.next c.in_ok-act.act c.in_ok-act.next c.in_ok-kind.ensures.exact c.in_ok-moment.ensures.exact c.in_ok-act.ensures.exact c.if-next-bytes.true
