use Rattle.thread_run.proofs.EndTexts.{put_text}
use Rattle.thread_run.proofs.end_lines.end_line.Goals as goal

pub returns-then-branch : goal.returns-then-branch
returns-then-branch c = put_text c.args.end.now c.in_ok-put_end.field-0 c.vacant-bytes.result c.put_end.new.out c.vacant-bytes.ensures c.if-branch.true c.in_ok-put_end.ensures
