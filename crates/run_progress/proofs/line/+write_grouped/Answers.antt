use Rattle.std.proofs.Common.{rules, sym}
use Rattle.std.proofs.Output.{has_written_append, has_written_of_eq}
use Rattle.run_progress.proofs.Grouping.{grouped_within-high}
use Rattle.run_progress.proofs.line.+write_grouped.Goals as goal

pub returns : goal.returns
returns g t c plain ok =
    let front = c.write_grouped.ensures plain (search rules) in
    let group = c.write_group.ensures front.plain ok in
    has_written_of_eq _ _ _ _ _ (sym (grouped_within-high c.args.commas c.args.number c.if-commas-eq0.false c.if-number-lt1000.false)) (has_written_append _ _ _ _ _ _ front group)
