use Rattle.std.proofs.Common.{◌∙◌, sym}
use Rattle.fast_fields.proofs.Gathered.{last_behind}
use Rattle.fast_fields.proofs.texts.stands_behind.Goals as goal

pub returns-in-Some : goal.returns-in-Some
returns-in-Some c = c.is_below.ensures ∙ sym (last_behind c.args.texts.now c.in-Some.last.now c.args.text.now c.in-Some.ensures.value)
