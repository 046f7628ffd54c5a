use Rattle.std.proofs.Common.{ap, ◌∙◌}
use Rattle.meta_store.specs.Answers.{handed}
use Rattle.meta_store.proofs.meta.Meta.check_act.Goals as goal

pub returns-in_default : goal.returns-in_default
returns-in_default c = c.hand_back.ensures ∙ ap (handed c.args.reading) (c.check_unread.ensures c.args.reading)
