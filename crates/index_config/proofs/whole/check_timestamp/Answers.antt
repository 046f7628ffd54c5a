use Rattle.index_config.proofs.whole.check_timestamp.Goals as goal

pub returns-in_default : goal.returns-in_default
returns-in_default c = rw (← c.in_default.ensures, ← c.has_retention.ensures) (c.no_timestamp.ensures c.args.raws.now)
