use Rattle.std.proofs.Common.{rules}
use Rattle.turn_lock.proofs.Keeps.{splits}
use Rattle.turn_lock.proofs.lock.TurnLock.split.Goals as goal

pub split_seat-seat-requires : goal.split_seat-seat-requires
split_seat-seat-requires g c = let t = g.V.HasHistory in (search rules, search rules, splits t.start t.history t.stands t.rests _ _ _ _ c.requires.some c.requires.idle.1 c.args.pass.now.alive)
