use Rattle.real_edge.proofs.Meetings.{covers_walk}
use Rattle.real_edge.proofs.object_calls.rested.Goals as goal

pub returns-then-rest-clause-covers : goal.returns-then-rest-clause-covers
returns-then-rest-clause-covers g c = covers_walk (g.D.Disk.told c.args.disk.now) c.args.walk c.rest.new.self c.rest.ensures.prefix c.rest.ensures.after c.rest.ensures.waiting c.requires
