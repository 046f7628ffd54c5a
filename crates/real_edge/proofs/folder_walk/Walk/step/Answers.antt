use Rattle.std.proofs.Common.{◌∷◌, refl}
use Rattle.real_edge.specs.Walk.{Covers, IsCovering}
use Rattle.real_edge.proofs.Wheres.{if_map}
use Rattle.real_edge.proofs.Ordered.{covers_popped}
use Rattle.real_edge.proofs.Meetings.{goes_of, goes_ended, covers_any}
use Rattle.real_edge.proofs.folder_walk.Walk.step.Goals as goal

pub look_at-requires : goal.look_at-requires
look_at-requires g c =
    let old = c.args.self.now in
    record {
      first = c.in-Some.ensures.first;
      covers = if_map (g.D.Disk.told c.args.disk.now) {Q = IsCovering old} {R = Covers old.prefix old.after (c.in-Some.next ∷ c.pop.new.self)} (λ f h. covers_popped old.prefix old.after old.waiting c.pop.new.self c.in-Some.next f c.in-Some.ensures.rest h) c.requires;
    }

pub returns-in-Some-clause-goes : goal.returns-in-Some-clause-goes
returns-in-Some-clause-goes g c = goes_of (g.D.Disk.told c.args.disk.now) c.look_at.result c.args.keys.now c.look_at.new.keys (record c.args.self.now { waiting = c.pop.new.self }) c.args.self.now c.look_at.new.self refl refl c.look_at.ensures.goes

pub returns-in-None-clause-goes : goal.returns-in-None-clause-goes
returns-in-None-clause-goes g c =
    let old = c.args.self.now in
    goes_ended (g.D.Disk.told c.args.disk.now) old (record old { waiting = c.pop.new.self }) c.args.keys.now c.in-None.ensures.none refl refl (λ f h. covers_any old.prefix old.after c.pop.new.self f h) c.requires
