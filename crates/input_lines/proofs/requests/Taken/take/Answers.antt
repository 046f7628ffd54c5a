use Rattle.std.proofs.Common.{refl, ap, ◌∙◌, length, ◌+◌}
use Rattle.std.specs.Prelude.{if◌then◌else◌}
use Rattle.input_lines.proofs.Asking.{one_client, refused}
use Rattle.input_lines.proofs.requests.Taken.take.Goals as goal

pub returns-in-Some-clause-takes : goal.returns-in-Some-clause-takes
returns-in-Some-clause-takes c are =
    let none = c.in-Some.ensures.none in
    let over = c.in-Some.ensures.room are c.in-Ok.request refl in
    ((refl, none, refused c.args.line.now c.args.self.now.requests.items c.in-Ok.request c.in-Some.refusal c.in-Ok.ensures over), are)

pub returns-clause-takes : goal.returns-clause-takes
returns-clause-takes c are =
    let room = c.in_default.ensures.room are c.in-Ok.request refl in
    let set = c.in_ok-insert.ensures in (
      (c.in-Ok.request, c.in-Ok.ensures, room, c.in_ok-push.ensures.items),
      one_client c.args.self.now.clients.keys c.insert.new.self.keys c.args.self.now.requests.items c.push.new.self.items c.in-Ok.request are set.updates.0
          (set.len ∙ ap (λ b. length c.args.self.now.clients.keys + (if b then 1 else 0)) set.added) c.in_ok-push.ensures.items room.1,
    )
