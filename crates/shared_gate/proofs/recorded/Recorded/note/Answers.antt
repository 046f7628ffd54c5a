use Rattle.std.proofs.Common.{ap, refl, rules, ◌∙◌}
use Rattle.shared_gate.specs.Recording.{base_of}
use Rattle.shared_gate.proofs.recorded.Recorded.note.Goals as goal

pub returns : goal.returns
returns g c = record {
  event = record { call = c.args.call; base = c.base_of-base.result; left = c.of-left.result };
  call_is = refl;
  base_is = c.base_of-base.ensures ∙ ap (base_of c.args.home.now) c.count.ensures;
  home_is = refl;
  left_is = c.of-left.ensures;
  world = refl;
  clock = refl;
  events = search rules;
  opened = refl;
  source = refl;
}
