use Rattle.std.proofs.Common.{◌<◌, length, sym, ◌∙◌, arith}
use Rattle.object_store.specs.Kept.{late_entry, state_of}
use Rattle.object_store.specs.Late.{held_of}
use Rattle.object_store.proofs.Landings.{taken_out, lands_absent, lands_standing}
use Rattle.object_store.proofs.Due.{landed_absent, landed_standing}
use Rattle.object_store.proofs.kept.Kept.land_one.Goals as goal

pub returns-in-None-clause-lands : goal.returns-in-None-clause-lands
returns-in-None-clause-lands c =
    let l = c.remove-object.result in
    let ls = c.args.self.now.late.items in
    let lt : c.args.at < length ls = omega arith in
    let out = taken_out late_entry ls c.remove-object.new.self.items c.args.at l lt c.remove-object.ensures.value c.remove-object.ensures.items in
    (λ i. record { objects = c.put.ensures.objects i; late = out.1 i })
    ∙ sym (lands_absent (state_of c.args.self.now) c.args.at l.object.key l.object.content out.0 c.in-None.ensures)

pub returns-in-Some-clause-lands : goal.returns-in-Some-clause-lands
returns-in-Some-clause-lands c =
    let l = c.remove-object.result in
    let ls = c.args.self.now.late.items in
    let lt : c.args.at < length ls = omega arith in
    let out = taken_out late_entry ls c.remove-object.new.self.items c.args.at l lt c.remove-object.ensures.value c.remove-object.ensures.items in
    (λ i. record { objects = c.args.self.now.shelf.objects; late = out.1 i })
    ∙ sym (lands_standing (state_of c.args.self.now) c.args.at l.object.key l.object.content c.in-Some.field-0.now out.0 c.in-Some.ensures)

pub returns-in-None-clause-held : goal.returns-in-None-clause-held
returns-in-None-clause-held c d =
    let lt : c.args.at < length c.args.self.now.late.items = omega arith in
    landed_absent (held_of c.args.self.now) c.args.at c.remove-object.result d c.put.new.self.objects c.remove-object.new.self.items lt c.remove-object.ensures.value c.in-None.ensures c.put.ensures.objects c.remove-object.ensures.items

pub returns-in-Some-clause-held : goal.returns-in-Some-clause-held
returns-in-Some-clause-held c d =
    let lt : c.args.at < length c.args.self.now.late.items = omega arith in
    landed_standing (held_of c.args.self.now) c.args.at c.remove-object.result d c.in-Some.field-0.now c.remove-object.new.self.items lt c.remove-object.ensures.value c.in-Some.ensures c.remove-object.ensures.items
