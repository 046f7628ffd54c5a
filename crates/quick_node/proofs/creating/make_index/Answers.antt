use Rattle.std.proofs.Common.{◌<◌, ◌≤◌, ◌^◌, ℕ, List, length, refl, sym, subst, arith}
use Rattle.std.specs.Prelude.{Option, Some}
use Rattle.object_store.specs.Store.{State, WhereTold}
use Rattle.index_world.specs.Created.{Begins, MakesFirst, CreatesNot, CreatesNone, CreatesWorld}
use Rattle.index_world.specs.Taking.{IsFaultBetween}
use Rattle.index_world.proofs.Lives.{told_of}
use Rattle.quick_node.specs.Opening.{outside_of, OutputStays}
use Rattle.quick_node.specs.Reading.{max_config}
use Rattle.quick_node.proofs.Finding.{moment_told, made_at, unmade_at, made_finds}
use Rattle.quick_node.proofs.CreateLeaves.{first_core, first_world, made_up_to, unmade_up_to, says_by}
use Rattle.quick_node.proofs.creating.make_index.Goals as goal

pub returns-in-Ok-clause-makes : goal.returns-in-Ok-clause-makes
returns-in-Ok-clause-makes g c history before read told count text short content writes i =
    let moment = c.at-told.result in
    let early = c.now.ensures.below in
    let now = c.at-told.ensures in
    let below : moment < 2 ^ 62 = omega (arith, early, now) in
    let core = first_core history before moment i in
    let l : CreatesWorld before.input core before.log c.in-Ok.world =
    subst (λ (t : List ℕ). CreatesWorld t core before.log c.in-Ok.world) text (c.in-Ok.ensures.step before.kept core before.log told count refl below refl (first_world history before moment i)) in
    let fits : length before.input ≤ max_config = subst (λ (t : List ℕ). length t ≤ max_config) text short in (
      moment,
      moment_told (g.C.Clock.told c.args.clock) moment c.now.result now c.now.ensures.told,
      made_up_to history before moment i c.in-Ok.world (g.S.ObjectStore.told c.unload-store.result.0) (g.W.Sink.content c.say_created-end.new.output) (g.S.ObjectStore.fault_count c.unload-store.result.0) read (g.W.Sink.fault_count c.args.output.now)
          (g.W.Sink.fault_count c.say_created-end.new.output) c.say_created-end.result fits l c.unload-store.ensures.told writes (c.say_created-end.ensures.says before.written content),
    )

pub returns-in-Ok-clause-causes : goal.returns-in-Ok-clause-causes
returns-in-Ok-clause-causes g c low high =
    says_by (g.W.Sink.fault_count c.args.output.now) (g.W.Sink.fault_count c.say_created-end.new.output) c.say_created-end.ensures.causes.0 c.say_created-end.result _ _ low high c.say_created-end.ensures.causes.1

pub returns-clause-makes : goal.returns-clause-makes
returns-clause-makes g c history before read told count text short content writes i =
    let moment = c.at-told.result in
    let early = c.now.ensures.below in
    let now = c.at-told.ensures in
    let below : moment < 2 ^ 62 = omega (arith, early, now) in
    let core = first_core history before moment i in
    let store = g.S.ObjectStore.told c.in-Err.field-0.store in
    let faults = g.S.ObjectStore.fault_count c.in-Err.field-0.store in
    let error = c.in-Err.field-0.error in
    let l : CreatesNone before.input core before.log error store faults =
    subst (λ (t : List ℕ). CreatesNone t core before.log error store faults) text (c.in-Err.ensures.step before.kept core before.log told count refl below refl (first_world history before moment i)) in
    let t = told_of (g.S.ObjectStore.told c.args.store) store before.kept (CreatesNot c.args.text.now (Some moment) (g.S.ObjectStore.fault_count c.args.store) faults error) told c.in-Err.ensures.opened in
    let n : CreatesNot before.input (Some moment) before.store_faults faults error before.kept t.new =
    subst (λ (x : List ℕ). CreatesNot x (Some moment) before.store_faults faults error before.kept t.new) text
    (subst (λ (k : ℕ). CreatesNot c.args.text.now (Some moment) k faults error before.kept t.new) count t.says) in (
      moment,
      moment_told (g.C.Clock.told c.args.clock) moment c.now.result now c.now.ensures.told,
      unmade_up_to history before moment i store faults error (g.W.Sink.content c.args.output.now) read (g.W.Sink.fault_count c.args.output.now) (subst (λ (x : List ℕ). length x ≤ max_config) text short) content l t.new t.is n
          (subst (λ (k : ℕ). IsFaultBetween k faults error) count c.in-Err.ensures.faults),
    )

pub returns-in-Ok-clause-opening : goal.returns-in-Ok-clause-opening
returns-in-Ok-clause-opening g c input left low high is =
    let before = outside_of (g.S.ObjectStore.told c.args.store) (g.S.ObjectStore.fault_count c.args.store) input low (g.W.Sink.content c.args.output.now) (g.W.Sink.fault_count c.args.output.now) in
    let after = outside_of (g.S.ObjectStore.told c.unload-store.result.0) (g.S.ObjectStore.fault_count c.unload-store.result.0) left high (g.W.Sink.content c.say_created-end.new.output) (g.W.Sink.fault_count c.say_created-end.new.output) in
    made_finds (g.C.Clock.told c.args.clock) (λ _. OutputStays before after) before after (g.W.Sink.fault_count c.args.output.now) (g.W.Sink.fault_count c.say_created-end.new.output) c.say_created-end.ensures.causes.0
    c.say_created-end.result c.say_created-end.ensures.causes.1 (record {
      text = c.args.text.now;
      text_is = is;
      moment = c.at-told.result;
      asked = moment_told (g.C.Clock.told c.args.clock) c.at-told.result c.now.result c.at-told.ensures c.now.ensures.told;
      made = subst (λ (o : Option State). WhereTold (g.S.ObjectStore.told c.args.store) o (Begins c.args.text.now (MakesFirst c.args.text.now c.at-told.result))) (sym c.unload-store.ensures.told)
          (made_at c.args.text.now c.at-told.result (g.S.ObjectStore.told c.args.store) c.in-Ok.world.told c.in-Ok.world c.in-Ok.ensures.opened);
      says = c.say_created-end.ensures.says;
    })

pub returns-clause-opening : goal.returns-clause-opening
returns-clause-opening g c input left low high is = record {
  text = c.args.text.now;
  text_is = is;
  why = unmade_at c.args.text.now (g.C.Clock.told c.args.clock) c.at-told.result (g.S.ObjectStore.fault_count c.args.store) (g.S.ObjectStore.fault_count c.in-Err.field-0.store)
      (moment_told (g.C.Clock.told c.args.clock) c.at-told.result c.now.result c.at-told.ensures c.now.ensures.told) c.in-Err.field-0.error (g.S.ObjectStore.told c.args.store) (g.S.ObjectStore.told c.in-Err.field-0.store)
      c.in-Err.ensures.opened;
  line = (refl, refl);
}
