use Rattle.std.proofs.Common.{◌≡◌, ◌∙◌, ◌∷◌, ◌++◌, [], true, false, refl, sym, ap}
use Rattle.object_store.specs.Store.{is_wanted}
use Rattle.real_edge.specs.Names.{is_object}
use Rattle.real_edge.specs.Walk.{may_have}
use Rattle.real_edge.proofs.Walks.{key_from_object}
use Rattle.real_edge.proofs.Meetings.{meets_one, meets_nothing}
use Rattle.real_edge.proofs.folder_walk.Walk.wait_at.Goals as goal

pub slash_at-requires : goal.slash_at-requires
slash_at-requires c = ap is_object (sym c.as_slice.ensures.value) ∙ sym c.is_object.ensures ∙ c.if-not-is_object.true

pub of-requires : goal.of-requires
of-requires c = key_from_object c.as_slice-2.result.now (ap is_object (c.as_slice-2.ensures.value ∙ sym c.as_slice.ensures.value) ∙ sym c.is_object.ensures ∙ c.if-not-is_object.false)

pub returns-then-is_sought : goal.returns-then-is_sought
returns-then-is_sought c = meets_one c.args.self.now.prefix c.args.self.now.after c.args.room.now.items (record { key = c.of.result; is_folder = false }) (c.of.ensures ∙ c.as_slice-2.ensures.value) refl

pub returns-then-may_have : goal.returns-then-may_have
returns-then-may_have c = meets_one c.args.self.now.prefix c.args.self.now.after c.args.room.now.items (record { key = c.of.result; is_folder = false }) (c.of.ensures ∙ c.as_slice-2.ensures.value) refl

pub returns-else-may_have : goal.returns-else-may_have
returns-else-may_have c =
    let prefix = c.args.self.now.prefix in
    let after = c.args.self.now.after in
    let room = c.args.room.now.items in
    let not : is_wanted prefix after room ≡ false = ap (is_wanted prefix after) (sym c.as_slice-3.ensures.value) ∙ sym c.is_sought.ensures ∙ c.if-is_sought.false in
    let none : may_have prefix after (room ++ 47 ∷ []) ≡ false = ap (may_have prefix after) (sym (c.as_slice-4.ensures.value ∙ c.in_ok-push.ensures.items)) ∙ sym c.may_have.ensures ∙ c.if-may_have.false in
    meets_nothing prefix after room not none
