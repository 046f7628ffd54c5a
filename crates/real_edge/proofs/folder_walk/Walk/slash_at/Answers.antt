use Rattle.std.proofs.Common.{◌≡◌, ◌∙◌, ◌∷◌, ◌++◌, [], true, refl, sym, ap}
use Rattle.real_edge.specs.Names.{is_object}
use Rattle.real_edge.proofs.Walks.{key_from_object}
use Rattle.real_edge.proofs.Meetings.{meets_slash, meets_other}
use Rattle.real_edge.proofs.folder_walk.Walk.slash_at.Goals as goal

pub returns-then-not-is_object : goal.returns-then-not-is_object
returns-then-not-is_object c =
    meets_other c.args.self.now.prefix c.args.self.now.after c.args.room.now.items c.requires (ap is_object (sym (c.as_slice.ensures.value ∙ c.in_ok-push.ensures.items)) ∙ sym c.is_object.ensures ∙ c.if-not-is_object.true)

pub of-requires : goal.of-requires
of-requires c =
    key_from_object c.as_slice-2.result.now (ap is_object (c.as_slice-2.ensures.value ∙ sym c.as_slice.ensures.value) ∙ sym c.is_object.ensures ∙ c.if-not-is_object.false)

pub returns : goal.returns
returns c =
    meets_slash c.args.self.now.prefix c.args.self.now.after c.args.room.now.items (record { key = c.of.result; is_folder = true }) c.requires (c.of.ensures ∙ c.as_slice-2.ensures.value ∙ c.in_ok-push.ensures.items) refl
