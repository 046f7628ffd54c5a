use Rattle.std.proofs.Common.{◌≡◌, ◌∙◌, ◌∷◌, ◌++◌, [], ℕ, List, true, false, refl, sym, ap}
use Rattle.std.proofs.lemmas.Result.{on_ok_weaker}
use Rattle.real_edge.specs.Names.{is_object}
use Rattle.real_edge.specs.Walk.{may_have}
use Rattle.real_edge.proofs.Meetings.{within_other, within_nothing, within_one}
use Rattle.real_edge.proofs.Walks.{key_from_object}
use Rattle.real_edge.proofs.folder_walk.Walk.wait_within.Goals as goal

pub returns-then-not-is_object-clause-within : goal.returns-then-not-is_object-clause-within
returns-then-not-is_object-clause-within c =
    let text : c.push.new.self.items ≡ c.args.name.now ++ 47 ∷ [] = c.in_ok-push.ensures.items ∙ ap (λ (l : List ℕ). l ++ 47 ∷ []) (c.in_ok-folder.ensures.items ∙ c.as_bytes.ensures.bytes) in
    within_other c.args.self.now.prefix c.args.self.now.after c.args.name.now c.args.self.now.waiting (ap is_object (sym (c.as_slice.ensures.value ∙ text)) ∙ sym c.is_object.ensures ∙ c.if-not-is_object.true)

pub returns-then-not-may_have-clause-within : goal.returns-then-not-may_have-clause-within
returns-then-not-may_have-clause-within c =
    let prefix = c.args.self.now.prefix in
    let after = c.args.self.now.after in
    let text : c.push.new.self.items ≡ c.args.name.now ++ 47 ∷ [] = c.in_ok-push.ensures.items ∙ ap (λ (l : List ℕ). l ++ 47 ∷ []) (c.in_ok-folder.ensures.items ∙ c.as_bytes.ensures.bytes) in
    within_nothing prefix after c.args.name.now c.args.self.now.waiting (ap (may_have prefix after) (sym (c.as_slice-2.ensures.value ∙ text)) ∙ sym c.may_have.ensures ∙ c.if-not-may_have.true)

pub of-requires : goal.of-requires
of-requires c = key_from_object c.as_slice-3.result.now (ap is_object (c.as_slice-3.ensures.value ∙ sym c.as_slice.ensures.value) ∙ sym c.is_object.ensures ∙ c.if-not-is_object.false)

pub returns-clause-within : goal.returns-clause-within
returns-clause-within c =
    let text : c.push.new.self.items ≡ c.args.name.now ++ 47 ∷ [] = c.in_ok-push.ensures.items ∙ ap (λ (l : List ℕ). l ++ 47 ∷ []) (c.in_ok-folder.ensures.items ∙ c.as_bytes.ensures.bytes) in
    on_ok_weaker c.put.result (λ h. within_one c.args.self.now.prefix c.args.self.now.after c.args.name.now c.put.new.self (record { key = c.of.result; is_folder = true }) (c.of.ensures ∙ c.as_slice-3.ensures.value ∙ text) refl h) c.put.ensures.one
