use Rattle.std.proofs.Common.{◌≡◌, ◌∙◌, ◌++◌, ℕ, List, ap, subst}
use Rattle.std.specs.Prelude.{IfOk}
use Rattle.real_edge.specs.Walk.{Meets, option_list}
use Rattle.real_edge.proofs.folder_walk.Walk.wait_of.Goals as goal

pub returns : goal.returns
returns c =
    let e : c.extend_from_slice-2.new.self.items ≡ c.args.folder.now ++ c.args.name.now =
    c.in_ok-extend_from_slice-2.ensures.items ∙ ap (λ (l : List ℕ). l ++ c.args.name.now) (c.in_ok-extend_from_slice.ensures.items ∙ ap (λ (l : List ℕ). l ++ c.args.folder.now) c.clear.ensures.items) in
    subst (λ (room : List ℕ). IfOk c.wait_at.result (λ found. Meets c.args.self.now.prefix c.args.self.now.after room (option_list found))) e c.wait_at.ensures
