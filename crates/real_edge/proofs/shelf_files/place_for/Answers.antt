use Rattle.std.proofs.Common.{◌≡◌, ◌∙◌, sym, [], None, Some, List, ℕ, Option}
use Rattle.real_edge.specs.declared.shelf_files.Object.{Object}
use Rattle.real_edge.proofs.Positions.{found_at}
use Rattle.real_edge.proofs.shelf_files.place_for.Goals as goal

none_some : (x : List ℕ) → ◌≡◌ {A = Option (List ℕ)} None (Some x) → ⊥
none_some x e = cc

pub returns-in-Ok : goal.returns-in-Ok
returns-in-Ok c =
    let any : Object = record { key = []; content = [] } in
    absurd (none_some _ (sym c.requires.absent ∙ found_at c.args.key.now c.args.objects.now c.in-Ok.at any c.requires.order c.in-Ok.ensures.ok.within (c.in-Ok.ensures.ok.key_is any)))
