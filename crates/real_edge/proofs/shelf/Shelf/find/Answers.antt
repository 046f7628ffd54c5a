use Rattle.std.proofs.Common.{◌≡◌, Option, None, Some, List, ℕ, sym, subst, ap, ◌∙◌}
use Rattle.std.specs.Prelude.{MatchOption}
use Rattle.std.specs.FinMap as finmap
use Rattle.real_edge.specs.declared.shelf_files.Object.{Object}
use Rattle.real_edge.specs.Entries.{entries, found}
use Rattle.real_edge.specs.Shelved.{Shelved}
use Rattle.object_store.proofs.States.{get_of}
use Rattle.real_edge.proofs.shelf.Shelf.find.Goals as goal

pub returns : goal.returns
returns c =
    subst (λ (x : Option (List ℕ)). MatchOption c.find.result (x ≡ None) (λ b. x ≡ Some b.now))
    (ap (λ (os : List Object). found c.args.key.now (entries os)) c.deref.ensures.value ∙ sym (get_of (entries c.self.inside.held.items) c.args.key.now c.self.invariant)
    ∙ ap (λ (s : Shelved). finmap.get s.objects c.args.key.now) c.self.view_is)
    c.find.ensures
