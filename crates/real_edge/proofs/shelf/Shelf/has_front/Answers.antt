use Rattle.std.proofs.Common.{◌≡◌, ℕ, List, Option, None, true, false, subst, ap}
use Rattle.std.specs.Prelude.{Contains}
use Rattle.std.specs.FinMap as finmap
use Rattle.real_edge.specs.declared.shelf_files.Object.{Object}
use Rattle.real_edge.specs.Disk.{Files, Begins}
use Rattle.real_edge.specs.Shelved.{Shelved}
use Rattle.real_edge.proofs.Parts.{no_front}
use Rattle.real_edge.proofs.shelf.Shelf.has_front.Goals as goal

pub returns : goal.returns
returns c = λ none q begins.
    subst (λ (f : Files). finmap.get f q ≡ None) (ap (λ (s : Shelved). s.objects) c.self.view_is)
    (no_front c.args.front.now c.self.inside.held.items c.has_front.result c.self.invariant
    (subst (λ (l : List Object). (o : Object) → Contains l o → Begins c.args.front.now o.key → c.has_front.result ≡ true) c.deref.ensures.value c.has_front.ensures) none q begins)
