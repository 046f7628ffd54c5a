use Rattle.std.proofs.Common.{◌≡◌, ℕ, List, drop, length, subst, ap}
use Rattle.std.specs.Prelude.{Contains}
use Rattle.std.proofs.lemmas.Result.{IfOk-weaker}
use Rattle.real_edge.specs.declared.shelf_files.Object.{Object}
use Rattle.real_edge.specs.Disk.{Files, Begins, Names, first_part}
use Rattle.real_edge.specs.Shelved.{Shelved}
use Rattle.real_edge.proofs.Parts.{shelf_names}
use Rattle.real_edge.proofs.shelf.Shelf.parts.Goals as goal

pub returns : goal.returns
returns c = IfOk-weaker c.parts.result _ _ (λ names h.
    subst (λ (f : Files). Names c.args.folder.now names f) (ap (λ (s : Shelved). s.objects) c.self.view_is)
    (shelf_names c.args.folder.now names c.self.inside.held.items c.self.invariant
    (subst (λ (l : List Object). (o : Object) → Contains l o → Begins c.args.folder.now o.key → Contains names (first_part (drop (length c.args.folder.now) o.key))) c.deref.ensures.value h))) c.parts.ensures
