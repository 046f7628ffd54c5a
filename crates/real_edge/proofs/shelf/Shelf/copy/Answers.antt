use Rattle.std.proofs.Common.{List, ap, ◌∙◌}
use Rattle.real_edge.specs.declared.shelf_files.Object.{Object}
use Rattle.real_edge.specs.Entries.{entries}
use Rattle.real_edge.specs.Shelved.{Shelved}
use Rattle.object_store.proofs.States.{Contents}
use Rattle.real_edge.proofs.shelf.Shelf.copy.Goals as goal

pub returns : goal.returns
returns c = ap (λ (os : List Object). Contents (entries os)) (c.in_ok-copied.ensures ∙ c.deref.ensures.value) ∙ ap (λ (s : Shelved). s.objects) c.self.view_is
