use Rattle.std.proofs.Common.{List, ap, ◌∙◌}
use Rattle.real_edge.specs.declared.shelf_files.Object.{Object}
use Rattle.real_edge.specs.Entries.{entries}
use Rattle.object_store.proofs.States.{Contents, nothing}
use Rattle.real_edge.proofs.shelf.Shelf.vacant.Goals as goal

pub returns : goal.returns
returns c = ap (λ (os : List Object). Contents (entries os)) c.new.ensures.items ∙ nothing
