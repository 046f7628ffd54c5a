use Rattle.std.proofs.Common.{◌∙◌, sym}
use Rattle.real_edge.proofs.folder_store.FolderStore.forget.Goals as goal

pub invariant_of-self : goal.invariant_of-self
invariant_of-self g c = record { walks = λ files is rests led. c.args.self.now.walks files is rests (sym c.take.ensures.value ∙ c.without.ensures.kept rests led); sure = c.args.self.now.sure }
