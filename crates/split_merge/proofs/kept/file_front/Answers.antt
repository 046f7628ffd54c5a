use Rattle.std.proofs.Common.{◌∙◌, ◌++◌, List, ℕ, ap}
use Rattle.split_bundle.specs.Documents.{documents_section}
use Rattle.split_merge.proofs.kept.file_front.Goals as goal

pub put_section-requires : goal.put_section-requires
put_section-requires c = c.requires

pub returns : goal.returns
returns c = λ ds h. c.in_ok-put_section.ensures ds h ∙ ap (λ (l : List ℕ). l ++ documents_section c.args.partitions.now ds) c.in_ok-out.ensures
