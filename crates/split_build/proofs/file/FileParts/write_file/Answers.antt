use Rattle.std.proofs.Common.{◌∙◌, ◌++◌, List, ℕ, ap}
use Rattle.split_build.proofs.file.FileParts.write_file.Goals as goal

pub returns : goal.returns
returns c = λ keys count. c.finish.ensures c.args.self.documents.items keys (c.in_ok-put_all.ensures ∙ ap (λ (l : List ℕ). l ++ c.args.self.documents.items) c.in_ok-begun.ensures) count
