use Rattle.std.proofs.Common.{List, ℕ, ap, length, length-append, arith}
use Rattle.split_bundle.specs.Files.{head}
use Rattle.split_build.proofs.file.FileBegun.documents_len.Goals as goal

pub returns : goal.returns
returns c = λ documents begun. omega (arith, c.saturating_sub.ensures, c.len.ensures, c.args.self.now.begun.ok.0, ap (λ (l : List ℕ). length l) begun, length-append head documents)
