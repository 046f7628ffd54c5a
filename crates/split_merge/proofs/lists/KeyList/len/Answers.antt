use Rattle.std.proofs.Common.{arith}
use Rattle.split_merge.proofs.ListLemmas.{held_length}
use Rattle.split_merge.proofs.lists.KeyList.len.Goals as goal

pub returns : goal.returns
returns c = λ kept ps h. omega (arith, c.len.ensures, c.args.self.now.entries.ok.0, held_length kept c.args.self.now ps h)
