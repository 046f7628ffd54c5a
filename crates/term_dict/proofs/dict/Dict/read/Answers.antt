use Rattle.std.proofs.Common.{◌≡◌, arith, length, List, ap}
use Rattle.term_dict.specs.declared.index.BlockStart.{BlockStart}
use Rattle.term_dict.proofs.Starts.{no_blocks}
use Rattle.term_dict.proofs.dict.Dict.read.Goals as goal

pub returns-then-len-gt0-clause-only : goal.returns-then-len-gt0-clause-only
returns-then-len-gt0-clause-only c terms d =
    let none : length c.args.area.now ≡ 0 = grind arith in
    let empty = ap (λ (l : List BlockStart). length l) (no_blocks c.args.area.now c.args.index.now terms d none) in
    absurd (omega (arith, c.len.ensures))
