use Rattle.std.proofs.Common.{◌≡◌, ◌≤◌, ◌<◌, ◌+◌, ◌^◌, arith, length, ◌++◌, List, ℕ, refl, length-append}
use Rattle.real_edge.specs.Lines.{lines_of}
use Rattle.real_edge.proofs.Lines.{read-front}
use Rattle.real_edge.proofs.log_lines.Reading.add.Goals as goal

pub returns-clause-reads : goal.returns-clause-reads
returns-clause-reads c bytes from most fits r =
    let size = length-append bytes c.args.front.now in
    let at : c.args.self.now.next ≡ length bytes = r.next in
    read-front from most bytes c.args.front.now c.args.self.now _ c.requires r refl refl (c.in_ok-keep.ensures (lines_of bytes).line r.line) (omega arith)
