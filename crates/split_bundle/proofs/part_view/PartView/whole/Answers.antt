use Rattle.split_bundle.proofs.WholeFiles.{whole_read, whole_all}
use Rattle.split_bundle.proofs.part_view.PartView.whole.Goals as goal

pub returns-clause-only : goal.returns-clause-only
returns-clause-only c s documents p is e = whole_read s documents p is c.args.bytes.now e c.read_whole.result c.read_whole.ensures.pieces c.read_whole.ensures.exact

pub returns-clause-all : goal.returns-clause-all
returns-clause-all c = whole_all c.args.bytes.now c.read_whole.result c.read_whole.ensures.pieces
