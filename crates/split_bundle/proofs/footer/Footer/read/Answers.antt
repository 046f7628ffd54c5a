use Rattle.split_bundle.proofs.Footers.{footer_read, footer_not_there}
use Rattle.split_bundle.proofs.footer.Footer.read.Goals as goal

pub returns-clause-whole : goal.returns-clause-whole
returns-clause-whole c = λ s documents p is ends long. footer_read s documents p is c.args.tail.now c.args.size ends c.read_whole.result c.read_whole.ensures long

pub returns-clause-cut : goal.returns-clause-cut
returns-clause-cut c = λ s documents p is ends cut. footer_not_there s documents p is c.args.tail.now c.args.size ends c.read_whole.result c.read_whole.ensures cut
