use Rattle.std.proofs.Common.{◌∙◌}
use Rattle.byte_fields.proofs.Others.{flag_found, flag_again}
use Rattle.byte_fields.proofs.take.take_flag.Goals as goal

pub returns-clause-found : goal.returns-clause-found
returns-clause-found c = flag_found c.args.bytes.now c.args.at c.flag_whole.result c.flag_whole.ensures

pub returns-clause-only : goal.returns-clause-only
returns-clause-only c = λ b rest e. c.flag_whole.ensures ∙ flag_again c.args.bytes.now c.args.at b rest e
