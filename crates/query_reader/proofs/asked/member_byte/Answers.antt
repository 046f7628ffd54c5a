use Rattle.std.proofs.Common.{rules}
use Rattle.query_reader.proofs.asked.member_byte.Goals as goal

pub returns-then-member : goal.returns-then-member
returns-then-member c = search rules
