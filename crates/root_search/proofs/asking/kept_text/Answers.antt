use Rattle.std.proofs.Common.{IsUtf8, subst, sym, arith}
use Rattle.root_search.proofs.asking.kept_text.Goals as goal

pub returns-clause-can : goal.returns-clause-can
returns-clause-can c = (omega (arith, c.len-count.ensures), subst IsUtf8 (sym c.in_ok-kept.ensures) c.as_bytes-bytes.ensures.utf8)
