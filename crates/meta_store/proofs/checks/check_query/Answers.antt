use Rattle.std.proofs.Common.{refl}
use Rattle.meta_store.proofs.checks.check_query.Goals as goal

pub returns-in-Err : goal.returns-in-Err
returns-in-Err c = rw (← c.reading.view_is, c.in-Err.is) refl
