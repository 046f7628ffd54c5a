use Rattle.std.proofs.Common.{refl}
use Rattle.meta_store.proofs.meta.Meta.check_replace.Goals as goal

pub returns : goal.returns
returns c = rw (c.check_upto.ensures, c.last_opstamp.ensures, ← c.self.view_is, ← c.may_replace.ensures, ← c.in_ok-of_state.ensures) refl
