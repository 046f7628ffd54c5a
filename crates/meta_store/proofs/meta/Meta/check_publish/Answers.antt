use Rattle.std.proofs.Common.{refl}
use Rattle.meta_store.proofs.meta.Meta.check_publish.Goals as goal

pub returns-in_ok-of_state-in-Some : goal.returns-in_ok-of_state-in-Some
returns-in_ok-of_state-in-Some c = rw (c.check_span_count.ensures, c.len.ensures, ← c.self.view_is, ← c.in-Some.ensures, ← c.check_spans.ensures, ← c.in_ok-of_delta-in-Some.ensures, ← c.may_publish.ensures, ← c.in_ok-of_state-in-Some.ensures) refl
