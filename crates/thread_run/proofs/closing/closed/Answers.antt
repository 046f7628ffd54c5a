use Rattle.std.proofs.Common.{◌≡◌, List, false, subst}
use Rattle.std.specs.List.{AllByRecursion}
use Rattle.thread_run.specs.declared.end_lines.ActorEnd.{ActorEnd}
use Rattle.thread_run.specs.Closing.{IsWhole, is_short_end}
use Rattle.thread_run.proofs.closing.closed.Goals as goal

pub returns-clause-whole : goal.returns-clause-whole
returns-clause-whole g c e =
    let both = c.either.ensures e in
    record {
      all_ended = subst (λ (ends : List ActorEnd). AllByRecursion (λ end. is_short_end end ≡ false) ends) c.as_slice.ensures.value (c.lack_memory-lacking.ensures both.0);
      all_served = c.all_replies-noted.ensures.served both.1;
      all_answered = c.all_replies-noted.ensures.answered both.1;
    }
