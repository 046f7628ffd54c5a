use Rattle.std.proofs.Common.{◌≡◌, ◌∙◌, sym, ap, decimal}
use Rattle.index_world.specs.Saying.{with_word, with_words}
use Rattle.indexing_run.specs.Standing.{said_words}
use Rattle.indexing_run.proofs.Takes.{on_ok}
use Rattle.indexing_run.proofs.outcome.put_outcome.Goals as goal

pub returns-in_ok-put_numbered-in-SourceFault : goal.returns-in_ok-put_numbered-in-SourceFault
returns-in_ok-put_numbered-in-SourceFault c =
    let out = c.put_number-in-SourceFault.new.out in
    let mid = c.put_numbered-in-SourceFault.new.out in
    on_ok c.put_number-in-SourceFault.result (out ≡ with_word mid (decimal c.in-SourceFault.after)) (out ≡ with_words c.args.out.now (said_words c.args.outcome.now))
    (λ h. h ∙ ap (λ m. with_word m (decimal c.in-SourceFault.after)) c.in_ok-put_numbered-in-SourceFault.ensures ∙ ap (λ o. with_words c.args.out.now (said_words o)) (sym c.in-SourceFault.is))
    c.put_number-in-SourceFault.ensures
