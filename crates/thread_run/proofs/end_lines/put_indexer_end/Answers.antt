use Rattle.std.proofs.Common.{true, List, ℕ, refl, sym, ap, ◌∙◌, subst, decimal}
use Rattle.index_world.specs.Saying.{with_word}
use Rattle.indexing_run.specs.declared.indexing.IndexerEnd.{IndexerEnd}
use Rattle.thread_run.specs.EndLines.{IsPut, indexer_end_words}
use Rattle.thread_run.proofs.end_lines.put_indexer_end.Goals as goal

pub returns-in_ok-put_number-in-SourceFault-2 : goal.returns-in_ok-put_number-in-SourceFault-2
returns-in_ok-put_number-in-SourceFault-2 c =
    let named = c.in_ok-put_word-in-SourceFault.ensures in
    let first = c.in_ok-put_number-in-SourceFault.ensures in
    let second = c.in_ok-put_number-in-SourceFault-2.ensures in
    subst (λ (end : IndexerEnd). IsPut (indexer_end_words end) true c.args.out.now c.put_number-in-SourceFault.new.out) (sym c.in-SourceFault.is)
    (refl, second ∙ ap (λ (out : List ℕ). with_word out (decimal c.in-SourceFault.after)) (first ∙ ap (λ (out : List ℕ). with_word out (decimal c.in-SourceFault.before)) named))
