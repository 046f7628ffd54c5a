-- The words of an end, put behind nothing, are its line.
use Rattle.std.proofs.Common.{◌≡◌, ℕ, Bool, true, false, List, [], ◌∷◌, ap, ◌∙◌, subst, decimal}
use Rattle.std.specs.Prelude.{Option, Some, None, codes}
use Rattle.std.specs.Option.{option_map}
use Rattle.index_world.proofs.Said.{with_words-first}
use Rattle.index_world.specs.Saying.{words}
use Rattle.thread_run.specs.EndLines.{IsPut, collector_end_words, end_text, end_words, indexer_end_words, worker_end_words}
use Rattle.thread_run.specs.declared.end_lines.ActorEnd.{ActorEnd}
use Rattle.thread_run.specs.declared.end_lines.ActorEnd.TheVariants as actors

-- behind a name that isn't empty
named : (c : ℕ) (cs : List ℕ) (behind : List (List ℕ) → List (List ℕ)) (o : Option (List (List ℕ))) (put : Bool) (new : List ℕ) → put ≡ true → IsPut (option_map (λ more. (c ∷ cs) ∷ behind more) o) put [] new →
    Some new ≡ option_map words (option_map (λ more. (c ∷ cs) ∷ behind more) o)
named c cs behind None put new did is = absurd (both put did is)
  where
    both : (b : Bool) → b ≡ true → b ≡ false → ⊥
    both b t f = cc
named c cs behind (Some more) put new did is = ap Some (is.1 ∙ with_words-first c cs (behind more))

put_first : (end : ActorEnd) (put : Bool) (new : List ℕ) → put ≡ true → IsPut (end_words end) put [] new → Some new ≡ end_text end
put_first (actors.Indexer number end) put new did is = named 105 (codes "ndexer") (λ more. decimal number ∷ more) (indexer_end_words end) put new did is
put_first (actors.Merger end) put new did is = named 109 (codes "erger") (λ more. more) (worker_end_words end) put new did is
put_first (actors.Deleter end) put new did is = named 100 (codes "eleter") (λ more. more) (worker_end_words end) put new did is
put_first (actors.Collector end) put new did is = named 99 (codes "ollector") (λ more. more) (collector_end_words end) put new did is

pub put_text : (end : ActorEnd) (put : Bool) (old new : List ℕ) → old ≡ [] → put ≡ true → IsPut (end_words end) put old new → Some new ≡ end_text end
put_text end put old new none did is = put_first end put new did (subst (λ (o : List ℕ). IsPut (end_words end) put o new) none is)
