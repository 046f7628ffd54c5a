-- What a printed line tells, whatever the node is.
use Rattle.std.proofs.Common.{◌≡◌, ℕ, List, ◌∷◌, ◌++◌, sym, ap, subst}
use Rattle.std.specs.Prelude.{Bool, true, false, codes, decimal, Result, Ok, Err, IfOk, IsErr, MatchBool}
use Rattle.std.specs.declared.alloc.AllocError.{AllocError}
use Rattle.index_world.specs.Saying.{words}
use Rattle.indexing_run.specs.Standing.{said_words}
use Rattle.indexing_run.specs.declared.outcome.IndexerOutcome.{IndexerOutcome as Said}
use Rattle.indexing_run.proofs.Printing.{IsStarted, behind_word, error_started, said_started}
use Rattle.split_collector.specs.Standing.{said_words as collected_words}
use Rattle.split_collector.specs.declared.outcome.CollectorOutcome.{CollectorOutcome as Collected}
use Rattle.split_collector.specs.declared.outcome.CollectorOutcome.TheVariants as collected
use Rattle.upkeep_run.specs.Standing.{said_words as worked_words}
use Rattle.upkeep_run.specs.declared.outcome.UpkeepOutcome.{UpkeepOutcome as Worked}
use Rattle.upkeep_run.specs.declared.outcome.UpkeepOutcome.TheVariants as worked
use Rattle.upkeep_run.specs.declared.work.Aim.{Aim}
use Rattle.node_run.specs.declared.out_line.OutLine.{OutLine}
use Rattle.node_run.specs.Lines.{worker_word}
use Rattle.node_run.specs.Printing.{collected_text, said_text, worked_text}

-- ---- a line, or no memory for it

pub if_ok_where : (r : Result OutLine AllocError) (P Q : List ℕ → Type 0) → ((out : List ℕ) → P out → Q out) → IfOk r (λ out. P out.bytes) → IfOk r (λ out. Q out.bytes)
if_ok_where (Ok out) P Q f h = f out.bytes h
if_ok_where (Err refused) P Q f h = tt

pub if_short : {A : Type 0} (r : Result A AllocError) (P : A → Type 0) → IsErr r → IfOk r P
if_short (Ok a) P short = absurd cc
if_short (Err refused) P short = tt

-- a node that is down, or up
pub where_down : (down : Bool) (r : Result OutLine AllocError) (P Q : List ℕ → Type 0) → down ≡ true → IfOk r (λ out. P out.bytes) → IfOk r (λ out. MatchBool down (P out.bytes) (Q out.bytes))
where_down down r P Q is h = subst (λ b. IfOk r (λ out. MatchBool b (P out.bytes) (Q out.bytes))) (sym is) h

pub where_up : (down : Bool) (r : Result OutLine AllocError) (P Q : List ℕ → Type 0) → down ≡ false → IfOk r (λ out. Q out.bytes) → IfOk r (λ out. MatchBool down (P out.bytes) (Q out.bytes))
where_up down r P Q is h = subst (λ b. IfOk r (λ out. MatchBool b (P out.bytes) (Q out.bytes))) (sym is) h

-- ---- words

-- an indexer's words behind its number
pub indexer_words : (number : ℕ) (outcome : Said) → codes "indexer" ++ 32 ∷ (decimal number ++ 32 ∷ words (said_words outcome)) ≡ said_text number outcome
indexer_words number outcome = ap (λ text. codes "indexer" ++ 32 ∷ text) (sym (behind_word (decimal number) (said_words outcome) (said_started outcome)))

collected_started : (given : Collected) → IsStarted (collected_words given)
collected_started (collected.MarkedStale count) = tt
collected_started (collected.Doomed number) = tt
collected_started (collected.Removed count) = tt
collected_started (collected.Swept number) = tt
collected_started collected.Nothing = tt
collected_started (collected.Fault error) = error_started error

-- the collector's words behind its name
pub collector_words : (outcome : Collected) → codes "collector" ++ 32 ∷ words (collected_words outcome) ≡ collected_text outcome
collector_words outcome = sym (behind_word (codes "collector") (collected_words outcome) (collected_started outcome))

worked_started : (given : Worked) → IsStarted (worked_words given)
worked_started worked.Nothing = tt
worked_started (worked.Planned count) = tt
worked_started (worked.Fetched number) = tt
worked_started (worked.Staged number) = tt
worked_started (worked.Uploaded number) = tt
worked_started (worked.Replaced number) = tt
worked_started (worked.Raised number) = tt
worked_started (worked.Lost number refusal) = tt
worked_started (worked.Refused refusal) = tt
worked_started (worked.Fault error) = error_started error

-- a worker's words behind its name
pub worker_words : (aim : Aim) (outcome : Worked) → worker_word aim ++ 32 ∷ words (worked_words outcome) ≡ worked_text aim outcome
worker_words aim outcome = sym (behind_word (worker_word aim) (worked_words outcome) (worked_started outcome))
