-- What an error is told as, and what of it is the machine's.
use Rattle.std.proofs.Common.{◌≡◌, ℕ, refl, subst, sym, Ok}
use Rattle.std.specs.declared.alloc.AllocError.{AllocError}
use Rattle.meta_store.specs.declared.refusal.Refusal.{Refusal}
use Rattle.index_world.specs.declared.world_error.WorldError.{WorldError}
use Rattle.index_world.specs.declared.world_error.WorldError.TheVariants as errors
use Rattle.index_world.specs.Calls.{Fault, Trouble, Unmade, faulted, no_memory, refused, troubled}
use Rattle.index_world.specs.Gate.{IsTrouble, IsUnmade}
use Rattle.upkeep_run.specs.Ending.{Told, fault_said, lost_said, unstaged_said}
use Rattle.upkeep_run.specs.Standing.{Answers}
use Rattle.upkeep_run.specs.Steps.{lost_outcome, stage_outcome, trouble_outcome}
use Rattle.upkeep_run.specs.declared.outcome.UpkeepOutcome.TheVariants as said

-- but for want of memory
pub told_as_fault : (error : WorldError) → ((e : AllocError) → error ≡ errors.Memory e → ⊥) → Ok (said.Fault error) ≡ fault_said error
told_as_fault (errors.Memory e) other = absurd (other e refl)
told_as_fault (errors.Refused refusal) other = refl
told_as_fault (errors.StoreFault before after) other = refl
told_as_fault (errors.Missing key) other = refl
told_as_fault (errors.Corrupt key) other = refl
told_as_fault (errors.Foreign key) other = refl
told_as_fault errors.Full other = refl
told_as_fault (errors.Expired planned_at reached) other = refl
told_as_fault errors.NoIndex other = refl
told_as_fault errors.IndexExists other = refl
told_as_fault (errors.BadConfig bad) other = refl

-- but for a refusal
pub unstaged_as_fault : (error : WorldError) → ((r : Refusal) → error ≡ errors.Refused r → ⊥) → fault_said error ≡ unstaged_said error
unstaged_as_fault (errors.Memory e) other = refl
unstaged_as_fault (errors.Refused refusal) other = absurd (other refusal refl)
unstaged_as_fault (errors.StoreFault before after) other = refl
unstaged_as_fault (errors.Missing key) other = refl
unstaged_as_fault (errors.Corrupt key) other = refl
unstaged_as_fault (errors.Foreign key) other = refl
unstaged_as_fault errors.Full other = refl
unstaged_as_fault (errors.Expired planned_at reached) other = refl
unstaged_as_fault errors.NoIndex other = refl
unstaged_as_fault errors.IndexExists other = refl
unstaged_as_fault (errors.BadConfig bad) other = refl

pub lost_as_fault : (number : ℕ) (error : WorldError) → ((r : Refusal) → error ≡ errors.Refused r → ⊥) → fault_said error ≡ lost_said number error
lost_as_fault number (errors.Memory e) other = refl
lost_as_fault number (errors.Refused refusal) other = absurd (other refusal refl)
lost_as_fault number (errors.StoreFault before after) other = refl
lost_as_fault number (errors.Missing key) other = refl
lost_as_fault number (errors.Corrupt key) other = refl
lost_as_fault number (errors.Foreign key) other = refl
lost_as_fault number errors.Full other = refl
lost_as_fault number (errors.Expired planned_at reached) other = refl
lost_as_fault number errors.NoIndex other = refl
lost_as_fault number errors.IndexExists other = refl
lost_as_fault number (errors.BadConfig bad) other = refl

-- ---- what is told is the machine's

faulted_answers : (error : WorldError) (fault : Fault) → fault_said error ≡ Ok (said.Fault error) → IsTrouble error (faulted fault) → Answers (fault_said error) (trouble_outcome (faulted fault))
faulted_answers error fault is h = subst (λ (r : Told). Answers r (trouble_outcome (faulted fault))) (sym is) (fault, refl, h)

pub trouble_answers : (error : WorldError) (trouble : Trouble) → IsTrouble error trouble → Answers (fault_said error) (trouble_outcome trouble)
trouble_answers (errors.Memory e) (faulted fault) h = absurd (cc)
trouble_answers (errors.Memory e) no_memory h = tt
trouble_answers (errors.Refused refusal) trouble h = absurd h
trouble_answers (errors.StoreFault before after) (faulted fault) h = faulted_answers (errors.StoreFault before after) fault refl h
trouble_answers (errors.StoreFault before after) no_memory h = absurd (cc)
trouble_answers (errors.Missing key) trouble h = absurd h
trouble_answers (errors.Corrupt key) trouble h = absurd h
trouble_answers (errors.Foreign key) (faulted fault) h = faulted_answers (errors.Foreign key) fault refl h
trouble_answers (errors.Foreign key) no_memory h = absurd (cc)
trouble_answers errors.Full (faulted fault) h = faulted_answers errors.Full fault refl h
trouble_answers errors.Full no_memory h = absurd (cc)
trouble_answers (errors.Expired planned_at reached) (faulted fault) h = faulted_answers (errors.Expired planned_at reached) fault refl h
trouble_answers (errors.Expired planned_at reached) no_memory h = absurd (cc)
trouble_answers errors.NoIndex trouble h = absurd h
trouble_answers errors.IndexExists trouble h = absurd h
trouble_answers (errors.BadConfig bad) trouble h = absurd h

as_trouble : (error : WorldError) (trouble : Trouble) → IsTrouble error trouble → fault_said error ≡ unstaged_said error
as_trouble (errors.Memory e) trouble h = refl
as_trouble (errors.Refused refusal) trouble h = absurd h
as_trouble (errors.StoreFault before after) trouble h = refl
as_trouble (errors.Missing key) trouble h = absurd h
as_trouble (errors.Corrupt key) trouble h = absurd h
as_trouble (errors.Foreign key) trouble h = refl
as_trouble errors.Full trouble h = refl
as_trouble (errors.Expired planned_at reached) trouble h = refl
as_trouble errors.NoIndex trouble h = absurd h
as_trouble errors.IndexExists trouble h = absurd h
as_trouble (errors.BadConfig bad) trouble h = absurd h

pub unstaged_answers : (error : WorldError) (unmade : Unmade) → IsUnmade error unmade → Answers (unstaged_said error) (stage_outcome unmade)
unstaged_answers error (refused refusal) h = subst (λ (e : WorldError). Answers (unstaged_said e) (stage_outcome (refused refusal))) (sym h) refl
unstaged_answers error (troubled trouble) h = subst (λ (r : Told). Answers r (trouble_outcome trouble)) (as_trouble error trouble h) (trouble_answers error trouble h)

lost_as_trouble : (number : ℕ) (error : WorldError) (trouble : Trouble) → IsTrouble error trouble → fault_said error ≡ lost_said number error
lost_as_trouble number (errors.Memory e) trouble h = refl
lost_as_trouble number (errors.Refused refusal) trouble h = absurd h
lost_as_trouble number (errors.StoreFault before after) trouble h = refl
lost_as_trouble number (errors.Missing key) trouble h = absurd h
lost_as_trouble number (errors.Corrupt key) trouble h = absurd h
lost_as_trouble number (errors.Foreign key) trouble h = refl
lost_as_trouble number errors.Full trouble h = refl
lost_as_trouble number (errors.Expired planned_at reached) trouble h = refl
lost_as_trouble number errors.NoIndex trouble h = absurd h
lost_as_trouble number errors.IndexExists trouble h = absurd h
lost_as_trouble number (errors.BadConfig bad) trouble h = absurd h

pub lost_answers : (number : ℕ) (error : WorldError) (unmade : Unmade) → IsUnmade error unmade → Answers (lost_said number error) (lost_outcome number unmade)
lost_answers number error (refused refusal) h = subst (λ (e : WorldError). Answers (lost_said number e) (lost_outcome number (refused refusal))) (sym h) refl
lost_answers number error (troubled trouble) h = subst (λ (r : Told). Answers r (trouble_outcome trouble)) (lost_as_trouble number error trouble h) (trouble_answers error trouble h)
