-- What an error is told as, and what of it is the machine's.
use Rattle.std.proofs.Common.{◌≡◌, refl, sym, ap, subst, None, Ok}
use Rattle.std.specs.declared.alloc.AllocError.{AllocError}
use Rattle.index_world.specs.Calls.{Fault, Trouble, Unmade, faulted, no_memory, refused, troubled}
use Rattle.index_world.specs.Gate.{IsTrouble, IsUnmade}
use Rattle.index_world.specs.Taking.{IsWant}
use Rattle.index_world.specs.declared.world_error.WorldError.{WorldError}
use Rattle.index_world.specs.declared.world_error.WorldError.TheVariants as errors
use Rattle.split_collector.specs.Ending.{Told, fault_said}
use Rattle.split_collector.specs.Standing.{Answers}
use Rattle.split_collector.specs.Steps.{failed_with}
use Rattle.split_collector.specs.declared.outcome.CollectorOutcome.TheVariants as said

-- but for want of memory
pub told_as_fault : (error : WorldError) → ((e : AllocError) → error ≡ errors.Memory e → ⊥) → Ok (said.Fault error) ≡ fault_said error
told_as_fault (errors.Memory e) other = absurd (other e refl)
told_as_fault (errors.Refused refusal) other = refl
told_as_fault (errors.StoreFault before after) other = refl
told_as_fault (errors.Missing key) other = refl
told_as_fault (errors.Corrupt key) other = refl
told_as_fault (errors.Foreign key) other = refl
told_as_fault errors.Full other = refl
told_as_fault (errors.Expired planned_at reached) other = refl
told_as_fault errors.NoIndex other = refl
told_as_fault errors.IndexExists other = refl
told_as_fault (errors.BadConfig bad) other = refl

faulted_answers : (error : WorldError) (fault : Fault) → fault_said error ≡ Ok (said.Fault error) → IsTrouble error (faulted fault) → Answers (fault_said error) (failed_with (troubled (faulted fault)))
faulted_answers error fault is h = subst (λ (r : Told). Answers r (failed_with (troubled (faulted fault)))) (sym is) (troubled (faulted fault), h, refl)

trouble_answers : (error : WorldError) (trouble : Trouble) → IsTrouble error trouble → Answers (fault_said error) (failed_with (troubled trouble))
trouble_answers (errors.Memory e) (faulted fault) h = absurd (cc)
trouble_answers (errors.Memory e) no_memory h = tt
trouble_answers (errors.Refused refusal) trouble h = absurd h
trouble_answers (errors.StoreFault before after) (faulted fault) h = faulted_answers (errors.StoreFault before after) fault refl h
trouble_answers (errors.StoreFault before after) no_memory h = absurd (cc)
trouble_answers (errors.Missing key) trouble h = absurd h
trouble_answers (errors.Corrupt key) trouble h = absurd h
trouble_answers (errors.Foreign key) (faulted fault) h = faulted_answers (errors.Foreign key) fault refl h
trouble_answers (errors.Foreign key) no_memory h = absurd (cc)
trouble_answers errors.Full (faulted fault) h = faulted_answers errors.Full fault refl h
trouble_answers errors.Full no_memory h = absurd (cc)
trouble_answers (errors.Expired planned_at reached) (faulted fault) h = faulted_answers (errors.Expired planned_at reached) fault refl h
trouble_answers (errors.Expired planned_at reached) no_memory h = absurd (cc)
trouble_answers errors.NoIndex trouble h = absurd h
trouble_answers errors.IndexExists trouble h = absurd h
trouble_answers (errors.BadConfig bad) trouble h = absurd h

-- an error is told as the machine ends with it
pub fault_answers : (error : WorldError) (unmade : Unmade) → IsUnmade error unmade → Answers (fault_said error) (failed_with unmade)
fault_answers error (refused refusal) h = subst (λ (e : WorldError). Answers (fault_said e) (failed_with (refused refusal))) (sym h) (refused refusal, refl, refl)
fault_answers error (troubled trouble) h = trouble_answers error trouble h

trouble_short : (error : WorldError) (trouble : Trouble) → IsTrouble error trouble → IsWant error → failed_with (troubled trouble) ≡ None
trouble_short (errors.Memory e) trouble h want = ap (λ (t : Trouble). failed_with (troubled t)) h
trouble_short (errors.Refused refusal) trouble h want = absurd want
trouble_short (errors.StoreFault before after) trouble h want = absurd want
trouble_short (errors.Missing key) trouble h want = absurd want
trouble_short (errors.Corrupt key) trouble h want = absurd want
trouble_short (errors.Foreign key) trouble h want = absurd want
trouble_short errors.Full trouble h want = absurd want
trouble_short (errors.Expired planned_at reached) trouble h want = absurd want
trouble_short errors.NoIndex trouble h want = absurd want
trouble_short errors.IndexExists trouble h want = absurd want
trouble_short (errors.BadConfig bad) trouble h want = absurd want

-- want of memory is no outcome
pub want_is_none : (error : WorldError) (unmade : Unmade) → IsUnmade error unmade → IsWant error → failed_with unmade ≡ None
want_is_none error (refused refusal) h want = absurd (subst IsWant h want)
want_is_none error (troubled trouble) h want = trouble_short error trouble h want
