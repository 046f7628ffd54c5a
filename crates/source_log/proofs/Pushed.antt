-- What adding a record leaves of a log, by whether it went through.
use Rattle.std.proofs.Common.{◌≡◌, ◌≢◌, ◌+◌, ◌<◌, ◌^◌, ◌++◌, ◌∷◌, [], ◌∙◌, List, ℕ, length, ap, sym, subst, Result, Ok, Err}
use Rattle.std.specs.Prelude.{OnOk, OnErr, IfOk}
use Rattle.std.specs.declared.alloc.AllocError.{AllocError}
use Rattle.source_checkpoint.specs.Names.{IsPartition}
use Rattle.source_log.specs.declared.lists.Records.{Records}
use Rattle.source_log.specs.Log.{Log, IsLog, IsSliceOf, records_of}
use Rattle.source_log.specs.Memory.{with_record}
use Rattle.source_log.proofs.Places.{log_kept, this_grown, others_kept}

module _ (name bytes : List ℕ) (old new : Log) (r : Result (Unit {0}) AllocError) where
  pub pushed_log : IsPartition name → IsLog old → OnOk r (new ≡ with_record old name bytes) → OnOk r (IsLog old → length (records_of old name) + 1 < 2 ^ 64) → OnErr r (new ≡ old) → IsLog new
  pushed_log named is_log =
      elim r as (λ r. OnOk r (new ≡ with_record old name bytes) → OnOk r (IsLog old → length (records_of old name) + 1 < 2 ^ 64) → OnErr r (new ≡ old) → IsLog new) [
        | Ok done ↦ λ ok room err. subst IsLog (sym ok) (log_kept name bytes old named (room is_log) is_log)
        | Err refused ↦ λ ok room err. subst IsLog (sym err) is_log
      ]

  pub pushed_this : IsLog old → OnOk r (new ≡ with_record old name bytes) → OnOk r (records_of new name ≡ records_of old name ++ bytes ∷ [])
  pushed_this is_log = elim r as (λ r. OnOk r (new ≡ with_record old name bytes) → OnOk r (records_of new name ≡ records_of old name ++ bytes ∷ [])) [
    | Ok done ↦ λ ok. ap (λ (l : Log). records_of l name) ok ∙ this_grown name bytes old is_log
    | Err refused ↦ λ ok. tt
  ]

  pub pushed_others : OnOk r (new ≡ with_record old name bytes) → OnOk r ((other : List ℕ) → other ≢ name → records_of new other ≡ records_of old other)
  pushed_others = elim r as (λ r. OnOk r (new ≡ with_record old name bytes) → OnOk r ((other : List ℕ) → other ≢ name → records_of new other ≡ records_of old other)) [
    | Ok done ↦ λ ok other ne. ap (λ (l : Log). records_of l other) ok ∙ others_kept name bytes other old ne
    | Err refused ↦ λ ok. tt
  ]

-- a slice of the records that a partition has
pub slice_at : (all records : List (List ℕ)) (from max : ℕ) (r : Result Records AllocError) → all ≡ records → IfOk r (λ got. IsSliceOf records from max got) → IfOk r (λ got. IsSliceOf all from max got)
slice_at all records from max r same slice = subst (λ (l : List (List ℕ)). IfOk r (λ got. IsSliceOf l from max got)) (sym same) slice
