-- What logs tell as one source is what each of them tells.
use Rattle.std.proofs.Common.{◌≡◌, ◌<◌, ℕ, Bool, true, false, cond, List, [], ◌∷◌, length, refl, sym, ap, ◌∙◌, subst, arith, bytes_eq}
use Rattle.std.specs.Prelude.{Option, Some, None, ◌&&◌}
use Rattle.std.specs.List.{AllByRecursion}
use Rattle.std.proofs.lemmas.Slice.Eq.{bytes_eq-Decides}
use Rattle.source_log.specs.Log.{IsToldLog, Log}
use Rattle.source_log.specs.declared.memory.PartitionLog.{PartitionLog}
use Rattle.thread_run.specs.Sources.{are_same, common, is_same_log, told_by_both}

both_true : (a b : Bool) → a && b ≡ true → (a ≡ true) × (b ≡ true)
both_true true b e = (refl, e)
both_true false b e = absurd (cc e)

same_records : (xs ys : List (List ℕ)) → are_same xs ys ≡ true → xs ≡ ys
same_records [] [] e = refl
same_records [] (y ∷ ys) e = absurd (cc e)
same_records (x ∷ xs) [] e = absurd (cc e)
same_records (x ∷ xs) (y ∷ ys) e =
    let b = both_true (bytes_eq x y) (are_same xs ys) e in
    let here : x ≡ y = (bytes_eq-Decides x y).0 b.0 in
    let rest : xs ≡ ys = same_records xs ys b.1 in
    λ i. here i ∷ rest i

records_same : (xs : List (List ℕ)) → are_same xs xs ≡ true
records_same [] = refl
records_same (x ∷ xs) = ap (λ b. b && are_same xs xs) ((bytes_eq-Decides x x).1 refl) ∙ records_same xs

same_log : (a b : Log) → is_same_log a b ≡ true → a ≡ b
same_log [] [] e = refl
same_log [] (y ∷ ys) e = absurd (cc e)
same_log (x ∷ xs) [] e = absurd (cc e)
same_log (x ∷ xs) (y ∷ ys) e =
    let b = both_true (bytes_eq x.partition y.partition) (are_same x.records y.records && is_same_log xs ys) e in
    let d = both_true (are_same x.records y.records) (is_same_log xs ys) b.1 in
    let name : x.partition ≡ y.partition = (bytes_eq-Decides x.partition y.partition).0 b.0 in
    let records : x.records ≡ y.records = same_records x.records y.records d.0 in
    let rest : xs ≡ ys = same_log xs ys d.1 in
    λ i. record { partition = name i; records = records i } ∷ rest i

log_same : (a : Log) → is_same_log a a ≡ true
log_same [] = refl
log_same (x ∷ xs) =
    ap (λ b. b && (are_same x.records x.records && is_same_log xs xs)) ((bytes_eq-Decides x.partition x.partition).1 refl) ∙ (ap (λ b. b && is_same_log xs xs) (records_same x.records) ∙ log_same xs)

-- what both tell, the one and the other tells
by_both : (a b : Option Log) (log : Log) → told_by_both a b ≡ Some log → (a ≡ Some log) × (b ≡ Some log)
by_both None b log e = absurd (cc e)
by_both (Some one) None log e = absurd (cc e)
by_both (Some one) (Some other) log e = by (is_same_log one other) refl e
  where
    by : (s : Bool) → is_same_log one other ≡ s → cond s (Some one) None ≡ Some log → (Some one ≡ Some log) × (Some other ≡ Some log)
    by true same is = (is, ap (λ x. Some x) (sym (same_log one other same)) ∙ is)
    by false same is = absurd (cc is)

by_same : (log : Log) → told_by_both (Some log) (Some log) ≡ Some log
by_same log = ap (λ s. cond s (Some log) None) (log_same log)

module _ {L : Type 0} (told : L → Option Log) where
  pub each_tells : (logs : List L) (log : Log) → common told logs ≡ Some log → AllByRecursion (λ l. told l ≡ Some log) logs
  each_tells [] log e = tt
  each_tells (l ∷ []) log e = (e, tt)
  each_tells (l ∷ m ∷ logs) log e = let b = by_both (told l) (common told (m ∷ logs)) log e in (b.0, each_tells (m ∷ logs) log b.1)

  pub all_tell : (logs : List L) (log : Log) → 0 < length logs → AllByRecursion (λ l. told l ≡ Some log) logs → common told logs ≡ Some log
  all_tell [] log some all = absurd (omega (arith, some))
  all_tell (l ∷ []) log some all = all.0
  all_tell (l ∷ m ∷ logs) log some all =
      let rest = all_tell (m ∷ logs) log (omega arith) all.1 in
      ap (λ a. told_by_both a (common told (m ∷ logs))) all.0 ∙ (ap (λ b. told_by_both (Some log) b) rest ∙ by_same log)

  sound_as : (given : Option Log) (log : Log) → given ≡ Some log → IsToldLog given → IsToldLog (Some log)
  sound_as given log e s = subst IsToldLog e s

  -- where the first tells a log, they all do
  pub sound_by_first : (first : L) (logs : List L) → IsToldLog (told first) → IsToldLog (common told (first ∷ logs))
  sound_by_first first [] s = s
  sound_by_first first (next ∷ logs) s = by (common told (first ∷ next ∷ logs)) refl
    where
      by : (c : Option Log) → common told (first ∷ next ∷ logs) ≡ c → IsToldLog c
      by None e = tt
      by (Some log) e = sound_as (told first) log (by_both (told first) (common told (next ∷ logs)) log e).0 s
