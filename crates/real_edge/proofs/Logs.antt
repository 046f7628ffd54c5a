-- Files of partitions as a log.
use Rattle.std.proofs.Common.{◌≡◌, ℕ, ◌+◌, ◌-◌, ◌<◌, ◌≤◌, ◌^◌, Bool, true, false, List, [], ◌∷◌, ◌++◌, length, map, take, drop, get_or, Option, Some, None, Ok, refl, sym, ap, subst, ◌∙◌, ◌⊎◌, inl, inr, arith, length-append, length-take, length-drop}
use Rattle.std.specs.Prelude.{min, IfSome, Contains, bytes_eq, if◌then◌else◌, IsTrue, ◌↔◌}
use Rattle.std.specs.List.{AllByRecursion}
use Rattle.std.specs.List.Sorted.{IsStrictlySortedBy}
use Rattle.std.specs.Ordering.{nat_cmp}
use Rattle.std.specs.Cmp.Lexicographic.{slice_cmp}
use Rattle.std.proofs.lemmas.Bool.{cases_lt}
use Rattle.std.proofs.lemmas.List.{take_all, take_more, append-nil}
use Rattle.std.proofs.lemmas.List.Elements.{Contains-get_or}
use Rattle.source_checkpoint.specs.Names.{IsPartition}
use Rattle.source_log.specs.declared.lists.Records.{Records}
use Rattle.source_log.specs.declared.memory.PartitionLog.{PartitionLog}
use Rattle.source_log.specs.Log.{Log, IsLog, IsGoodPart, IsSliceOf, IsToldLog, WhereLogTold, ReadsSlice, GivesNames, Extends, records_of}
use Rattle.source_log.specs.Log as logs
use Rattle.real_edge.specs.Growing.{Grown, AreGrown, IsGoodFile, Grow, bytes_of, names_of, part_of, log_of, log_in}
use Rattle.real_edge.specs.Lines.{records_in, IsMark}
use Rattle.real_edge.proofs.Lines.{count-records, records-append}
use Rattle.real_edge.proofs.Pieces.{grown-size}
use Rattle.real_edge.proofs.Walks.{true_false}

-- ---- the log

pub records-of-log : (files : List Grown) (name : List ℕ) → records_of (log_of files) name ≡ records_in (bytes_of files name)
records-of-log [] name = refl
records-of-log (file ∷ files) name = by (records-of-log files name) (bytes_eq file.name name)
  where
    by : records_of (log_of files) name ≡ records_in (bytes_of files name) → (t : Bool) →
        (if t then records_in file.bytes else records_of (log_of files) name) ≡ records_in (if t then file.bytes else bytes_of files name)
    by later true = refl
    by later false = later

names-of-log : (files : List Grown) → logs.names_of (log_of files) ≡ names_of files
names-of-log [] = refl
names-of-log (file ∷ files) = ap (λ (names : List (List ℕ)). file.name ∷ names) (names-of-log files)

good_parts : (files : List Grown) → AllByRecursion IsGoodFile files → AllByRecursion IsGoodPart (log_of files)
good_parts [] good = tt
good_parts (file ∷ files) good =
    ((good.0.0, (let n = count-records file.bytes in let s : length file.bytes < 2 ^ 63 = good.0.1 in omega (arith, n, s))), good_parts files good.1)

pub log-sound : (files : List Grown) → AreGrown files → IsLog (log_of files)
log-sound files a = record {
  in_order = subst (λ (names : List (List ℕ)). IsStrictlySortedBy (slice_cmp nat_cmp) names) (sym (names-of-log files)) a.in_order;
  good = good_parts files a.good;
}

-- What was told of the files stays where they grow, so the records stay.
pub log-extends : (old new : List Grown) → Grow old new → Extends (log_of old) (log_of new)
log-extends old new grow name =
    let more = records-append (bytes_of old name) (grow name).0 in (
      more.0,
      records-of-log new name ∙ ap records_in (grow name).1 ∙ more.1 ∙ ap (λ (records : List (List ℕ)). records ++ more.0) (sym (records-of-log old name)),
    )

-- ---- what is told

pub some_from : {X : Type 0} (P : X → Type 0) (o : Option X) → ((x : X) → o ≡ Some x → P x) → IfSome o P
some_from P None by = tt
some_from P (Some x) by = by x refl

pub told-sound : (told : Option (List Grown)) → IfSome told AreGrown → IsToldLog (log_in told)
told-sound None a = tt
told-sound (Some files) a = log-sound files a

-- no more than that can stand behind a place
slice_max : (all : List (List ℕ)) (from most max : ℕ) (records : Records) → length all < 2 ^ 63 → most ≡ min max (18446744073709551615 - from) → IsSliceOf all from most records → IsSliceOf all from max records
slice_max all from most max records small is s = by (cases_lt most (length all - from))
  where
    left : length (drop from all) ≡ length all - from
    left = length-drop from all

    by : (most < length all - from) ⊎ (length all - from ≤ most) → IsSliceOf all from max records
    by (inl lt) = subst (λ (n : ℕ). IsSliceOf all from n records) (let e : most ≡ max = omega (arith, is, lt, small) in e) s
    by (inr le) = record {
      list_is = s.list_is ∙ take_all most (drop from all) (omega (arith, left, le)) ∙ sym (take_all max (drop from all) (omega (arith, left, le, is)));
      end_is = s.end_is;
    }

pub told-slice : (told told' : Option (List Grown)) (name : List ℕ) (from most max : ℕ) (records : Records) → told' ≡ told → most ≡ min max (18446744073709551615 - from) → IfSome told AreGrown →
    IfSome told (λ files. IsSliceOf (records_in (bytes_of files name)) from most records) → WhereLogTold (log_in told) (log_in told') (ReadsSlice name from max (Ok records))
told-slice None told' name from most max records same is a s = tt
told-slice (Some files) told' name from most max records same is a s =
    subst (λ (o : Option (List Grown)). WhereLogTold (Some (log_of files)) (log_in o) (ReadsSlice name from max (Ok records))) (sym same) (
      refl,
      subst (λ (all : List (List ℕ)). IsSliceOf all from max records) (sym (records-of-log files name))
          (slice_max (records_in (bytes_of files name)) from most max records
          (let n = count-records (bytes_of files name) in let s : length (bytes_of files name) < 2 ^ 63 = grown-size files name a in omega (arith, n, s)) is s),
    )

pub told-names : (told told' : Option (List Grown)) (names : List (List ℕ)) → told' ≡ told → IfSome told (λ files. names ≡ names_of files) → WhereLogTold (log_in told) (log_in told') (GivesNames (Ok names))
told-names None told' names same is = tt
told-names (Some files) told' names same is =
    subst (λ (o : Option (List Grown)). WhereLogTold (Some (log_of files)) (log_in o) (GivesNames (Ok names))) (sym same) (refl, is ∙ sym (names-of-log files))

-- ---- the names that are given

-- the files are as they were, and so many names were given
pub record HasGiven (told told' : Option (List Grown)) (names given : List (List ℕ)) (count : ℕ) : Type 0 where
  pub same : told' ≡ told
  pub all : IfSome told (λ files. given ≡ take count names)

pub given-more : (told told' : Option (List Grown)) (names given : List (List ℕ)) (count : ℕ) (name : List ℕ) → count < length names → name ≡ get_or names count name → told' ≡ told →
    IfSome told (λ files. given ≡ take count names) → HasGiven told told' names (given ++ name ∷ []) (count + 1)
given-more told told' names given count name lt at same all = record { same = same; all = by told all }
  where
    by : (o : Option (List Grown)) → IfSome o (λ files. given ≡ take count names) → IfSome o (λ files. given ++ name ∷ [] ≡ take (count + 1) names)
    by None h = tt
    by (Some files) h = ap (λ (l : List (List ℕ)). l ++ name ∷ []) h ∙ ap (λ (x : List ℕ). take count names ++ x ∷ []) at ∙ sym (take_more names count name lt)

-- where files are told, each name is given
pub given-none : (told told' : Option (List Grown)) (names given : List (List ℕ)) (count : ℕ) (name : List ℕ) → count < length names → name ≡ get_or names count name → told' ≡ told →
    IfSome told (λ files. names ≡ names_of files) → IfSome told (λ files. Contains (names_of files) name → false ≡ true) → HasGiven told told' names given (count + 1)
given-none told told' names given count name lt at same is none = record { same = same; all = by told is none }
  where
    here : Contains names name
    here = subst (λ (x : List ℕ). Contains names x) (sym at) (Contains-get_or names count name lt)

    by : (o : Option (List Grown)) → IfSome o (λ files. names ≡ names_of files) → IfSome o (λ files. Contains (names_of files) name → false ≡ true) → IfSome o (λ files. given ≡ take (count + 1) names)
    by None h k = tt
    by (Some files) h k = absurd (true_false (sym (k (subst (λ (l : List (List ℕ)). Contains l name) h here))))

pub given-all : (told : Option (List Grown)) (names given : List (List ℕ)) (count : ℕ) → length names ≤ count → IfSome told (λ files. given ≡ take count names) → IfSome told (λ files. given ≡ names)
given-all None names given count le h = tt
given-all (Some files) names given count le h = h ∙ take_all count names le

pub some_at : {X : Type 0} (P : X → Type 0) (o : Option X) (x : X) → o ≡ Some x → IfSome o P → P x
some_at {X} P o x e h = subst (λ (o : Option X). IfSome o P) e h
