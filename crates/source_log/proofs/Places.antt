-- Where a partition stands in a log, and what adding a record changes.
use Rattle.std.proofs.Common.{◌≡◌, ◌≢◌, ℕ, suc, ◌+◌, ◌≤◌, ◌<◌, Bool, false, cond, List, [], ◌∷◌, ◌++◌, length, get_or, set, drop, Result, Ok, Err, refl, sym, ap, subst, ◌∙◌, arith, zero-add, ◌^◌, lit<}
use Rattle.std.specs.List.{AllByRecursion, insert}
use Rattle.std.specs.List.Sorted.{IsStrictlySortedBy}
use Rattle.std.specs.declared.cmp.Ordering.{Ordering}
use Rattle.std.specs.declared.cmp.Ordering.TheVariants.{Less, Equal, Greater}
use Rattle.std.specs.Ordering.{nat_cmp}
use Rattle.std.specs.Str.{bytes_eq}
use Rattle.std.specs.Cmp.Lexicographic.{slice_cmp}
use Rattle.std.specs.FinMap.Entries.{by_order}
use Rattle.std.proofs.lemmas.List.{at_drop_more, at_drop_all, length-append}
use Rattle.source_checkpoint.specs.Names.{IsPartition}
use Rattle.source_log.specs.declared.memory.PartitionLog.{PartitionLog}
use Rattle.source_log.specs.Log.{Log, IsLog, IsGoodPart, records_of, names_of}
use Rattle.source_log.specs.Memory.{part_of, with_last, with_record, one_further, place_of}
use Rattle.source_log.proofs.Ordered.{same_from_tie, turned, eq-itself, eq-turned, eq-by_order, before_then}

-- ---- the search

abbrev pub further : ℕ → Result ℕ ℕ → Result ℕ ℕ
further i (Ok place) = Ok (i + place)
further i (Err place) = Err (i + place)

pub further-none : (r : Result ℕ ℕ) → further 0 r ≡ r
further-none (Ok place) = ap (λ (n : ℕ). Ok n) (zero-add place)
further-none (Err place) = ap (λ (n : ℕ). Err n) (zero-add place)

further-one : (i : ℕ) (r : Result ℕ ℕ) → further i (one_further r) ≡ further (i + 1) r
further-one i (Ok place) = let e : i + (place + 1) ≡ i + 1 + place = omega arith in ap (λ (n : ℕ). Ok n) e
further-one i (Err place) = let e : i + (place + 1) ≡ i + 1 + place = omega arith in ap (λ (n : ℕ). Err n) e

-- the search from a place on
abbrev pub sought : List ℕ → Log → ℕ → Result ℕ ℕ
sought name parts i = further i (place_of name (drop i parts))

abbrev answer_at : ℕ → Ordering → Result ℕ ℕ → Result ℕ ℕ
answer_at i r rest = by_order r (Err i) (Ok i) (further (i + 1) rest)

step_is : (i : ℕ) (r : Ordering) (rest : Result ℕ ℕ) → further i (by_order r (Err 0) (Ok 0) (one_further rest)) ≡ answer_at i r rest
step_is i Less rest = let e : i + 0 ≡ i = omega arith in ap (λ (n : ℕ). Err n) e
step_is i Equal rest = let e : i + 0 ≡ i = omega arith in ap (λ (n : ℕ). Ok n) e
step_is i Greater rest = further-one i rest

-- ---- by the place

further_ok : (r : Result ℕ ℕ) (i : ℕ) → one_further r ≡ Ok i → (j : ℕ) × (r ≡ Ok j) × (i ≡ suc j)
further_ok (Ok place) i e = let f : place + 1 ≡ i = cc in (place, refl, omega arith)
further_ok (Err place) i e = absurd cc

further_err : (r : Result ℕ ℕ) (i : ℕ) → one_further r ≡ Err i → (j : ℕ) × (r ≡ Err j) × (i ≡ suc j)
further_err (Ok place) i e = absurd cc
further_err (Err place) i e = let f : place + 1 ≡ i = cc in (place, refl, omega arith)

-- with a record at a place where the partition stands
pub record StandsAt (name : List ℕ) (parts : Log) (i : ℕ) : Type 0 where
  pub within : i < length parts
  pub named : (d : PartitionLog) → (get_or parts i d).partition ≡ name
  pub grown : (bytes : List ℕ) (d : PartitionLog) → with_record parts name bytes ≡ set parts i (with_last (get_or parts i d) bytes)
  pub records : (d : PartitionLog) → records_of parts name ≡ (get_or parts i d).records

pub record WouldStandAt (name : List ℕ) (parts : Log) (i : ℕ) : Type 0 where
  pub within : i ≤ length parts
  pub grown : (bytes : List ℕ) → with_record parts name bytes ≡ insert parts i (part_of name (bytes ∷ []))

pub stands_at : (name : List ℕ) (parts : Log) (i : ℕ) → place_of name parts ≡ Ok i → StandsAt name parts i
stands_at name [] i e = absurd cc
stands_at name (part ∷ parts) i e =
    elim (slice_cmp nat_cmp name part.partition) as (λ r. slice_cmp nat_cmp name part.partition ≡ r → by_order r (Err 0) (Ok 0) (one_further (place_of name parts)) ≡ Ok i → StandsAt name (part ∷ parts) i) [
      | Less ↦ λ o e. absurd cc
      | Equal ↦ λ o e.
          let z : 0 ≡ i = cc in
          let same : part.partition ≡ name = sym (same_from_tie name part.partition o) in
          subst (λ (n : ℕ). StandsAt name (part ∷ parts) n) z (record {
            within = omega arith;
            named = λ d. same;
            grown = λ bytes d. ap (λ (r : Ordering). by_order r (part_of name (bytes ∷ []) ∷ part ∷ parts) (with_last part bytes ∷ parts) (part ∷ with_record parts name bytes)) o;
            records = λ d. ap (λ (b : Bool). cond b part.records (records_of parts name)) (eq-turned name part.partition Equal o);
          })
      | Greater ↦ λ o e.
          let j = further_ok (place_of name parts) i e in
          let rest = stands_at name parts j.0 j.1 in
          subst (λ (n : ℕ). StandsAt name (part ∷ parts) n) (sym j.2) (record {
            within = let lt = rest.within in omega arith;
            named = λ d. rest.named d;
            grown = λ bytes d. ap (λ (r : Ordering). by_order r (part_of name (bytes ∷ []) ∷ part ∷ parts) (with_last part bytes ∷ parts) (part ∷ with_record parts name bytes)) o
                ∙ ap (λ (l : Log). part ∷ l) (rest.grown bytes d);
            records = λ d. ap (λ (b : Bool). cond b part.records (records_of parts name)) (eq-turned name part.partition Greater o) ∙ rest.records d;
          })
    ] refl e

pub would_stand_at : (name : List ℕ) (parts : Log) (i : ℕ) → place_of name parts ≡ Err i → WouldStandAt name parts i
would_stand_at name [] i e =
    let z : 0 ≡ i = cc in
    subst (λ (n : ℕ). WouldStandAt name [] n) z (record { within = omega arith; grown = λ bytes. refl })
would_stand_at name (part ∷ parts) i e =
    elim (slice_cmp nat_cmp name part.partition) as (λ r. slice_cmp nat_cmp name part.partition ≡ r → by_order r (Err 0) (Ok 0) (one_further (place_of name parts)) ≡ Err i → WouldStandAt name (part ∷ parts) i) [
      | Less ↦ λ o e.
          let z : 0 ≡ i = cc in
          subst (λ (n : ℕ). WouldStandAt name (part ∷ parts) n) z (record {
            within = omega arith;
            grown = λ bytes. ap (λ (r : Ordering). by_order r (part_of name (bytes ∷ []) ∷ part ∷ parts) (with_last part bytes ∷ parts) (part ∷ with_record parts name bytes)) o;
          })
      | Equal ↦ λ o e. absurd cc
      | Greater ↦ λ o e.
          let j = further_err (place_of name parts) i e in
          let rest = would_stand_at name parts j.0 j.1 in
          subst (λ (n : ℕ). WouldStandAt name (part ∷ parts) n) (sym j.2) (record {
            within = let le = rest.within in omega arith;
            grown = λ bytes. ap (λ (r : Ordering). by_order r (part_of name (bytes ∷ []) ∷ part ∷ parts) (with_last part bytes ∷ parts) (part ∷ with_record parts name bytes)) o
                ∙ ap (λ (l : Log). part ∷ l) (rest.grown bytes);
          })
    ] refl e

-- ---- in the order of the names

abbrev IsBefore : List ℕ → List ℕ → Type 0
IsBefore name other = slice_cmp nat_cmp name other ≡ Less

abbrev AreInOrder : Log → Type 0
AreInOrder parts = IsStrictlySortedBy (slice_cmp nat_cmp) (names_of parts)

-- a name before all others has no records
no_records : (name : List ℕ) (parts : Log) → AllByRecursion (IsBefore name) (names_of parts) → records_of parts name ≡ []
no_records name [] before = refl
no_records name (part ∷ parts) before =
    ap (λ (b : Bool). cond b part.records (records_of parts name)) (eq-turned name part.partition Less before.0) ∙ no_records name parts before.1

all_before : (a b : List ℕ) (names : List (List ℕ)) → IsBefore a b → AllByRecursion (IsBefore b) names → AllByRecursion (IsBefore a) names
all_before a b [] lt all = tt
all_before a b (name ∷ names) lt all = (before_then a b name lt all.0, all_before a b names lt all.1)

absent_records : (name : List ℕ) (parts : Log) (i : ℕ) → AreInOrder parts → place_of name parts ≡ Err i → records_of parts name ≡ []
unfolding IsStrictlySortedBy
absent_records name [] i order e = refl
absent_records name (part ∷ parts) i order e =
    elim (slice_cmp nat_cmp name part.partition) as (λ r. slice_cmp nat_cmp name part.partition ≡ r → by_order r (Err 0) (Ok 0) (one_further (place_of name parts)) ≡ Err i → records_of (part ∷ parts) name ≡ []) [
      | Less ↦ λ o e. ap (λ (b : Bool). cond b part.records (records_of parts name)) (eq-turned name part.partition Less o) ∙ no_records name parts (all_before name part.partition (names_of parts) o order.0)
      | Equal ↦ λ o e. absurd cc
      | Greater ↦ λ o e. ap (λ (b : Bool). cond b part.records (records_of parts name)) (eq-turned name part.partition Greater o) ∙ absent_records name parts (further_err (place_of name parts) i e).0 order.1 (further_err (place_of name parts) i e).1
    ] refl e

-- ---- what a record more changes

this_one : (name bytes : List ℕ) (parts : Log) → AreInOrder parts → records_of (with_record parts name bytes) name ≡ records_of parts name ++ bytes ∷ []
unfolding IsStrictlySortedBy
this_one name bytes [] order = ap (λ (b : Bool). cond b (bytes ∷ []) []) (eq-itself name)
this_one name bytes (part ∷ parts) order =
    elim (slice_cmp nat_cmp name part.partition) as (λ r. slice_cmp nat_cmp name part.partition ≡ r
    → records_of (by_order r (part_of name (bytes ∷ []) ∷ part ∷ parts) (with_last part bytes ∷ parts) (part ∷ with_record parts name bytes)) name ≡ records_of (part ∷ parts) name ++ bytes ∷ []) [
      | Less ↦ λ o. ap (λ (b : Bool). cond b (bytes ∷ []) (records_of (part ∷ parts) name)) (eq-itself name)
          ∙ ap (λ (l : List (List ℕ)). l ++ bytes ∷ []) (sym (ap (λ (b : Bool). cond b part.records (records_of parts name)) (eq-turned name part.partition Less o) ∙ no_records name parts (all_before name part.partition (names_of parts) o order.0)))
      | Equal ↦ λ o. ap (λ (b : Bool). cond b (part.records ++ bytes ∷ []) (records_of parts name)) (eq-turned name part.partition Equal o)
          ∙ ap (λ (l : List (List ℕ)). l ++ bytes ∷ []) (sym (ap (λ (b : Bool). cond b part.records (records_of parts name)) (eq-turned name part.partition Equal o)))
      | Greater ↦ λ o. ap (λ (b : Bool). cond b part.records (records_of (with_record parts name bytes) name)) (eq-turned name part.partition Greater o)
          ∙ this_one name bytes parts order.1
          ∙ ap (λ (l : List (List ℕ)). l ++ bytes ∷ []) (sym (ap (λ (b : Bool). cond b part.records (records_of parts name)) (eq-turned name part.partition Greater o)))
    ] refl

not_same : (a b : List ℕ) → a ≢ b → bytes_eq a b ≡ false
not_same a b ne = elim (slice_cmp nat_cmp a b) as (λ r. slice_cmp nat_cmp a b ≡ r → bytes_eq a b ≡ false) [
  | Less ↦ λ o. eq-by_order a b Less o
  | Equal ↦ λ o. absurd (ne (same_from_tie a b o))
  | Greater ↦ λ o. eq-by_order a b Greater o
] refl

other_ones : (name bytes other : List ℕ) (parts : Log) → other ≢ name → records_of (with_record parts name bytes) other ≡ records_of parts other
other_ones name bytes other [] ne = ap (λ (b : Bool). cond b (bytes ∷ []) []) (not_same name other (λ e. ne (sym e)))
other_ones name bytes other (part ∷ parts) ne =
    elim (slice_cmp nat_cmp name part.partition) as (λ r. slice_cmp nat_cmp name part.partition ≡ r
    → records_of (by_order r (part_of name (bytes ∷ []) ∷ part ∷ parts) (with_last part bytes ∷ parts) (part ∷ with_record parts name bytes)) other ≡ records_of (part ∷ parts) other) [
      | Less ↦ λ o. ap (λ (b : Bool). cond b (bytes ∷ []) (records_of (part ∷ parts) other)) (not_same name other (λ e. ne (sym e)))
      | Equal ↦ λ o.
          let apart : bytes_eq part.partition other ≡ false = not_same part.partition other (λ e. ne (sym e ∙ sym (same_from_tie name part.partition o))) in
          ap (λ (b : Bool). cond b (part.records ++ bytes ∷ []) (records_of parts other)) apart ∙ sym (ap (λ (b : Bool). cond b part.records (records_of parts other)) apart)
      | Greater ↦ λ o. ap (λ (l : List (List ℕ)). cond (bytes_eq part.partition other) part.records l) (other_ones name bytes other parts ne)
    ] refl

-- ---- a log with a record more is a log

still_before : (a name bytes : List ℕ) (parts : Log) → IsBefore a name → AllByRecursion (IsBefore a) (names_of parts) → AllByRecursion (IsBefore a) (names_of (with_record parts name bytes))
still_before a name bytes [] lt all = (lt, tt)
still_before a name bytes (part ∷ parts) lt all =
    elim (slice_cmp nat_cmp name part.partition) as (λ r. AllByRecursion (IsBefore a) (names_of (by_order r (part_of name (bytes ∷ []) ∷ part ∷ parts) (with_last part bytes ∷ parts) (part ∷ with_record parts name bytes)))) [
      | Less ↦ (lt, all)
      | Equal ↦ all
      | Greater ↦ (all.0, still_before a name bytes parts lt all.1)
    ]

order_kept : (name bytes : List ℕ) (parts : Log) → AreInOrder parts → AreInOrder (with_record parts name bytes)
unfolding IsStrictlySortedBy
order_kept name bytes [] order = (tt, tt)
order_kept name bytes (part ∷ parts) order =
    elim (slice_cmp nat_cmp name part.partition) as (λ r. slice_cmp nat_cmp name part.partition ≡ r → AreInOrder (by_order r (part_of name (bytes ∷ []) ∷ part ∷ parts) (with_last part bytes ∷ parts) (part ∷ with_record parts name bytes))) [
      | Less ↦ λ o. ((o, all_before name part.partition (names_of parts) o order.0), order)
      | Equal ↦ λ o. order
      | Greater ↦ λ o. (still_before part.partition name bytes parts (turned name part.partition Greater o) order.0, order_kept name bytes parts order.1)
    ] refl

good_kept : (name bytes : List ℕ) (parts : Log) → IsPartition name → length (records_of parts name) + 1 < 2 ^ 64 → AllByRecursion IsGoodPart parts → AllByRecursion IsGoodPart (with_record parts name bytes)
good_kept name bytes [] named room good = ((named, lit< tt), tt)
good_kept name bytes (part ∷ parts) named room good =
    elim (slice_cmp nat_cmp name part.partition) as (λ r. slice_cmp nat_cmp name part.partition ≡ r → AllByRecursion IsGoodPart (by_order r (part_of name (bytes ∷ []) ∷ part ∷ parts) (with_last part bytes ∷ parts) (part ∷ with_record parts name bytes))) [
      | Less ↦ λ o. ((named, lit< tt), good)
      | Equal ↦ λ o.
          let here : records_of (part ∷ parts) name ≡ part.records = ap (λ (b : Bool). cond b part.records (records_of parts name)) (eq-turned name part.partition Equal o) in
          let fits : length part.records + 1 < 2 ^ 64 = subst (λ (l : List (List ℕ)). length l + 1 < 2 ^ 64) here room in
          ((good.0.0, omega (arith, length-append part.records (bytes ∷ []))), good.1)
      | Greater ↦ λ o.
          let there : records_of (part ∷ parts) name ≡ records_of parts name = ap (λ (b : Bool). cond b part.records (records_of parts name)) (eq-turned name part.partition Greater o) in
          (good.0, good_kept name bytes parts named (subst (λ (l : List (List ℕ)). length l + 1 < 2 ^ 64) there room) good.1)
    ] refl

pub log_kept : (name bytes : List ℕ) (parts : Log) → IsPartition name → length (records_of parts name) + 1 < 2 ^ 64 → IsLog parts → IsLog (with_record parts name bytes)
log_kept name bytes parts named room is_log = record { in_order = order_kept name bytes parts is_log.in_order; good = good_kept name bytes parts named room is_log.good }

pub log_vacant : IsLog []
unfolding IsStrictlySortedBy
log_vacant = record { in_order = tt; good = tt }

pub this_grown : (name bytes : List ℕ) (parts : Log) → IsLog parts → records_of (with_record parts name bytes) name ≡ records_of parts name ++ bytes ∷ []
this_grown name bytes parts is_log = this_one name bytes parts is_log.in_order

pub others_kept : (name bytes other : List ℕ) (parts : Log) → other ≢ name → records_of (with_record parts name bytes) other ≡ records_of parts other
others_kept = other_ones

pub absent : (name : List ℕ) (parts : Log) (i : ℕ) → IsLog parts → place_of name parts ≡ Err i → records_of parts name ≡ []
absent name parts i is_log e = absent_records name parts i is_log.in_order e
