-- Where the answer to a delta is Ok, it is one, and the other way round.
use Rattle.std.proofs.Common.{◌≡◌, ℕ, ◌<◌, ◌==◌, ◌||◌, ◌↔◌, Bool, true, false, cond, List, [], ◌∷◌, ◌++◌, Result, Ok, Err, IsOk, nat_le, bytes_eq, refl, sym, ◌∙◌, inl, inr, eqb-true, eq-eqb}
use Rattle.std.specs.List.{AllByRecursion}
use Rattle.std.proofs.lemmas.Bool.{cases_lt, or_parts, lt-leb, false_from_ne_true, false≢true}
use Rattle.std.proofs.Common.{le-leb}
use Rattle.source_checkpoint.proofs.Ranges.{same_partition, partition_itself}
use Rattle.source_checkpoint.specs.Deltas.{Partition, Part, Names, IsDelta, MayAdmit, then_answer, answer_to_part, answer_to_delta, answer_at, answer_to_admit}

pub ok_then : {E : Type 0} (a b : Result (Unit {0}) E) → IsOk (then_answer a b) → IsOk a × IsOk b
ok_then (Ok u) b h = (refl, h)
ok_then (Err e) b h = absurd (false≢true h)

pub then_ok : {E : Type 0} (a b : Result (Unit {0}) E) → IsOk a → IsOk b → IsOk (then_answer a b)
then_ok (Ok u) b h k = k
then_ok (Err e) b h k = absurd (false≢true h)

-- an answer that refuses where a test holds, and one that refuses where it doesn't
pub ok_unless : {E : Type 0} (b : Bool) (e : E) (next : Result (Unit {0}) E) → IsOk (cond b (Err e) next) → (b ≡ false) × IsOk next
ok_unless true e next h = absurd (false≢true h)
ok_unless false e next h = (refl, h)

pub unless_ok : {E : Type 0} (b : Bool) (e : E) (next : Result (Unit {0}) E) → b ≡ false → IsOk next → IsOk (cond b (Err e) next)
unless_ok true e next h k = absurd (false≢true (sym h))
unless_ok false e next h k = k

abbrev pub ok_if : {E : Type 0} → Bool → E → Result (Unit {0}) E
ok_if b e = cond b (Ok tt) (Err e)

pub ok_where : {E : Type 0} (b : Bool) (e : E) → IsOk (ok_if b e) → b ≡ true
ok_where true e h = refl
ok_where false e h = absurd (false≢true h)

pub where_ok : {E : Type 0} (b : Bool) (e : E) → b ≡ true → IsOk (ok_if b e)
where_ok true e h = refl
where_ok false e h = absurd (false≢true h)

-- a part behind others
abbrev IsFirst : List Part → Part → Type 0
IsFirst before part = Names before part.partition ≡ false

not_le : (a b : ℕ) → nat_le a b ≡ false → b < a
not_le a b h = elim (cases_lt b a) [ inl lt ↦ lt | inr le ↦ absurd (false≢true (sym h ∙ le-leb a b le)) ]

part_ok : (before : List Part) (part : Part) → IsOk (answer_to_part before part) → IsFirst before part × (part.from < part.to)
part_ok before part h =
    let a = ok_unless (Names before part.partition) _ _ h in
    let b = ok_unless (nat_le part.to part.from) _ _ a.1 in
    (a.0, not_le part.to part.from b.0)

ok_part : (before : List Part) (part : Part) → IsFirst before part → part.from < part.to → IsOk (answer_to_part before part)
ok_part before part h lt = unless_ok (Names before part.partition) _ _ h (unless_ok (nat_le part.to part.from) _ _ (lt-leb part.to part.from lt) refl)

or_false : (a b : Bool) → a ≡ false → b ≡ false → (a || b) ≡ false
or_false a b h k = rw (h, k) refl

names_push : (before : List Part) (part : Part) (p : Partition) → Names (before ++ part ∷ []) p ≡ false → (Names before p ≡ false) × (bytes_eq part.partition p ≡ false)
names_push [] part p h = (refl, (or_parts (bytes_eq part.partition p) false h).0)
names_push (b ∷ before) part p h =
    let parts = or_parts (bytes_eq b.partition p) (Names (before ++ part ∷ []) p) h in
    let rest = names_push before part p parts.1 in
    (or_false (bytes_eq b.partition p) (Names before p) parts.0 rest.0, rest.1)

push_names : (before : List Part) (part : Part) (p : Partition) → Names before p ≡ false → bytes_eq part.partition p ≡ false → Names (before ++ part ∷ []) p ≡ false
push_names [] part p h k = or_false (bytes_eq part.partition p) false k refl
push_names (b ∷ before) part p h k =
    let parts = or_parts (bytes_eq b.partition p) (Names before p) h in
    or_false (bytes_eq b.partition p) (Names (before ++ part ∷ []) p) parts.0 (push_names before part p parts.1 k)

turned : (a b : Partition) → bytes_eq a b ≡ false → bytes_eq b a ≡ false
turned a b h = false_from_ne_true (bytes_eq b a) (λ t. false≢true (sym h ∙ partition_itself a b (sym (same_partition b a t))))

-- no part behind is of the partition, told by each of them
behind_names : (part : Part) (before parts : List Part) → AllByRecursion (IsFirst (before ++ part ∷ [])) parts → Names parts part.partition ≡ false
behind_names part before [] h = refl
behind_names part before (q ∷ parts) h =
    or_false (bytes_eq q.partition part.partition) (Names parts part.partition)
    (turned part.partition q.partition (names_push before part q.partition h.0).1) (behind_names part before parts h.1)

before_names : (part : Part) (before parts : List Part) → AllByRecursion (IsFirst (before ++ part ∷ [])) parts → AllByRecursion (IsFirst before) parts
before_names part before [] h = tt
before_names part before (q ∷ parts) h = ((names_push before part q.partition h.0).0, before_names part before parts h.1)

names_both : (part : Part) (before parts : List Part) → AllByRecursion (IsFirst before) parts → Names parts part.partition ≡ false → AllByRecursion (IsFirst (before ++ part ∷ [])) parts
names_both part before [] h k = tt
names_both part before (q ∷ parts) h k =
    let both = or_parts (bytes_eq q.partition part.partition) (Names parts part.partition) k in
    (push_names before part q.partition h.0 (turned q.partition part.partition both.0), names_both part before parts h.1 both.1)

delta_ok : (before delta : List Part) → IsOk (answer_to_delta before delta) → IsDelta delta × AllByRecursion (IsFirst before) delta
delta_ok before [] h = (tt, tt)
delta_ok before (part ∷ parts) h =
    let both = ok_then (answer_to_part before part) (answer_to_delta (before ++ part ∷ []) parts) h in
    let here = part_ok before part both.0 in
    let rest = delta_ok (before ++ part ∷ []) parts both.1 in
    ((here.1, behind_names part before parts rest.1, rest.0), (here.0, before_names part before parts rest.1))

ok_delta : (before delta : List Part) → IsDelta delta → AllByRecursion (IsFirst before) delta → IsOk (answer_to_delta before delta)
ok_delta before [] d h = refl
ok_delta before (part ∷ parts) d h =
    then_ok (answer_to_part before part) (answer_to_delta (before ++ part ∷ []) parts) (ok_part before part h.0 d.0)
    (ok_delta (before ++ part ∷ []) parts d.2 (names_both part before parts h.1 d.1))

first_of_none : (delta : List Part) → AllByRecursion (IsFirst []) delta
first_of_none [] = tt
first_of_none (part ∷ parts) = (refl, first_of_none parts)

pub delta_answer : (delta : List Part) → IsOk (answer_to_delta [] delta) ↔ IsDelta delta
delta_answer delta = ((λ h. (delta_ok [] delta h).0), (λ d. ok_delta [] delta d (first_of_none delta)))

admit_ok : (at : Partition → ℕ) (before delta : List Part) → IsOk (answer_to_admit at before delta) → IsOk (answer_to_delta before delta) × AllByRecursion (λ part. part.from ≡ at part.partition) delta
admit_ok at before [] h = (refl, tt)
admit_ok at before (part ∷ parts) h =
    let both = ok_then (answer_to_part before part) _ h in
    let more = ok_then (answer_at (at part.partition) part) (answer_to_admit at (before ++ part ∷ []) parts) both.1 in
    let rest = admit_ok at (before ++ part ∷ []) parts more.1 in (
      then_ok (answer_to_part before part) (answer_to_delta (before ++ part ∷ []) parts) both.0 rest.0,
      (eqb-true part.from (at part.partition) (ok_where (part.from == at part.partition) _ more.0), rest.1),
    )

ok_admit : (at : Partition → ℕ) (before delta : List Part) → IsOk (answer_to_delta before delta) → AllByRecursion (λ part. part.from ≡ at part.partition) delta → IsOk (answer_to_admit at before delta)
ok_admit at before [] h k = refl
ok_admit at before (part ∷ parts) h k =
    let both = ok_then (answer_to_part before part) (answer_to_delta (before ++ part ∷ []) parts) h in
    then_ok (answer_to_part before part) _ both.0
    (then_ok (answer_at (at part.partition) part) (answer_to_admit at (before ++ part ∷ []) parts)
    (where_ok (part.from == at part.partition) _ (eq-eqb part.from (at part.partition) k.0))
    (ok_admit at (before ++ part ∷ []) parts both.1 k.1))

pub admit_answer : (at : Partition → ℕ) (delta : List Part) → IsOk (answer_to_admit at [] delta) ↔ MayAdmit delta at
admit_answer at delta = (
  (λ h. let both = admit_ok at [] delta h in ((delta_ok [] delta both.0).0, both.1)),
  (λ m. ok_admit at [] delta (ok_delta [] delta m.0 (first_of_none delta)) m.1),
)
