-- Where all calls are calm, a step comes to the same wherever the pages of its sweep end.
use Rattle.std.proofs.Common.{◌≡◌, ◌⊎◌, inl, inr, ℕ, zero, suc, ◌+◌, ◌*◌, ◌^◌, ◌≤◌, ◌<◌, min, Bool, true, false, cond, List, [], ◌∷◌, length, refl, sym, ap, ◌∙◌, subst, arith, Option, Some, None, Result, Ok, Err}
use Rattle.std.proofs.lemmas.Bool.{and_parts}
use Rattle.std.specs.Cmp.Lexicographic.{slice_cmp}
use Rattle.std.specs.List.{AllByRecursion}
use Rattle.std.specs.Ordering.{is_lt, nat_cmp}
use Rattle.std.specs.Prelude.{◌&&◌, ◌==◌, not, is_some, find, if◌then◌else◌}
use Rattle.std.specs.declared.cmp.Ordering.{Ordering}
use Rattle.std.specs.declared.cmp.Ordering.TheVariants.{Less, Equal, Greater}
use Rattle.meta_journal.proofs.KeyOrder.{keys_rise, less_then}
use Rattle.meta_journal.specs.Places.{meta_key, split_key}
use Rattle.meta_journal.specs.declared.entry.Entry.{Entry}
use Rattle.meta_store.specs.History.{history, last_number}
use Rattle.object_store.specs.Store.{is_behind}
use Rattle.index_world.specs.Calls.{Fate, Trouble, Unmade, as_unmade, begun, calm_call, calm_fate, troubled, troubled_by, without_file}
use Rattle.index_world.specs.Collecting.{doom_call, is_left, is_past, is_swept, mark_stale_call, remove_call, sweep_call, sweep_if}
use Rattle.index_world.specs.Core.{Core, file_at, last_count}
use Rattle.split_collector.specs.Outcomes.{Doomed, Outcome, Nothing, Swept}
use Rattle.split_collector.specs.Steps.{IsCalm, CollectorLuck, Stand, alone, called, calm_luck, end_at, ends_behind, failed_with, first_end, least_left, max_calls, numbers_from, other_ends, outcomes, stand, step_collector, stepped, turned}
use Rattle.split_collector.specs.Turns.{Turn, behind_delete, behind_doom, counted, ended, next_behind, page_turn, paging, to_doom, to_list, to_mark, to_remove, to_sweep}
use Rattle.split_collector.proofs.Alone.{ended_stays}
use Rattle.split_collector.proofs.Gone.{swept_history}
use Rattle.split_collector.proofs.Idling.{none_left}
use Rattle.split_collector.proofs.Least.{found, in_range, left_is_swept}

-- ---- the first number that passes a test

find_same : (p q : ℕ → Bool) → ((n : ℕ) → p n ≡ q n) → (ns : List ℕ) → find p ns ≡ find q ns
find_same p q same [] = refl
find_same p q same (n ∷ ns) = ap (λ (b : Bool). cond b (Some n) (find p ns)) (same n) ∙ ap (λ (o : Option ℕ). cond (q n) (Some n) o) (find_same p q same ns)

-- it passes, and is the least
record IsFound (p : ℕ → Bool) (first n : ℕ) : Type 0 where
  passes : p n ≡ true
  least : (m : ℕ) → p m ≡ true → first ≤ m → n ≤ m

found_is : (p : ℕ → Bool) (first count n : ℕ) → find p (numbers_from first count) ≡ Some n → IsFound p first n
found_is p first zero n e = absurd (cc)
found_is p first (suc count) n e = by (p first) refl e (λ later. found_is p (suc first) count n later)
  where
    by : (b : Bool) → p first ≡ b → cond b (Some first) (find p (numbers_from (suc first) count)) ≡ Some n → (find p (numbers_from (suc first) count) ≡ Some n → IsFound p (suc first) n) → IsFound p first n
    by true here e' rest =
        let same : first ≡ n = cc in
        record { passes = ap p (sym same) ∙ here; least = λ m passes low. omega (arith, same, low) }
    by false here e' rest =
        let f = rest e' in
        record { passes = f.passes; least = λ m passes low. f.least m passes (above m passes low) }
      where
        above : (m : ℕ) → p m ≡ true → first ≤ m → suc first ≤ m
        above m passes low = let apart : first ≡ m → ⊥ = λ same. (let wrong : true ≡ false = sym passes ∙ (ap p (sym same) ∙ here) in absurd (cc)) in omega (arith, low, apart)

-- ---- the order of keys

less_is : (o : Ordering) → is_lt o ≡ true → o ≡ Less
less_is Less e = refl
less_is Equal e = absurd (cc)
less_is Greater e = absurd (cc)

lt_then : (a b c : List ℕ) → is_lt (slice_cmp nat_cmp a b) ≡ true → is_lt (slice_cmp nat_cmp b c) ≡ true → is_lt (slice_cmp nat_cmp a c) ≡ true
lt_then a b c e h = ap is_lt (less_then a b c (less_is (slice_cmp nat_cmp a b) e) (less_is (slice_cmp nat_cmp b c) h))

behind_then : (behind : Option (List ℕ)) (end key : List ℕ) → is_behind behind end ≡ true → is_behind (Some end) key ≡ true → is_behind behind key ≡ true
behind_then None end key rises e = refl
behind_then (Some first) end key rises e = lt_then first end key rises e

-- the key of a greater number stands behind
splits_rise : (m n : ℕ) → m < n → n < 2 ^ 64 → is_lt (slice_cmp nat_cmp (split_key m) (split_key n)) ≡ true
unfolding meta_key split_key
splits_rise m n less small = ap is_lt (keys_rise m n less small)

-- ---- two pages are one

-- where a page has none
agree : (swept stands behind past : Bool) → (past ≡ true → behind ≡ true) → (swept && (stands && (behind && not past))) ≡ false → (swept && (stands && (behind && true))) ≡ (swept && (stands && (past && true)))
agree false stands behind past rises none = refl
agree true false behind past rises none = refl
agree true true behind true rises none = ap (λ (b : Bool). b && true) (rises refl)
agree true true behind false rises none = none

next_page : (core : Core) (behind : Option (List ℕ)) (end : List ℕ) → is_behind behind end ≡ true → least_left behind (Some end) core ≡ None → least_left behind None core ≡ least_left (Some end) None core
next_page core behind end rises none =
    find_same (is_left core behind None) (is_left core (Some end) None)
    (λ n. agree (is_swept core n) (is_some (file_at core.files (split_key n))) (is_behind behind (split_key n)) (is_behind (Some end) (split_key n)) (λ e. behind_then behind end (split_key n) rises e) (none_left core behind (Some end) none n))
    (numbers_from 1 (last_number (history core.history)))

-- where it has one
record IsThere (core : Core) (behind end : Option (List ℕ)) (n : ℕ) : Type 0 where
  swept : is_swept core n ≡ true
  stands : is_some (file_at core.files (split_key n)) ≡ true
  behind_is : is_behind behind (split_key n) ≡ true
  not_past : not (is_past end (split_key n)) ≡ true

there : (core : Core) (behind end : Option (List ℕ)) (n : ℕ) → is_left core behind end n ≡ true → IsThere core behind end n
there core behind end n e =
    let stands = is_some (file_at core.files (split_key n)) in
    let starts = is_behind behind (split_key n) in
    let ends = not (is_past end (split_key n)) in
    let one = and_parts (is_swept core n) (stands && (starts && ends)) e in
    let two = and_parts stands (starts && ends) one.1 in
    let three = and_parts starts ends two.1 in
    record { swept = one.0; stands = two.0; behind_is = three.0; not_past = three.1 }

all_true : (a b c d : Bool) → a ≡ true → b ≡ true → c ≡ true → d ≡ true → (a && (b && (c && d))) ≡ true
all_true a b c d p q r s = ap (λ (x : Bool). x && (b && (c && d))) p ∙ (ap (λ (x : Bool). x && (c && d)) q ∙ (ap (λ (x : Bool). x && d) r ∙ s))

left_of : (core : Core) (behind end : Option (List ℕ)) (n : ℕ) → IsThere core behind end n → is_left core behind end n ≡ true
left_of core behind end n t = all_true (is_swept core n) (is_some (file_at core.files (split_key n))) (is_behind behind (split_key n)) (not (is_past end (split_key n))) t.swept t.stands t.behind_is t.not_past

never_both : (b : Bool) → b ≡ true → not b ≡ true → ⊥
never_both true e h = absurd (cc)
never_both false e h = absurd (cc)

not_true : (b : Bool) → (b ≡ true → ⊥) → not b ≡ true
not_true true h = absurd (h refl)
not_true false h = refl

first_page : (core : Core) (behind : Option (List ℕ)) (end : List ℕ) (n : ℕ) → last_number (history core.history) < 2 ^ 64 → least_left behind (Some end) core ≡ Some n → least_left behind None core ≡ Some n
first_page core behind end n small e =
    found (is_left core behind None) 1 (last_number (history core.history)) n whole range.0 range.1 (λ m passes. least m passes (n_or m))
  where
    f : IsFound (is_left core behind (Some end)) 1 n
    f = found_is (is_left core behind (Some end)) 1 (last_number (history core.history)) n e

    t : IsThere core behind (Some end) n
    t = there core behind (Some end) n f.passes

    whole : is_left core behind None n ≡ true
    whole = left_of core behind None n (record { swept = t.swept; stands = t.stands; behind_is = t.behind_is; not_past = refl })

    range : (1 ≤ n) × (n < 1 + last_number (history core.history))
    range = in_range core behind (Some end) n f.passes

    n_or : (m : ℕ) → (n ≤ m) ⊎ (m < n)
    n_or m = grind arith

    before_end : (m : ℕ) → m < n → is_behind (Some end) (split_key m) ≡ true → ⊥
    before_end m less past =
        never_both (is_behind (Some end) (split_key n)) (lt_then end (split_key m) (split_key n) past (splits_rise m n less (let high = range.1 in omega (arith, high, small)))) t.not_past

    least : (m : ℕ) → is_left core behind None m ≡ true → (n ≤ m) ⊎ (m < n) → n ≤ m
    least m passes (inl le) = le
    least m passes (inr less) =
        let u = there core behind None m passes in
        let inside : is_left core behind (Some end) m ≡ true = left_of core behind (Some end) m (record { swept = u.swept; stands = u.stands; behind_is = u.behind_is; not_past = not_true (is_behind (Some end) (split_key m)) (before_end m less) }) in
        f.least m inside (in_range core behind None m passes).0

-- ---- calm calls

-- what a calm call of the store leaves
abbrev capped : Core → Core
capped core = begun calm_call core

min_twice : (count last : ℕ) → min (min (count + 0) last + 0) last ≡ min (count + 0) last
min_twice count last = omega arith

capped_twice : (core : Core) → capped (capped core) ≡ capped core
capped_twice core = ap (λ (n : ℕ). let c : Core = record core { store_faults = n } in c) (min_twice core.store_faults last_count)

-- the file of this number is deleted, if there is one
swept_by : Option ℕ → Core → Stand
swept_by None core = stand (ended (Some Nothing)) core
swept_by (Some number) core = stand (ended (Some (Swept number))) (without_file (split_key number) core)

number_swept : (calls number : ℕ) (next : Option (List ℕ)) (ends : List (List ℕ)) (core : Core) → 1 ≤ calls → is_swept core number ≡ true → alone calls (to_sweep number next) [] ends core ≡ swept_by (Some number) (capped core)
unfolding swept_by
number_swept zero number next ends core enough swept = absurd (omega arith)
number_swept (suc calls) number next ends core enough swept =
    ap (λ (b : Bool). let left = called (behind_delete outcomes number next) (as_unmade (sweep_if b calm_call number core)) in alone calls left.turn [] ends left.core) swept
    ∙ ended_stays calls (Some (Swept number)) [] ends (without_file (split_key number) (capped core))

least_swept : (core : Core) (behind end : Option (List ℕ)) (n : ℕ) → least_left behind end core ≡ Some n → is_swept core n ≡ true
least_swept core behind end n e = left_is_swept core behind end n (found_is (is_left core behind end) 1 (last_number (history core.history)) n e).passes

-- ---- a sweep

page_swept : (calls : ℕ) (least : Option ℕ) (ends : List (List ℕ)) (core : Core) → ((n : ℕ) → least ≡ Some n → is_swept core n ≡ true) → 1 ≤ calls → alone calls (page_turn outcomes least None) [] ends (capped core) ≡ swept_by least (capped core)
unfolding swept_by
page_swept calls None ends core swept enough = ended_stays calls (Some Nothing) [] ends (capped core)
page_swept calls (Some n) ends core swept enough = number_swept calls n None ends (capped core) enough (swept n refl) ∙ ap (λ (c : Core). swept_by (Some n) c) (capped_twice core)

last_page : (calls : ℕ) (behind : Option (List ℕ)) (ends : List (List ℕ)) (core : Core) → 1 ≤ calls → alone calls (page_turn outcomes (least_left behind None core) None) [] ends (capped core) ≡ swept_by (least_left behind None core) (capped core)
last_page calls behind ends core enough = page_swept calls (least_left behind None core) ends core (λ n e. least_swept core behind None n e) enough

pages_swept : (ends : List (List ℕ)) (behind : Option (List ℕ)) (core : Core) (calls : ℕ) → last_number (history core.history) < 2 ^ 64 → 2 + 2 * length ends ≤ calls → alone calls (to_list behind) [] ends core ≡ swept_by (least_left behind None core) (capped core)
unfolding swept_by
pages_swept ends behind core zero small enough = absurd (omega arith)
pages_swept [] behind core (suc calls) small enough = last_page calls behind [] core (omega arith)
pages_swept (end ∷ ends) behind core (suc calls) small enough = by (is_behind behind end) refl (pages_swept ends (Some end) (capped core) calls small (omega arith))
  where
    page : (least : Option ℕ) → is_behind behind end ≡ true → least_left behind (Some end) core ≡ least → alone calls (to_list (Some end)) [] ends (capped core) ≡ swept_by (least_left (Some end) None core) (capped (capped core))
        → alone calls (page_turn outcomes least (Some end)) [] ends (capped core) ≡ swept_by (least_left behind None core) (capped core)
    page None rises e rest =
        rest ∙ (ap (λ (c : Core). swept_by (least_left (Some end) None core) c) (capped_twice core) ∙ ap (λ (o : Option ℕ). swept_by o (capped core)) (sym (next_page core behind end rises e)))
    page (Some n) rises e rest =
        number_swept calls n (Some end) ends (capped core) (omega arith) (least_swept core behind (Some end) n e)
        ∙ (ap (λ (c : Core). swept_by (Some n) c) (capped_twice core) ∙ ap (λ (o : Option ℕ). swept_by o (capped core)) (sym (first_page core behind end n small e)))

    by : (b : Bool) → is_behind behind end ≡ b → alone calls (to_list (Some end)) [] ends (capped core) ≡ swept_by (least_left (Some end) None core) (capped (capped core))
        → (let next = if b then Some end else None in alone calls (page_turn outcomes (least_left behind next core) next) [] ends (capped core)) ≡ swept_by (least_left behind None core) (capped core)
    by true rises rest = page (least_left behind (Some end) core) rises refl rest
    by false rises rest = last_page calls behind ends core (omega arith)

-- a sweep takes no entry in
abbrev InSweep : Turn (Option Outcome) → Type 0
InSweep to_mark = ⊥
InSweep to_doom = ⊥
InSweep to_remove = ⊥
InSweep (to_list behind) = Unit {0}
InSweep (to_sweep number next) = Unit {0}
InSweep (ended outcome) = Unit {0}

paging_in : (next : Option (List ℕ)) → InSweep (paging outcomes next)
paging_in None = tt
paging_in (Some key) = tt

page_in : (least : Option ℕ) (next : Option (List ℕ)) → InSweep (page_turn outcomes least next)
page_in None next = paging_in next
page_in (Some number) next = tt

delete_in : (number : ℕ) (next : Option (List ℕ)) (answer : Result Bool Unmade) → InSweep (behind_delete outcomes number next answer)
delete_in number next (Ok true) = tt
delete_in number next (Ok false) = paging_in next
delete_in number next (Err unmade) = tt

unmade_core : {A : Type 0} (answer : Result A Trouble) (core : Core) → (troubled_by answer core).core ≡ core
unmade_core (Ok a) core = refl
unmade_core (Err trouble) core = refl

same_history : (calls : ℕ) (turn : Turn (Option Outcome)) (ends : List (List ℕ)) (core : Core) → InSweep turn → (alone calls turn [] ends core).core.history ≡ core.history
same_history zero turn ends core inside = refl
same_history (suc calls) to_mark ends core inside = absurd inside
same_history (suc calls) to_doom ends core inside = absurd inside
same_history (suc calls) to_remove ends core inside = absurd inside
same_history (suc calls) (to_list behind) ends core inside =
    let next = next_behind behind (first_end ends) in
    same_history calls (page_turn outcomes (least_left behind next core) next) (other_ends ends) (capped core) (page_in (least_left behind next core) next)
same_history (suc calls) (to_sweep number next) ends core inside =
    let given = sweep_call number calm_fate core in
    let left = called (behind_delete outcomes number next) (as_unmade given) in
    same_history calls left.turn ends left.core (delete_in number next (as_unmade given).answer)
    ∙ (ap (λ (c : Core). c.history) (unmade_core given.answer given.core) ∙ swept_history (is_swept core number) calm_call number core)
same_history (suc calls) (ended outcome) ends core inside = same_history calls (ended outcome) ends core tt

-- ---- a step

-- so many calls come to the same, wherever pages end
abbrev IsSame : (calls fewer : ℕ) (ends : List (List ℕ)) → Turn (Option Outcome) → Core → Type 0
IsSame calls fewer ends turn core = last_number (history (alone calls turn [] ends core).core.history) < 2 ^ 64 → alone calls turn [] ends core ≡ alone fewer turn [] [] core

ended_same : (calls fewer : ℕ) (ends : List (List ℕ)) (outcome : Option Outcome) (core : Core) → IsSame calls fewer ends (ended outcome) core
ended_same calls fewer ends outcome core small = ended_stays calls outcome [] ends core ∙ sym (ended_stays fewer outcome [] [] core)

counted_same : (calls fewer : ℕ) (ends : List (List ℕ)) (does : ℕ → Option Outcome) (other : Turn (Option Outcome)) (answer : Result ℕ Unmade) (core : Core) → IsSame calls fewer ends other core → IsSame calls fewer ends (counted outcomes does other answer) core
counted_same calls fewer ends does other (Ok n) core same =
    elim (n == 0) as (λ b. IsSame calls fewer ends (if b then other else ended (does n)) core) [ true ↦ same | false ↦ ended_same calls fewer ends (does n) core ]
counted_same calls fewer ends does other (Err unmade) core same = ended_same calls fewer ends (failed_with unmade) core

doomed_same : (calls fewer : ℕ) (ends : List (List ℕ)) (answer : Result (Option ℕ) Trouble) (core : Core) → ((c : Core) → IsSame calls fewer ends to_remove c) → let left = called (behind_doom outcomes) (troubled_by answer core) in IsSame calls fewer ends left.turn left.core
doomed_same calls fewer ends (Ok None) core same = same core
doomed_same calls fewer ends (Ok (Some n)) core same = ended_same calls fewer ends (Some (Doomed n)) core
doomed_same calls fewer ends (Err trouble) core same = ended_same calls fewer ends (failed_with (troubled trouble)) core

sweep_same : (calls : ℕ) (ends : List (List ℕ)) (core : Core) → 2 + 2 * length ends ≤ calls → IsSame calls 2 ends (to_list None) core
sweep_same calls ends core enough small =
    let low : last_number (history core.history) < 2 ^ 64 = subst (λ (es : List Entry). last_number (history es) < 2 ^ 64) (same_history calls (to_list None) ends core tt) small in
    pages_swept ends None core calls low enough ∙ sym (pages_swept [] None core 2 low (omega arith))

remove_same : (calls : ℕ) (ends : List (List ℕ)) (core : Core) → 2 + 2 * length ends ≤ calls → IsSame (suc calls) 3 ends to_remove core
remove_same calls ends core enough =
    let given = remove_call calm_fate core in
    counted_same calls 2 ends outcomes.removed (to_list None) given.answer given.core (sweep_same calls ends given.core enough)

doom_same : (calls : ℕ) (ends : List (List ℕ)) (core : Core) → 2 + 2 * length ends ≤ calls → IsSame (suc (suc calls)) 4 ends to_doom core
doom_same calls ends core enough =
    let given = doom_call calm_fate core in
    doomed_same (suc calls) 3 ends given.answer given.core (λ c. remove_same calls ends c enough)

mark_same : (calls : ℕ) (ends : List (List ℕ)) (core : Core) → 2 + 2 * length ends ≤ calls → IsSame (suc (suc (suc calls))) 5 ends to_mark core
mark_same calls ends core enough =
    let given = mark_stale_call calm_fate core in
    counted_same (suc (suc calls)) 4 ends outcomes.marked to_doom given.answer given.core (doom_same calls ends given.core enough)

pub one_page : (ends : List (List ℕ)) (core : Core) (calls : ℕ) → 5 + 2 * length ends ≤ calls → last_number (history (alone calls to_mark [] ends core).core.history) < 2 ^ 64 → alone calls to_mark [] ends core ≡ alone 5 to_mark [] [] core
one_page ends core zero enough small = absurd (omega arith)
one_page ends core (suc zero) enough small = absurd (omega arith)
one_page ends core (suc (suc zero)) enough small = absurd (omega arith)
one_page ends core (suc (suc (suc calls))) enough small = mark_same calls ends core (omega arith) small

-- ---- calm fates

calm_as_none : (calls : ℕ) (turn : Turn (Option Outcome)) (fates : List Fate) (ends : List (List ℕ)) (core : Core) → AllByRecursion (λ fate. fate ≡ calm_fate) fates → alone calls turn fates ends core ≡ alone calls turn [] ends core
calm_as_none zero turn fates ends core calm = refl
calm_as_none (suc calls) turn [] ends core calm = refl
calm_as_none (suc calls) turn (fate ∷ fates) ends core calm =
    let left = turned turn (record { fate = calm_fate; end = end_at turn ends }) core in
    ap (λ (f : Fate). let given = turned turn (record { fate = f; end = end_at turn ends }) core in alone calls given.turn fates (ends_behind turn ends) given.core) calm.0
    ∙ calm_as_none calls left.turn fates (ends_behind turn ends) left.core calm.1

at_most : (ends : List (List ℕ)) (more : List Fate) → 5 + 2 * length ends ≤ 5 + 2 * length ends + length more
at_most ends more = omega arith

pub calm_same : (luck : CollectorLuck) (core : Core) → IsCalm luck → last_number (history (step_collector luck core).core.history) < 2 ^ 64 → step_collector luck core ≡ step_collector calm_luck core
calm_same luck core calm small =
    let all : AllByRecursion (λ fate. fate ≡ calm_fate) (luck.world ∷ luck.more) = (calm.world, calm.more) in
    let none = calm_as_none (max_calls luck) to_mark (luck.world ∷ luck.more) luck.ends core all in
    let low : last_number (history (alone (max_calls luck) to_mark [] luck.ends core).core.history) < 2 ^ 64 = subst (λ (s : Stand). last_number (history s.core.history) < 2 ^ 64) none small in
    ap (λ (b : Bool). stepped b (alone (max_calls luck) to_mark (luck.world ∷ luck.more) luck.ends core)) calm.enough
    ∙ ap (λ (s : Stand). stepped false s) (none ∙ (one_page luck.ends core (max_calls luck) (at_most luck.ends luck.more) low ∙ sym (calm_as_none 5 to_mark (calm_fate ∷ []) [] core (refl, tt))))
