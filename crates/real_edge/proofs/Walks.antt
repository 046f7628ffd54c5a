-- What a walk over the names of a disk comes to.
use Rattle.std.proofs.Common.{◌≡◌, ◌≢◌, ◌⊎◌, ℕ, zero, suc, ◌+◌, ◌-◌, ◌<◌, ◌≤◌, nat_eq, get_or, add-one, Bool, true, false, ◌&&◌, ◌||◌, cond, T, List, [], ◌∷◌, ◌++◌, length, map, filter, take, drop, Option, Some, None, refl, sym, ap, subst, ◌∙◌, inl, inr, arith}
use Rattle.std.specs.Prelude.{IsSome, IfSome, IsTrue, All, Contains, is_some, slice_index, nat_lt, nat_le}
use Rattle.std.specs.List.{starts_with, list_all, list_any}
use Rattle.std.specs.Ordering.{nat_cmp, is_lt, is_eq, eq_by_cmp, ordering_reverse}
use Rattle.object_store.specs.Key.{IsKey, is_key_byte}
use Rattle.std.specs.Cmp.Lexicographic.{slice_cmp, nat_list_cmp_total}
use Rattle.std.specs.declared.cmp.Ordering.{Ordering}
use Rattle.std.specs.declared.cmp.Ordering.TheVariants.{Less, Equal, Greater}
use Rattle.std.specs.FinMap as finmap
use Rattle.std.specs.FinMap.{contains_key-keys, entries_sorted}
use Rattle.std.specs.FinMap.Entries.{below_all, is_sorted}
use Rattle.std.proofs.lemmas.Bool.{and_parts, and_from, and_right, or_left, or_right, lt-ltb, le-leb, ltb-true, leb-true}
use Rattle.std.proofs.lemmas.List.{append-nil, length-append, take_more, take_all}
use Rattle.std.proofs.lemmas.List.Elements.{Contains-append_cases, Contains-push_cases, All-nil, All-cons, All-head, All-tail}
use Rattle.object_store.proofs.Entries.{same_from_tie, ties_itself}
use Rattle.object_store.proofs.States.{tied}
use Rattle.object_store.specs.Store.{is_behind, is_wanted, listed}
use Rattle.real_edge.specs.declared.waiting.Wait.{Wait}
use Rattle.real_edge.specs.declared.folder_walk.Walk.{Walk}
use Rattle.real_edge.specs.declared.disk.Standing.TheVariants as standings
use Rattle.real_edge.specs.Disk.{Files, Begins, NoneWithin, Looks, first_part, Names}
use Rattle.real_edge.specs.Names.{is_object}
use Rattle.real_edge.specs.Objects.{objects_of, KeepsObjects}
use Rattle.real_edge.specs.Waiting.{IsFirst}
use Rattle.real_edge.specs.Walk.{LeadsBy, Leads, IsSought, Covers, IsCovering, Gives, Meets, MeetsWithin, CoversWith, left_of, may_be_behind, may_have}
use Rattle.real_edge.proofs.Maps.{get_here, get_none, cases_same}
use Rattle.real_edge.proofs.Fronts.{begins_from, begins_so, begins_then, fronts, not_before, before_front, first_parts, own_rest, appended, parted}
use Rattle.real_edge.proofs.Wheres.{if_map, if_both, if_all}

pub true_false : true ≡ false → ⊥
true_false e = cc

-- ---- a folder that may have what is sought

pub of_prefix : (prefix folder q : List ℕ) → starts_with nat_eq q prefix ≡ true → Begins folder q → (starts_with nat_eq folder prefix || starts_with nat_eq prefix folder) ≡ true
of_prefix prefix folder q is h = elim (fronts prefix folder q (begins_from prefix q is) h) [
  | inl a ↦ or_left (starts_with nat_eq folder prefix) (starts_with nat_eq prefix folder) (begins_so prefix folder a)
  | inr b ↦ or_right (starts_with nat_eq folder prefix) (starts_with nat_eq prefix folder) (begins_so folder prefix b)
]

pub of_after : (after : Option (List ℕ)) (folder q : List ℕ) → is_behind after q ≡ true → Begins folder q → may_be_behind after folder ≡ true
of_after None folder q is h = refl
of_after (Some a) folder q is h = elim (before_front a folder h.0 (subst (λ (z : List ℕ). is_lt (slice_cmp nat_cmp a z) ≡ true) h.1 is)) [
  | inl b ↦ or_left (starts_with nat_eq a folder) (is_lt (slice_cmp nat_cmp a folder)) (begins_so folder a b)
  | inr l ↦ or_right (starts_with nat_eq a folder) (is_lt (slice_cmp nat_cmp a folder)) l
]

pub may_lead : (prefix : List ℕ) (after : Option (List ℕ)) (folder q : List ℕ) → is_wanted prefix after q ≡ true → Begins folder q → may_have prefix after folder ≡ true
may_lead prefix after folder q is h =
    let parts = and_parts (starts_with nat_eq q prefix) (is_behind after q) is in
    and_from (starts_with nat_eq folder prefix || starts_with nat_eq prefix folder) (may_be_behind after folder) (of_prefix prefix folder q parts.0 h) (of_after after folder q parts.1 h)

-- ---- keys in order

T_from : (b : Bool) → b ≡ true → T b
T_from b e = subst T (sym e) tt

from_T : (b : Bool) → T b → b ≡ true
from_T true h = refl
from_T false h = absurd h

less_is : (r : Ordering) → is_lt r ≡ true → r ≡ Less
less_is Less e = refl
less_is Equal e = absurd (true_false (sym e))
less_is Greater e = absurd (true_false (sym e))

abbrev firsts : List (List ℕ × List ℕ) → List (List ℕ)
firsts es = map (λ e. e.0) es

-- filters that agree on all that is behind a key
agree_behind : (p r : List ℕ → Bool) (w : List ℕ) → ((x : List ℕ) → is_lt (slice_cmp nat_cmp w x) ≡ true → p x ≡ r x) → (es : List (List ℕ × List ℕ)) → T (below_all (slice_cmp nat_cmp) w es) → filter p (firsts es) ≡ filter r (firsts es)
agree_behind p r w same [] h = refl
agree_behind p r w same (e ∷ es) h =
    let parts = and_parts (is_lt (slice_cmp nat_cmp w e.0)) (below_all (slice_cmp nat_cmp) w es) (from_T _ h) in
    let rest : filter p (firsts es) ≡ filter r (firsts es) = agree_behind p r w same es (T_from _ parts.1) in
    ap (λ b. cond b (e.0 ∷ filter p (firsts es)) (filter p (firsts es))) (same e.0 parts.0) ∙ (λ i. cond (r e.0) (e.0 ∷ rest i) (rest i))

abbrev any_of : List ℕ → List (List ℕ × List ℕ) → Bool
any_of x es = list_any (eq_by_cmp (slice_cmp nat_cmp) x) (firsts es)

-- one of keys that rise comes behind a key that they all do
below_any : (k w : List ℕ) (es : List (List ℕ × List ℕ)) → below_all (slice_cmp nat_cmp) k es ≡ true → any_of w es ≡ true → is_lt (slice_cmp nat_cmp k w) ≡ true
below_any k w [] b any = absurd (true_false (sym any))
below_any k w (f ∷ fs) b any = by (λ h. below_any k w fs two.1 h) (eq_by_cmp (slice_cmp nat_cmp) w f.0) refl
  where
    two : (is_lt (slice_cmp nat_cmp k f.0) ≡ true) × (below_all (slice_cmp nat_cmp) k fs ≡ true)
    two = and_parts (is_lt (slice_cmp nat_cmp k f.0)) (below_all (slice_cmp nat_cmp) k fs) b

    by : (any_of w fs ≡ true → is_lt (slice_cmp nat_cmp k w) ≡ true) → (c : Bool) → eq_by_cmp (slice_cmp nat_cmp) w f.0 ≡ c → is_lt (slice_cmp nat_cmp k w) ≡ true
    by later true t = subst (λ (x : List ℕ). is_lt (slice_cmp nat_cmp k x) ≡ true) (sym (tied w f.0 t)) two.0
    by later false t = later (sym (ap (λ c. c || any_of w fs) t) ∙ any)

any_first : (e : List ℕ × List ℕ) (es : List (List ℕ × List ℕ)) → any_of e.0 (e ∷ es) ≡ true
any_first e es = ap (λ r. is_eq r || any_of e.0 es) (ties_itself e.0)

any_later : (x : List ℕ) (e : List ℕ × List ℕ) (es : List (List ℕ × List ℕ)) → any_of x es ≡ true → any_of x (e ∷ es) ≡ true
any_later x e es h = or_right (eq_by_cmp (slice_cmp nat_cmp) x e.0) (any_of x es) h

-- of keys that rise, the first that a filter keeps, and the filter of what is behind it
pub first_kept : (p r : List ℕ → Bool) (w : List ℕ) → p w ≡ true → r w ≡ false
    → ((x : List ℕ) → is_lt (slice_cmp nat_cmp w x) ≡ true → p x ≡ r x)
    → (es : List (List ℕ × List ℕ)) → ((x : List ℕ) → any_of x es ≡ true → is_lt (slice_cmp nat_cmp x w) ≡ true → (p x ≡ false) × (r x ≡ false))
    → T (is_sorted (slice_cmp nat_cmp) es) → any_of w es ≡ true
    → filter p (firsts es) ≡ w ∷ filter r (firsts es)
first_kept p r w pw not_r behind [] before s any = absurd (true_false (sym any))
first_kept p r w pw not_r behind (e ∷ es) before s any =
    by (λ h. first_kept p r w pw not_r behind es (λ x k. before x (any_later x e es k)) (T_from _ parts.1) h) (eq_by_cmp (slice_cmp nat_cmp) w e.0) refl
  where
    parts : (below_all (slice_cmp nat_cmp) e.0 es ≡ true) × (is_sorted (slice_cmp nat_cmp) es ≡ true)
    parts = and_parts (below_all (slice_cmp nat_cmp) e.0 es) (is_sorted (slice_cmp nat_cmp) es) (from_T _ s)

    by : (any_of w es ≡ true → filter p (firsts es) ≡ w ∷ filter r (firsts es)) → (b : Bool) → eq_by_cmp (slice_cmp nat_cmp) w e.0 ≡ b → filter p (firsts (e ∷ es)) ≡ w ∷ filter r (firsts (e ∷ es))
    by go true t =
        let same : w ≡ e.0 = tied w e.0 t in
        let keeps : p e.0 ≡ true = ap p (sym same) ∙ pw in
        let leaves : r e.0 ≡ false = ap r (sym same) ∙ not_r in
        let rest : filter p (firsts es) ≡ filter r (firsts es) = agree_behind p r w behind es (subst (λ (x : List ℕ). T (below_all (slice_cmp nat_cmp) x es)) (sym same) (T_from _ parts.0)) in
        ap (λ b. cond b (e.0 ∷ filter p (firsts es)) (filter p (firsts es))) keeps
        ∙ (λ i. sym same i ∷ rest i)
        ∙ ap (λ b. w ∷ cond b (e.0 ∷ filter r (firsts es)) (filter r (firsts es))) (sym leaves)
    by go false t =
        let later : any_of w es ≡ true = sym (ap (λ b. b || any_of w es) t) ∙ any in
        let none = before e.0 (any_first e es) (below_any e.0 w es parts.0 later) in
        ap (λ b. cond b (e.0 ∷ filter p (firsts es)) (filter p (firsts es))) none.0
        ∙ go later
        ∙ ap (λ b. w ∷ cond b (e.0 ∷ filter r (firsts es)) (filter r (firsts es))) (sym none.1)

none_kept : (p : List ℕ → Bool) (es : List (List ℕ × List ℕ)) → ((x : List ℕ) → any_of x es ≡ true → p x ≡ false) → filter p (firsts es) ≡ []
none_kept p [] none = refl
none_kept p (e ∷ es) none =
    ap (λ b. cond b (e.0 ∷ filter p (firsts es)) (filter p (firsts es))) (none e.0 (any_first e es)) ∙ none_kept p es (λ x h. none x (any_later x e es h))

-- ---- what is still to be given

stands_in : (files : Files) (q : List ℕ) → IsSome (finmap.get files q) → is_some (finmap.get files q) ≡ true
stands_in files q h = h

some_from : (x : Option (List ℕ)) → is_some x ≡ true → IsSome x
some_from x e = e

among : (files : Files) (q : List ℕ) → IsSome (finmap.get files q) → is_object q ≡ true → list_any (eq_by_cmp (slice_cmp nat_cmp) q) (finmap.keys (objects_of files)) ≡ true
among files q some is = sym (contains_key-keys (objects_of files) q) ∙ ap is_some (get_here files q is) ∙ stands_in files q some

order_trans : (a b c : List ℕ) → is_lt (slice_cmp nat_cmp a b) ≡ true → is_lt (slice_cmp nat_cmp b c) ≡ true → is_lt (slice_cmp nat_cmp a c) ≡ true
order_trans a b c p q = ap is_lt (nat_list_cmp_total.trans a b c (less_is _ p) (less_is _ q))

not_itself : (w : List ℕ) → is_lt (slice_cmp nat_cmp w w) ≡ false
not_itself w = ap is_lt (ties_itself w)

behind_both : (after : Option (List ℕ)) (w x : List ℕ) → is_behind after w ≡ true → is_lt (slice_cmp nat_cmp w x) ≡ true → is_behind after x ≡ true
behind_both None w x p q = refl
behind_both (Some a) w x p q = order_trans a w x p q

-- not both before and behind
asymmetric : (a b : List ℕ) → is_lt (slice_cmp nat_cmp a b) ≡ true → is_lt (slice_cmp nat_cmp b a) ≡ false
asymmetric a b p = by (is_lt (slice_cmp nat_cmp b a)) refl
  where
    by : (c : Bool) → is_lt (slice_cmp nat_cmp b a) ≡ c → c ≡ false
    by false e = refl
    by true e = absurd (true_false (sym (order_trans a b a p e) ∙ not_itself a))

-- a key of the objects is that of a file
is_among : (files : Files) (q : List ℕ) → any_of q (finmap.entries (objects_of files)) ≡ true → IsSome (finmap.get files q) × (is_object q ≡ true)
is_among files q any = by (is_object q) refl
  where
    some : is_some (finmap.get (objects_of files) q) ≡ true
    some = contains_key-keys (objects_of files) q ∙ any

    by : (b : Bool) → is_object q ≡ b → IsSome (finmap.get files q) × (is_object q ≡ true)
    by true e = (some_from (finmap.get files q) (sym (ap is_some (get_here files q e)) ∙ some), e)
    by false e = absurd (true_false (sym some ∙ ap is_some (get_none files q e)))

-- the first of what is sought is given, and the rest is what is behind it
pub given : (prefix : List ℕ) (after : Option (List ℕ)) (files : Files) (w : List ℕ) → IsSought prefix after files w
    → ((q : List ℕ) → IsSought prefix after files q → is_lt (slice_cmp nat_cmp q w) ≡ false)
    → listed prefix after (objects_of files) ≡ w ∷ listed prefix (Some w) (objects_of files)
given prefix after files w is first =
    first_kept (is_wanted prefix after) (is_wanted prefix (Some w)) w is.wanted
    (and_right (starts_with nat_eq w prefix) (is_lt (slice_cmp nat_cmp w w)) (not_itself w))
    behind (finmap.entries (objects_of files)) before (entries_sorted (objects_of files)) (among files w is.stands is.object)
  where
    wanted : (starts_with nat_eq w prefix ≡ true) × (is_behind after w ≡ true)
    wanted = and_parts (starts_with nat_eq w prefix) (is_behind after w) is.wanted

    behind : (x : List ℕ) → is_lt (slice_cmp nat_cmp w x) ≡ true → is_wanted prefix after x ≡ is_wanted prefix (Some w) x
    behind x less = ap (λ b. starts_with nat_eq x prefix && b) (behind_both after w x wanted.1 less ∙ sym less)

    before : (x : List ℕ) → any_of x (finmap.entries (objects_of files)) ≡ true → is_lt (slice_cmp nat_cmp x w) ≡ true → (is_wanted prefix after x ≡ false) × (is_wanted prefix (Some w) x ≡ false)
    before x any less = (by (is_wanted prefix after x) refl, and_right (starts_with nat_eq x prefix) (is_lt (slice_cmp nat_cmp w x)) (asymmetric x w less))
      where
        by : (b : Bool) → is_wanted prefix after x ≡ b → b ≡ false
        by false e = refl
        by true e =
            let s = is_among files x any in
            absurd (true_false (sym less ∙ first x (record { stands = s.0; object = s.1; wanted = e })))

no_one : (w : Wait) → Contains [] w → ⊥
no_one w h = omega (arith, h.1)

pub none_left : (prefix : List ℕ) (after : Option (List ℕ)) (files : Files) → Covers prefix after [] files → listed prefix after (objects_of files) ≡ []
none_left prefix after files h = none_kept (is_wanted prefix after) (finmap.entries (objects_of files)) none
  where
    none : (x : List ℕ) → any_of x (finmap.entries (objects_of files)) ≡ true → is_wanted prefix after x ≡ false
    none x any = by (is_wanted prefix after x) refl
      where
        by : (b : Bool) → is_wanted prefix after x ≡ b → b ≡ false
        by false e = refl
        by true e =
            let s = is_among files x any in
            let led = h x (record { stands = s.0; object = s.1; wanted = e }) in
            absurd (no_one led.0 led.1)

-- ---- what leads to a file comes before it

pub not_behind : (q w n : List ℕ) → is_lt (slice_cmp nat_cmp q w) ≡ false → is_lt (slice_cmp nat_cmp w n) ≡ false → is_lt (slice_cmp nat_cmp q n) ≡ false
not_behind q w n a b = by (is_lt (slice_cmp nat_cmp q n)) refl
  where
    by : (c : Bool) → is_lt (slice_cmp nat_cmp q n) ≡ c → c ≡ false
    by false e = refl
    by true e = by2 (slice_cmp nat_cmp w n) refl
      where
        by2 : (r : Ordering) → slice_cmp nat_cmp w n ≡ r → true ≡ false
        by2 Less f = absurd (true_false (sym (ap is_lt f) ∙ b))
        by2 Equal f = sym (subst (λ (x : List ℕ). is_lt (slice_cmp nat_cmp q x) ≡ true) (sym (same_from_tie w n f)) e) ∙ a
        by2 Greater f = sym (order_trans q n w e (ap is_lt (nat_list_cmp_total.antisymm n w ∙ ap ordering_reverse f))) ∙ a

pub led_begins : (folder : Bool) (w q : List ℕ) → LeadsBy folder w q → Begins w q
led_begins true w q h = h
led_begins false w q (inl e) = ([], e ∙ sym (append-nil w))
led_begins false w q (inr h) = (47 ∷ h.0, h.1 ∙ appended w (47 ∷ []) h.0)

none_then : (x : Option (List ℕ)) → IsSome x → x ≡ None → ⊥
none_then x some e = true_false (sym some ∙ ap is_some e)

-- what is led to is led to by the next one or by another
split : (w : Wait) (n : Wait) (ws : List Wait) → Contains (n ∷ ws) w → (w ≡ n) ⊎ Contains ws w
split w n ws h = elim (Contains-append_cases (n ∷ []) ws w h) [
  | inl here ↦ inl (one (Contains-push_cases [] n w here))
  | inr later ↦ inr later
]
  where
    one : Contains [] w ⊎ (n ≡ w) → w ≡ n
    one (inl none) = absurd (no_one w none)
    one (inr e) = sym e

pub all_behind : (prefix : List ℕ) (after : Option (List ℕ)) (files : Files) (n : Wait) (ws : List Wait) → IsFirst n.key ws → Covers prefix after (n ∷ ws) files
    → (q : List ℕ) → IsSought prefix after files q → is_lt (slice_cmp nat_cmp q n.key) ≡ false
all_behind prefix after files n ws first covers q is =
    let led = covers q is in
    let from : is_lt (slice_cmp nat_cmp q led.0.key) ≡ false = not_before led.0.key q (led_begins led.0.is_folder led.0.key q led.2) in
    elim (split led.0 n ws led.1) [
      | inl e ↦ subst (λ (w : Wait). is_lt (slice_cmp nat_cmp q w.key) ≡ false) e from
      | inr later ↦ not_behind q led.0.key n.key from (first led.0 later)
    ]

-- ---- what a walk covers behind a name

-- the next one led to no file that is still sought
pub passed : (prefix : List ℕ) (after after' : Option (List ℕ)) (files : Files) (n : Wait) (ws new : List Wait)
    → ((q : List ℕ) → IsSought prefix after' files q → IsSought prefix after files q)
    → ((q : List ℕ) → IsSought prefix after' files q → Leads n q → (w : Wait) × Contains new w × Leads w q)
    → ((w : Wait) → Contains ws w → Contains new w)
    → Covers prefix after (n ∷ ws) files → Covers prefix after' new files
passed prefix after after' files n ws new sought here rest covers q is =
    let led = covers q (sought q is) in
    elim (split led.0 n ws led.1) [
      | inl e ↦ here q is (subst (λ (w : Wait). Leads w q) e led.2)
      | inr later ↦ (led.0, rest led.0 later, led.2)
    ]

-- a name of a plain file, or of nothing, that is not sought
pub no_file : (prefix : List ℕ) (after : Option (List ℕ)) (files : Files) (key : List ℕ) → (IsSought prefix after files key → ⊥) → NoneWithin key files
    → (q : List ℕ) → IsSought prefix after files q → LeadsBy false key q → ⊥
no_file prefix after files key not none q is (inl e) = not (subst (λ (z : List ℕ). IsSought prefix after files z) e is)
no_file prefix after files key not none q is (inr h) = none_then (finmap.get files q) is.stands (none q h)

-- what is behind a key that was given was sought before
pub sought_before : (prefix : List ℕ) (after : Option (List ℕ)) (files : Files) (key : List ℕ) → is_behind after key ≡ true → (q : List ℕ) → IsSought prefix (Some key) files q → IsSought prefix after files q
sought_before prefix after files key behind q is =
    let parts = and_parts (starts_with nat_eq q prefix) (is_lt (slice_cmp nat_cmp key q)) is.wanted in
    record { stands = is.stands; object = is.object; wanted = and_from (starts_with nat_eq q prefix) (is_behind after q) parts.0 (behind_both after key q behind parts.1) }

pub not_again : (prefix : List ℕ) (files : Files) (key : List ℕ) → IsSought prefix (Some key) files key → ⊥
not_again prefix files key is = true_false (sym is.wanted ∙ and_right (starts_with nat_eq key prefix) (is_lt (slice_cmp nat_cmp key key)) (not_itself key))

pub is_behind_wanted : (prefix : List ℕ) (after : Option (List ℕ)) (key : List ℕ) → is_wanted prefix after key ≡ true → is_behind after key ≡ true
is_behind_wanted prefix after key h = (and_parts (starts_with nat_eq key prefix) (is_behind after key) h).1

-- ---- a folder that was read

pub read_covers : (prefix : List ℕ) (after : Option (List ℕ)) (folder : List ℕ) (ws found new : List Wait) (names : List (List ℕ)) (files : Files)
    → CoversWith prefix after folder ws files → Names folder names files
    → ((name : List ℕ) → Contains names name → Meets prefix after (folder ++ name) found)
    → ((w : Wait) → Contains found w → Contains new w) → ((w : Wait) → Contains ws w → Contains new w)
    → Covers prefix after new files
read_covers prefix after folder ws found new names files covers all meets put rest q is = elim (covers q is) [
  | inl h ↦
      let rest_is : drop (length folder) q ≡ h.0 = ap (drop (length folder)) h.1 ∙ own_rest folder h.0 in
      let name : List ℕ = first_part (drop (length folder) q) in
      let led = meets name (all q is.stands h) q is.object is.wanted (leads name h rest_is) in
      (led.0, put led.0 led.1, led.2)
  | inr led ↦ (led.0, rest led.0 led.1, led.2)
]
  where
    leads : (name : List ℕ) (h : Begins folder q) → drop (length folder) q ≡ h.0 → LeadsBy false (folder ++ first_part (drop (length folder) q)) q
    leads name h e = elim (first_parts (drop (length folder) q)) [
      | inl same ↦ inl (h.1 ∙ ap (λ z. folder ++ z) (sym e ∙ same))
      | inr b ↦ inr (b.0, h.1 ∙ ap (λ z. folder ++ z) (sym e ∙ b.1) ∙ sym (appended folder (first_part (drop (length folder) q) ++ 47 ∷ []) b.0) ∙ ap (λ z. z ++ b.0) (sym (appended folder (first_part (drop (length folder) q)) (47 ∷ []))))
    ]

pub with_folder : (prefix : List ℕ) (after : Option (List ℕ)) (n : Wait) (ws : List Wait) (files : Files) → n.is_folder ≡ true → Covers prefix after (n ∷ ws) files → CoversWith prefix after n.key ws files
with_folder prefix after n ws files folder covers q is =
    let led = covers q is in
    elim (split led.0 n ws led.1) [
      | inl e ↦ inl (led_begins n.is_folder n.key q (subst (λ (w : Wait). Leads w q) e led.2))
      | inr later ↦ inr (led.0, later, led.2)
    ]

-- ---- other files come and go

pub covers_kept : (prefix : List ℕ) (after : Option (List ℕ)) (ws : List Wait) (o n : Files) → ((q : List ℕ) → is_object q ≡ true → is_wanted prefix after q ≡ true → finmap.get n q ≡ finmap.get o q) → Covers prefix after ws o → Covers prefix after ws n
covers_kept prefix after ws o n same covers q is =
    covers q (record { stands = subst (λ (x : Option (List ℕ)). IsSome x) (same q is.object is.wanted) is.stands; object = is.object; wanted = is.wanted })

pub differs : (prefix : List ℕ) (after : Option (List ℕ)) (key q : List ℕ) → is_wanted prefix after key ≡ false → is_wanted prefix after q ≡ true → q ≢ key
differs prefix after key q not is e = true_false (sym is ∙ ap (is_wanted prefix after) e ∙ not)

-- ---- what is made of a name's front

front_bytes : (a b : List ℕ) → list_all is_key_byte (a ++ b) ≡ true → list_all is_key_byte a ≡ true
front_bytes [] b h = refl
front_bytes (x ∷ a) b h =
    let parts = and_parts (is_key_byte x) (list_all is_key_byte (a ++ b)) h in
    and_from (is_key_byte x) (list_all is_key_byte a) parts.0 (front_bytes a b parts.1)

-- ---- a loop over a list

-- what is among the first of a list and one more
pub took_cases : {X : Type 0} (xs : List X) (i : ℕ) (x o : X) → i < length xs → x ≡ get_or xs i x → Contains (take (i + 1) xs) o → Contains (take i xs) o ⊎ (x ≡ o)
took_cases {X} xs i x o lt is h = Contains-push_cases (take i xs) x o (subst (λ (l : List X). Contains l o) (take_more xs i x lt ∙ ap (λ (y : X). take i xs ++ y ∷ []) (sym is)) h)

-- ---- names and keys

all_bytes : (text : List ℕ) → All (λ b. IsTrue (is_key_byte b)) text → list_all is_key_byte text ≡ true
all_bytes [] h = refl
all_bytes (b ∷ text) h = and_from (is_key_byte b) (list_all is_key_byte text) (All-head (λ (x : ℕ). IsTrue (is_key_byte x)) b text h) (all_bytes text (All-tail (λ (x : ℕ). IsTrue (is_key_byte x)) b text h))

pub object_from_key : (text : List ℕ) → IsKey text → is_object text ≡ true
object_from_key text h =
    and_from (nat_lt 0 (length text) && nat_le (length text) 128) (list_all is_key_byte text)
    (and_from (nat_lt 0 (length text)) (nat_le (length text) 128) (lt-ltb 0 (length text) h.some) (le-leb (length text) 128 h.short)) (all_bytes text h.each)

each_byte : (text : List ℕ) → list_all is_key_byte text ≡ true → All (λ b. IsTrue (is_key_byte b)) text
each_byte [] h = All-nil (λ (x : ℕ). IsTrue (is_key_byte x))
each_byte (b ∷ text) h =
    let parts = and_parts (is_key_byte b) (list_all is_key_byte text) h in
    All-cons (λ (x : ℕ). IsTrue (is_key_byte x)) b text parts.0 (each_byte text parts.1)

pub key_from_object : (text : List ℕ) → is_object text ≡ true → IsKey text
key_from_object text h =
    let one = and_parts (nat_lt 0 (length text) && nat_le (length text) 128) (list_all is_key_byte text) h in
    let two = and_parts (nat_lt 0 (length text)) (nat_le (length text) 128) one.0 in
    record { some = ltb-true 0 (length text) two.0; short = leb-true (length text) 128 two.1; each = each_byte text one.1 }

-- a front of an object's name that isn't empty is one
pub object_front : (front q : List ℕ) → 0 < length front → Begins front q → is_object q ≡ true → is_object front ≡ true
object_front front q some h is =
    let key = key_from_object q is in
    let short : length front ≤ 128 = omega (arith, key.short, ap length h.1 ∙ length-append front h.0) in
    let bytes : list_all is_key_byte front ≡ true = front_bytes front h.0 (subst (λ (z : List ℕ). list_all is_key_byte z ≡ true) h.1 (all_bytes q key.each)) in
    and_from (nat_lt 0 (length front) && nat_le (length front) 128) (list_all is_key_byte front)
    (and_from (nat_lt 0 (length front)) (nat_le (length front) 128) (lt-ltb 0 (length front) some) (le-leb (length front) 128 short)) bytes

-- ---- a name that was taken

pub take_given : (t : Option Files) (prefix : List ℕ) (after : Option (List ℕ)) (n : Wait) (ws : List Wait) → n.is_folder ≡ false → IsKey n.key → is_wanted prefix after n.key ≡ true → IsFirst n.key ws
    → IfSome t (Covers prefix after (n ∷ ws)) → IfSome t (Looks n.key standings.PlainFile)
    → IfSome t (λ f. (listed prefix after (objects_of f) ≡ n.key ∷ listed prefix (Some n.key) (objects_of f)) × Covers prefix (Some n.key) ws f)
take_given t prefix after n ws not key wanted first covers looks = if_both t one covers looks
  where
    one : (f : Files) → Covers prefix after (n ∷ ws) f → Looks n.key standings.PlainFile f → (listed prefix after (objects_of f) ≡ n.key ∷ listed prefix (Some n.key) (objects_of f)) × Covers prefix (Some n.key) ws f
    one f c l = (
      given prefix after f n.key (record { stands = l.0; object = object_from_key n.key key; wanted = wanted }) (all_behind prefix after f n ws first c),
      passed prefix after (Some n.key) f n ws ws (sought_before prefix after f n.key (is_behind_wanted prefix after n.key wanted))
          (λ q is led. absurd (no_file prefix (Some n.key) f n.key (not_again prefix f n.key) l.1 q is (subst (λ (b : Bool). LeadsBy b n.key q) not led)))
          (λ w h. h) c,
    )

-- it led to nothing that is sought
pub take_none : (t : Option Files) (prefix : List ℕ) (after : Option (List ℕ)) (n : Wait) (ws : List Wait) → n.is_folder ≡ false
    → IfSome t (Covers prefix after (n ∷ ws)) → IfSome t (λ f. (IsSought prefix after f n.key → ⊥) × NoneWithin n.key f) → IfSome t (Covers prefix after ws)
take_none t prefix after n ws not covers none = if_both t one covers none
  where
    one : (f : Files) → Covers prefix after (n ∷ ws) f → (IsSought prefix after f n.key → ⊥) × NoneWithin n.key f → Covers prefix after ws f
    one f c l = passed prefix after after f n ws ws (λ q is. is) (λ q is led. absurd (no_file prefix after f n.key l.0 l.1 q is (subst (λ (b : Bool). LeadsBy b n.key q) not led))) (λ w h. h) c

pub unsought : (prefix : List ℕ) (after : Option (List ℕ)) (f : Files) (key : List ℕ) → is_wanted prefix after key ≡ false → Looks key standings.PlainFile f → (IsSought prefix after f key → ⊥) × NoneWithin key f
unsought prefix after f key not l = (λ is. true_false (sym is.wanted ∙ not), l.1)

pub absent : (prefix : List ℕ) (after : Option (List ℕ)) (f : Files) (key : List ℕ) → (finmap.get f key ≡ None) × NoneWithin key f → (IsSought prefix after f key → ⊥) × NoneWithin key f
absent prefix after f key l = (λ is. none_then (finmap.get f key) is.stands l.0, l.1)

-- it is a folder
pub take_folder : (t : Option Files) (prefix : List ℕ) (after : Option (List ℕ)) (n : Wait) (ws new : List Wait) → n.is_folder ≡ false
    → MeetsWithin prefix after n.key new → ((w : Wait) → Contains ws w → Contains new w)
    → IfSome t (Covers prefix after (n ∷ ws)) → IfSome t (Looks n.key standings.Folder) → IfSome t (Covers prefix after new)
take_folder t prefix after n ws new not meets rest covers looks = if_both t one covers looks
  where
    one : (f : Files) → Covers prefix after (n ∷ ws) f → Looks n.key standings.Folder f → Covers prefix after new f
    one f c l = passed prefix after after f n ws new (λ q is. is) here rest c
      where
        here : (q : List ℕ) → IsSought prefix after f q → Leads n q → (w : Wait) × Contains new w × Leads w q
        here q is led = elim (subst (λ (b : Bool). LeadsBy b n.key q) not led) [
          | inl e ↦ absurd (none_then (finmap.get f q) is.stands (ap (finmap.get f) e ∙ l))
          | inr h ↦ meets q is.object is.wanted h
        ]

-- ---- a walk begins

pub all_begin : (t : Option Files) (prefix : List ℕ) (after : Option (List ℕ)) (ws : List Wait) → IfSome t (CoversWith prefix after [] ws)
all_begin t prefix after ws = if_all t (λ f q is. inl (q, refl))

pub prefix_begins : (t : Option Files) (prefix : List ℕ) (after : Option (List ℕ)) (folder : List ℕ) (ws : List Wait) → Begins folder prefix → IfSome t (CoversWith prefix after folder ws)
prefix_begins t prefix after folder ws h = if_all t (λ f q is. inl (begins_then folder prefix q h (begins_from prefix q (and_parts (starts_with nat_eq q prefix) (is_behind after q) is.wanted).0)))

pub nothing_begins : (t : Option Files) (prefix : List ℕ) (after : Option (List ℕ)) (way : List ℕ) (ws : List Wait) → Begins (way ++ 47 ∷ []) prefix → IfSome t (λ f. NoneWithin way f) → IfSome t (Covers prefix after ws)
nothing_begins t prefix after way ws h none = if_map t one none
  where
    one : (f : Files) → NoneWithin way f → Covers prefix after ws f
    one f empty q is = absurd (none_then (finmap.get f q) is.stands (empty q (begins_then (way ++ 47 ∷ []) prefix q h (begins_from prefix q (and_parts (starts_with nat_eq q prefix) (is_behind after q) is.wanted).0))))

-- the front of a name up to a slash
pub slash_front : (name : List ℕ) (n : ℕ) → 0 < n → n ≤ length name → slice_index name (n - 1) ≡ 47 → take n name ≡ take (n - 1) name ++ 47 ∷ []
slash_front name n some within is =
    let next : n ≡ (n - 1) + 1 = omega (arith, some) in
    let inside : n - 1 < length name = omega (arith, some, within) in
    ap (λ k. take k name) next ∙ take_more name (n - 1) 0 inside ∙ ap (λ x. take (n - 1) name ++ x ∷ []) is

pub front_begins : (name : List ℕ) (n : ℕ) → Begins (take n name) name
front_begins name n = (drop n name, parted n name)
