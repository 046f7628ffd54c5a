-- Each step keeps the rule of the table.
use Rattle.std.proofs.Common.{◌≡◌, ◌≢◌, ◌⊎◌, ℕ, ◌+◌, ◌-◌, ◌%◌, ◌^◌, ◌<◌, ◌≤◌, Bool, true, false, eqb, List, [], ◌∷◌, ◌++◌, length, zero, suc, slice_get, get_or, set, Option, Some, None, refl, ap, sym, ◌∙◌, subst, inl, inr, ⊎_elim, arith, length-set, length-append}
use Rattle.std.proofs.Math.Nat.{mod-eq_of_lt}
use mathlib.Core.Logic.{dite}
use mathlib.Core.Option.{none, some, some-injective, some-ne-none}
use mathlib.Core.Option as maybe
use mathlib.Core.List.{IsPrefix}
use native.Mathlib.Decide.{ℕ_discrete, dec_le}
use Rattle.std.proofs.lemmas.Option.{slice_get_within}
use lib.ListN.{get_elem?}
use lib.Seq.{set-get_or}
use Rattle.atomic_table.specs.Table.{State, Me, step, keeps, takes, gives, Act, stepped, Valid, carried_after, Allows, Splits, Joins, opening, Final, Seen}
use Rattle.atomic_table.proofs.Lists.{at_set, set_else, set_again, at_snoc, one_turn}
use Rattle.turn_lock.specs.declared.view.View.{View}
use Rattle.turn_lock.specs.Counts.{total, one_if, times, below, run_of, AllBelow}
use Rattle.turn_lock.specs.Turns.{has_ticket_of, count_of, has_ticket, waits, holds_slot, IsWell, words_of, IsHome, IsOut, Kept, first_view, spent_view, waiting_with, holding_at, grown_to, rested, informed, left_of, right_of, joined, drew, Took, looked, appended, passed_on, took_in}
use Rattle.turn_lock.proofs.Beginnings.{prefix_self, prefix_none, prefix_trans, longer_begins}
use Rattle.turn_lock.proofs.Counting.{total_set, total_append, total_at, total_two, total_few, total_none, total_only, total_some, one_or_none, below_no, below_yes, below_is, below_next, times_run}

module _ {W T E : Type 0} (start_of : W → T) (history : W → List E) (stands : W → Type 0) (rests : ℕ → E → ℕ) (start : T) (passes : ℕ) where
  abbrev V : Type 0
  V = View T E

  abbrev St : Type 0
  St = State (Option W) V

  abbrev Homes : Type 0
  Homes = List (maybe.Option (Option W))

  abbrev Rule : St → Type 0
  Rule = Kept start_of history stands rests start passes

  abbrev Sits : Type 0
  Sits = Me (Option W) V

  abbrev Slot : List E → Homes → ℕ → Type 0
  Slot log homes held = IsHome start_of history stands start log homes held ⊎ IsOut homes held

  -- a view is changed, and the table with it
  restep : (s : St) (r : Rule s) (id : ℕ) (v w : V) → get_elem? s.views id ≡ some v → (words' : List ℕ) (homes' : Homes) (drawn' served' : ℕ) (log' : List E)
      → words' ≡ words_of drawn' served' log'
      → ((t : ℕ) → has_ticket t w + below t served' + below t r.drawn ≡ has_ticket t v + below t r.served + below t drawn')
      → waits w + served' + r.drawn ≡ waits v + r.served + drawn'
      → w.left ≡ v.left → w.parts ≡ v.parts
      → ((k : ℕ) → times k w.places + below k (length r.log) ≡ times k v.places + below k (length log'))
      → Slot log' homes' (total holds_slot (set s.views id w))
      → IsWell rests start log' served' w
      → ((j : ℕ) (u : V) → j ≢ id → get_elem? s.views j ≡ some u → IsWell rests start r.log r.served u → IsWell rests start log' served' u)
      → Rule record { words = words'; homes = homes'; views = set s.views id w }
  restep s r id v w at words' homes' drawn' served' log' words tickets waiting lefts parts places slot mine others = record {
    drawn = drawn';
    served = served';
    log = log';
    words = words;
    tickets = λ t. omega (arith, total_set (has_ticket t) s.views id v w at, r.tickets t, tickets t);
    waiting = omega (arith, total_set waits s.views id v w at, r.waiting, waiting);
    few = omega (arith, length-set s.views id w, total_set (λ (x : V). x.left) s.views id v w at, r.few, lefts);
    small = r.small;
    parts = omega (arith, total_set (λ (x : V). x.parts) s.views id v w at, r.parts, parts);
    places = λ k. omega (arith, total_set (λ (x : V). times k x.places) s.views id v w at, r.places k, places k);
    slot = slot;
    each = λ j u e. ⊎_elim (λ (t : (j ≡ id) × (w ≡ u)). subst (IsWell rests start log' served') t.1 mine)
        (λ (t : (j ≢ id) × (get_elem? s.views j ≡ some u)). others j u t.0 t.1 (r.each j u t.1)) (at_set s.views id j w u e);
  }

  -- the sum of the slots that views hold stays where the view's own stays
  same_held : (s : St) (id : ℕ) (v w : V) → get_elem? s.views id ≡ some v → holds_slot w ≡ holds_slot v → total holds_slot s.views ≡ total holds_slot (set s.views id w)
  same_held s id v w at e = omega (arith, total_set holds_slot s.views id v w at, e)

  one_more : (n : ℕ) → (n % 2 ^ 64 + 1) % 2 ^ 64 ≡ (n + 1) % 2 ^ 64
  one_more n = omega arith

  pub draws : (slots id : ℕ) (me : Sits) → me.0.ticket ≡ None → me.0.holding ≡ false → me.0.spent ≡ false
      → Allows Rule slots id me 0 (λ n. (n + 1) % 2 ^ 64) (drew (step slots 0 1 0 none) me)
  draws slots id me free empty lives s r deep at fits =
      let v = me.0 in let w = waiting_with r.drawn v in
      let found : get_or s.words 0 0 ≡ r.drawn % 2 ^ 64 = ap (λ ws. get_or ws 0 0) r.words in
      let none_yet : (t : ℕ) → has_ticket t v ≡ 0 = λ t. ap (has_ticket_of t) free in
      let calm : waits v ≡ 0 = ap count_of free in
      let well = r.each id v at in (
        w,
        keeps,
        tt,
        restep s r id v w at (set s.words 0 ((get_or s.words 0 0 + 1) % 2 ^ 64)) s.homes (r.drawn + 1) r.served r.log
            (ap (λ ws. set ws 0 ((get_or ws 0 0 + 1) % 2 ^ 64)) r.words ∙ ap (λ k. k ∷ (r.served % 2 ^ 64) ∷ length r.log ∷ []) (one_more r.drawn))
            (λ t. omega (arith, none_yet t, below_next t r.drawn))
            (omega (arith, calm))
            refl refl (λ k. refl)
            (subst (Slot r.log s.homes) (same_held s id v w at refl) r.slot)
            record { seen = well.seen; told = well.told; holder = λ h. absurd (cc (h, empty)); alive = well.alive; over = λ h. absurd (cc (h, lives)); resting = well.resting }
            (λ j u ne e x. x),
        (r.drawn, found, refl),
      )

  -- a load that changes nothing
  idles : (s : St) (r : Rule s) (i id : ℕ) (v : V) → get_elem? s.views id ≡ some v → Rule record { words = set s.words i (get_or s.words i 0); homes = s.homes; views = set s.views id v }
  idles s r i id v at = subst (λ (z : List ℕ × List V). Rule record { words = z.0; homes = s.homes; views = z.1 }) (λ k. (sym (set-get_or s.words i 0) k, sym (set_again s.views id v at) k)) r

  its_own : (t : ℕ) (v : V) → v.ticket ≡ Some t → has_ticket t v ≡ 1
  its_own t v is = ap (has_ticket_of t) is ∙ ⊎_elim (λ (x : (t ≡ t) × (one_if (eqb t t) ≡ 1)). x.1) (λ (x : (t ≢ t) × (one_if (eqb t t) ≡ 0)). absurd (x.0 refl)) (one_or_none t t)

  -- who has a ticket that was drawn waits behind the served one, and less than a turn of the counter away
  near : (s : St) (r : Rule s) (id t : ℕ) (v : V) → get_elem? s.views id ≡ some v → v.ticket ≡ Some t → (r.served ≤ t) × (t < r.served + 2 ^ 64)
  near s r id t v at is =
      let mine : has_ticket t v ≡ 1 = its_own t v is in
      let one = total_at (has_ticket t) s.views id v at in let sums = r.tickets t in
      let few : total waits s.views ≤ length s.views = total_few waits (λ u. few_of u.ticket) s.views in
      let lo : r.served ≤ t = ⊎_elim (λ (x : (t < r.served) × (below t r.served ≡ 1)). absurd (⊎_elim
      (λ (y : (t < r.drawn) × (below t r.drawn ≡ 1)). omega (arith, one, sums, mine, x.1, y.1)) (λ (y : (r.drawn ≤ t) × (below t r.drawn ≡ 0)). omega (arith, one, sums, mine, x.1, y.1)) (below_is t r.drawn)))
      (λ (x : (r.served ≤ t) × (below t r.served ≡ 0)). x.0) (below_is t r.served) in
      let hi : t < r.drawn = ⊎_elim (λ (y : (t < r.drawn) × (below t r.drawn ≡ 1)). y.0) (λ (y : (r.drawn ≤ t) × (below t r.drawn ≡ 0)). absurd (omega (arith, one, sums, mine, y.1))) (below_is t r.drawn) in
      (lo, omega (arith, few, r.few, r.small, r.waiting, hi))
    where
      few_of : (o : Option ℕ) → count_of o ≤ 1
      few_of None = omega arith
      few_of (Some u) = omega arith

  holds_one : (v : V) → v.holding ≡ true → holds_slot v ≡ 1
  holds_one v h = ap one_if h

  holds_none : (v : V) → v.holding ≡ false → holds_slot v ≡ 0
  holds_none v h = ap one_if h

  does_hold : (b : Bool) → 0 < one_if b → b ≡ true
  does_hold true h = refl
  does_hold false h = absurd (omega arith)

  -- no ticket is in two views
  no_two : (s : St) (r : Rule s) (t i j : ℕ) (u v : V) → i ≢ j → get_elem? s.views i ≡ some u → get_elem? s.views j ≡ some v → u.ticket ≡ Some t → v.ticket ≡ Some t → ⊥
  no_two s r t i j u v ne a b p q =
      let two = total_two (has_ticket t) s.views i j u v ne a b in let sums = r.tickets t in
      ⊎_elim (λ (y : (t < r.drawn) × (below t r.drawn ≡ 1)). omega (arith, two, sums, its_own t u p, its_own t v q, y.1))
      (λ (y : (r.drawn ≤ t) × (below t r.drawn ≡ 0)). omega (arith, two, sums, its_own t u p, its_own t v q, y.1)) (below_is t r.drawn)

  -- where the slot is out, it is at the view with the served ticket
  not_out : (s : St) (r : Rule s) (id : ℕ) (v : V) → get_elem? s.views id ≡ some v → v.ticket ≡ Some r.served → v.holding ≡ false → total holds_slot s.views ≡ 1 → ⊥
  not_out s r id v at is empty out =
      let h = total_some holds_slot s.views (omega (arith, out)) in
      let holder : h.1.holding ≡ true = does_hold h.1.holding h.3 in let well = r.each h.0 h.1 h.2 in let turn = well.holder holder in
      no_two s r r.served h.0 id h.1 v (λ e. let same : h.1.holding ≡ v.holding = ap (λ (o : maybe.Option V). held_by o) (sym h.2 ∙ (ap (get_elem? s.views) e ∙ at)) in absurd (cc (same, holder, empty)))
      h.2 at turn.0 is
    where
      held_by : maybe.Option V → Bool
      held_by none = false
      held_by (some u) = u.holding

  -- ---- what events rest on

  in_run_of : (q n : ℕ) → q < n → 0 < times q (run_of 0 n)
  in_run_of q n less = let one = times_run q 0 n in let e : below q (0 + n) ≡ below q n = ap (below q) (omega arith) in let y = below_yes q n less in let z = below_no q 0 (omega arith) in omega (arith, one, e, y, z)

  both_times : (q : ℕ) (xs ys : List ℕ) → times q (xs ++ ys) ≡ times q xs + times q ys
  both_times q xs ys = total_append (λ (y : ℕ). one_if (eqb q y)) xs ys

  rests_both : (log : List E) (xs ys : List ℕ) → ((k : ℕ) (e : E) → 0 < times k xs → slice_get log k ≡ Some e → 0 < times (rests k e) xs) → ((k : ℕ) (e : E) → 0 < times k ys → slice_get log k ≡ Some e → 0 < times (rests k e) ys)
      → (k : ℕ) (e : E) → 0 < times k (xs ++ ys) → slice_get log k ≡ Some e → 0 < times (rests k e) (xs ++ ys)
  rests_both log xs ys a b k e h g = let sum = both_times (rests k e) xs ys in
      dite (dec_le 1 (times k xs)) (λ here. let x = a k e (omega (arith, here)) g in omega (arith, sum, x)) (λ none. let y = b k e (omega (arith, none, h, both_times k xs ys)) g in omega (arith, sum, y))

  -- a place of a view is below the length
  place_low : (s : St) (r : Rule s) (j : ℕ) (u : V) (k : ℕ) → get_elem? s.views j ≡ some u → 0 < times k u.places → k < length r.log
  place_low s r j u k at h = let one = total_at (λ (x : V). times k x.places) s.views j u at in let all = r.places k in
      ⊎_elim (λ (x : (k < length r.log) × (below k (length r.log) ≡ 1)). x.0) (λ (x : (length r.log ≤ k) × (below k (length r.log) ≡ 0)). absurd (omega (arith, one, all, h, x.1))) (below_is k (length r.log))

  -- no place stands twice in a view
  once : (s : St) (r : Rule s) (j : ℕ) (u : V) (k : ℕ) → get_elem? s.views j ≡ some u → times k u.places ≤ 1
  once s r j u k at = let one = total_at (λ (x : V). times k x.places) s.views j u at in let all = r.places k in
      ⊎_elim (λ (x : (k < length r.log) × (below k (length r.log) ≡ 1)). omega (arith, one, all, x.1)) (λ (x : (length r.log ≤ k) × (below k (length r.log) ≡ 0)). omega (arith, one, all, x.1)) (below_is k (length r.log))

  front_get : (xs ys : List E) (k : ℕ) (e : E) → IsPrefix xs ys → k < length xs → slice_get ys k ≡ Some e → slice_get xs k ≡ Some e
  front_get [] ys k e p less g = absurd (omega (arith, less))
  front_get (x ∷ xs) [] k e p less g = absurd (cc (p.1))
  front_get (x ∷ xs) (y ∷ ys) zero e p less g = cc (p.1, g)
  front_get (x ∷ xs) (y ∷ ys) (suc k) e p less g = front_get xs ys k e (p.0, cc (p.1)) (omega (arith, less)) g

  rests_longer : (s : St) (r : Rule s) (j : ℕ) (u : V) (log' : List E) → get_elem? s.views j ≡ some u → IsPrefix r.log log' → ((k : ℕ) (e : E) → 0 < times k u.places → slice_get r.log k ≡ Some e → 0 < times (rests k e) u.places)
      → (k : ℕ) (e : E) → 0 < times k u.places → slice_get log' k ≡ Some e → 0 < times (rests k e) u.places
  rests_longer s r j u log' at old a k e h g = a k e h (front_get r.log log' k e old (place_low s r j u k at h) g)

  mine : (k : ℕ) (xs : List ℕ) (n m : ℕ) → k < n → 0 < times k (xs ++ run_of n m) → 0 < times k xs
  mine k xs n m less h = let sum = both_times k xs (run_of n m) in let one = times_run k n m in let y = below_yes k n less in let z = below_yes k (n + m) (omega (arith, less)) in omega (arith, sum, one, y, z, h)

  rests_grown : (s : St) (r : Rule s) (id : ℕ) (v : V) (log' : List E) → get_elem? s.views id ≡ some v → length v.seen ≡ length r.log → IsPrefix r.log log' → ((k : ℕ) (e : E) → 0 < times k v.places → slice_get r.log k ≡ Some e → 0 < times (rests k e) v.places)
      → ((k : ℕ) (e : E) → length v.seen ≤ k → slice_get log' k ≡ Some e → 0 < times (rests k e) (v.places ++ run_of (length v.seen) (length log' - length v.seen)))
      → (k : ℕ) (e : E) → 0 < times k (grown_to log' v).places → slice_get log' k ≡ Some e → 0 < times (rests k e) (grown_to log' v).places
  rests_grown s r id v log' at len old a new k e h g = let more = run_of (length v.seen) (length log' - length v.seen) in
      dite (dec_le (length v.seen) k) (λ behind. new k e behind g)
      (λ before. let sum = both_times (rests k e) v.places more in let y = a k e (mine k v.places (length v.seen) (length log' - length v.seen) (omega (arith, before)) h) (front_get r.log log' k e old (omega (arith, before, len)) g) in omega (arith, sum, y))

  -- what others appended rests on no place of one's own
  rests_apart : (s : St) (r : Rule s) (id : ℕ) (v : V) → get_elem? s.views id ≡ some v → (k : ℕ) (e : E) → AllBelow (length v.seen) v.places → length v.seen ≤ k → slice_get r.log k ≡ Some e → times (rests k e) v.places ≡ 0
  rests_apart s r id v at k e low less g =
      let within = slice_get_within r.log k e g in let full = below_yes k (length r.log) within in let all = r.places k in
      let owner = total_some (λ (x : V). times k x.places) s.views (omega (arith, full, all)) in
      let ne : owner.0 ≢ id = λ is. (let same : owner.1 ≡ v = some-injective owner.1 v (sym owner.2 ∙ (ap (get_elem? s.views) is ∙ at)) in let l = low k (subst (λ (u : V). 0 < times k u.places) same owner.3) in omega (arith, l, less)) in
      let its = (r.each owner.0 owner.1 owner.2).resting k e owner.3 g in
      let two = total_two (λ (x : V). times (rests k e) x.places) s.views owner.0 id owner.1 v ne owner.2 at in let sum = r.places (rests k e) in
      let most : below (rests k e) (length r.log) ≤ 1 = ⊎_elim (λ (x : (rests k e < length r.log) × (below (rests k e) (length r.log) ≡ 1)). omega (arith, x.1)) (λ (x : (length r.log ≤ rests k e) × (below (rests k e) (length r.log) ≡ 0)). omega (arith, x.1)) (below_is (rests k e) (length r.log)) in
      omega (arith, its, two, sum, most)

  takes_it : (s : St) (r : Rule s) (id t : ℕ) (me : Sits) → get_elem? s.views id ≡ some me.0 → me.0.ticket ≡ Some t → me.0.holding ≡ false → me.0.spent ≡ false → me.1 ≡ [] → t ≡ r.served
      → (w : V) × (a : Act (Option W)) × Valid s.homes me.1 a × Rule (stepped s 1 (get_or s.words 1 0) id me.1 w a)
      × Took start_of history stands rests me (w, carried_after me.1 a)
  takes_it s r id t me at is empty lives bare now =
      let v = me.0 in let well = r.each id v at in let alive = well.alive lives in
      ⊎_elim (λ (home : IsHome start_of history stands start r.log s.homes (total holds_slot s.views)).
      let x = home.1.0 in let w = holding_at (history x) v in let log : history x ≡ r.log = home.1.3 in
      let moved : set s.homes 0 none ≡ none ∷ [] = ap (λ hs. set hs 0 none) home.1.1 in
      let held : total holds_slot (set s.views id w) ≡ 1 = omega (arith, total_set holds_slot s.views id v w at, home.0, holds_none v empty) in
      let P : List (ℕ × Option W) → Type 0 = λ c. (w' : V) × (a : Act (Option W)) × Valid s.homes c a × Rule (stepped s 1 (get_or s.words 1 0) id c w' a) × Took start_of history stands rests (v, c) (w', carried_after c a) in
      subst P (sym bare) (
        w,
        takes 0 (Some x),
        ap (λ hs. get_elem? hs 0) home.1.1,
        restep s r id v w at (set s.words 1 (get_or s.words 1 0)) (set s.homes 0 none) r.drawn r.served r.log (set-get_or s.words 1 0 ∙ r.words) (λ q. refl) refl refl refl (λ q. refl)
            (inr (held, moved))
            record { seen = subst (λ (l : List E). IsPrefix l r.log) (sym log) (prefix_self r.log); told = well.told; holder = λ h. (is ∙ ap (λ (k : ℕ). Some k) now, log); alive = well.alive; over = well.over; resting = well.resting }
            (λ j u ne e y. y),
        (x, refl, alive.1 ∙ ap (λ (z : T). Some z) (sym home.1.2), subst (IsPrefix v.seen) (sym log) well.seen, home.1.4, λ q e low less g. rests_apart s r id v at q e low less (sym (ap (λ (l : List E). slice_get l q) log) ∙ g)),
      ))
      (λ (out : IsOut s.homes (total holds_slot s.views)). absurd (not_out s r id v at (is ∙ ap (λ (k : ℕ). Some k) now) empty out.0))
      r.slot

  pub looks : (slots id t : ℕ) (me : Sits) → me.0.ticket ≡ Some t → me.0.holding ≡ false → me.0.spent ≡ false → me.1 ≡ []
      → Allows Rule slots id me 1 (λ n. n) (looked start_of history stands rests (step slots 1 0 0 none) me)
  looks slots id t me is empty lives bare s r deep at fits =
      let n : ℕ = get_or s.words 1 0 in let found : n ≡ r.served % 2 ^ 64 = ap (λ ws. get_or ws 1 0) r.words in
      let same : (u : ℕ) → me.0.ticket ≡ Some u → t ≡ u = λ u h. ticket_same t u (sym is ∙ h) in
      dite (ℕ_discrete n (t % 2 ^ 64))
      (λ hit. let close = near s r id t me.0 at is in let now : t ≡ r.served = sym (one_turn r.served t (2 ^ 64) close.0 close.1 (sym found ∙ hit)) in
      let took = takes_it s r id t me at is empty lives bare now in
      (took.0, took.1, took.2, took.3, λ u h. ((λ _. took.4), λ miss. absurd (miss (hit ∙ ap (λ (k : ℕ). k % 2 ^ 64) (same u h))))))
      (λ miss. (me.0, keeps, tt, idles s r 1 id me.0 at, λ u h. ((λ hit. absurd (miss (hit ∙ ap (λ (k : ℕ). k % 2 ^ 64) (sym (same u h))))), λ _. refl)))
    where
      ticket_same : (t u : ℕ) → Some t ≡ Some u → t ≡ u
      ticket_same t u e = cc e

  abbrev second_of : List (ℕ × Option W) → Option W
  second_of [] = None
  second_of (c ∷ cs) = c.1

  pub appends : (slots id k : ℕ) (me : Sits) (x : W) → me.1 ≡ (0, Some x) ∷ [] → me.0.holding ≡ true → me.0.spent ≡ false → IsPrefix me.0.seen (history x) → length me.0.seen + k ≡ length (history x) → length (history x) < 2 ^ 64
      → ((q : ℕ) (e : E) → length me.0.seen ≤ q → slice_get (history x) q ≡ Some e → 0 < times (rests q e) (me.0.places ++ run_of (length me.0.seen) (length (history x) - length me.0.seen)))
      → Allows Rule slots id me 2 (λ n. (n + k) % 2 ^ 64) (appended history (step slots 2 k 0 none) me)
  appends slots id k me x has holding lives begins count small rest s r deep at fits =
      let v = me.0 in let well = r.each id v at in let log' = history x in let w = grown_to log' v in let turn = well.holder holding in
      let len : length v.seen ≡ length r.log = ap length turn.1 in
      let old : IsPrefix r.log log' = subst (λ (l : List E). IsPrefix l log') turn.1 begins in
      let one : total holds_slot s.views ≡ 1 = ⊎_elim (λ (home : IsHome start_of history stands start r.log s.homes (total holds_slot s.views)). absurd (omega (arith, home.0, total_at holds_slot s.views id v at, holds_one v holding)))
      (λ (out : IsOut s.homes (total holds_slot s.views)). out.0) r.slot in
      let away : s.homes ≡ none ∷ [] = ⊎_elim (λ (home : IsHome start_of history stands start r.log s.homes (total holds_slot s.views)). absurd (omega (arith, home.0, one)))
      (λ (out : IsOut s.homes (total holds_slot s.views)). out.1) r.slot in
      let word : (length r.log + k) % 2 ^ 64 ≡ length log' = mod-eq_of_lt (omega arith) ∙ (omega arith) in (
        w,
        keeps,
        tt,
        restep s r id v w at (set s.words 2 ((get_or s.words 2 0 + k) % 2 ^ 64)) s.homes r.drawn r.served log'
            (ap (λ ws. set ws 2 ((get_or ws 2 0 + k) % 2 ^ 64)) r.words ∙ ap (λ (n : ℕ). (r.drawn % 2 ^ 64) ∷ (r.served % 2 ^ 64) ∷ n ∷ []) word)
            (λ t. refl) refl refl refl
            (λ q. let more = length log' - length v.seen in let sum : below q (length v.seen + more) ≡ below q (length log') = ap (below q) (omega arith) in let from : below q (length v.seen) ≡ below q (length r.log) = ap (below q) len in
            omega (arith, total_append (λ (y : ℕ). one_if (eqb q y)) v.places (run_of (length v.seen) more), times_run q (length v.seen) more, sum, from))
            (inr (omega (arith, total_set holds_slot s.views id v w at, one), away))
            record { seen = prefix_self log'; told = prefix_trans v.told r.log log' well.told old; holder = λ h. (turn.0, refl); alive = well.alive; over = λ h. absurd (cc (h, lives)); resting = rests_grown s r id v log' at len old well.resting rest }
            (λ j u ne e y. record {
              seen = prefix_trans u.seen r.log log' y.seen old;
              told = prefix_trans u.told r.log log' y.told old;
              holder = λ h. absurd (omega (arith, total_two holds_slot s.views j id u v ne e at, holds_one u h, holds_one v holding, one));
              alive = y.alive;
              over = y.over;
              resting = rests_longer s r j u log' e old y.resting;
            }),
        λ y h. ap (λ (z : W). (grown_to (history z) v, me.1)) (value_same x y me.1 has h),
      )
    where
      value_same : (x y : W) (l : List (ℕ × Option W)) → l ≡ (0, Some x) ∷ [] → l ≡ (0, Some y) ∷ [] → x ≡ y
      value_same x y l p q = let e : Some x ≡ Some y = ap second_of (sym p ∙ q) in cc e

  pub passes_on : (slots id : ℕ) (me : Sits) (x : W) → me.1 ≡ (0, Some x) ∷ [] → me.0.holding ≡ true → me.0.spent ≡ false → history x ≡ me.0.seen → me.0.start ≡ Some (start_of x) → stands x
      → Allows Rule slots id me 1 (λ n. (n + 1) % 2 ^ 64) (passed_on (step slots 1 1 0 none) me)
  passes_on slots id me x has holding lives log' started well_stands s r deep at fits =
      let v = me.0 in let well = r.each id v at in let w = rested v in let turn = well.holder holding in let alive = well.alive lives in
      let one : total holds_slot s.views ≡ 1 = ⊎_elim (λ (home : IsHome start_of history stands start r.log s.homes (total holds_slot s.views)). absurd (omega (arith, home.0, total_at holds_slot s.views id v at, holds_one v holding)))
      (λ (out : IsOut s.homes (total holds_slot s.views)). out.0) r.slot in
      let away : s.homes ≡ none ∷ [] = ⊎_elim (λ (home : IsHome start_of history stands start r.log s.homes (total holds_slot s.views)). absurd (omega (arith, home.0, one)))
      (λ (out : IsOut s.homes (total holds_slot s.views)). out.1) r.slot in
      let held : total holds_slot (set s.views id w) ≡ 0 = omega (arith, total_set holds_slot s.views id v w at, one, holds_one v holding) in
      let mine : (t : ℕ) → has_ticket t v ≡ one_if (eqb t r.served) = λ t. ap (has_ticket_of t) turn.0 in
      let waited : waits v ≡ 1 = ap count_of turn.0 in
      let starts : start_of x ≡ start = start_same (start_of x) start v.start started alive.1 in
      let P : List (ℕ × Option W) → Type 0 = λ c. (w' : V) × (a : Act (Option W)) × Valid s.homes c a × Rule (stepped s 1 ((get_or s.words 1 0 + 1) % 2 ^ 64) id c w' a) × passed_on (step slots 1 1 0 none) (v, c) (get_or s.words 1 0) (w', carried_after c a) in
      subst P (sym has) (
        w,
        gives,
        tt,
        restep s r id v w at (set s.words 1 ((get_or s.words 1 0 + 1) % 2 ^ 64)) (set s.homes 0 (some (Some x))) r.drawn (r.served + 1) r.log
            (ap (λ ws. set ws 1 ((get_or ws 1 0 + 1) % 2 ^ 64)) r.words ∙ ap (λ k. (r.drawn % 2 ^ 64) ∷ k ∷ length r.log ∷ []) (one_more r.served))
            (λ t. omega (arith, mine t, below_next t r.served))
            (omega (arith, waited))
            refl refl (λ k. refl)
            (inl (held, (x, ap (λ hs. set hs 0 (some (Some x))) away, starts, log' ∙ turn.1, well_stands)))
            record { seen = well.seen; told = well.told; holder = λ h. absurd (cc h); alive = well.alive; over = λ h. absurd (cc (h, lives)); resting = well.resting }
            (λ j u ne e y. record {
              seen = y.seen;
              told = y.told;
              holder = λ h. absurd (omega (arith, total_two holds_slot s.views j id u v ne e at, holds_one u h, holds_one v holding, one));
              alive = y.alive;
              over = y.over;
              resting = y.resting;
            }),
        refl,
      )
    where
      start_same : (a b : T) (o : Option T) → o ≡ Some a → o ≡ Some b → a ≡ b
      start_same a b o p q = cc (p, q)

  pub takes_in : (slots id : ℕ) (me : Sits) → me.0.holding ≡ false → Allows Rule slots id me 0 (λ n. n) (took_in (step slots 0 0 0 none) me)
  takes_in slots id me empty s r deep at fits =
      let v = me.0 in let w = informed v in let well = r.each id v at in let long = longer_begins v.seen v.told r.log well.seen well.told in (
        w,
        keeps,
        tt,
        restep s r id v w at (set s.words 0 (get_or s.words 0 0)) s.homes r.drawn r.served r.log (set-get_or s.words 0 0 ∙ r.words) (λ t. refl) refl refl refl (λ k. refl)
            (subst (Slot r.log s.homes) (same_held s id v w at refl) r.slot)
            record { seen = long.2; told = prefix_none r.log; holder = λ h. absurd (cc (h, empty)); alive = well.alive; over = well.over; resting = well.resting }
            (λ j u ne e y. y),
        (refl, long.0, long.1, λ place. once s r id v place at),
      )

  pub splits : (id : ℕ) (v : V) → 0 < v.left → v.holding ≡ false → v.spent ≡ false → Splits Rule id v (left_of v) (right_of v)
  splits id v some_left empty lives s r at =
      let w = left_of v in let new = right_of v in let ws = set s.views id w in let well = r.each id v at in let alive = well.alive lives in
      let sum : (f : V → ℕ) → total f (ws ++ new ∷ []) + f v ≡ total f s.views + f w + f new = λ f. omega (arith, total_append f ws (new ∷ []), total_set f s.views id v w at) in record {
        drawn = r.drawn;
        served = r.served;
        log = r.log;
        words = r.words;
        tickets = λ t. omega (arith, sum (has_ticket t), r.tickets t);
        waiting = omega (arith, sum waits, r.waiting);
        few = omega (arith, length-append ws (new ∷ []), length-set s.views id w, sum (λ (x : V). x.left), r.few);
        small = r.small;
        parts = omega (arith, sum (λ (x : V). x.parts), r.parts, alive.0);
        places = λ k. omega (arith, sum (λ (x : V). times k x.places), r.places k);
        slot = let same : total holds_slot s.views ≡ total holds_slot (ws ++ new ∷ []) = omega (arith, sum holds_slot) in subst (Slot r.log s.homes) same r.slot;
        each = λ j u e. ⊎_elim (λ (old : get_elem? ws j ≡ some u). ⊎_elim
            (λ (t : (j ≡ id) × (w ≡ u)). subst (IsWell rests start r.log r.served) t.1
            record { seen = well.seen; told = well.told; holder = λ h. absurd (cc (h, empty)); alive = λ _. (omega (arith, alive.0), alive.1); over = λ h. absurd (cc (h, lives)); resting = well.resting })
            (λ (t : (j ≢ id) × (get_elem? s.views j ≡ some u)). r.each j u t.1) (at_set s.views id j w u old))
            (λ (is : new ≡ u). subst (IsWell rests start r.log r.served) is
            record { seen = well.seen; told = prefix_none r.log; holder = λ h. absurd (cc h); alive = λ _. (omega arith, alive.1); over = λ h. absurd (cc (h, lives)); resting = λ k e h g. absurd (omega (arith, h)) })
            (at_snoc ws new u j e);
      }

  pub joins : (id : ℕ) (v : V) (other : ℕ) (w : V) → v.holding ≡ false → v.spent ≡ false → w.ticket ≡ None → w.holding ≡ false → w.spent ≡ false → Joins Rule id v other w (joined v w) spent_view
  joins id v other w empty lives free empty' lives' s r at ne at' =
      let b = joined v w in let gone : V = spent_view in let vs = set s.views id b in let us = set vs other gone in
      let was : get_elem? s.views other ≡ some w = sym (set_else s.views id other b ne) ∙ at' in
      let well = r.each id v at in let well' = r.each other w was in let alive = well.alive lives in
      let sum : (f : V → ℕ) → total f us + f v + f w ≡ total f s.views + f b + f gone = λ f. omega (arith, total_set f s.views id v b at, total_set f vs other w gone at') in
      let none_waits : (t : ℕ) → has_ticket t w ≡ 0 = λ t. ap (has_ticket_of t) free in let calm : waits w ≡ 0 = ap count_of free in record {
        drawn = r.drawn;
        served = r.served;
        log = r.log;
        words = r.words;
        tickets = λ t. omega (arith, sum (has_ticket t), r.tickets t, none_waits t);
        waiting = omega (arith, sum waits, r.waiting, calm);
        few = omega (arith, length-set vs other gone, length-set s.views id b, sum (λ (x : V). x.left), r.few);
        small = r.small;
        parts = omega (arith, sum (λ (x : V). x.parts), r.parts);
        places = λ k. omega (arith, sum (λ (x : V). times k x.places), r.places k, total_append (λ (y : ℕ). one_if (eqb k y)) v.places w.places);
        slot = let same : total holds_slot s.views ≡ total holds_slot us = omega (arith, sum holds_slot, holds_none w empty') in subst (Slot r.log s.homes) same r.slot;
        each = λ j u e. ⊎_elim
            (λ (t : (j ≡ other) × (gone ≡ u)). subst (IsWell rests start r.log r.served) t.1
            record { seen = prefix_none r.log; told = prefix_none r.log; holder = λ h. absurd (cc h); alive = λ h. absurd (cc h); over = λ _. (refl, refl, refl); resting = λ k e h g. absurd (omega (arith, h)) })
            (λ (q : (j ≢ other) × (get_elem? vs j ≡ some u)). ⊎_elim
            (λ (t : (j ≡ id) × (b ≡ u)). subst (IsWell rests start r.log r.served) t.1
            record { seen = well.seen; told = well'.seen; holder = λ h. absurd (cc (h, empty)); alive = λ _. (omega (arith, alive.0), alive.1); over = λ h. absurd (cc (h, lives)); resting = rests_both r.log v.places w.places well.resting well'.resting })
            (λ (t : (j ≢ id) × (get_elem? s.views j ≡ some u)). r.each j u t.1) (at_set s.views id j b u q.1))
            (at_set vs other j gone u e);
      }

  pub opens : (x : W) (n : ℕ) → start_of x ≡ start → stands x → n ≡ length (history x) → 1 ≤ passes → passes < 2 ^ 32 → ((k : ℕ) (e : E) → slice_get (history x) k ≡ Some e → rests k e < length (history x)) → Rule (opening (0 ∷ 0 ∷ n ∷ []) (Some x ∷ []) (first_view start (history x) passes))
  opens x n starts well_stands count some_passes small within = record {
    drawn = 0;
    served = 0;
    log = history x;
    words = ap (λ k. 0 ∷ 0 ∷ k ∷ []) count;
    tickets = λ t. omega arith;
    waiting = refl;
    few = omega arith;
    small = small;
    parts = omega arith;
    places = λ k. let z : below k 0 ≡ 0 = below_no k 0 (omega arith) in let e : below k (0 + length (history x)) ≡ below k (length (history x)) = ap (below k) (omega arith) in omega (arith, times_run k 0 (length (history x)), z, e);
    slot = inl (refl, (x, refl, starts, refl, well_stands));
    each = λ j u e. ⊎_elim
        (λ (t : get_elem? {A = V} [] j ≡ some u). absurd (some-ne-none u (sym t)))
        (λ (is : first_view start (history x) passes ≡ u). subst (IsWell rests start (history x) 0) is
        record { seen = prefix_self (history x); told = prefix_none (history x); holder = λ h. absurd (cc h); alive = λ _. (omega arith, refl); over = λ h. absurd (cc h); resting = λ k e h g. in_run_of (rests k e) (length (history x)) (within k e g) })
        (at_snoc [] (first_view start (history x) passes) u j e);
  }

  -- who has all parts finds the value at home, and all places of its history are its own
  pub ends : (s : St) (r : Rule s) (id : ℕ) (v : V) → get_elem? s.views id ≡ some v → v.holding ≡ false → v.spent ≡ false → v.parts ≡ passes
      → (x : W) × (s.homes ≡ some (Some x) ∷ []) × (start_of x ≡ start) × stands x × IsPrefix v.seen (history x) × ((k : ℕ) → times k v.places ≡ below k (length (history x)))
  ends s r id v at empty lives all =
      let over : (j : ℕ) (u : V) → j ≢ id → get_elem? s.views j ≡ some u → u.spent ≡ true = λ j u ne e.
      over_or u.spent (λ h. let alive = (r.each j u e).alive h in omega (arith, total_two (λ (x : V). x.parts) s.views j id u v ne e at, r.parts, all, alive.0)) in
      let none_else : (j : ℕ) (u : V) → get_elem? s.views j ≡ some u → holds_slot u ≡ 0 = λ j u e. dite (ℕ_discrete j id)
      (λ h. let same : u ≡ v = at_same s.views j id u v h e at in ap holds_slot same ∙ holds_none v empty)
      (λ ne. not_held u (r.each j u e) (over j u ne e)) in
      let home : total holds_slot s.views ≡ 0 = total_none holds_slot s.views none_else in
      let only : (k : ℕ) → total (λ (x : V). times k x.places) s.views ≡ times k v.places = λ k. total_only (λ (x : V). times k x.places) s.views id v at
      (λ j u ne e. let o = (r.each j u e).over (over j u ne e) in ap (times k) o.2) in
      ⊎_elim (λ (h : IsHome start_of history stands start r.log s.homes (total holds_slot s.views)).
      (h.1.0, h.1.1, h.1.2, h.1.4, subst (IsPrefix v.seen) (sym h.1.3) (r.each id v at).seen, λ k. sym (only k) ∙ (r.places k ∙ ap (λ (l : List E). below k (length l)) (sym h.1.3))))
      (λ (o : IsOut s.homes (total holds_slot s.views)). absurd (omega (arith, o.0, home)))
      r.slot
    where
      over_or : (b : Bool) → (b ≡ false → ⊥) → b ≡ true
      over_or true h = refl
      over_or false h = absurd (h refl)

      at_same : (l : List V) (i j : ℕ) (u v : V) → i ≡ j → get_elem? l i ≡ some u → get_elem? l j ≡ some v → u ≡ v
      at_same l i j u v e p q = some-injective u v (sym p ∙ (ap (get_elem? l) e ∙ q))

      held_or : (b : Bool) → (b ≡ true → ⊥) → one_if b ≡ 0
      held_or true h = absurd (h refl)
      held_or false h = refl

      not_held : (u : V) → IsWell rests start r.log r.served u → u.spent ≡ true → holds_slot u ≡ 0
      not_held u well gone = held_or u.holding (λ h. let t = well.holder h in let o = well.over gone in no_ticket u.ticket r.served o.1 t.0)
        where
          no_ticket : (o : Option ℕ) (k : ℕ) → o ≡ None → o ≡ Some k → ⊥
          no_ticket o k p q = cc (p, q)

  -- what is found in the slot once the table is closed by who has all parts
  pub closes : (id : ℕ) (v : V) (ws : List ℕ) (xs : List (Option W)) (out : Option W) → Final (Seen Rule id v) ws xs → get_elem? xs 0 ≡ some out → v.holding ≡ false → v.spent ≡ false → v.parts ≡ passes
      → (x : W) × (out ≡ Some x) × (start_of x ≡ start) × stands x × IsPrefix v.seen (history x) × ((k : ℕ) → times k v.places ≡ below k (length (history x)))
  closes id v ws xs out final found empty lives all =
      let e = ends final.0 final.1.0 id v final.1.1 empty lives all in
      let there = final.4 0 (Some e.0) (ap (λ hs. get_elem? hs 0) e.1) in
      (e.0, some-injective out (Some e.0) (sym found ∙ there), e.2, e.3, e.4, e.5)
