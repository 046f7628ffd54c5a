-- One element more is shared out.
use Rattle.std.proofs.Common.{◌≡◌, ◌⊎◌, ℕ, zero, suc, ◌+◌, ◌-◌, ◌<◌, ◌≤◌, List, [], ◌∷◌, ◌++◌, length, refl, sym, ap, ◌∙◌, subst, arith, append-nil, append_assoc, inl, inr}
use Rattle.std.specs.List.{AllByRecursion}
use Rattle.std.specs.Prelude.{Some, slice_get, slice_set, ⊤}
use Rattle.std.specs.declared.alloc.Global.{Global}
use Rattle.std.specs.declared.vec.Vec.{Vec}
use Rattle.run_plan.specs.Every.{every}
use Rattle.run_plan.proofs.EverySo.{every_here, every_later}
use Rattle.thread_run.specs.Sharing.{AreShares}

-- the place behind this one, the first again behind the last
abbrev pub IsNext : (count next coming : ℕ) → Type 0
IsNext count next coming = (suc next ≡ count → coming ≡ 0) × (suc next < count → coming ≡ suc next)

pub next_ahead : (count next coming place wait : ℕ) → IsNext count next coming → next < count → place < count → 0 < wait → (next ≤ place → wait + next ≡ place) → (place < next → wait + next ≡ place + count) →
    coming ≤ place → wait - 1 + coming ≡ place
next_ahead count next coming place wait is less within some ahead behind le = by_end (split next count less) (split_place place next)
  where
    split : (n m : ℕ) → n < m → (suc n ≡ m) ⊎ (suc n < m)
    split n m l = search arith

    split_place : (n m : ℕ) → (n < m) ⊎ (m ≤ n)
    split_place n m = search arith

    by_end : (suc next ≡ count) ⊎ (suc next < count) → (place < next) ⊎ (next ≤ place) → wait - 1 + coming ≡ place
    by_end (inl last) (inl lt) = let t = is.0 last in let w = behind lt in omega (arith, t, w, some, last, less)
    by_end (inl last) (inr ge) = let t = is.0 last in let w = ahead ge in absurd (omega (arith, t, w, some, last, less, within))
    by_end (inr more) (inl lt) = let t = is.1 more in absurd (omega (arith, t, lt, le))
    by_end (inr more) (inr ge) = let t = is.1 more in let w = ahead ge in omega (arith, t, w, some)

pub next_behind : (count next coming place wait : ℕ) → IsNext count next coming → next < count → place < count → 0 < wait → (next ≤ place → wait + next ≡ place) → (place < next → wait + next ≡ place + count) →
    place < coming → wait - 1 + coming ≡ place + count
next_behind count next coming place wait is less within some ahead behind lt = by_end (split next count less) (split_place place next)
  where
    split : (n m : ℕ) → n < m → (suc n ≡ m) ⊎ (suc n < m)
    split n m l = search arith

    split_place : (n m : ℕ) → (n < m) ⊎ (m ≤ n)
    split_place n m = search arith

    by_end : (suc next ≡ count) ⊎ (suc next < count) → (place < next) ⊎ (next ≤ place) → wait - 1 + coming ≡ place + count
    by_end (inl last) more = let t = is.0 last in absurd (omega (arith, t, lt))
    by_end (inr more) (inl below) = let t = is.1 more in let w = behind below in omega (arith, t, w, some)
    by_end (inr more) (inr ge) = let t = is.1 more in let w = ahead ge in absurd (omega (arith, t, w, some, lt, ge))

pub some_wait : (count next place wait : ℕ) → next < count → (place < next) ⊎ (next < place) → (next ≤ place → wait + next ≡ place) → (place < next → wait + next ≡ place + count) → 0 < wait
some_wait count next place wait less (inl lt) ahead behind = let w = behind lt in omega (arith, w, less)
some_wait count next place wait less (inr lt) ahead behind = let le : next ≤ place = omega (arith, lt) in let w = ahead le in omega (arith, w, lt)

module _ {A : Type 0} where
  -- the one at a place gets its next behind so many others of the rest, where it is the turn of another
  pub record Owes (count next place : ℕ) (xs rest own : List A) : Type 0 where
    pub wait : ℕ
    pub ahead : next ≤ place → wait + next ≡ place
    pub behind : place < next → wait + next ≡ place + count
    pub whole : own ++ every count wait rest ≡ every count place xs

  abbrev pub AllOwe : (count next place : ℕ) → (xs rest : List A) → List (Vec A Global) → Type 0
  AllOwe count next place xs rest [] = ⊤
  AllOwe count next place xs rest (own ∷ lists) = Owes count next place xs rest own.items × AllOwe count next (suc place) xs rest lists

  pub owe_none : (count place : ℕ) (xs : List A) (lists : List (Vec A Global)) → AllByRecursion (λ list. list.items ≡ []) lists → AllOwe count 0 place xs xs lists
  owe_none count place xs [] all = tt
  owe_none count place xs (own ∷ lists) all = (
    record { wait = place; ahead = λ le. omega arith; behind = λ less. absurd (omega (arith, less)); whole = ap (λ l. l ++ every count place xs) all.0 },
    owe_none count (suc place) xs lists all.1,
  )

  pub owe_all : (count next place : ℕ) (xs : List A) (lists : List (Vec A Global)) → AllOwe count next place xs [] lists → AreShares count place xs lists
  owe_all count next place xs [] all = tt
  owe_all count next place xs (own ∷ lists) all = (sym (append-nil own.items) ∙ all.0.whole, owe_all count next (suc place) xs lists all.1)

  -- it is the turn of another
  other_turn : (count next coming place : ℕ) (xs rest own : List A) (x : A) → IsNext count next coming → next < count → place < count → (place < next) ⊎ (next < place) →
      Owes count next place xs (x ∷ rest) own → Owes count coming place xs rest own
  other_turn count next coming place xs rest own x is less within other owes =
      let some = some_wait count next place owes.wait less other owes.ahead owes.behind in
      record {
        wait = owes.wait - 1;
        ahead = next_ahead count next coming place owes.wait is less within some owes.ahead owes.behind;
        behind = next_behind count next coming place owes.wait is less within some owes.ahead owes.behind;
        whole = ap (λ l. own ++ l) (sym (every_later count owes.wait x rest some)) ∙ owes.whole;
      }

  -- it is its own turn
  own_turn : (count next coming : ℕ) (xs rest own new : List A) (x : A) → IsNext count next coming → next < count → new ≡ own ++ x ∷ [] → Owes count next next xs (x ∷ rest) own → Owes count coming next xs rest new
  own_turn count next coming xs rest own new x is less pushed owes =
      let w = owes.ahead (omega arith) in
      let none : owes.wait ≡ 0 = omega (arith, w) in
      record {
        wait = count - 1;
        ahead = λ le. by_ahead le (split next count less);
        behind = λ lt. by_behind lt (split next count less);
        whole = ap (λ l. l ++ every count (count - 1) rest) pushed ∙ (append_assoc own (x ∷ []) (every count (count - 1) rest) ∙ (ap (λ l. own ++ l) (sym (every_here count owes.wait x rest none)) ∙ owes.whole));
      }
    where
      split : (n m : ℕ) → n < m → (suc n ≡ m) ⊎ (suc n < m)
      split n m l = search arith

      by_ahead : coming ≤ next → (suc next ≡ count) ⊎ (suc next < count) → count - 1 + coming ≡ next
      by_ahead le (inl last) = let t = is.0 last in omega (arith, t, last)
      by_ahead le (inr more) = let t = is.1 more in absurd (omega (arith, t, le))

      by_behind : next < coming → (suc next ≡ count) ⊎ (suc next < count) → count - 1 + coming ≡ next + count
      by_behind lt (inl last) = let t = is.0 last in absurd (omega (arith, t, lt))
      by_behind lt (inr more) = let t = is.1 more in omega (arith, t, less)

  others_turn : (count next coming place : ℕ) (xs rest : List A) (x : A) (lists : List (Vec A Global)) → IsNext count next coming → next < count → next < place → place + length lists ≡ count →
      AllOwe count next place xs (x ∷ rest) lists → AllOwe count coming place xs rest lists
  others_turn count next coming place xs rest x [] is less after long all = tt
  others_turn count next coming place xs rest x (own ∷ lists) is less after long all = (
    other_turn count next coming place xs rest own.items x is less (omega (arith, long)) (inr after) all.0,
    others_turn count next coming (suc place) xs rest x lists is less (omega (arith, after)) (omega (arith, long)) all.1,
  )

  -- the one whose turn it is got its next
  pub owe_less : (count next coming place i : ℕ) (xs rest : List A) (x : A) (lists : List (Vec A Global)) (old new : Vec A Global) → IsNext count next coming → i + place ≡ next → i < length lists → place + length lists ≡ count →
      slice_get lists i ≡ Some old → new.items ≡ old.items ++ x ∷ [] → AllOwe count next place xs (x ∷ rest) lists → AllOwe count coming place xs rest (slice_set lists i new)
  owe_less count next coming place i xs rest x [] old new is at within long here pushed all = absurd (omega (arith, within))
  owe_less count next coming place zero xs rest x (own ∷ lists) old new is at within long here pushed all =
      let same : own ≡ old = cc here in
      let less : next < count = omega (arith, at, long) in
      let here_is : place ≡ next = omega (arith, at) in
      let items : new.items ≡ own.items ++ x ∷ [] = pushed ∙ ap (λ (v : Vec A Global). v.items ++ x ∷ []) (sym same) in (
        subst (λ p. Owes count coming p xs rest new.items) (sym here_is) (own_turn count next coming xs rest own.items new.items x is less items (subst (λ p. Owes count next p xs (x ∷ rest) own.items) here_is all.0)),
        others_turn count next coming (suc place) xs rest x lists is less (omega (arith, at)) (omega (arith, long)) all.1,
      )
  owe_less count next coming place (suc i) xs rest x (own ∷ lists) old new is at within long here pushed all = (
    other_turn count next coming place xs rest own.items x is (omega (arith, at, within, long)) (omega (arith, long)) (inl (omega (arith, at))) all.0,
    owe_less count next coming (suc place) i xs rest x lists old new is (omega (arith, at)) (omega (arith, within)) (omega (arith, long)) here pushed all.1,
  )

pub set_long : {A : Type 0} (xs : List A) (i : ℕ) (x : A) → length (slice_set xs i x) ≡ length xs
set_long [] i x = refl
set_long (y ∷ xs) zero x = refl
set_long (y ∷ xs) (suc i) x = ap suc (set_long xs i x)

pub all_pushed : {A : Type 0} (P : A → Type 0) (xs : List A) (x : A) → AllByRecursion P xs → P x → AllByRecursion P (xs ++ x ∷ [])
all_pushed P [] x all p = (p, tt)
all_pushed P (y ∷ xs) x all p = (all.0, all_pushed P xs x all.1 p)
