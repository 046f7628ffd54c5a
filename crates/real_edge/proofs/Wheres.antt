-- What is said of a disk that tells, a call behind another.
use Rattle.std.proofs.Common.{◌≡◌, ◌≢◌, ◌⊎◌, ℕ, Bool, true, false, List, [], Option, Some, None, Result, Ok, Err, refl, sym, ap, subst, ◌∙◌, inl, inr}
use Rattle.std.specs.Prelude.{IfSome, IfOk}
use Rattle.std.specs.FinMap as finmap
use Rattle.object_store.specs.Store.{State, WhereTold, LandsThen, AfterLanding}
use Rattle.object_store.proofs.Landings.{HasLanded-refl}
use Rattle.real_edge.specs.Disk.{Files, Where, NoMore, Leaves}
use Rattle.real_edge.specs.Names.{is_object}
use Rattle.real_edge.specs.Objects.{state_of, state_in, KeepsObjects, ShowsNoMore}

pub where_map : (a b : Option Files) {P Q : Files → Files → Type 0} → ((o n : Files) → P o n → Q o n) → Where a b P → Where a b Q
where_map None None f h = tt
where_map None (Some n) f h = h
where_map (Some o) None f h = h
where_map (Some o) (Some n) f h = f o n h

pub where_then : (a b c : Option Files) {P Q R : Files → Files → Type 0} → ((o m n : Files) → P o m → Q m n → R o n) → Where a b P → Where b c Q → Where a c R
where_then None None None f h k = tt
where_then None None (Some n) f h k = k
where_then None (Some m) c f h k = absurd h
where_then (Some o) None c f h k = absurd h
where_then (Some o) (Some m) None f h k = k
where_then (Some o) (Some m) (Some n) f h k = f o m n h k

-- what is said of the files that a call leaves alone
pub where_same : (a b : Option Files) (P : Files → Files → Type 0) → ((f : Files) → P f f) → b ≡ a → Where a b P
where_same a b P f e = subst (λ (x : Option Files). Where a x P) (sym e) (by a)
  where
    by : (x : Option Files) → Where x x P
    by None = tt
    by (Some y) = f y

-- a fact of the files before, beside what was done
pub where_with : (a b : Option Files) {P R : Files → Files → Type 0} {Q : Files → Type 0} → ((o n : Files) → Q o → P o n → R o n) → IfSome a Q → Where a b P → Where a b R
where_with None None f q h = tt
where_with None (Some n) f q h = h
where_with (Some o) None f q h = h
where_with (Some o) (Some n) f q h = f o n q h

-- what is said of the files behind
pub if_then : (a b : Option Files) {P : Files → Files → Type 0} {Q R : Files → Type 0} → ((o n : Files) → Q o → P o n → R n) → IfSome a Q → Where a b P → IfSome b R
if_then None None f q h = tt
if_then None (Some n) f q h = absurd h
if_then (Some o) None f q h = absurd h
if_then (Some o) (Some n) f q h = f o n q h

-- what is said whatever the files
pub if_said : (a b : Option Files) {P : Files → Files → Type 0} {R : Type 0} → ((o n : Files) → P o n → R) → Where a b P → IfSome a (λ _. R)
if_said None b f h = tt
if_said (Some o) None f h = absurd h
if_said (Some o) (Some n) f h = f o n h

pub if_map : (a : Option Files) {Q R : Files → Type 0} → ((f : Files) → Q f → R f) → IfSome a Q → IfSome a R
if_map None f q = tt
if_map (Some x) f q = f x q

pub if_both : (a : Option Files) {P Q R : Files → Type 0} → ((f : Files) → P f → Q f → R f) → IfSome a P → IfSome a Q → IfSome a R
if_both None f p q = tt
if_both (Some x) f p q = f x p q

pub if_all : (a : Option Files) {R : Files → Type 0} → ((f : Files) → R f) → IfSome a R
if_all None f = tt
if_all (Some x) f = f x

-- nothing lands, and the work is done
pub works : (a b : Option Files) (fa fb : Files) (Work : State → State → Type 0) {P : Files → Files → Type 0} → ((o n : Files) → P o n → Work (state_of o) (state_of n)) → Where a b P → AfterLanding (state_in a false fa) (state_in b false fb) Work
works None None fa fb Work f h = tt
works None (Some n) fa fb Work f h = tt
works (Some o) None fa fb Work f h = h
works (Some o) (Some n) fa fb Work f h = (state_of o, HasLanded-refl (state_of o), f o n h)

-- the same where what was done is lost, and a crash leaves this
pub works_lost : (a b : Option Files) (fa fb : Files) (Work : State → State → Type 0) {P : Files → Files → Type 0} {Q : Files → Type 0} {R : Type 0} → ((o n : Files) → Q o → R → P o n → Work (state_of o) (state_of fb)) → Where a b P → IfSome a Q → IfSome b (λ _. R)
    → AfterLanding (state_in a false fa) (state_in b true fb) Work
works_lost None None fa fb Work f h q r = tt
works_lost None (Some n) fa fb Work f h q r = tt
works_lost (Some o) None fa fb Work f h q r = h
works_lost (Some o) (Some n) fa fb Work f h q r = (state_of o, HasLanded-refl (state_of o), f o n q r h)

-- nothing is done
pub works_not : (x : Option State) (Work : State → State → Type 0) → ((s : State) → Work s s) → AfterLanding x x Work
works_not None Work f = tt
works_not (Some s) Work f = (s, HasLanded-refl s, f s)

-- what is said where an answer is `Ok`
pub if_ok_some : {T E : Type 0} (r : Result T E) (a : Option Files) (Q : Files → Type 0) → IfOk r (λ _. IfSome a Q) → IfSome a (λ f. IfOk r (λ _. Q f))
if_ok_some (Ok v) a Q h = h
if_ok_some (Err e) None Q h = tt
if_ok_some (Err e) (Some f) Q h = tt

-- ---- calls that leave the files alone

pub leaves_then : (a b c : Option Files) (l m n : Files → Type 0) (u v w : List ℕ → Type 0) → Leaves a b l m u v → Leaves b c m n v w → Leaves a c l n u w
leaves_then a b c l m n u v w p q = record {
  same = q.same ∙ p.same;
  left = λ x h. p.left x (q.left x h);
  ways = λ x h. q.ways x (p.ways x h);
}

pub leaves_all : (a : Option Files) (l : Files → Type 0) (u : List ℕ → Type 0) → Leaves a a l l u u
leaves_all a l u = record { same = refl; left = λ x h. h; ways = λ x h. h }

pub shows-more : (before after : Files → Type 0) → NoMore before after → ShowsNoMore before after
shows-more before after h c left = (c, h c left, λ q is. refl)

pub shows-then : (a b c : Files → Type 0) → ShowsNoMore a b → ShowsNoMore b c → ShowsNoMore a c
shows-then a b c p q x left =
    let one = q x left in
    let two = p one.0 one.1 in
    (two.0, two.1, λ k is. one.2 k is ∙ two.2 k is)

pub keeps-then : (a b c : Files → Type 0) (o m n : Files) → KeepsObjects a b o m → KeepsObjects b c m n → KeepsObjects a c o n
keeps-then a b c o m n p q = record { same = λ k is. q.same k is ∙ p.same k is; left = shows-then a b c p.left q.left }

pub keeps_left : (before after : Files → Type 0) (f : Files) → NoMore before after → KeepsObjects before after f f
keeps_left before after f h = record { same = λ q is. refl; left = shows-more before after h }

pub where_keeps : (a b c : Option Files) (l m n : Files → Type 0) → Where a b (KeepsObjects l m) → Where b c (KeepsObjects m n) → Where a c (KeepsObjects l n)
where_keeps a b c l m n p q = where_then a b c (λ x y z. keeps-then l m n x y z) p q

pub where_left : (a b : Option Files) (l m : Files → Type 0) (u v : List ℕ → Type 0) → Leaves a b l m u v → Where a b (KeepsObjects l m)
where_left a b l m u v h = where_same a b (KeepsObjects l m) (λ f. keeps_left l m f h.left) h.same

-- a fact of the files behind, beside what was done
pub where_beside : (a b : Option Files) {P R : Files → Files → Type 0} {Q : Files → Type 0} → ((o n : Files) → Q n → P o n → R o n) → IfSome b Q → Where a b P → Where a b R
where_beside None None f q h = tt
where_beside None (Some n) f q h = h
where_beside (Some o) None f q h = h
where_beside (Some o) (Some n) f q h = f o n q h

-- a call that says that the files are the same
pub same_told : (a b : Option Files) (before after : Files → Type 0) → Where a b (λ o n. (n ≡ o) × NoMore before after) → b ≡ a
same_told None None before after h = refl
same_told None (Some n) before after h = absurd h
same_told (Some o) None before after h = absurd h
same_told (Some o) (Some n) before after h = ap (λ (f : Files). Some f) h.0

-- What a call says of the files that it leaves alone holds of them behind it.
pub if_left : (a b : Option Files) (Q : Files → Type 0) → b ≡ a → IfSome a Q → IfSome b Q
if_left a b Q e h = subst (λ (x : Option Files). IfSome x Q) (sym e) h

pub where_leaves : (a b c : Option Files) (l m n : Files → Type 0) → Where a b (KeepsObjects l m) → (c ≡ b) → NoMore m n → Where a c (KeepsObjects l n)
where_leaves a b c l m n h e more = subst (λ (x : Option Files). Where a x (KeepsObjects l n)) (sym e) (where_map a b {P = KeepsObjects l m} {Q = KeepsObjects l n} (λ x y k. record { same = k.same; left = shows-then l m n k.left (shows-more m n more) }) h)

pub where_all : (a : Option Files) (l : Files → Type 0) → Where a a (KeepsObjects l l)
where_all a l = where_same a a (KeepsObjects l l) (λ f. record { same = λ q is. refl; left = shows-more l l (λ c h. h) }) refl
