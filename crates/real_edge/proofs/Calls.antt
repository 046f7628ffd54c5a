-- The calls of a store over its disk.
use Rattle.std.proofs.Common.{◌≡◌, ◌≢◌, ◌⊎◌, ℕ, ◌≤◌, Bool, true, false, List, [], ◌∷◌, ◌++◌, length, take, Option, Some, None, Result, Ok, Err, refl, sym, ap, subst, ◌∙◌, inl, inr, arith}
use Rattle.std.specs.Prelude.{⊤, IsSome, IfSome, IfOk, OnOk}
use Rattle.std.specs.FinMap as finmap
use Rattle.std.specs.declared.alloc.AllocError.{AllocError}
use Rattle.byte_fields.specs.declared.calls.Failed.{Failed}
use Rattle.object_store.specs.declared.store.CreateError.{CreateError}
use Rattle.object_store.specs.declared.store.GetError.{GetError}
use Rattle.object_store.specs.declared.store.GetError.TheVariants as gets
use Rattle.object_store.specs.declared.store.ListError.{ListError}
use Rattle.object_store.specs.declared.store.Piece.{Piece}
use Rattle.object_store.specs.declared.store.CreateError.TheVariants as made
use Rattle.object_store.specs.Store.{State, AfterLanding, Creates, Gets, Deletes, Lists, Finds, IsPieceOf, is_wanted, listed, with_object, without_object}
use Rattle.real_edge.specs.declared.faults.Trouble.{Trouble}
use Rattle.real_edge.specs.declared.disk.DiskError.{DiskError}
use Rattle.real_edge.specs.declared.disk.DiskError.TheVariants as reads
use Rattle.real_edge.specs.declared.disk.MakeError.{MakeError}
use Rattle.real_edge.specs.declared.disk.MakeError.TheVariants as makes
use Rattle.real_edge.specs.declared.waiting.Wait.{Wait}
use Rattle.real_edge.specs.declared.folder_walk.Walk.{Walk}
use Rattle.real_edge.specs.Disk.{Files, Where, NoMore, MayTurn, Removes, Reads, IsSettled, IsSafe, Leaves}
use Rattle.real_edge.specs.Names.{is_object}
use Rattle.real_edge.specs.Answers.{get_answer}
use Rattle.real_edge.specs.Objects.{objects_of, state_of, state_in, create_answer, delete_answer, IsSure, Showing, Comes, Goes, StaysSure, KeepsObjects, KeepsSafe, Places, IsPlaced, IsTaken, Takes}
use Rattle.real_edge.specs.Walk.{Covers, IsCovering}
use Rattle.real_edge.proofs.Maps.{get_here, same_objects, objects-insert, objects-remove, cases_same, apart}
use Rattle.real_edge.proofs.Steps.{state_kept, safe_shown, sure_kept, get_new, get_other, get_left, gone}
use Rattle.real_edge.proofs.Wheres.{where_map, where_then, where_same, where_beside, if_then, if_said, works, works_lost}
use Rattle.real_edge.proofs.Walks.{covers_kept, differs}

-- ---- making

on_disk_of : (name content : List ℕ) (r : Result (Unit {0}) MakeError) (after : Files → Type 0) → OnOk r (IsSafe after name content) → OnOk (create_answer r) (IsSafe after name content)
on_disk_of name content (Ok done) after h = h
on_disk_of name content (Err makes.Exists) after h = tt
on_disk_of name content (Err (makes.Failed t)) after h = tt
on_disk_of name content (Err (makes.Memory e)) after h = tt

pub if_placed : (a b : Option Files) (name content : List ℕ) (r : Result (Unit {0}) MakeError) (is_lost : Bool) (l m : Files → Type 0) → Where a b (Places name content r is_lost l m) → IfSome a (λ _. IsPlaced name content (create_answer r) l m)
if_placed a b name content r is_lost l m h =
    if_said a b {P = Places name content r is_lost l m} {R = IsPlaced name content (create_answer r) l m} (λ o n p. record { on_disk = on_disk_of name content r m p.on_disk; keeps = p.keeps }) h

-- what a crash leaves of the objects but one, which came or did not
same_state : (m n : Files) → ((q : List ℕ) → is_object q ≡ true → finmap.get m q ≡ finmap.get n q) → state_of m ≡ state_of n
same_state m n e = λ i. record { objects = same_objects m n e i; late = [] }

module _ (name : List ℕ) (o d c : Files) (others : (q : List ℕ) → is_object q ≡ true → q ≢ name → finmap.get c q ≡ finmap.get d q) (s : (q : List ℕ) → is_object q ≡ true → finmap.get d q ≡ finmap.get o q) where
  -- no object has this name
  no_object : is_object name ≡ false → state_of c ≡ state_of o
  no_object not = same_state c o (λ q isq. others q isq (apart q name isq not) ∙ s q isq)

  -- it has what it had
  was_here : finmap.get c name ≡ finmap.get d name → state_of c ≡ state_of o
  was_here e = same_state c o (λ q isq. by q isq (cases_same q name))
    where
      by : (q : List ℕ) → is_object q ≡ true → (q ≡ name) ⊎ (q ≢ name) → finmap.get c q ≡ finmap.get o q
      by q isq (inl same) = ap (finmap.get c) same ∙ e ∙ sym (ap (finmap.get d) same) ∙ s q isq
      by q isq (inr ne) = others q isq ne ∙ s q isq

  -- it came
  came_here : (content : List ℕ) → is_object name ≡ true → finmap.get c name ≡ Some content → state_of c ≡ with_object (state_of o) name content
  came_here content is e = same_state c (finmap.insert o name content) (λ q isq. by q isq (cases_same q name)) ∙ (λ i. record { objects = objects-insert o name content is i; late = [] })
    where
      by : (q : List ℕ) → is_object q ≡ true → (q ≡ name) ⊎ (q ≢ name) → finmap.get c q ≡ finmap.get (finmap.insert o name content) q
      by q isq (inl same) = ap (finmap.get c) same ∙ e ∙ sym (get_new o name content) ∙ sym (ap (finmap.get (finmap.insert o name content)) same)
      by q isq (inr ne) = others q isq ne ∙ s q isq ∙ sym (get_other o name content q ne)

  -- it went
  went_here : finmap.get c name ≡ None → state_of c ≡ without_object (state_of o) name
  went_here e = same_state c (finmap.remove o name) (λ q isq. by q isq (cases_same q name)) ∙ (λ i. record { objects = objects-remove o name i; late = [] })
    where
      by : (q : List ℕ) → is_object q ≡ true → (q ≡ name) ⊎ (q ≢ name) → finmap.get c q ≡ finmap.get (finmap.remove o name) q
      by q isq (inl same) = ap (finmap.get c) same ∙ e ∙ sym (gone o name) ∙ sym (ap (finmap.get (finmap.remove o name)) same)
      by q isq (inr ne) = others q isq ne ∙ s q isq ∙ sym (get_left o name q ne)

-- a create whose object a crash leaves or not
lost_create : (name content : List ℕ) (r : Result (Unit {0}) MakeError) (l m : Files → Type 0) (o n c : Files) → IsSure l o → m c → Places name content r true l m o n → Creates name content (create_answer r) (state_of o) (state_of c)
lost_create name content r l m o n c s left p =
    let d = p.turns c left in
    let f = p.fails refl in
    subst (λ (x : Result (Unit {0}) MakeError). Creates name content (create_answer x) (state_of o) (state_of c)) (sym f.1) (by d.0 d.2 (s d.0 d.1) (is_object name) refl)
  where
    by : (d : Files) → Showing name (Comes name content o) d c → ((q : List ℕ) → is_object q ≡ true → finmap.get d q ≡ finmap.get o q) → (b : Bool) → is_object name ≡ b → Creates name content (Err made.Failed) (state_of o) (state_of c)
    by d h same false not = inr (inr (no_object name o d c h.others same not))
    by d h same true is = elim (h.here is) [
      | inl e ↦ inr (inr (was_here name o d c h.others same e))
      | inr e ↦ inl (get_here o name is ∙ e.0, came_here name o d c h.others same content is e.1)
    ]

pub creates : (is_lost : Bool) (a b : Option Files) (fa fb : Files) (name content : List ℕ) (r : Result (Unit {0}) MakeError) (l m : Files → Type 0) → IfSome a (IsSure l) → IfSome b (λ _. m fb) → Where a b (Places name content r is_lost l m)
    → AfterLanding (state_in a false fa) (state_in b is_lost fb) (Creates name content (create_answer r))
creates false a b fa fb name content r l m s left h = works a b fa fb (Creates name content (create_answer r)) {P = Places name content r false l m} (λ o n p. p.creates) h
creates true a b fa fb name content r l m s left h =
    works_lost a b fa fb (Creates name content (create_answer r)) {P = Places name content r true l m} {Q = IsSure l} {R = m fb} (λ o n q k p. lost_create name content r l m o n fb q k p) h s left

-- ---- removing

lost_delete : (name : List ℕ) (r : Result (Unit {0}) Trouble) (l m : Files → Type 0) (o n c : Files) → IsSure l o → m c → Takes name r true l m o n → Deletes name (delete_answer r) (state_of o) (state_of c)
lost_delete name r l m o n c s left p =
    let d = p.turns c left in
    let f = p.fails refl in
    subst (λ (x : Result (Unit {0}) Trouble). Deletes name (delete_answer x) (state_of o) (state_of c)) (sym f.1) (by d.0 d.2 (s d.0 d.1) (is_object name) refl)
  where
    by : (d : Files) → Showing name Goes d c → ((q : List ℕ) → is_object q ≡ true → finmap.get d q ≡ finmap.get o q) → (b : Bool) → is_object name ≡ b → Deletes name (Err record {}) (state_of o) (state_of c)
    by d h same false not = inr (no_object name o d c h.others same not)
    by d h same true is = elim (h.here is) [
      | inl e ↦ inr (was_here name o d c h.others same e)
      | inr e ↦ inl (went_here name o d c h.others same e)
    ]

taken_answer : (name : List ℕ) (r : Result (Unit {0}) Trouble) (l m : Files → Type 0) → IsTaken name r l m → IsTaken name (delete_answer r) l m
taken_answer name (Ok done) l m h = record { gone = h.gone; keeps = h.keeps }
taken_answer name (Err t) l m h = record { gone = tt; keeps = h.keeps }

pub if_taken : (a b : Option Files) (name : List ℕ) (r : Result (Unit {0}) Trouble) (is_lost : Bool) (l m : Files → Type 0) → Where a b (Takes name r is_lost l m) → IfSome a (λ _. IsTaken name (delete_answer r) l m)
if_taken a b name r is_lost l m h = if_said a b {P = Takes name r is_lost l m} {R = IsTaken name (delete_answer r) l m} (λ o n p. taken_answer name r l m p.taken) h

pub deletes : (is_lost : Bool) (a b : Option Files) (fa fb : Files) (name : List ℕ) (r : Result (Unit {0}) Trouble) (l m : Files → Type 0) → IfSome a (IsSure l) → IfSome b (λ _. m fb) → Where a b (Takes name r is_lost l m)
    → AfterLanding (state_in a false fa) (state_in b is_lost fb) (Deletes name (delete_answer r))
deletes false a b fa fb name r l m s left h = works a b fa fb (Deletes name (delete_answer r)) {P = Takes name r false l m} (λ o n p. p.deletes) h
deletes true a b fa fb name r l m s left h =
    works_lost a b fa fb (Deletes name (delete_answer r)) {P = Takes name r true l m} {Q = IsSure l} {R = m fb} (λ o n q k p. lost_delete name r l m o n fb q k p) h s left

-- ---- what a crash leaves is what is seen

pub sure_in : (t : Option Files) (is_lost : Bool) (l : Files → Type 0) → ((f : Files) → t ≡ Some f → is_lost ≡ false → IsSure l f) → is_lost ≡ false → IfSome t (IsSure l)
sure_in None is_lost l h kept = tt
sure_in (Some f) is_lost l h kept = h f refl kept

pub sure_out : (t : Option Files) (is_lost : Bool) (l : Files → Type 0) → IfSome t (λ f. is_lost ≡ false → IsSure l f) → (f : Files) → t ≡ Some f → is_lost ≡ false → IsSure l f
sure_out t is_lost l h f is = subst (λ (o : Option Files). IfSome o (λ x. is_lost ≡ false → IsSure l x)) is h

pub sure_by : (a b : Option Files) (is_lost : Bool) (l m : Files → Type 0) {P : Files → Files → Type 0} → ((o n : Files) → P o n → StaysSure is_lost l m o n) → IfSome a (IsSure l) → Where a b P → IfSome b (λ f. is_lost ≡ false → IsSure m f)
sure_by a b is_lost l m {P} stays s h = if_then a b {P = P} {Q = IsSure l} {R = λ f. is_lost ≡ false → IsSure m f} (λ o n q p kept. stays o n p kept q) s h

pub sure_still : (a b : Option Files) (is_lost : Bool) (l m : Files → Type 0) → IfSome a (IsSure l) → Where a b (KeepsObjects l m) → IfSome b (λ f. is_lost ≡ false → IsSure m f)
sure_still a b is_lost l m s h = sure_by a b is_lost l m {P = KeepsObjects l m} (λ o n p kept q. sure_kept l m o n p q) s h

some_is : (x y : State) → ◌≡◌ {A = Option State} (Some x) (Some y) → x ≡ y
some_is x y e = cc

-- a store tells what a crash leaves
pub told_left : (t : Option Files) (is_lost : Bool) (c : Files) (l : Files → Type 0) (s : State) → ((f : Files) → t ≡ Some f → is_lost ≡ false → IsSure l f) → IfSome t (λ _. l c) → state_in t is_lost c ≡ Some s → s ≡ state_of c
told_left None is_lost c l s sure left e = absurd (none_is s e)
  where
    none_is : (x : State) → ◌≡◌ {A = Option State} None (Some x) → ⊥
    none_is x e = cc
told_left (Some f) true c l s sure left e = sym (some_is (state_of c) s e)
told_left (Some f) false c l s sure left e = sym (some_is (state_of f) s e) ∙ sym (same_state c f (sure f refl refl c left))

-- ---- reading

pub if_kept : (a b : Option Files) (l m : Files → Type 0) → Where a b (KeepsObjects l m) → IfSome a (λ _. KeepsSafe l m)
if_kept a b l m h = if_said a b {P = KeepsObjects l m} {R = KeepsSafe l m} (λ o n p. safe_shown l m p.left) h

finds_of : (key : List ℕ) (from len : ℕ) (piece : Piece) (l m : Files → Type 0) (o n : Files) → is_object key ≡ true → KeepsObjects l m o n → Reads key from len (Some piece) n → Finds (finmap.get (objects_of o) key) from len (Ok piece)
finds_of key from len piece l m o n is k h =
    subst (λ (x : Option (List ℕ)). Finds x from len (Ok piece)) (sym (get_here o key is ∙ sym (k.same key is) ∙ h.1)) h.2

pub gets_found : (a b : Option Files) (fa fb : Files) (key : List ℕ) (from len : ℕ) (piece : Piece) (l m : Files → Type 0) → is_object key ≡ true → Where a b (KeepsObjects l m) → IfSome b (λ f. Reads key from len (Some piece) f)
    → AfterLanding (state_in a false fa) (state_in b false fb) (Gets key from len (Ok piece))
gets_found a b fa fb key from len piece l m is k h =
    works a b fa fb (Gets key from len (Ok piece)) {P = λ o n. KeepsObjects l m o n × Reads key from len (Some piece) n}
    (λ o n p. (state_kept l m o n p.0, finds_of key from len piece l m o n is p.0 p.1))
    (where_beside a b {P = KeepsObjects l m} {R = λ o n. KeepsObjects l m o n × Reads key from len (Some piece) n} {Q = λ f. Reads key from len (Some piece) f} (λ o n q p. (p, q)) h k)

pub gets_absent : (a b : Option Files) (fa fb : Files) (key : List ℕ) (from len : ℕ) (l m : Files → Type 0) → is_object key ≡ true → Where a b (KeepsObjects l m) → IfSome b (λ f. Reads key from len None f)
    → AfterLanding (state_in a false fa) (state_in b false fb) (Gets key from len (Err gets.Absent))
gets_absent a b fa fb key from len l m is k h =
    works a b fa fb (Gets key from len (Err gets.Absent)) {P = λ o n. KeepsObjects l m o n × Reads key from len None n}
    (λ o n p. (state_kept l m o n p.0, get_here o key is ∙ sym (p.0.same key is) ∙ p.1))
    (where_beside a b {P = KeepsObjects l m} {R = λ o n. KeepsObjects l m o n × Reads key from len None n} {Q = λ f. Reads key from len None f} (λ o n q p. (p, q)) h k)

pub gets_failed : (a b : Option Files) (fa fb : Files) (key : List ℕ) (from len : ℕ) (l m : Files → Type 0) → Where a b (KeepsObjects l m) → AfterLanding (state_in a false fa) (state_in b false fb) (Gets key from len (Err gets.Failed))
gets_failed a b fa fb key from len l m k = works a b fa fb (Gets key from len (Err gets.Failed)) {P = KeepsObjects l m} (λ o n p. (state_kept l m o n p, tt)) k

pub gets_refused : (a b : Option Files) (fa fb : Files) (key : List ℕ) (from len : ℕ) (e : AllocError) (l m : Files → Type 0) → Where a b (KeepsObjects l m) → AfterLanding (state_in a false fa) (state_in b false fb) (Gets key from len (Err (gets.Memory e)))
gets_refused a b fa fb key from len e l m k = works a b fa fb (Gets key from len (Err (gets.Memory e))) {P = KeepsObjects l m} (λ o n p. (state_kept l m o n p, tt)) k

pub gets_answer : (a b : Option Files) (fa fb : Files) (key : List ℕ) (from len : ℕ) (r : Result (Option Piece) DiskError) (l m : Files → Type 0) → is_object key ≡ true → Where a b (KeepsObjects l m)
    → IfOk r (λ found. IfSome b (λ f. Reads key from len found f)) → AfterLanding (state_in a false fa) (state_in b false fb) (Gets key from len (get_answer r))
gets_answer a b fa fb key from len (Ok (Some piece)) l m is h k = gets_found a b fa fb key from len piece l m is h k
gets_answer a b fa fb key from len (Ok None) l m is h k = gets_absent a b fa fb key from len l m is h k
gets_answer a b fa fb key from len (Err (reads.Memory e)) l m is h k = gets_refused a b fa fb key from len e l m h
gets_answer a b fa fb key from len (Err (reads.Failed t)) l m is h k = gets_failed a b fa fb key from len l m h

pub piece_bound : (len : ℕ) (r : Result (Option Piece) DiskError) → IfOk r (λ found. IfSome found (λ piece. length piece.bytes ≤ len)) → IfOk (get_answer r) (λ piece. length piece.bytes ≤ len)
piece_bound len (Ok (Some piece)) h = h
piece_bound len (Ok None) h = tt
piece_bound len (Err (reads.Memory e)) h = tt
piece_bound len (Err (reads.Failed t)) h = tt

-- ---- listing

same_list : (prefix : List ℕ) (after : Option (List ℕ)) (l m : Files → Type 0) (o n : Files) → KeepsObjects l m o n → listed prefix after (objects_of n) ≡ listed prefix after (objects_of o)
same_list prefix after l m o n k = ap (λ (s : State). listed prefix after s.objects) (state_kept l m o n k)

pub lists : (a b : Option Files) (fa fb : Files) (prefix : List ℕ) (after : Option (List ℕ)) (max : ℕ) (keys : List (List ℕ)) (l m : Files → Type 0) → Where a b (KeepsObjects l m)
    → IfSome b (λ f. keys ≡ take max (listed prefix after (objects_of f))) → AfterLanding (state_in a false fa) (state_in b false fb) (Lists prefix after max (Ok keys))
lists a b fa fb prefix after max keys l m k h =
    works a b fa fb (Lists prefix after max (Ok keys)) {P = λ o n. KeepsObjects l m o n × (keys ≡ take max (listed prefix after (objects_of n)))}
    (λ o n p. (state_kept l m o n p.0, p.1 ∙ ap (take max) (same_list prefix after l m o n p.0)))
    (where_beside a b {P = KeepsObjects l m} {R = λ o n. KeepsObjects l m o n × (keys ≡ take max (listed prefix after (objects_of n)))} {Q = λ f. keys ≡ take max (listed prefix after (objects_of f))} (λ o n q p. (p, q)) h k)

pub unlisted : (a b : Option Files) (fa fb : Files) (prefix : List ℕ) (after : Option (List ℕ)) (max : ℕ) (e : ListError) (l m : Files → Type 0) → Where a b (KeepsObjects l m) → AfterLanding (state_in a false fa) (state_in b false fb) (Lists prefix after max (Err e))
unlisted a b fa fb prefix after max e l m k = works a b fa fb (Lists prefix after max (Err e)) {P = KeepsObjects l m} (λ o n p. state_kept l m o n p) k

-- ---- the names that are kept between pages

pub walk_kept : (a b : Option Files) (walk : Option Walk) {P : Files → Files → Type 0} → ((o n : Files) → P o n → (q : List ℕ) → is_object q ≡ true → finmap.get n q ≡ finmap.get o q)
    → IfSome a (λ f. IfSome walk (λ w. IsCovering w f)) → Where a b P → IfSome b (λ f. IfSome walk (λ w. IsCovering w f))
walk_kept a b None {P} same h k = if_then a b {P = P} {Q = λ f. ⊤} {R = λ f. ⊤} (λ o n q p. tt) h k
walk_kept a b (Some w) {P} same h k = if_then a b {P = P} {Q = λ f. IsCovering w f} {R = λ f. IsCovering w f} (λ o n q p. covers_kept w.prefix w.after w.waiting o n (λ x is wanted. same o n p x is) q) h k

pub walk_unsought : (a b : Option Files) (walk : Option Walk) (key : List ℕ) {P : Files → Files → Type 0} → ((o n : Files) → P o n → (q : List ℕ) → is_object q ≡ true → q ≢ key → finmap.get n q ≡ finmap.get o q)
    → IfSome walk (λ w. is_wanted w.prefix w.after key ≡ false) → IfSome a (λ f. IfSome walk (λ w. IsCovering w f)) → Where a b P → IfSome b (λ f. IfSome walk (λ w. IsCovering w f))
walk_unsought a b None key {P} same not h k = if_then a b {P = P} {Q = λ f. ⊤} {R = λ f. ⊤} (λ o n q p. tt) h k
walk_unsought a b (Some w) key {P} same not h k =
    if_then a b {P = P} {Q = λ f. IsCovering w f} {R = λ f. IsCovering w f}
    (λ o n q p. covers_kept w.prefix w.after w.waiting o n (λ x is wanted. same o n p x is (differs w.prefix w.after key x not wanted)) q) h k
