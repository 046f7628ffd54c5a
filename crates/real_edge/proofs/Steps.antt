-- What the calls of a disk do to the objects, and to those that no crash takes.
use Rattle.std.proofs.Common.{◌≡◌, ◌≢◌, ◌⊎◌, ℕ, Bool, true, false, cond, List, [], ◌∷◌, Option, Some, None, Result, Ok, Err, refl, sym, ap, subst, ◌∙◌, inl, inr}
use Rattle.std.specs.Prelude.{IsSome, IfSome, IfOk, OnOk, is_err}
use Rattle.std.specs.declared.alloc.AllocError.{AllocError}
use Rattle.std.specs.Ordering.{nat_cmp, eq_by_cmp, is_eq}
use Rattle.object_store.proofs.Entries.{ties_itself, not_tied}
use Rattle.std.specs.Cmp.Lexicographic.{slice_cmp, nat_list_cmp_total}
use Rattle.std.specs.FinMap as finmap
use Rattle.std.specs.FinMap.{get-insert, get-remove}
use Rattle.object_store.specs.declared.store.CreateError.{CreateError}
use Rattle.object_store.specs.declared.store.CreateError.TheVariants as creates
use Rattle.object_store.specs.Store.{State, Creates, Deletes, with_object}
use Rattle.real_edge.specs.declared.faults.Trouble.{Trouble}
use Rattle.real_edge.specs.declared.disk.MakeError.{MakeError}
use Rattle.real_edge.specs.declared.disk.MakeError.TheVariants as makes
use Rattle.real_edge.specs.declared.disk.Standing.TheVariants as standings
use Rattle.real_edge.specs.Disk.{Files, Where, Leaves, Looks, SameBut, NoMore, Turns, MayTurn, MayStir, IsSettled, IsSafe, HalfMade, Makes, Links, LinksTo, LinkFails, Removes}
use Rattle.real_edge.specs.Names.{is_object}
use Rattle.real_edge.specs.Objects.{objects_of, state_of, create_answer, delete_answer, both_of, made_of, taken_of, IsSure, IsSeenAt, Showing, ShowsTurn, Comes, Goes, StaysSure, ShowsNoMore, KeepsObjects, KeepsSafe, Made, Places, IsTaken, Takes}
use Rattle.real_edge.proofs.Maps.{get_here, same_objects, objects-insert, objects-remove, cases_same, apart}
use Rattle.real_edge.proofs.Wheres.{shows-more, shows-then, keeps-then, keeps_left, where_map, where_then, where_with, where_beside, if_ok_some, if_map, if_both}

-- ---- what a crash may leave

-- a name that is no key
pub shows-stir : (name : List ℕ) (before after : Files → Type 0) → is_object name ≡ false → MayStir name before after → ShowsNoMore before after
shows-stir name before after not h c left = let d = h c left in (d.0, d.1, λ q is. d.2 q (apart q name is not))

pub shows-turn : (name : List ℕ) (content : Option (List ℕ)) (before after : Files → Type 0) → is_object name ≡ false → MayTurn name content before after → ShowsNoMore before after
shows-turn name content before after not h c left = let d = h c left in (d.0, d.1, λ q is. d.2.others q (apart q name is not))

pub safe_shown : (before after : Files → Type 0) → ShowsNoMore before after → KeepsSafe before after
safe_shown before after h q content is safe c left = let d = h c left in d.2 q is ∙ safe d.0 d.1

pub safe_more : (before after : Files → Type 0) → NoMore before after → KeepsSafe before after
safe_more before after h = safe_shown before after (shows-more before after h)

pub safe_then : (a b c : Files → Type 0) → KeepsSafe a b → KeepsSafe b c → KeepsSafe a c
safe_then a b c p q k content is safe = q k content is (p k content is safe)

-- an object of another name
pub safe_turn : (name : List ℕ) (x : Option (List ℕ)) (before after : Files → Type 0) (q content : List ℕ) → q ≢ name → MayTurn name x before after → IsSafe before q content → IsSafe after q content
safe_turn name x before after q content ne h safe c left = let d = h c left in d.2.others q ne ∙ safe d.0 d.1

none_some : (x : Option (List ℕ)) (content : List ℕ) → x ≡ None → x ≡ Some content → ⊥
none_some x content e f = let bad : ◌≡◌ {A = Option (List ℕ)} None (Some content) = sym e ∙ f in cc

-- a new name, where none stood
pub keeps_new : (name : List ℕ) (x : Option (List ℕ)) (before mid after : Files → Type 0) (seen : Files) → before seen → finmap.get seen name ≡ None → ShowsNoMore before mid → MayTurn name x mid after → KeepsSafe before after
keeps_new name x before mid after seen may none un turn q content is safe = by (cases_same q name)
  where
    by : (q ≡ name) ⊎ (q ≢ name) → IsSafe after q content
    by (inl e) = absurd (none_some (finmap.get seen name) content none (ap (finmap.get seen) (sym e) ∙ safe seen may))
    by (inr ne) = safe_turn name x mid after q content ne turn (safe_shown before mid un q content is safe)

-- ---- one name comes or goes

pub get_new : (m : Files) (name content : List ℕ) → finmap.get (finmap.insert m name content) name ≡ Some content
get_new m name content = get-insert nat_list_cmp_total m name content name ∙ ap (λ b. cond b (Some content) (finmap.get m name)) (ap is_eq (ties_itself name))

pub get_other : (m : Files) (name content q : List ℕ) → q ≢ name → finmap.get (finmap.insert m name content) q ≡ finmap.get m q
get_other m name content q ne = get-insert nat_list_cmp_total m name content q ∙ ap (λ b. cond b (Some content) (finmap.get m q)) (not_tied q name ne)

pub get_left : (m : Files) (name q : List ℕ) → q ≢ name → finmap.get (finmap.remove m name) q ≡ finmap.get m q
get_left m name q ne = get-remove nat_list_cmp_total m name q ∙ ap (λ b. cond b None (finmap.get m q)) (not_tied q name ne)

pub gone : (m : Files) (name : List ℕ) → finmap.get (finmap.remove m name) name ≡ None
gone m name = get-remove nat_list_cmp_total m name name ∙ ap (λ b. cond b None (finmap.get m name)) (ap is_eq (ties_itself name))

-- ---- what is no object comes and goes

pub state_kept : (before after : Files → Type 0) (o n : Files) → KeepsObjects before after o n → state_of n ≡ state_of o
state_kept before after o n h = λ i. record { objects = same_objects n o h.same i; late = [] }

pub made : (name content : List ℕ) (before after : Files → Type 0) (o n : Files) → is_object name ≡ false → Makes name content (Ok tt) before after o n → Made name content before after o n
made name content before after o n not h = record {
  has = ap (λ (f : Files). finmap.get f name) h.1 ∙ get_new o name content;
  keeps = record {
    same = λ q is. ap (λ (f : Files). finmap.get f q) h.1 ∙ get_other o name content q (apart q name is not);
    left = shows-turn name (Some content) before after not h.2;
  };
}

pub half_made : (name content : List ℕ) (t : Trouble) (before after : Files → Type 0) (o n : Files) → is_object name ≡ false → Makes name content (Err (makes.Failed t)) before after o n → KeepsObjects before after o n
half_made name content t before after o n not h = record { same = λ q is. h.others q (apart q name is not); left = shows-stir name before after not h.left }

pub unchanged : (before after : Files → Type 0) (o n : Files) → (n ≡ o) × NoMore before after → KeepsObjects before after o n
unchanged before after o n h = record { same = λ q is. ap (λ (f : Files). finmap.get f q) h.0; left = shows-more before after h.1 }

pub removed : (name : List ℕ) (r : Result (Unit {0}) Trouble) (before after : Files → Type 0) (o n : Files) → is_object name ≡ false → Removes name r before after o n → KeepsObjects before after o n
removed name r before after o n not h = by r h
  where
    took : n ≡ finmap.remove o name → MayTurn name None before after → KeepsObjects before after o n
    took e t = record {
      same = λ q is. ap (λ (f : Files). finmap.get f q) e ∙ get_left o name q (apart q name is not);
      left = shows-turn name None before after not t;
    }

    by : (rr : Result (Unit {0}) Trouble) → Removes name rr before after o n → KeepsObjects before after o n
    by (Ok done) k = took k.0 k.1
    by (Err t) k = elim k.0 [
      | inl e ↦ took e k.1
      | inr e ↦ record { same = λ q is. ap (λ (f : Files). finmap.get f q) e; left = shows-turn name None before after not k.1 }
    ]

-- ---- what a crash leaves is what is seen

none_true : false ≡ true → ⊥
none_true e = cc

none_false : true ≡ false → ⊥
none_false e = cc

pub sure_kept : (before after : Files → Type 0) (o n : Files) → KeepsObjects before after o n → IsSure before o → IsSure after n
sure_kept before after o n k s c left q is = let d = k.left c left in d.2 q is ∙ s d.0 d.1 q is ∙ sym (k.same q is)

pub turns_less : (name : List ℕ) (Turned : Option (List ℕ) → Type 0) (before mid after : Files → Type 0) → NoMore mid after → ShowsTurn name Turned before mid → ShowsTurn name Turned before after
turns_less name Turned before mid after more h c left = h c (more c left)

pub turns_kept : (name : List ℕ) (Turned : Option (List ℕ) → Type 0) (before after : Files → Type 0) → ShowsNoMore before after → ShowsTurn name Turned before after
turns_kept name Turned before after h c left = let d = h c left in (d.0, d.1, record { others = λ q isq ne. d.2 q isq; here = λ is. inl (d.2 name is) })

-- behind what changes no object
pub turns_behind : (name : List ℕ) (Turned Now : Option (List ℕ) → Type 0) (before mid after : Files → Type 0) → ((x : Option (List ℕ)) → is_object name ≡ true → Now x → Turned x) → ShowsNoMore before mid → ShowsTurn name Now mid after → ShowsTurn name Turned before after
turns_behind name Turned Now before mid after so k h c left =
    let y = h c left in
    let x = k y.0 y.1 in (
      x.0,
      x.1,
      record {
        others = λ q isq ne. y.2.others q isq ne ∙ x.2 q isq;
        here = λ is. elim (y.2.here is) [ inl e ↦ inl (e ∙ x.2 name is) | inr t ↦ inr (so (finmap.get c name) is t) ];
      },
    )

-- before it
pub turns_still : (name : List ℕ) (Turned : Option (List ℕ) → Type 0) (before mid after : Files → Type 0) → ShowsTurn name Turned before mid → ShowsNoMore mid after → ShowsTurn name Turned before after
turns_still name Turned before mid after h k c left =
    let x = k c left in
    let y = h x.0 x.1 in (
      y.0,
      y.1,
      record {
        others = λ q isq ne. x.2 q isq ∙ y.2.others q isq ne;
        here = λ is. elim (y.2.here is) [ inl e ↦ inl (x.2 name is ∙ e) | inr t ↦ inr (subst Turned (sym (x.2 name is)) t) ];
      },
    )

-- what stands under a name was put on the disk
pub sure_at : (name : List ℕ) (Turned : Option (List ℕ) → Type 0) (before mid after : Files → Type 0) (o n : Files) → ShowsTurn name Turned before mid → ((q : List ℕ) → is_object q ≡ true → q ≢ name → finmap.get n q ≡ finmap.get o q)
    → IsSeenAt name after n → NoMore mid after → IsSure before o → IsSure after n
sure_at name Turned before mid after o n turns others seen more s c left q isq = by (cases_same q name)
  where
    by : (q ≡ name) ⊎ (q ≢ name) → finmap.get c q ≡ finmap.get n q
    by (inl e) = ap (finmap.get c) e ∙ seen c left ∙ sym (ap (finmap.get n) e)
    by (inr ne) = let d = turns c (more c left) in d.2.others q isq ne ∙ s d.0 d.1 q isq ∙ sym (others q isq ne)

-- ---- the link

-- the object stands, or not, and its name is not on the disk yet
pub record Linked (name content : List ℕ) (result : Result (Unit {0}) MakeError) (before after : Files → Type 0) (old new : Files) : Type 0 where
  pub creates : Creates name content (create_answer result) (state_of old) (state_of new)
  pub others : (q : List ℕ) → is_object q ≡ true → q ≢ name → finmap.get new q ≡ finmap.get old q
  pub has : OnOk result (finmap.get new name ≡ Some content)
  pub keeps : KeepsSafe before after
  pub turns : ShowsTurn name (Comes name content old) before after

module _ (beside name content : List ℕ) (before mid after : Files → Type 0) (o m n : Files) (is : is_object name ≡ true) (may : before o) (h : Made beside content before mid o m) where
  was : state_of m ≡ state_of o
  was = state_kept before mid o m h.keeps

  absent : finmap.get m name ≡ None → finmap.get (state_of o).objects name ≡ None
  absent none = get_here o name is ∙ sym (h.keeps.same name is) ∙ none

  stands : IsSome (finmap.get m name) → IsSome (finmap.get (state_of o).objects name)
  stands some = subst (λ (x : Option (List ℕ)). IsSome x) (h.keeps.same name is ∙ sym (get_here o name is)) some

  came : n ≡ finmap.insert m name content → state_of n ≡ with_object (state_of o) name content
  came e = ap state_of e ∙ (λ i. record { objects = objects-insert m name content is i; late = [] }) ∙ ap (λ (s : State). with_object s name content) was

  nothing : n ≡ m → state_of n ≡ state_of o
  nothing e = ap state_of e ∙ was

  others_came : n ≡ finmap.insert m name content → (q : List ℕ) → is_object q ≡ true → q ≢ name → finmap.get n q ≡ finmap.get o q
  others_came e q isq ne = ap (λ (f : Files). finmap.get f q) e ∙ get_other m name content q ne ∙ h.keeps.same q isq

  others_same : n ≡ m → (q : List ℕ) → is_object q ≡ true → q ≢ name → finmap.get n q ≡ finmap.get o q
  others_same e q isq ne = ap (λ (f : Files). finmap.get f q) e ∙ h.keeps.same q isq

  keeps_more : NoMore mid after → KeepsSafe before after
  keeps_more more = safe_shown before after (shows-then before mid after h.keeps.left (shows-more mid after more))

  keeps_turn : finmap.get m name ≡ None → MayTurn name (Some content) mid after → KeepsSafe before after
  keeps_turn none turn = keeps_new name (Some content) before mid after o may (sym (h.keeps.same name is) ∙ none) h.keeps.left turn

  turns_more : NoMore mid after → ShowsTurn name (Comes name content o) before after
  turns_more more = turns_kept name (Comes name content o) before after (shows-then before mid after h.keeps.left (shows-more mid after more))

  turns_came : finmap.get m name ≡ None → MayTurn name (Some content) mid after → ShowsTurn name (Comes name content o) before after
  turns_came none turn c left =
      let d = turn c left in
      let x = h.keeps.left d.0 d.1 in (
        x.0,
        x.1,
        record {
          others = λ q isq ne. d.2.others q ne ∙ x.2 q isq;
          here = λ i. elim d.2.here [ inl same ↦ inl (same ∙ x.2 name is) | inr new ↦ inr (sym (h.keeps.same name is) ∙ none, new) ];
        },
      )

  pub linked : (r : Result (Unit {0}) MakeError) → Links beside name r mid after m n → Linked name content r before after o n
  linked (Ok done) l =
      let t : LinksTo name (Some content) mid after m n = subst (λ (x : Option (List ℕ)). LinksTo name x mid after m n) h.has l in
      record {
        creates = (absent t.0, came t.1);
        others = others_came t.1;
        has = ap (λ (f : Files). finmap.get f name) t.1 ∙ get_new m name content;
        keeps = keeps_turn t.0 t.2;
        turns = turns_came t.0 t.2;
      }
  linked (Err makes.Exists) l = record { creates = (stands l.0, nothing l.1); others = others_same l.1; has = tt; keeps = keeps_more l.2; turns = turns_more l.2 }
  linked (Err (makes.Failed x)) l = by (subst (λ (y : Option (List ℕ)). LinkFails name y mid after m n) h.has l)
    where
      by : LinkFails name (Some content) mid after m n → Linked name content (Err (makes.Failed x)) before after o n
      by (inl t) = elim t.1 [
        | inl e ↦ record { creates = inl (absent t.0, came e); others = others_came e; has = tt; keeps = keeps_turn t.0 t.2; turns = turns_came t.0 t.2 }
        | inr e ↦ record { creates = inr (inr (nothing e)); others = others_same e; has = tt; keeps = keeps_turn t.0 t.2; turns = turns_came t.0 t.2 }
      ]
      by (inr t) = record { creates = inr (inr (nothing t.0)); others = others_same t.0; has = tt; keeps = keeps_more t.1; turns = turns_more t.1 }
  linked (Err (makes.Memory e)) l = record { creates = nothing l.0; others = others_same l.0; has = tt; keeps = keeps_more l.1; turns = turns_more l.1 }

-- ---- the name beside goes

-- what was linked, behind what changes no object
pub linked_still : (name content : List ℕ) (r : Result (Unit {0}) MakeError) (before mid after : Files → Type 0) (o m n : Files) → is_object name ≡ true → Linked name content r before mid o m → KeepsObjects mid after m n → Linked name content r before after o n
linked_still name content r before mid after o m n is h k = record {
  creates = subst (λ (t : State). Creates name content (create_answer r) (state_of o) t) (sym (state_kept mid after m n k)) h.creates;
  others = λ q isq ne. k.same q isq ∙ h.others q isq ne;
  has = has_still r h.has;
  keeps = safe_then before mid after h.keeps (safe_shown mid after k.left);
  turns = turns_still name (Comes name content o) before mid after h.turns k.left;
}
  where
    has_still : (x : Result (Unit {0}) MakeError) → OnOk x (finmap.get m name ≡ Some content) → OnOk x (finmap.get n name ≡ Some content)
    has_still (Ok done) e = k.same name is ∙ e
    has_still (Err x) e = tt

pub linked_both : (name content : List ℕ) (r : Result (Unit {0}) MakeError) (rr : Result (Unit {0}) Trouble) (before after : Files → Type 0) (o n : Files) → Linked name content r before after o n → Linked name content (both_of r rr) before after o n
linked_both name content (Ok done) (Ok gone) before after o n h = h
linked_both name content (Ok done) (Err t) before after o n h = record { creates = inl h.creates; others = h.others; has = tt; keeps = h.keeps; turns = h.turns }
linked_both name content (Err makes.Exists) (Ok gone) before after o n h = h
linked_both name content (Err makes.Exists) (Err t) before after o n h = record { creates = inr (inr h.creates.1); others = h.others; has = tt; keeps = h.keeps; turns = h.turns }
linked_both name content (Err (makes.Failed x)) rr before after o n h = h
linked_both name content (Err (makes.Memory e)) rr before after o n h = h

-- ---- the end of a create

-- the folder was put on the disk
synced : (name content : List ℕ) (r : Result (Unit {0}) MakeError) (way : List ℕ → Type 0) (before mid after : Files → Type 0) (o n : Files) → way name → IsSettled name way n after → NoMore mid after → Linked name content r before mid o n
    → Places name content r false before after o n
synced name content r way before mid after o n on s more h = record {
  creates = h.creates;
  others = h.others;
  on_disk = on_disk_by r h.has;
  keeps = safe_then before mid after h.keeps (safe_more mid after more);
  turns = turns_less name (Comes name content o) before mid after more h.turns;
  sure = λ kept w. sure_at name (Comes name content o) before mid after o n h.turns h.others (λ c left. s.seen on c left name refl) more w;
  fails = λ e. absurd (none_true e);
}
  where
    on_disk_by : (x : Result (Unit {0}) MakeError) → OnOk x (finmap.get n name ≡ Some content) → OnOk x (IsSafe after name content)
    on_disk_by (Ok done) e = λ c left. s.seen on c left name refl ∙ e
    on_disk_by (Err x) e = tt

-- or it was not
unsynced : (name content : List ℕ) (t : Trouble) (before mid after : Files → Type 0) (o n : Files) → NoMore mid after → Creates name content (Err creates.Failed) (state_of o) (state_of n)
    → ((q : List ℕ) → is_object q ≡ true → q ≢ name → finmap.get n q ≡ finmap.get o q) → KeepsSafe before mid → ShowsTurn name (Comes name content o) before mid → Places name content (Err (makes.Failed t)) true before after o n
unsynced name content t before mid after o n more did others keeps turns = record {
  creates = did;
  others = others;
  on_disk = tt;
  keeps = safe_then before mid after keeps (safe_more mid after more);
  turns = turns_less name (Comes name content o) before mid after more turns;
  sure = λ kept. absurd (none_false kept);
  fails = λ e. (t, refl);
}

pub ended : (name content : List ℕ) (r : Result (Unit {0}) MakeError) (rr : Result (Unit {0}) Trouble) (way : List ℕ → Type 0) (before mid after : Files → Type 0) (o n : Files) → way name → IfOk rr (λ _. IsSettled name way n after) → NoMore mid after
    → Linked name content r before mid o n → Places name content (made_of r rr) (is_err rr) before after o n
ended name content (Ok done) (Ok s) way before mid after o n on settled more h = synced name content (Ok done) way before mid after o n on settled more h
ended name content (Ok done) (Err t) way before mid after o n on settled more h = unsynced name content t before mid after o n more (inl h.creates) h.others h.keeps h.turns
ended name content (Err makes.Exists) (Ok s) way before mid after o n on settled more h = synced name content (Err makes.Exists) way before mid after o n on settled more h
ended name content (Err makes.Exists) (Err t) way before mid after o n on settled more h = unsynced name content t before mid after o n more (inr (inr h.creates.1)) h.others h.keeps h.turns
ended name content (Err (makes.Failed x)) (Ok s) way before mid after o n on settled more h = synced name content (Err (makes.Failed x)) way before mid after o n on settled more h
ended name content (Err (makes.Failed x)) (Err t) way before mid after o n on settled more h = unsynced name content x before mid after o n more h.creates h.others h.keeps h.turns
ended name content (Err (makes.Memory e)) (Ok s) way before mid after o n on settled more h = synced name content (Err (makes.Memory e)) way before mid after o n on settled more h
ended name content (Err (makes.Memory e)) (Err t) way before mid after o n on settled more h = unsynced name content t before mid after o n more (inr (inr h.creates)) h.others h.keeps h.turns

-- ---- creates that made nothing

pub failed : (name content : List ℕ) (t : Trouble) (before after : Files → Type 0) (o n : Files) → KeepsObjects before after o n → Places name content (Err (makes.Failed t)) false before after o n
failed name content t before after o n h = record {
  creates = inr (inr (state_kept before after o n h));
  others = λ q is ne. h.same q is;
  on_disk = tt;
  keeps = safe_shown before after h.left;
  turns = turns_kept name (Comes name content o) before after h.left;
  sure = λ kept s. sure_kept before after o n h s;
  fails = λ e. absurd (none_true e);
}

pub refused : (name content : List ℕ) (e : AllocError) (before after : Files → Type 0) (o n : Files) → KeepsObjects before after o n → Places name content (Err (makes.Memory e)) false before after o n
refused name content e before after o n h = record {
  creates = state_kept before after o n h;
  others = λ q is ne. h.same q is;
  on_disk = tt;
  keeps = safe_shown before after h.left;
  turns = turns_kept name (Comes name content o) before after h.left;
  sure = λ kept s. sure_kept before after o n h s;
  fails = λ e. absurd (none_true e);
}

pub stood : (name content : List ℕ) (before after : Files → Type 0) (f : Files) → is_object name ≡ true → IsSome (finmap.get f name) → NoMore before after → Places name content (Err makes.Exists) false before after f f
stood name content before after f is some more = record {
  creates = (subst (λ (x : Option (List ℕ)). IsSome x) (sym (get_here f name is)) some, refl);
  others = λ q isq ne. refl;
  on_disk = tt;
  keeps = safe_more before after more;
  turns = turns_kept name (Comes name content f) before after (shows-more before after more);
  sure = λ kept s. sure_kept before after f f (keeps_left before after f more) s;
  fails = λ e. absurd (none_true e);
}

-- a create behind what changes no object
pub places_behind : (name content : List ℕ) (r : Result (Unit {0}) MakeError) (is_lost : Bool) (before mid after : Files → Type 0) (o m n : Files) → KeepsObjects before mid o m → Places name content r is_lost mid after m n → Places name content r is_lost before after o n
places_behind name content r is_lost before mid after o m n k h = record {
  creates = subst (λ (s : State). Creates name content (create_answer r) s (state_of n)) (state_kept before mid o m k) h.creates;
  others = λ q is ne. h.others q is ne ∙ k.same q is;
  on_disk = h.on_disk;
  keeps = safe_then before mid after (safe_shown before mid k.left) h.keeps;
  turns = turns_behind name (Comes name content o) (Comes name content m) before mid after (λ x is came. (sym (k.same name is) ∙ came.0, came.1)) k.left h.turns;
  sure = λ kept s. h.sure kept (sure_kept before mid o m k s);
  fails = h.fails;
}

-- ---- removing

took_state : (name : List ℕ) (o n : Files) → n ≡ finmap.remove o name → state_of n ≡ record { objects = finmap.remove (objects_of o) name; late = [] }
took_state name o n e = ap state_of e ∙ (λ i. record { objects = objects-remove o name i; late = [] })

others_took : (name : List ℕ) (o n : Files) → n ≡ finmap.remove o name → (q : List ℕ) → is_object q ≡ true → q ≢ name → finmap.get n q ≡ finmap.get o q
others_took name o n e q is ne = ap (λ (f : Files). finmap.get f q) e ∙ get_left o name q ne

turn_goes : (name : List ℕ) (before mid after : Files → Type 0) → MayTurn name None before mid → NoMore mid after → ShowsTurn name Goes before after
turn_goes name before mid after h more c left = let d = h c (more c left) in (d.0, d.1, record { others = λ q isq ne. d.2.others q ne; here = λ is. d.2.here })

none_left : (name : List ℕ) (o n : Files) → n ≡ finmap.remove o name → finmap.get n name ≡ None
none_left name o n e = ap (λ (f : Files). finmap.get f name) e ∙ gone o name

-- a name that is gone, whose folder was put on the disk
pub seen_gone : (name : List ℕ) (way : List ℕ → Type 0) (after : Files → Type 0) (n : Files) → finmap.get n name ≡ None → IsSettled name way n after → IsSeenAt name after n
seen_gone name way after n none s c left = elim (s.no_other c left name refl) [ inl e ↦ e | inr e ↦ e ∙ sym none ]

module _ (name : List ℕ) (before mid after : Files → Type 0) (o n : Files) (more : NoMore mid after) where
  keeps_others : MayTurn name None before mid → (q content : List ℕ) → is_object q ≡ true → q ≢ name → IsSafe before q content → IsSafe after q content
  keeps_others turn q content is ne safe = safe_more mid after more q content is (safe_turn name None before mid q content ne turn safe)

  took_synced : n ≡ finmap.remove o name → MayTurn name None before mid → IsSeenAt name after n → Takes name (Ok tt) false before after o n
  took_synced e turn seen = record {
    deletes = took_state name o n e;
    others = others_took name o n e;
    taken = record { gone = λ c left. seen c left ∙ none_left name o n e; keeps = keeps_others turn };
    turns = turn_goes name before mid after turn more;
    sure = λ kept s. sure_at name Goes before after after o n (turn_goes name before mid after turn more) (others_took name o n e) seen (λ c left. left) s;
    fails = λ e. absurd (none_true e);
  }

  half_synced : (t : Trouble) → Deletes name (Err record {}) (state_of o) (state_of n) → ((q : List ℕ) → is_object q ≡ true → q ≢ name → finmap.get n q ≡ finmap.get o q) → MayTurn name None before mid → IsSeenAt name after n → Takes name (Err t) false before after o n
  half_synced t did others turn seen = record {
    deletes = did;
    others = others;
    taken = record { gone = tt; keeps = keeps_others turn };
    turns = turn_goes name before mid after turn more;
    sure = λ kept s. sure_at name Goes before after after o n (turn_goes name before mid after turn more) others seen (λ c left. left) s;
    fails = λ e. absurd (none_true e);
  }

  took_unsynced : (t : Trouble) → Deletes name (Err record {}) (state_of o) (state_of n) → ((q : List ℕ) → is_object q ≡ true → q ≢ name → finmap.get n q ≡ finmap.get o q) → MayTurn name None before mid → Takes name (Err t) true before after o n
  took_unsynced t did others turn = record {
    deletes = did;
    others = others;
    taken = record { gone = tt; keeps = keeps_others turn };
    turns = turn_goes name before mid after turn more;
    sure = λ kept. absurd (none_false kept);
    fails = λ e. (t, refl);
  }

  half_did : (n ≡ finmap.remove o name) ⊎ (n ≡ o) → Deletes name (Err record {}) (state_of o) (state_of n)
  half_did (inl e) = inl (took_state name o n e)
  half_did (inr e) = inr (ap state_of e)

  half_others : (n ≡ finmap.remove o name) ⊎ (n ≡ o) → (q : List ℕ) → is_object q ≡ true → q ≢ name → finmap.get n q ≡ finmap.get o q
  half_others (inl e) = others_took name o n e
  half_others (inr e) = λ q is ne. ap (λ (f : Files). finmap.get f q) e

  pub taken : (r rr : Result (Unit {0}) Trouble) → Removes name r before mid o n → IfOk rr (λ _. IsSeenAt name after n) → Takes name (taken_of r rr) (is_err rr) before after o n
  taken (Ok done) (Ok s) h seen = took_synced h.0 h.1 seen
  taken (Ok done) (Err t) h seen = took_unsynced t (inl (took_state name o n h.0)) (others_took name o n h.0) h.1
  taken (Err t) (Ok s) h seen = half_synced t (half_did h.0) (half_others h.0) h.1 seen
  taken (Err t) (Err u) h seen = took_unsynced t (half_did h.0) (half_others h.0) h.1

pub untaken : (name : List ℕ) (t : Trouble) (before after : Files → Type 0) (o n : Files) → KeepsObjects before after o n → Takes name (Err t) false before after o n
untaken name t before after o n k = record {
  deletes = inr (state_kept before after o n k);
  others = λ q is ne. k.same q is;
  taken = record { gone = tt; keeps = λ q content is ne safe. safe_shown before after k.left q content is safe };
  turns = turns_kept name Goes before after k.left;
  sure = λ kept s. sure_kept before after o n k s;
  fails = λ e. absurd (none_true e);
}

-- a removal behind what changes no object
pub takes_behind : (name : List ℕ) (r : Result (Unit {0}) Trouble) (is_lost : Bool) (before mid after : Files → Type 0) (o m n : Files) → KeepsObjects before mid o m → Takes name r is_lost mid after m n → Takes name r is_lost before after o n
takes_behind name r is_lost before mid after o m n k h = record {
  deletes = subst (λ (s : State). Deletes name (delete_answer r) s (state_of n)) (state_kept before mid o m k) h.deletes;
  others = λ q is ne. h.others q is ne ∙ k.same q is;
  taken = record { gone = h.taken.gone; keeps = λ q content is ne safe. h.taken.keeps q content is ne (safe_shown before mid k.left q content is safe) };
  turns = turns_behind name Goes Goes before mid after (λ x is goes. goes) k.left h.turns;
  sure = λ kept s. h.sure kept (sure_kept before mid o m k s);
  fails = h.fails;
}

-- ---- the calls in a row

pub where_both : (a b d e : Option Files) (beside name content : List ℕ) (r : Result (Unit {0}) MakeError) (rr : Result (Unit {0}) Trouble) (l0 l1 l2 l3 : Files → Type 0)
    → is_object name ≡ true → is_object beside ≡ false → IfSome a (λ f. l0 f)
    → Where a b (Made beside content l0 l1) → Where b d (Links beside name r l1 l2) → Where d e (Removes beside rr l2 l3) → Where a e (Linked name content (both_of r rr) l0 l3)
where_both a b d e beside name content r rr l0 l1 l2 l3 is not may h k t =
    where_then a d e {P = Linked name content r l0 l2} {Q = Removes beside rr l2 l3} {R = Linked name content (both_of r rr) l0 l3}
    (λ o m n p q. linked_both name content r rr l0 l3 o n (linked_still name content r l0 l2 l3 o m n is p (removed beside rr l2 l3 m n not q)))
    (where_with a d {P = λ o n. l0 o → Linked name content r l0 l2 o n} {R = Linked name content r l0 l2} {Q = λ f. l0 f} (λ o n q p. p q) may
    (where_then a b d {P = Made beside content l0 l1} {Q = Links beside name r l1 l2} {R = λ o n. l0 o → Linked name content r l0 l2 o n}
    (λ o m n p q may_o. linked beside name content l0 l1 l2 o m n is may_o p r q) h k))
    t

-- the sync behind a link, whatever it answers
pub where_ended : (a e s : Option Files) (name content : List ℕ) (r : Result (Unit {0}) MakeError) (rr : Result (Unit {0}) Trouble) (l m n : Files → Type 0) (way way' : List ℕ → Type 0)
    → way name → Where a e (Linked name content r l m) → Leaves e s m n way way' → IfOk rr (λ _. IfSome e (λ f. IsSettled name way f n)) → Where a s (Places name content (made_of r rr) (is_err rr) l n)
where_ended a e s name content r rr l m n way way' on h leaves settled =
    subst (λ (x : Option Files). Where a x (Places name content (made_of r rr) (is_err rr) l n)) (sym leaves.same)
    (where_beside a e {P = Linked name content r l m} {R = Places name content (made_of r rr) (is_err rr) l n} {Q = λ f. IfOk rr (λ _. IsSettled name way f n)}
    (λ o x q p. ended name content r rr way l m n o x on q leaves.left p) (if_ok_some rr e (λ f. IsSettled name way f n) settled) h)

-- a make of the file beside, behind what changed no object
pub where_made : (a b c : Option Files) (name content : List ℕ) (l m n : Files → Type 0) → is_object name ≡ false → Where a b (KeepsObjects l m) → Where b c (Makes name content (Ok tt) m n) → Where a c (Made name content l n)
where_made a b c name content l m n not k h =
    where_then a b c {P = KeepsObjects l m} {Q = Makes name content (Ok tt) m n} {R = Made name content l n}
    (λ o x y p q. let r = made name content m n x y not q in record { has = r.has; keeps = keeps-then l m n o x y p r.keeps }) k h

pub where_unmade : (a b c : Option Files) (name content : List ℕ) (t : Trouble) (l m n : Files → Type 0) → is_object name ≡ false → Where a b (KeepsObjects l m) → Where b c (Makes name content (Err (makes.Failed t)) m n) → Where a c (KeepsObjects l n)
where_unmade a b c name content t l m n not k h =
    where_then a b c {P = KeepsObjects l m} {Q = Makes name content (Err (makes.Failed t)) m n} {R = KeepsObjects l n}
    (λ o x y p q. keeps-then l m n o x y p (half_made name content t m n x y not q)) k h

pub where_unchanged : (a b c : Option Files) (l m n : Files → Type 0) → Where a b (KeepsObjects l m) → Where b c (λ o x. (x ≡ o) × NoMore m n) → Where a c (KeepsObjects l n)
where_unchanged a b c l m n k h =
    where_then a b c {P = KeepsObjects l m} {Q = λ o x. (x ≡ o) × NoMore m n} {R = KeepsObjects l n}
    (λ o x y p q. keeps-then l m n o x y p (unchanged m n x y q)) k h

pub where_removed : (a b c : Option Files) (name : List ℕ) (r : Result (Unit {0}) Trouble) (l m n : Files → Type 0) → is_object name ≡ false → Where a b (KeepsObjects l m) → Where b c (Removes name r m n) → Where a c (KeepsObjects l n)
where_removed a b c name r l m n not k h =
    where_then a b c {P = KeepsObjects l m} {Q = Removes name r m n} {R = KeepsObjects l n}
    (λ o x y p q. keeps-then l m n o x y p (removed name r m n x y not q)) k h

-- ---- a create behind other calls

pub where_placed : (a b c : Option Files) (name content : List ℕ) (r : Result (Unit {0}) MakeError) (is_lost : Bool) (l m n : Files → Type 0) → Where a b (KeepsObjects l m) → Where b c (Places name content r is_lost m n) → Where a c (Places name content r is_lost l n)
where_placed a b c name content r is_lost l m n k h =
    where_then a b c {P = KeepsObjects l m} {Q = Places name content r is_lost m n} {R = Places name content r is_lost l n} (λ o x y p q. places_behind name content r is_lost l m n o x y p q) k h

-- nothing was lost before, and nothing is
pub where_failed : (a b : Option Files) (name content : List ℕ) (t : Trouble) (is_lost : Bool) (l m : Files → Type 0) → is_lost ≡ false → Where a b (KeepsObjects l m) → Where a b (Places name content (Err (makes.Failed t)) is_lost l m)
where_failed a b name content t is_lost l m kept k =
    subst (λ (x : Bool). Where a b (Places name content (Err (makes.Failed t)) x l m)) (sym kept) (where_map a b {P = KeepsObjects l m} {Q = Places name content (Err (makes.Failed t)) false l m} (λ o n h. failed name content t l m o n h) k)

pub where_refused : (a b : Option Files) (name content : List ℕ) (e : AllocError) (is_lost : Bool) (l m : Files → Type 0) → is_lost ≡ false → Where a b (KeepsObjects l m) → Where a b (Places name content (Err (makes.Memory e)) is_lost l m)
where_refused a b name content e is_lost l m kept k =
    subst (λ (x : Bool). Where a b (Places name content (Err (makes.Memory e)) x l m)) (sym kept) (where_map a b {P = KeepsObjects l m} {Q = Places name content (Err (makes.Memory e)) false l m} (λ o n h. refused name content e l m o n h) k)

-- an object stands already
pub where_stood : (a b d : Option Files) (name content : List ℕ) (is_lost : Bool) (l m n : Files → Type 0) (u v w : List ℕ → Type 0) → is_object name ≡ true → is_lost ≡ false → Leaves a b l m u v → Leaves b d m n v w → IfSome b (λ f. Looks name standings.PlainFile f)
    → Where a d (Places name content (Err makes.Exists) is_lost l n)
where_stood a b d name content is_lost l m n u v w is kept p q looks =
    subst (λ (y : Bool). Where a d (Places name content (Err makes.Exists) y l n)) (sym kept)
    (subst (λ (x : Option Files). Where x d (Places name content (Err makes.Exists) false l n)) p.same
    (subst (λ (x : Option Files). Where b x (Places name content (Err makes.Exists) false l n)) (sym q.same) (by b looks)))
  where
    by : (x : Option Files) → IfSome x (λ f. Looks name standings.PlainFile f) → Where x x (Places name content (Err makes.Exists) false l n)
    by None h = tt
    by (Some f) h = stood name content l n f is h.0 (λ c left. p.left c (q.left c left))

-- ---- a removal in a row

-- a name whose folder was put on the disk, behind its way
pub seen_settled : (a b : Option Files) (name : List ℕ) (rr : Result (Unit {0}) Trouble) (n : Files → Type 0) (way : List ℕ → Type 0) → b ≡ a → way name → IfOk rr (λ _. IfSome b (λ f. IsSettled name way f n)) → IfOk rr (λ _. IfSome a (λ f. IsSeenAt name n f))
seen_settled a b name (Ok done) n way same on h = subst (λ (x : Option Files). IfSome x (λ f. IsSeenAt name n f)) same (if_map b {Q = λ f. IsSettled name way f n} {R = λ f. IsSeenAt name n f} (λ f s c left. s.seen on c left name refl) h)
seen_settled a b name (Err t) n way same on h = tt

-- a name that is gone
pub seen_removed : (a : Option Files) (name : List ℕ) (rr : Result (Unit {0}) Trouble) (n : Files → Type 0) (way : List ℕ → Type 0) → IfSome a (λ f. finmap.get f name ≡ None) → IfOk rr (λ _. IfSome a (λ f. IsSettled name way f n)) → IfOk rr (λ _. IfSome a (λ f. IsSeenAt name n f))
seen_removed a name (Ok done) n way none h = if_both a {P = λ f. finmap.get f name ≡ None} {Q = λ f. IsSettled name way f n} {R = λ f. IsSeenAt name n f} (λ f e s. seen_gone name way n f e s) none h
seen_removed a name (Err t) n way none h = tt

-- a removal that was `Ok` left nothing
pub gone_told : (a d : Option Files) (name : List ℕ) (r : Result (Unit {0}) Trouble) (l m : Files → Type 0) → Where a d (Removes name r l m) → IfOk r (λ _. IfSome d (λ f. finmap.get f name ≡ None))
gone_told None None name (Ok done) l m h = tt
gone_told None (Some n) name (Ok done) l m h = absurd h
gone_told (Some o) None name (Ok done) l m h = absurd h
gone_told (Some o) (Some n) name (Ok done) l m h = none_left name o n h.0
gone_told a d name (Err t) l m h = tt

-- the sync behind a removal, whatever it answers
pub where_taken : (a d s : Option Files) (name : List ℕ) (r rr : Result (Unit {0}) Trouble) (l m n : Files → Type 0) (w x : List ℕ → Type 0) → Where a d (Removes name r l m) → Leaves d s m n w x → IfOk rr (λ _. IfSome d (λ f. IsSeenAt name n f))
    → Where a s (Takes name (taken_of r rr) (is_err rr) l n)
where_taken a d s name r rr l m n w x h leaves seen =
    subst (λ (y : Option Files). Where a y (Takes name (taken_of r rr) (is_err rr) l n)) (sym leaves.same)
    (where_beside a d {P = Removes name r l m} {R = Takes name (taken_of r rr) (is_err rr) l n} {Q = λ f. IfOk rr (λ _. IsSeenAt name n f)}
    (λ o f q p. taken name l m n o f leaves.left r rr p q) (if_ok_some rr d (λ f. IsSeenAt name n f) seen) h)

pub where_untaken : (a b : Option Files) (name : List ℕ) (t : Trouble) (is_lost : Bool) (l m : Files → Type 0) → is_lost ≡ false → Where a b (KeepsObjects l m) → Where a b (Takes name (Err t) is_lost l m)
where_untaken a b name t is_lost l m kept k =
    subst (λ (x : Bool). Where a b (Takes name (Err t) x l m)) (sym kept) (where_map a b {P = KeepsObjects l m} {Q = Takes name (Err t) false l m} (λ o n h. untaken name t l m o n h) k)

pub where_takes : (a b c : Option Files) (name : List ℕ) (r : Result (Unit {0}) Trouble) (is_lost : Bool) (l m n : Files → Type 0) → Where a b (KeepsObjects l m) → Where b c (Takes name r is_lost m n) → Where a c (Takes name r is_lost l n)
where_takes a b c name r is_lost l m n k h =
    where_then a b c {P = KeepsObjects l m} {Q = Takes name r is_lost m n} {R = Takes name r is_lost l n} (λ o x y p q. takes_behind name r is_lost l m n o x y p q) k h
