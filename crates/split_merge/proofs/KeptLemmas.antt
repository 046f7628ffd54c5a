-- Places that rise, and documents that are kept one after the other.
use Rattle.std.proofs.Common.{◌≡◌, ℕ, zero, suc, ◌+◌, ◌<◌, ◌≤◌, Bool, true, false, List, [], ◌∷◌, ◌++◌, length, drop, Option, Some, refl, sym, ap, subst, ◌∙◌, arith}
use Rattle.std.specs.Prelude.{slice_get, if◌then◌else◌}
use Rattle.std.specs.List.{AllByRecursion}
use Rattle.std.proofs.lemmas.Bool.{ne_eqb}
use Rattle.doc_value.specs.declared.schema.Schema.{Schema}
use Rattle.split_bundle.specs.declared.placed.Placed.{Placed}
use Rattle.split_bundle.specs.declared.split_view.SplitView.{SplitView}
use Rattle.split_bundle.specs.declared.split_error.SplitError.{SplitError}
use Rattle.split_bundle.specs.declared.split_error.SplitError.TheVariants as split
use Rattle.split_merge.specs.Faults.{IsWant}
use Rattle.split_merge.specs.declared.merge_error.MergeError.{MergeError}
use Rattle.split_merge.specs.declared.merge_error.MergeError.TheVariants.{Memory, Split, Build}
use Rattle.split_merge.specs.Merging.{Blames, IsMergeFault, HasFault, IsFaulty, IsMemory, fault_of}
use Rattle.split_merge.specs.Keeping.{is_named, kept_from, RiseFrom, ViewsSplit, AreViewsOf}

-- ---- places

-- a place before places that rise is not one of them
pub named_ahead : (least place : ℕ) (ps : List ℕ) → RiseFrom least ps → place < least → is_named place ps ≡ false
named_ahead least place [] rise lt = refl
named_ahead least place (p ∷ ps) rise lt =
    let apart : p ≡ place → ⊥ = λ e. absurd (omega (arith, e, rise.0)) in
    rw (ne_eqb p place apart) (named_ahead (suc p) place ps rise.1 (omega (arith, rise.0)))

-- the first of some places is that of the next document
module _ (place first : ℕ) (places behind : List ℕ) (is : places ≡ first ∷ behind) (rise : RiseFrom place places) where
  here : RiseFrom place (first ∷ behind)
  here = subst (RiseFrom place) is rise

  pub other_named : (first ≡ place → ⊥) → false ≡ is_named place places
  other_named apart = rw (is, ne_eqb first place apart) (sym (named_ahead (suc first) place behind here.1 (omega (arith, here.0))))

-- ---- documents

-- the same places from one on
pub kept_same : (place : ℕ) (a b : List ℕ) (ds : List Placed) → ((m : ℕ) → place ≤ m → is_named m a ≡ is_named m b) → kept_from place a ds ≡ kept_from place b ds
kept_same place a b [] same = refl
kept_same place a b (d ∷ ds) same = rw (same place (omega arith), kept_same (suc place) a b ds (λ m le. same m (omega arith))) refl

pub kept_append : (place : ℕ) (dropped : List ℕ) (xs ys : List Placed) → kept_from place dropped (xs ++ ys) ≡ kept_from place dropped xs ++ kept_from (place + length xs) dropped ys
kept_append place dropped [] ys = let none : place ≡ place + 0 = omega arith in ap (λ (n : ℕ). kept_from n dropped ys) none
kept_append place dropped (x ∷ xs) ys =
    by (is_named place dropped) (kept_append (suc place) dropped xs ys ∙ ap (λ (n : ℕ). kept_from (suc place) dropped xs ++ kept_from n dropped ys) next)
  where
    next : suc place + length xs ≡ place + length (x ∷ xs)
    next = omega arith

    by : (b : Bool) → kept_from (suc place) dropped (xs ++ ys) ≡ kept_from (suc place) dropped xs ++ kept_from (place + length (x ∷ xs)) dropped ys
        → (if b then kept_from (suc place) dropped (xs ++ ys) else x ∷ kept_from (suc place) dropped (xs ++ ys))
        ≡ (if b then kept_from (suc place) dropped xs else x ∷ kept_from (suc place) dropped xs) ++ kept_from (place + length (x ∷ xs)) dropped ys
    by true rest = rest
    by false rest = ap (λ (l : List Placed). x ∷ l) rest

-- the element at a place, and those behind it
pub drop_at : {X : Type 0} (xs : List X) (i : ℕ) → i < length xs → (x : X) × (slice_get xs i ≡ Some x) × (drop i xs ≡ x ∷ drop (i + 1) xs)
drop_at [] i lt = absurd (omega arith)
drop_at (x ∷ xs) zero lt = (x, refl, refl)
drop_at (x ∷ xs) (suc i) lt = let more = drop_at xs i (omega arith) in let next : suc i + 1 ≡ suc (i + 1) = omega arith in (more.0, more.1, more.2 ∙ ap (λ (n : ℕ). more.0 ∷ drop n (x ∷ xs)) (sym next))

-- ---- views

-- what stands at a place among the views
pub record AtView (s : Schema) (v : SplitView) (lists : List (List Placed)) (i : ℕ) : Type 0 where
  pub documents : List Placed
  pub views : ViewsSplit s v documents
  pub parts : drop i lists ≡ documents ∷ drop (i + 1) lists

some_is : (x y : SplitView) → ◌≡◌ {A = Option SplitView} (Some x) (Some y) → x ≡ y
some_is x y e = cc

pub at_view : (s : Schema) (vs : List SplitView) (lists : List (List Placed)) (i : ℕ) (v : SplitView) → AreViewsOf s vs lists → slice_get vs i ≡ Some v → AtView s v lists i
at_view s [] lists i v are is = absurd cc
at_view s (w ∷ vs) [] i v are is = absurd are
at_view s (w ∷ vs) (ds ∷ dss) zero v are is = record { documents = ds; views = subst (λ (x : SplitView). ViewsSplit s x ds) (some_is w v is) are.0; parts = refl }
at_view s (w ∷ vs) (ds ∷ dss) (suc i) v are is =
    let more = at_view s vs dss i v are.1 is in
    let next : suc i + 1 ≡ suc (i + 1) = omega arith in
    record { documents = more.documents; views = more.views; parts = more.parts ∙ ap (λ (n : ℕ). more.documents ∷ drop n (ds ∷ dss)) (sym next) }

pub views_end : (s : Schema) (vs : List SplitView) (lists : List (List Placed)) (i : ℕ) → AreViewsOf s vs lists → i ≡ length vs → drop i lists ≡ []
views_end s [] [] i are e = let none : i ≡ 0 = e in rw none refl
views_end s [] (ds ∷ dss) i are e = absurd are
views_end s (w ∷ vs) [] i are e = absurd are
views_end s (w ∷ vs) (ds ∷ dss) i are e = ap (λ (n : ℕ). drop n (ds ∷ dss)) e ∙ views_end s vs dss (length vs) are.1 refl

pub drop_view : (vs : List SplitView) (i : ℕ) (v : SplitView) → slice_get vs i ≡ Some v → drop i vs ≡ v ∷ drop (i + 1) vs
drop_view [] i v is = absurd cc
drop_view (w ∷ vs) zero v is = ap (λ (x : SplitView). x ∷ vs) (some_is w v is)
drop_view (w ∷ vs) (suc i) v is = let next : suc i + 1 ≡ suc (i + 1) = omega arith in drop_view vs i v is ∙ ap (λ (n : ℕ). v ∷ drop n (w ∷ vs)) (sym next)

pub drop_views_end : (vs : List SplitView) (i : ℕ) → i ≡ length vs → drop i vs ≡ []
drop_views_end [] i e = let none : i ≡ 0 = e in rw none refl
drop_views_end (w ∷ vs) i e = ap (λ (n : ℕ). drop n (w ∷ vs)) e ∙ drop_views_end vs (length vs) refl

-- ---- each is of the schema

pub all_push : {X : Type 0} (P : X → Type 0) (xs : List X) (x : X) → AllByRecursion P xs → P x → AllByRecursion P (xs ++ x ∷ [])
all_push P [] x all here = (here, tt)
all_push P (y ∷ ys) x all here = (all.0, all_push P ys x all.1 here)

-- ---- faults

-- a fault of a view that is of a split of documents is want of memory
pub fault_cause : (s : Schema) (views : List SplitView) (number : ℕ) (v : SplitView) (e : SplitError) → slice_get views number ≡ Some v → ((documents : List Placed) → ViewsSplit s v documents → IsWant e) → IsMergeFault s views (fault_of number e)
fault_cause s views number v (split.Memory a) is only = tt
fault_cause s views number v split.BadMagic is only = record { view = v; is_there = is; is_none = only }
fault_cause s views number v (split.Truncated at) is only = record { view = v; is_there = is; is_none = only }
fault_cause s views number v (split.BadSection section) is only = record { view = v; is_there = is; is_none = only }
fault_cause s views number v (split.BadVersion version) is only = record { view = v; is_there = is; is_none = only }

pub fault_blames : (s : Schema) (views : List SplitView) (number : ℕ) (v : SplitView) (e : SplitError) → slice_get views number ≡ Some v → ((documents : List Placed) → ViewsSplit s v documents → IsWant e) → Blames s views (fault_of number e)
fault_blames s views number v (split.Memory a) is only = tt
fault_blames s views number v split.BadMagic is only = record { view = v; is_there = is; is_none = only }
fault_blames s views number v (split.Truncated at) is only = record { view = v; is_there = is; is_none = only }
fault_blames s views number v (split.BadSection section) is only = record { view = v; is_there = is; is_none = only }
fault_blames s views number v (split.BadVersion version) is only = record { view = v; is_there = is; is_none = only }

-- of views of splits it is want of memory
pub blames_memory : (s : Schema) (views : List SplitView) (lists : List (List Placed)) (e : MergeError) → AreViewsOf s views lists → Blames s views e → IsMemory e
blames_memory s views lists (Memory a) are blames = tt
blames_memory s views lists (Split number e) are blames = by e blames
  where
    none : IsFaulty s views number → ⊥
    none faulty = let at = at_view s views lists number faulty.view are faulty.is_there in faulty.is_none at.documents at.views

    by : (e : SplitError) → HasFault s views number e → ⊥
    by (split.Memory a) faulty = faulty
    by split.BadMagic faulty = none faulty
    by (split.Truncated at) faulty = none faulty
    by (split.BadSection section) faulty = none faulty
    by (split.BadVersion version) faulty = none faulty
blames_memory s views lists (Build e) are blames = blames
