-- What a walk covers, by a test.
use Rattle.std.proofs.Common.{◌≡◌, ◌⊎◌, ℕ, zero, suc, ◌<◌, Bool, true, false, ◌||◌, nat_eq, List, [], ◌∷◌, ◌++◌, length, get_or, Option, Some, None, refl, sym, ap, subst, ◌∙◌, inl, inr, arith}
use Rattle.std.specs.Prelude.{IfSome, Contains}
use Rattle.std.specs.List.{starts_with, list_any}
use Rattle.std.specs.Ordering.{nat_cmp, eq_by_cmp, is_eq}
use Rattle.std.specs.Cmp.Lexicographic.{slice_cmp}
use Rattle.std.proofs.lemmas.Bool.{or_left, or_right}
use Rattle.std.proofs.lemmas.List.Folds.{list_any_at}
use Rattle.std.proofs.lemmas.List.Elements.{Contains-push, Contains-append_left, Contains-append_right}
use Rattle.object_store.proofs.Entries.{ties_itself}
use Rattle.object_store.proofs.States.{tied}
use Rattle.real_edge.specs.declared.waiting.Wait.{Wait}
use Rattle.real_edge.specs.declared.folder_walk.Walk.{Walk}
use Rattle.real_edge.specs.Disk.{Files, Begins}
use Rattle.real_edge.specs.Walk.{LeadsBy, Leads, IsSought, IsCovering, IsLed, leads_by}
use Rattle.real_edge.proofs.Fronts.{begins_from, begins_so}
use Rattle.real_edge.proofs.Walks.{true_false}

either : (a b : Bool) → (a || b) ≡ true → (a ≡ true) ⊎ (b ≡ true)
either true b h = inl refl
either false b h = inr h

leads_from : (folder : Bool) (w q : List ℕ) → leads_by folder w q ≡ true → LeadsBy folder w q
leads_from true w q h = begins_from w q h
leads_from false w q h = elim (either (eq_by_cmp (slice_cmp nat_cmp) q w) (starts_with nat_eq q (w ++ 47 ∷ [])) h) [
  | inl e ↦ inl (tied q w e)
  | inr b ↦ inr (begins_from (w ++ 47 ∷ []) q b)
]

leads_so : (folder : Bool) (w q : List ℕ) → LeadsBy folder w q → leads_by folder w q ≡ true
leads_so true w q h = begins_so w q h
leads_so false w q (inl e) = or_left (eq_by_cmp (slice_cmp nat_cmp) q w) (starts_with nat_eq q (w ++ 47 ∷ [])) (ap (λ (x : List ℕ). eq_by_cmp (slice_cmp nat_cmp) x w) e ∙ ap is_eq (ties_itself w))
leads_so false w q (inr h) = or_right (eq_by_cmp (slice_cmp nat_cmp) q w) (starts_with nat_eq q (w ++ 47 ∷ [])) (begins_so (w ++ 47 ∷ []) q h)

any_from : (p : Wait → Bool) (ws : List Wait) → list_any p ws ≡ true → (w : Wait) × Contains ws w × (p w ≡ true)
any_from p [] h = absurd (true_false (sym h))
any_from p (w ∷ ws) h = elim (either (p w) (list_any p ws) h) [
  | inl e ↦ (w, Contains-append_left (w ∷ []) ws w (Contains-push [] w), e)
  | inr later ↦ let found = any_from p ws later in (found.0, Contains-append_right (w ∷ []) ws found.0 found.1, found.2)
]

any_so : (p : Wait → Bool) (ws : List Wait) (w : Wait) → Contains ws w → p w ≡ true → list_any p ws ≡ true
any_so p ws w h is = list_any_at p ws h.0 w h.1 (ap p h.2 ∙ is)

pub covers_from : (walk : Walk) (f : Files) → IsLed walk f → IsCovering walk f
covers_from walk f led q is =
    let found = any_from (λ w. leads_by w.is_folder w.key q) walk.waiting (led q is) in
    (found.0, found.1, leads_from found.0.is_folder found.0.key q found.2)

pub led_from : (walk : Walk) (f : Files) → IsCovering walk f → IsLed walk f
led_from walk f covers q is =
    let found = covers q is in
    any_so (λ w. leads_by w.is_folder w.key q) walk.waiting found.0 found.1 (leads_so found.0.is_folder found.0.key q found.2)

-- the walk that a store keeps
pub walks_in : (t : Option Files) (walk : Option Walk) → ((f : Files) → t ≡ Some f → (w : Walk) → walk ≡ Some w → IsLed w f) → IfSome t (λ f. IfSome walk (λ w. IsCovering w f))
walks_in None walk h = tt
walks_in (Some f) None h = tt
walks_in (Some f) (Some w) h = covers_from w f (h f refl w refl)

pub walks_out : (t : Option Files) (walk : Option Walk) → IfSome t (λ f. IfSome walk (λ w. IsCovering w f)) → (f : Files) → t ≡ Some f → (w : Walk) → walk ≡ Some w → IsLed w f
walks_out t walk h f is w rests =
    led_from w f (subst (λ (o : Option Walk). IfSome o (λ x. IsCovering x f)) rests (subst (λ (o : Option Files). IfSome o (λ x. IfSome walk (λ y. IsCovering y x))) is h))

-- what is said of each walk that may be there, and of the one that is
pub some_from : (o : Option Walk) (P : Walk → Type 0) → ((w : Walk) → o ≡ Some w → P w) → IfSome o P
some_from None P h = tt
some_from (Some w) P h = h w refl

pub some_at : (o : Option Walk) (P : Walk → Type 0) (w : Walk) → IfSome o P → o ≡ Some w → P w
some_at o P w h is = subst (λ (x : Option Walk). IfSome x P) is h
