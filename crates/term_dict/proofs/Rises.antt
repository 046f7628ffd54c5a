-- Whether terms rise, from their front on.
use Rattle.std.proofs.Common.{◌≡◌, true, false, List, [], ◌∷◌, subst, sym, refl}
use Rattle.term_dict.specs.Firsts.{before_first}
use Rattle.term_dict.specs.Terms.{IsRising}
use Rattle.term_dict.specs.declared.term.Term.{Term}
use Rattle.term_dict.proofs.Runs.{AreAbove, above_then}

-- the terms rise exactly where the rest of them do
pub record RisesWith (rest all : List Term) : Type 0 where
  pub to : IsRising rest → IsRising all
  pub from : IsRising all → IsRising rest

pub rises_itself : (all : List Term) → RisesWith all all
rises_itself all = record { to = λ h. h; from = λ h. h }

above_first : (t : Term) (ts : List Term) → before_first t.key ts ≡ true → IsRising ts → AreAbove t.key ts
above_first t [] e h = tt
above_first t (u ∷ us) e h = (e, above_then t.key u us e h.0)

first_above : (t : Term) (ts : List Term) → AreAbove t.key ts → before_first t.key ts ≡ true
first_above t [] h = refl
first_above t (u ∷ us) h = h.0

pub one_less : (t : Term) (rest ts all : List Term) → rest ≡ t ∷ ts → before_first t.key ts ≡ true → RisesWith rest all → RisesWith ts all
one_less t rest ts all is e w = record {
  to = λ h. w.to (subst (λ (l : List Term). IsRising l) (sym is) (above_first t ts e h, h));
  from = λ h. (let rising : IsRising (t ∷ ts) = subst (λ (l : List Term). IsRising l) is (w.from h) in rising.1);
}
