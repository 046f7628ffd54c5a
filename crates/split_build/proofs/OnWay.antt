-- A walk over what is left of a list.
use Rattle.std.proofs.Common.{◌≡◌, List, [], ◌++◌, sym, ◌∙◌, ap, subst, append_assoc}
use Rattle.std.proofs.lemmas.List.{append-nil}

-- this holds of some list, and with what is left it is the whole
pub record IsOnWay {X : Type 0} (P : List X → Type 0) (left whole : List X) : Type 0 where
  pub done : List X
  pub holds : P done
  pub whole_is : done ++ left ≡ whole

pub begin : {X : Type 0} (P : List X → Type 0) (done left : List X) → P done → IsOnWay P left (done ++ left)
begin P done left h = record { done = done; holds = h; whole_is = (λ _. done ++ left) }

pub go_on : {X : Type 0} (P Q : List X → Type 0) (left next behind whole : List X) → left ≡ next ++ behind → ((done : List X) → P done → Q (done ++ next)) → IsOnWay P left whole → IsOnWay Q behind whole
go_on P Q left next behind whole is step w = record {
  done = w.done ++ next;
  holds = step w.done w.holds;
  whole_is = append_assoc w.done next behind ∙ ap (λ l. w.done ++ l) (sym is) ∙ w.whole_is;
}

pub arrive : {X : Type 0} (P : List X → Type 0) (left whole : List X) → left ≡ [] → IsOnWay P left whole → P whole
arrive P left whole none w = subst P (sym (append-nil w.done) ∙ ap (λ l. w.done ++ l) (sym none) ∙ w.whole_is) w.holds
