-- What the node of a call gives for each of its ends: the journal went on, the searches are answered, and each delete that is told was done.
use Rattle.std.proofs.Common.{◌≡◌, ◌<◌, List, [], ◌∷◌, ◌++◌, sym, ap, ◌∙◌, subst, length, inl, inr}
use Rattle.std.specs.Prelude.{Some, None, Result, Ok, Err, ⊤}
use Rattle.meta_journal.specs.declared.entry.Entry.{Entry}
use Rattle.meta_store.specs.History.{history as told_by}
use Rattle.meta_store.specs.State.{Legal}
use Rattle.index_world.specs.Calls.{Unread}
use Rattle.index_world.specs.Config.{reads}
use Rattle.index_world.specs.Core.{Core}
use Rattle.node_run.specs.Node.{Node, Line, Outcome}
use Rattle.node_run.specs.Turns.{Turn}
use Rattle.call_laws.proofs.CallMoves.{Grows, same_grows, grows_on, Moves, loaded_moves}
use Rattle.node_run.proofs.Moving.{turn_later, turns_later, turns_go_on}
use Rattle.quick_node.specs.Deletes.{DeletesFrom}
use Rattle.quick_node.specs.Serve.{IsPrefixOf, Before, End, by_reading, no_index, opening_failed, read_failed, write_failed, out_of_memory, IsFresh, Opens, Answers, Unopened, RanShort, Lives, AnswersFrom}
use Rattle.quick_node.proofs.Opened.{loaded_some}
use Rattle.quick_node.proofs.Searching.{prefix_on, searches_follow}

pub opens_moves : (fresh : Node) (answer : Result ⊤ Unread) (node : Node) → Opens fresh answer node → Moves fresh.core node.core
opens_moves fresh answer node o =
    subst (λ n. Moves fresh.core n.core) (sym o.is) (subst (λ g. Moves fresh.core g.core) o.did (loaded_moves o.fate fresh.core))

module _ (history exit : List Entry) (legal : Legal reads (told_by exit)) (before : Before) (fresh : Node) (is : IsFresh before history fresh) where
  begins : (node : Node) → Grows fresh.core node.core → IsPrefixOf history node.core.history
  begins node g = subst (λ h. IsPrefixOf h node.core.history) (ap (λ n. n.core.history) is.is) g

  abbrev Follows : List Line → List Outcome → Type 0
  Follows lines outcomes =
      IsPrefixOf history exit × AnswersFrom exit before.log (length history) [] lines outcomes × DeletesFrom exit (length history) [] lines outcomes

  answers_follow : (lines : List Line) (outcomes : List Outcome) (last : Node) → Answers fresh lines outcomes last → IsPrefixOf last.core.history exit → Follows lines outcomes
  answers_follow lines outcomes last a p = (
    prefix_on history last.core.history exit (begins last (grows_on fresh.core a.opened.core last.core opens (turns_later a.opened last lines outcomes a.turns).grows)) p,
    subst (λ l. AnswersFrom exit l (length history) [] lines outcomes) log follows.0,
    follows.1,
  )
    where
      opens : Grows fresh.core a.opened.core
      opens = (opens_moves fresh (Ok tt) a.opened a.opens).later.grows

      clients : a.opened.clients ≡ []
      clients = ap (λ n. n.clients) a.opens.is ∙ ap (λ n. n.clients) is.is

      log : a.opened.log ≡ before.log
      log = ap (λ n. n.log) a.opens.is ∙ ap (λ n. n.log) is.is

      some : 0 < length a.opened.core.history
      some =
          subst (λ (c : Core). 0 < length c.history) (ap (λ g. g.core) a.opens.did ∙ ap (λ (n : Node). n.core) (sym a.opens.is))
          (loaded_some a.opens.fate fresh.core (ap (λ g. g.answer) a.opens.did))

      follows : AnswersFrom exit a.opened.log (length history) [] lines outcomes × DeletesFrom exit (length history) [] lines outcomes
      follows = searches_follow history exit a.opened last lines outcomes legal some clients (begins a.opened opens) p a.turns

  none_follow : (lines : List Line) (outcomes : List Outcome) (last : Node) → lines ≡ [] → outcomes ≡ [] → Grows fresh.core last.core →
      IsPrefixOf last.core.history exit → Follows lines outcomes
  none_follow lines outcomes last no_lines no_outcomes g p = (
    prefix_on history last.core.history exit (begins last g) p,
    subst (λ ls. AnswersFrom exit before.log (length history) [] ls outcomes) (sym no_lines)
        (subst (λ os. AnswersFrom exit before.log (length history) [] [] os) (sym no_outcomes) tt),
    subst (λ ls. DeletesFrom exit (length history) [] ls outcomes) (sym no_lines) (subst (λ os. DeletesFrom exit (length history) [] [] os) (sym no_outcomes) tt),
  )

  unopened_follow : (lines : List Line) (outcomes : List Outcome) (why : Unread) (last : Node) → Unopened fresh lines outcomes why last →
      IsPrefixOf last.core.history exit → Follows lines outcomes
  unopened_follow lines outcomes why last u p = none_follow lines outcomes last u.no_lines u.no_outcomes (opens_moves fresh (Err why) last u.opens).later.grows p

  short_follow : (lines : List Line) (outcomes : List Outcome) (last : Node) → RanShort before fresh lines outcomes last → IsPrefixOf last.core.history exit → Follows lines outcomes
  short_follow lines outcomes last s p =
      answers_follow lines outcomes s.mid s.answers (prefix_on s.mid.core.history last.core.history exit (turn_later s.mid s.line None last s.turn).grows p)

  pub lives_follow : (end : End) (lines : List Line) (outcomes : List Outcome) (last : Node) → Lives before end fresh lines outcomes last →
      IsPrefixOf last.core.history exit → Follows lines outcomes
  lives_follow (by_reading ending) lines outcomes last l p = answers_follow lines outcomes last l p
  lives_follow no_index lines outcomes last l p = unopened_follow lines outcomes _ last l p
  lives_follow (opening_failed low high) lines outcomes last l p = unopened_follow lines outcomes _ last l p
  lives_follow read_failed lines outcomes last l p = answers_follow lines outcomes last l p
  lives_follow write_failed lines outcomes last l p = answers_follow lines outcomes last l p
  lives_follow out_of_memory lines outcomes last (inl none) p =
      none_follow lines outcomes last none.0 none.1 (same_grows fresh.core last.core (ap (λ n. n.core.history) none.2)) p
  lives_follow out_of_memory lines outcomes last (inr (inl u)) p = unopened_follow lines outcomes _ last u p
  lives_follow out_of_memory lines outcomes last (inr (inr (inl a))) p = answers_follow lines outcomes last a p
  lives_follow out_of_memory lines outcomes last (inr (inr (inr s))) p = short_follow lines outcomes last s p

-- an opened node answers one line more
pub answers_go_on : (fresh mid last : Node) (lines : List Line) (line : Line) (outcomes : List Outcome) (outcome : Outcome) →
    Answers fresh lines outcomes mid → Turn mid line (Some outcome) last → Answers fresh (lines ++ line ∷ []) (outcomes ++ outcome ∷ []) last
answers_go_on fresh mid last lines line outcomes outcome a turn =
    record { opened = a.opened; opens = a.opens; turns = turns_go_on a.opened mid last lines line outcomes outcome a.turns turn }
