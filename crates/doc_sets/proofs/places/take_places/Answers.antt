use Rattle.std.proofs.Common.{◌≡◌, ◌∙◌, ◌+◌, ◌++◌, ◌∷◌, ℕ, [], true, Some, None, drop, ap, sym, subst, append_assoc, append-nil}
use Rattle.term_postings.specs.Cursors.{StandsBefore, first_number}
use Rattle.doc_sets.proofs.ListPlaces.{number_taken, none_taken}
use Rattle.doc_sets.proofs.places.take_places.Goals as goal

pub returns-in-Ok-None-clause-only : goal.returns-in-Ok-None-clause-only
returns-in-Ok-None-clause-only c = λ after left stands.
    let i = c.loop-taken.invariant.only after left stands in
    let r = c.in-Ok-None.ensures.only after i.0 i.1 in
    let same = r.0 in
    let e : first_number i.0 ≡ None = cc in (
      sym (i.2 ∙ (ap (λ l. c.loop-taken.places.items ++ l) (none_taken i.0 e) ∙ append-nil c.loop-taken.places.items)),
      subst (λ l. StandsBefore true c.next_position.new.self after l) (ap (drop 1) (none_taken i.0 e)) r.1,
    )

pub returns-in-Err-clause-only : goal.returns-in-Err-clause-only
returns-in-Err-clause-only c = λ after left stands.
    let i = c.loop-taken.invariant.only after left stands in
    let r = (c.in-Err.ensures.only after i.0 i.1).0 in
    absurd (cc)

pub loop-taken-preserved : goal.loop-taken-preserved
loop-taken-preserved c = record {
  count = c.in_ok-push-in-Ok-Some.ensures.len ∙ ap (λ (n : ℕ). n + 1) c.loop-taken.invariant.count;
  given = c.in-Ok-Some.ensures.given ∙ c.loop-taken.invariant.given;
  only = λ after left stands.
      let i = c.loop-taken.invariant.only after left stands in
      let r = c.in-Ok-Some.ensures.only after i.0 i.1 in
      let same = r.0 in
      let e : first_number i.0 ≡ Some c.in-Ok-Some.place = cc in
      (drop 1 i.0, r.1, i.2 ∙ (ap (λ l. c.loop-taken.places.items ++ l) (number_taken c.in-Ok-Some.place i.0 e) ∙ (sym (append_assoc c.loop-taken.places.items (c.in-Ok-Some.place ∷ []) (drop 1 i.0)) ∙ ap (λ l. l ++ drop 1 i.0) (sym c.in_ok-push-in-Ok-Some.ensures.items))));
}
