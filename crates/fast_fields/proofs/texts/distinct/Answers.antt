use Rattle.std.proofs.Common.{◌≡◌, ◌++◌, ◌∷◌, ◌∙◌, false, sym, ap, subst, List, ℕ, [], length, take, get_or, arith}
use Rattle.std.specs.Prelude.{Contains}
use Rattle.std.specs.Borrow.{Bor}
use Rattle.std.proofs.lemmas.List.{length-map, map_push, take_all}
use Rattle.fast_fields.specs.Texts.{texts_in, is_behind}
use Rattle.fast_fields.proofs.Gathered.{no_loan, no_texts, none_distinct, sorted_texts, text_again, text_distinct, text_in, text_more}
use Rattle.fast_fields.proofs.texts.distinct.Goals as goal
use Rattle.fast_fields.proofs.texts.distinct.Goals.{then-stands_behind+in_ok-push, else-stands_behind}

pub loop-text-init : goal.loop-text-init
loop-text-init c = rw c.new-texts.ensures.items (λ cs all. no_texts cs, none_distinct (texts_in c.args.sorted.now))

pub loop-text-preserved : goal.loop-text-preserved
loop-text-preserved c =
    let ts = texts_in c.args.sorted.now in
    let i = c.loop-text.text-index in
    let text = get_or c.args.sorted.now c.loop-text.text-index no_loan in
    let count : length (texts_in c.args.sorted.now) ≡ length c.args.sorted.now = length-map c.args.sorted.now (λ (b : Bor (List ℕ)). b.now) in
    let here : get_or (texts_in c.args.sorted.now) c.loop-text.text-index [] ≡ (get_or c.args.sorted.now c.loop-text.text-index no_loan).now = text_in c.args.sorted.now c.loop-text.text-index in
    let answer : c.stands_behind.result ≡ is_behind (texts_in c.loop-text.texts.items) (get_or c.args.sorted.now c.loop-text.text-index no_loan).now =
    c.stands_behind.ensures ∙ ap (λ (l : List (Bor (List ℕ))). is_behind (texts_in l) (get_or c.args.sorted.now c.loop-text.text-index no_loan).now) c.deref.ensures.value in
    elim c.if-stands_behind.branch [
      | then-stands_behind+in_ok-push w ↦
          let behind = sym answer ∙ w.if-stands_behind.true in
          let loans : texts_in w.push.new.self.items ≡ texts_in c.loop-text.texts.items ++ get_or (texts_in c.args.sorted.now) c.loop-text.text-index [] ∷ [] =
          ap (λ (l : List (Bor (List ℕ))). texts_in l) w.in_ok-push.ensures.items ∙ map_push (λ (d : Bor (List ℕ)). d.now) c.loop-text.texts.items (get_or c.args.sorted.now c.loop-text.text-index no_loan)
          ∙ ap (λ (t : List ℕ). texts_in c.loop-text.texts.items ++ t ∷ []) (sym here) in
          rw w.texts-is (
            λ cs all. rw w.in_ok-push.ensures.items (text_more cs c.loop-text.texts.items (get_or c.args.sorted.now c.loop-text.text-index no_loan) (c.loop-text.invariant.0 cs all) (all c.loop-text.text-index no_loan c.loop-text-test.true) behind),
            text_distinct (texts_in c.args.sorted.now) (texts_in c.loop-text.texts.items) (texts_in w.push.new.self.items) c.loop-text.text-index c.loop-text.invariant.1 (omega (arith, count, c.loop-text-test.true)) loans,
          )
      | else-stands_behind w ↦
          let not_behind : is_behind (texts_in c.loop-text.texts.items) (get_or (texts_in c.args.sorted.now) c.loop-text.text-index []) ≡ false =
          ap (λ (t : List ℕ). is_behind (texts_in c.loop-text.texts.items) t) here ∙ sym answer ∙ w.if-stands_behind.false in
          rw w.texts-is (
            λ cs all. c.loop-text.invariant.0 cs all,
            text_again (texts_in c.args.sorted.now) (texts_in c.loop-text.texts.items) c.loop-text.text-index (sorted_texts c.args.sorted.now c.requires) c.loop-text.invariant.1 (omega (arith, count, c.loop-text-test.true)) not_behind,
          )
    ]

pub returns-clause-texts : goal.returns-clause-texts
returns-clause-texts c cs all = c.loop-text.invariant.0 cs all

pub returns-clause-each : goal.returns-clause-each
returns-clause-each c t h =
    let count : length (texts_in c.args.sorted.now) ≡ length c.args.sorted.now = length-map c.args.sorted.now (λ (b : Bor (List ℕ)). b.now) in
    let all : take c.loop-text.text-index (texts_in c.args.sorted.now) ≡ texts_in c.args.sorted.now = take_all c.loop-text.text-index (texts_in c.args.sorted.now) (omega (arith, count, c.loop-text-test.false)) in
    c.loop-text.invariant.1.each t (subst (λ (l : List (List ℕ)). Contains l t) (sym all) h)
