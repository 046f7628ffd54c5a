use Rattle.std.proofs.Common.{◌+◌, ◌∙◌, ℕ, true, Ok, Option, Some, sym, ap, subst, arith}
use Rattle.split_merge.specs.Joining.{is_above}
use Rattle.split_merge.specs.Numbering.{number_in}
use Rattle.split_merge.proofs.ListLemmas.{AddsThese, GivesNext, PutsList, all_put, document_above, document_there, found_next, none_added, none_put, one_added, one_put}
use Rattle.split_merge.proofs.lists.KeyList.put.Goals as goal

pub loop-taken-init : goal.loop-taken-init
loop-taken-init c = none_put true (AddsThese true (number_in c.args.numbers.now) c.args.self.now c.args.self.now) c.args.cursor (none_added true c.args.self.now)

pub returns-then-not-is_above : goal.returns-then-not-is_above
returns-then-not-is_above c = λ list stands len can.
    let gives = subst (λ (o : Option ℕ). GivesNext true c.loop-taken.cursor c.next.new.self (Ok o)) c.in-Ok-Some.field-0-is (c.in-Ok-Some.ensures.only true) in
    absurd (document_above true (AddsThese true (number_in c.args.numbers.now) c.args.self.now c.loop-taken.self) c.loop-taken.taken c.loop-taken.last c.args.cursor c.loop-taken.cursor c.loop-taken.invariant c.in-Ok-Some.document c.next.new.self list gives stands can
    (ap (λ (n : ℕ). is_above c.loop-taken.last n) (sym c.from.ensures) ∙ sym c.is_above.ensures ∙ c.if-not-is_above.true))

pub returns-in-Err-push : goal.returns-in-Err-push
returns-in-Err-push c = λ list stands len can.
    let gives = subst (λ (o : Option ℕ). GivesNext true c.loop-taken.cursor c.next.new.self (Ok o)) c.in-Ok-Some.field-0-is (c.in-Ok-Some.ensures.only true) in
    let i = c.loop-taken.invariant in
    let next = found_next true (AddsThese true (number_in c.args.numbers.now) c.args.self.now c.loop-taken.self) c.loop-taken.taken c.loop-taken.last c.args.cursor c.loop-taken.cursor i c.in-Ok-Some.document c.next.new.self list gives stands can in
    c.in-Err-push.ensures next.0 next.1 next.2 next.3

pub returns-in-Ok-None : goal.returns-in-Ok-None
returns-in-Ok-None c = λ list stands len can.
    let gives = subst (λ (o : Option ℕ). GivesNext true c.loop-taken.cursor c.next.new.self (Ok o)) c.in-Ok-None.field-0-is (c.in-Ok-None.ensures.only true) in
    absurd (document_there true (AddsThese true (number_in c.args.numbers.now) c.args.self.now c.loop-taken.self) c.loop-taken.taken c.loop-taken.last c.args.cursor c.loop-taken.cursor c.loop-taken.invariant c.next.new.self _ list gives stands can
    (omega (arith, len, c.loop-taken-test.true)) (λ document e. absurd cc))

pub returns-in-Err : goal.returns-in-Err
returns-in-Err c = λ list stands len can.
    absurd (document_there true (AddsThese true (number_in c.args.numbers.now) c.args.self.now c.loop-taken.self) c.loop-taken.taken c.loop-taken.last c.args.cursor c.loop-taken.cursor c.loop-taken.invariant c.next.new.self _ list (c.in-Err.ensures.only true) stands can
    (omega (arith, len, c.loop-taken-test.true)) (λ document e. absurd cc))

pub loop-taken-preserved : goal.loop-taken-preserved
loop-taken-preserved c =
    let gives = subst (λ (o : Option ℕ). GivesNext true c.loop-taken.cursor c.next.new.self (Ok o)) c.in-Ok-Some.field-0-is (c.in-Ok-Some.ensures.only true) in
    let i = c.loop-taken.invariant in
    let up = ap (λ (n : ℕ). is_above c.loop-taken.last n) (sym c.from.ensures) ∙ sym c.is_above.ensures ∙ c.if-not-is_above.false in
    let now = AddsThese true (number_in c.args.numbers.now) c.args.self.now c.push.new.self in
    subst (λ (n : ℕ). PutsList true now (c.loop-taken.taken + 1) (Some n) c.args.cursor c.push.new.cursor) (sym c.from-in-Ok.ensures)
    (one_put true (AddsThese true (number_in c.args.numbers.now) c.args.self.now c.loop-taken.self) c.loop-taken.taken c.loop-taken.last c.args.cursor c.loop-taken.cursor i now c.in-Ok-Some.document c.next.new.self c.push.new.cursor gives up
    (λ front p after same front_added stands can.
    let x = c.in-Ok.ensures after p.positions stands can in
    (one_added true (number_in c.args.numbers.now) c.args.self.now c.loop-taken.self c.push.new.self c.in-Ok-Some.document c.get.result c.get.ensures front p same front_added x.0, x.1)))

pub returns : goal.returns
returns c = λ list stands len can.
    all_put true (AddsThese true (number_in c.args.numbers.now) c.args.self.now c.loop-taken.self) c.loop-taken.taken c.loop-taken.last c.args.cursor c.loop-taken.cursor c.loop-taken.invariant list stands can (omega (arith, len, c.loop-taken-test.false, c.loop-taken.auto.taken-end))
