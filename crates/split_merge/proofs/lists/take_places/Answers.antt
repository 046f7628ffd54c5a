use Rattle.std.proofs.Common.{◌∙◌, ℕ, Ok, Option, sym, subst}
use Rattle.split_merge.proofs.PlaceLemmas.{GivesPlace, no_places, one_place, place_above, all_places, no_fault}
use Rattle.split_merge.proofs.lists.take_places.Goals as goal

pub loop-count-init : goal.loop-count-init
loop-count-init c = no_places c.args.places.now.items c.args.cursor.now

pub returns-then-not-is_above : goal.returns-then-not-is_above
returns-then-not-is_above c = λ after left stands rise.
    let gives = subst (λ (o : Option ℕ). GivesPlace c.loop-count.cursor c.next_position.new.self (Ok o)) c.in-Ok-Some.field-0-is c.in-Ok-Some.ensures.only in
    absurd (place_above c.args.places.now.items c.loop-count.places.items c.loop-count.count c.loop-count.last c.args.cursor.now c.loop-count.cursor c.loop-count.invariant c.in-Ok-Some.place c.next_position.new.self after left gives stands rise (sym c.is_above.ensures ∙ c.if-not-is_above.true))

pub returns-in-Ok-None : goal.returns-in-Ok-None
returns-in-Ok-None c = λ after left stands rise.
    let gives = subst (λ (o : Option ℕ). GivesPlace c.loop-count.cursor c.next_position.new.self (Ok o)) c.in-Ok-None.field-0-is c.in-Ok-None.ensures.only in
    all_places c.args.places.now.items c.loop-count.places.items c.loop-count.count c.loop-count.last c.args.cursor.now c.loop-count.cursor c.loop-count.invariant c.next_position.new.self after left gives stands rise

pub returns-in-Err : goal.returns-in-Err
returns-in-Err c = λ after left stands rise.
    absurd (no_fault c.args.places.now.items c.loop-count.places.items c.loop-count.count c.loop-count.last c.args.cursor.now c.loop-count.cursor c.loop-count.invariant c.in-Err._fault c.next_position.new.self after left c.in-Err.ensures.only stands rise)

pub loop-count-preserved : goal.loop-count-preserved
loop-count-preserved c =
    let gives = subst (λ (o : Option ℕ). GivesPlace c.loop-count.cursor c.next_position.new.self (Ok o)) c.in-Ok-Some.field-0-is c.in-Ok-Some.ensures.only in
    one_place c.args.places.now.items c.loop-count.places.items c.loop-count.count c.loop-count.last c.args.cursor.now c.loop-count.cursor c.loop-count.invariant c.put_varint.new.out.items c.in-Ok-Some.place c.gap_behind.result c.next_position.new.self gives
    (sym c.is_above.ensures ∙ c.if-not-is_above.false) c.gap_behind.ensures c.in_ok-put_varint-in-Ok-Some.ensures.ok
