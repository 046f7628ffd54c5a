use Rattle.std.proofs.Common.{◌+◌, ◌<◌, ◌^◌, [], ◌∙◌, List, ℕ, length, ap, sym, subst, arith, lit<}
use Rattle.source_log.specs.Memory.{place_of, part_of}
use Rattle.std.specs.List.{insert}
use Rattle.source_log.proofs.Places.{stands_at, would_stand_at, absent}
use Rattle.source_log.proofs.memory.add_record.Goals as goal

pub add_last-requires : goal.add_last-requires
add_last-requires c =
    let parts = c.args.parts.now.items in
    let at = stands_at c.args.partition.now parts c.in-Ok.place (ap (place_of c.args.partition.now) (sym c.deref.ensures.value) ∙ sym c.in-Ok.ensures) in
    omega (arith, at.within)

pub insert-requires : goal.insert-requires
insert-requires c =
    let parts = c.args.parts.now.items in
    let at = would_stand_at c.args.partition.now parts c.in-Err.place (ap (place_of c.args.partition.now) (sym c.deref.ensures.value) ∙ sym c.in-Err.ensures) in
    omega (arith, at.within)

pub returns-in_ok-add_last-in-Ok-clause-ok : goal.returns-in_ok-add_last-in-Ok-clause-ok
returns-in_ok-add_last-in-Ok-clause-ok c =
    let parts = c.args.parts.now.items in
    let at = stands_at c.args.partition.now parts c.in-Ok.place (ap (place_of c.args.partition.now) (sym c.deref.ensures.value) ∙ sym c.in-Ok.ensures) in
    let some = part_of c.args.partition.now [] in
    c.in_ok-add_last-in-Ok.ensures.ok some ∙ sym (at.grown c.args.bytes some)

pub returns-in_ok-add_last-in-Ok-clause-room : goal.returns-in_ok-add_last-in-Ok-clause-room
returns-in_ok-add_last-in-Ok-clause-room c = λ is_log.
    let parts = c.args.parts.now.items in
    let at = stands_at c.args.partition.now parts c.in-Ok.place (ap (place_of c.args.partition.now) (sym c.deref.ensures.value) ∙ sym c.in-Ok.ensures) in
    let some = part_of c.args.partition.now [] in
    subst (λ (l : List (List ℕ)). length l + 1 < 2 ^ 64) (sym (at.records some)) (c.in_ok-add_last-in-Ok.ensures.room some)

pub returns-in_ok-insert-in-Err-clause-ok : goal.returns-in_ok-insert-in-Err-clause-ok
returns-in_ok-insert-in-Err-clause-ok c =
    let parts = c.args.parts.now.items in
    let at = would_stand_at c.args.partition.now parts c.in-Err.place (ap (place_of c.args.partition.now) (sym c.deref.ensures.value) ∙ sym c.in-Err.ensures) in
    c.in_ok-insert-in-Err.ensures.items ∙ ap (insert parts c.in-Err.place) c.in_ok-part-in-Err.ensures.part ∙ sym (at.grown c.args.bytes)

pub returns-in_ok-insert-in-Err-clause-room : goal.returns-in_ok-insert-in-Err-clause-room
returns-in_ok-insert-in-Err-clause-room c = λ is_log.
    let none = absent c.args.partition.now c.args.parts.now.items c.in-Err.place is_log (ap (place_of c.args.partition.now) (sym c.deref.ensures.value) ∙ sym c.in-Err.ensures) in
    subst (λ (l : List (List ℕ)). length l + 1 < 2 ^ 64) (sym none) (lit< tt)
