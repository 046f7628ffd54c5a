use Rattle.std.proofs.Common.{◌≡◌, ◌<◌, ◌≤◌, ◌^◌, ◌∙◌, ◌+◌, length, refl, sym, ap, arith}
use Rattle.std.proofs.Math.Logic.{∥∥₁_map}
use Rattle.indexing_run.specs.Steps.{taken_from, parts_after, first_moment, taken_so_far}
use Rattle.indexing_run.proofs.Takes.{first_is, takes_read, follows_here}
use Rattle.indexing_run.proofs.batch.Batch.take.Goals as goal

pub invariant_of-batch : goal.invariant_of-batch
invariant_of-batch c = record { taken = ∥∥₁_map c.args.self.taken (λ r. let took = c.in-Ok.ensures.taken r.0 r.1 in (took.0, took.1)) }

pub returns-clause-taken : goal.returns-clause-taken
returns-clause-taken c = λ batch mark rest b r e f.
    let held = c.args.self in
    let mapping = held.documents.mapping in
    let list = c.args.records.now.list in
    let n = c.in-Ok.taken in
    let within : n ≤ length list = (let w = c.in-Ok.ensures.within in let l = ap length c.as_slice-list.ensures in omega (arith, w, l)) in
    let low : mark.at + n < 2 ^ 64 = (let l = c.requires.low in omega (arith, within, l, f)) in
    let took = c.in-Ok.ensures.taken batch.documents b.documents in
    let is : taken_from mapping mark.partition mark.at list (taken_so_far 0 batch.documents) ≡ taken_so_far n took.0 =
    ap (λ name. taken_from mapping name mark.at list (taken_so_far 0 batch.documents)) (sym e) ∙ ap (λ at. taken_from mapping c.args.partition.now at list (taken_so_far 0 batch.documents)) (sym f)
    ∙ ap (λ rs. taken_from mapping c.args.partition.now c.args.from rs (taken_so_far 0 batch.documents)) (sym c.as_slice-list.ensures) ∙ took.2 in
    takes_read batch mark rest c.args.records.now c.args.now n held _ b r within took.0 took.1 c.in-Ok.ensures.mapping
    (c.in-Ok.ensures.parts (follows_here held.parts.items batch.parts c.args.partition.now mark c.args.from b.parts e f r.follows)
    ∙ ap (λ name. parts_after n held.parts.items name c.args.from) e ∙ ap (parts_after n held.parts.items mark.partition) f)
    (c.move_on.ensures mark rest (b.queue ∙ r.queue) low)
    c.saturating_add.ensures c.unwrap_or-since.result (c.unwrap_or-since.ensures ∙ first_is held.first_read c.args.now ∙ ap (λ o. first_moment o c.args.now) b.first_read)
    refl c.is_full.ensures is
