use Rattle.std.proofs.Common.{◌<◌, ◌≤◌, length, arith}
use Rattle.doc_tallies.proofs.Leasts.{better_more, bounded, late_more, room_more}
use Rattle.doc_tallies.proofs.least.keep_least.Goals as goal

pub returns-then-len-wanted : goal.returns-then-len-wanted
returns-then-len-wanted c = λ seen are.
    let kept = c.args.best.now.data.items in
    let counted = c.len.ensures in
    let long = c.args.best.now.data.ok.0 in
    let room : length kept < c.args.wanted = omega arith in
    record {
      heap = c.in_ok-push.ensures.heap_order are.heap;
      least = room_more c.args.wanted c.args.key seen kept c.push.new.self.data.items are.least room c.in_ok-push.ensures.permutation;
    }

pub returns-then-key-greatest : goal.returns-then-key-greatest
returns-then-key-greatest c = λ seen are.
    let kept = c.args.best.now.data.items in
    let counted = c.len.ensures in
    let long = c.args.best.now.data.ok.0 in
    let full : c.args.wanted ≤ length kept = omega arith in
    record {
      heap = are.heap;
      least = late_more c.args.wanted c.args.key c.in-Some.greatest.now seen kept are.least full (c.in-Some.ensures.greatest are.heap) (omega arith);
    }

pub returns-in-Some-pop : goal.returns-in-Some-pop
returns-in-Some-pop c = λ seen are.
    let kept = c.args.best.now.data.items in
    let counted = c.len.ensures in
    let long = c.args.best.now.data.ok.0 in
    let full : c.args.wanted ≤ length kept = omega arith in
    let heap = c.in_ok-push-2.ensures.heap_order are.heap in
    let within = bounded c.args.wanted c.in-Some.greatest.now seen kept are.least (c.in-Some.ensures.greatest are.heap) in
    record {
      heap = (c.in-Some-pop.ensures.heap_order heap).0;
      least = better_more c.args.wanted c.args.key c.in-Some-pop._greatest seen kept c.push-2.new.self.data.items c.pop.new.self.data.items are.least full within c.in_ok-push-2.ensures.permutation c.in-Some-pop.ensures.permutation
          (c.in-Some-pop.ensures.below_top heap);
    }
