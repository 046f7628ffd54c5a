use Rattle.std.proofs.Common.{◌≡◌, ◌<◌, ℕ, List, length, arith, subst}
use Rattle.std.proofs.lemmas.List.{take_all}
use Rattle.agg_nested.specs.Buckets.{IsPartFor}
use Rattle.doc_tallies.proofs.Shown.{IsShown, shown_known, shown_more, shown_none, shown_stands}
use Rattle.doc_tallies.proofs.each.part_each.Goals as goal

pub loop-i-init : goal.loop-i-init
loop-i-init c = shown_none c.args.asked.now c.args.columns.now c.args.numbers.now c.in_ok-part.part c.in_ok-part.ensures

pub collect_part-requires-clause-known : goal.collect_part-requires-clause-known
collect_part-requires-clause-known c = let h = c.loop-i.invariant in record { documents = h.shown; stands = h.stands; many = h.long }

pub loop-i-preserved : goal.loop-i-preserved
loop-i-preserved c =
    let lt : c.loop-i.i < length c.args.numbers.now = omega arith in
    shown_more c.args.asked.now c.args.columns.now c.args.numbers.now c.loop-i.i c.in_ok-doc.doc c.loop-i.part c.collect_part.new.part lt c.loop-i.invariant c.in_ok-doc.ensures c.in_ok-collect_part.ensures

pub returns-clause-only : goal.returns-clause-only
returns-clause-only c = λ s documents of are below.
    let ns = c.args.numbers.now in
    let all = subst (λ (xs : List ℕ). IsShown c.args.asked.now c.args.columns.now ns xs c.loop-i.i c.loop-i.part) (take_all c.loop-i.i ns (omega arith)) c.loop-i.invariant in
    shown_stands c.args.asked.now c.args.columns.now ns c.loop-i.i c.loop-i.part all s documents of are below

pub returns-clause-known : goal.returns-clause-known
returns-clause-known c =
    let ns = c.args.numbers.now in
    let end : c.loop-i.i ≡ length ns = omega arith in
    let all = subst (λ (xs : List ℕ). IsShown c.args.asked.now c.args.columns.now ns xs c.loop-i.i c.loop-i.part) (take_all c.loop-i.i ns (omega arith)) c.loop-i.invariant in
    subst (λ (n : ℕ). IsPartFor c.args.asked.now n c.loop-i.part) end (shown_known c.args.asked.now c.args.columns.now ns c.loop-i.i c.loop-i.part all)
