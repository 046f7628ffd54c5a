use Rattle.std.proofs.Common.{◌≡◌, ◌+◌, ◌/◌, ◌++◌, ℕ, replicate, subst, arith}
use Rattle.agg_model.specs.Partials.{StandsFor}
use Rattle.doc_tallies.proofs.Copied.{twice, twice_more}
use Rattle.doc_tallies.proofs.repeats.+copies.Goals as goal

pub returns-then-times-eq0-2-clause-stands : goal.returns-then-times-eq0-2-clause-stands
returns-then-times-eq0-2-clause-stands t c =
    let n : ℕ = c.args.times / 2 in
    let even : n + n ≡ c.args.times = omega (arith, c.if-times-eq0-2.true) in
    subst (StandsFor c.args.aggs.now c.in_ok-partial.partial) (twice n c.args.times c.args.doc.now even)
    (c.in_ok-partial.ensures.stands (replicate n c.args.doc.now) c.in_ok-half.ensures.stands)

pub returns-clause-stands : goal.returns-clause-stands
returns-clause-stands t c =
    let n : ℕ = c.args.times / 2 in
    let odd : n + n + 1 ≡ c.args.times = omega (arith, c.if-times-eq0-2.false) in
    let doubled = c.in_ok-partial.ensures.stands (replicate n c.args.doc.now) c.in_ok-half.ensures.stands in
    subst (StandsFor c.args.aggs.now c.collect_one.new.partial) (twice_more n c.args.times c.args.doc.now odd)
    (c.in_ok-collect_one.ensures.stands (replicate n c.args.doc.now ++ replicate n c.args.doc.now) doubled)
