use Rattle.std.proofs.Common.{◌≡◌, ◌+◌, ◌/◌, ◌++◌, [], ℕ, replicate, subst, arith}
use Rattle.agg_nested.specs.Buckets.{NestedStands}
use Rattle.doc_tallies.proofs.Copied.{twice, twice_more}
use Rattle.doc_tallies.proofs.repeats.+valueless_partial.Goals as goal

pub returns-then-count-eq0-2-clause-stands : goal.returns-then-count-eq0-2-clause-stands
returns-then-count-eq0-2-clause-stands t c =
    let n : ℕ = c.args.count / 2 in
    let even : n + n ≡ c.args.count = omega (arith, c.if-count-eq0-2.true) in
    subst (NestedStands c.args.request.now c.in_ok-partial.partial) (twice n c.args.count [] even)
    (c.in_ok-partial.ensures.stands (replicate n []) c.in_ok-half.ensures.stands)

pub returns-clause-stands : goal.returns-clause-stands
returns-clause-stands t c =
    let n : ℕ = c.args.count / 2 in
    let odd : n + n + 1 ≡ c.args.count = omega (arith, c.if-count-eq0-2.false) in
    let doubled = c.in_ok-partial.ensures.stands (replicate n []) c.in_ok-half.ensures.stands in
    subst (NestedStands c.args.request.now c.collect_nested.new.partial) (twice_more n c.args.count [] odd)
    ((rw c.vacant-nothing.ensures at c.in_ok-collect_nested.ensures.stands) (replicate n [] ++ replicate n []) doubled)
