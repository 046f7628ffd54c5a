use Rattle.std.proofs.Common.{◌+◌, ◌*◌, arith, length, List, ℕ, ap}
use Rattle.term_dict.proofs.Starts.{block_at, blocks_rise, starts_within}
use Rattle.term_dict.proofs.BoundsLemmas.{stands_at}
use Rattle.term_dict.proofs.index.BlockIndex.place_of.Goals as goal
use Rattle.term_dict.proofs.index.BlockIndex.place_of.Goals.{then-start-end-via-then-start-end, then-start-end-via-else-start-end+then-end-size}

pub returns-then-start-end-clause-only : goal.returns-then-start-end-clause-only
returns-then-start-end-clause-only c bytes terms d size =
    let number = c.args.number in
    let rise = blocks_rise (64 * number) (64 * (number + 1)) terms (omega arith) (omega (arith, d.index_is.count, c.requires)) in
    let within = starts_within (64 * (number + 1)) terms in
    let start = (block_at bytes c.args.self.now terms number c.at.result.now d c.at.ensures).3 in
    let end = c.end_of-end.ensures.only bytes terms d size in
    let whole = ap (λ (l : List ℕ). length l) d.area_is in
    elim c.then-start-end.branch [
      | then-start-end-via-then-start-end w ↦ omega arith
      | then-start-end-via-else-start-end+then-end-size w ↦ omega arith
    ]

pub returns-clause-only : goal.returns-clause-only
returns-clause-only c bytes terms d size =
    stands_at bytes c.args.self.now terms c.args.number c.at.result.now.start c.end_of-end.result d c.requires
    (block_at bytes c.args.self.now terms c.args.number c.at.result.now d c.at.ensures).3 (c.end_of-end.ensures.only bytes terms d size)
