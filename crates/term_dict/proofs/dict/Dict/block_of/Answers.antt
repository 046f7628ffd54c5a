use Rattle.std.proofs.Common.{◌∙◌, arith, refl, sym}
use Rattle.term_dict.proofs.Starts.{around, above_block}
use Rattle.term_dict.proofs.BoundsLemmas.{around_block, count_of_none, count_of_some}
use Rattle.term_dict.proofs.dict.Dict.block_of.Goals as goal

pub returns-in_default-clause-only : goal.returns-in_default-clause-only
returns-in_default-clause-only c terms d =
    let b = c.block_of.ensures.exact in
    let none = count_of_none b.count (sym c.in_default.is ∙ b.last) in
    around c.args.self.now.area.now terms c.args.key.now 0 0 d.are_terms d.area_is (omega arith) tt
    (above_block c.args.self.now.area.now c.args.self.now.index.now terms c.args.key.now 0 d (λ x at. b.up_to.behind x (rw none at)))

pub returns-clause-only : goal.returns-clause-only
returns-clause-only c terms d =
    let b = c.in-Some.ensures.exact in
    let at = c.in_ok-start.ensures.only c.args.self.now.area.now terms d refl in
    around_block c.args.self.now.area.now c.args.self.now.index.now terms c.args.key.now b.count c.in-Some.number c.in_ok-start.start c.in_ok-start.end d b.up_to
    (count_of_some b.count c.in-Some.number b.last) at.start_is at.end_is
