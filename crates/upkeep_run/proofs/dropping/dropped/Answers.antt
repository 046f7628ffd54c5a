use Rattle.std.proofs.Common.{ℕ, List, sym, subst}
use Rattle.doc_sets.specs.Bits.{has}
use Rattle.split_bundle.specs.Wholes.{HaveAll}
use Rattle.split_merge.specs.Keeping.{RiseFrom}
use Rattle.upkeep_run.proofs.DropSets.{is_drop_set, members_rise}
use Rattle.upkeep_run.proofs.dropping.dropped.Goals as goal

pub returns-clause-rise : goal.returns-clause-rise
returns-clause-rise c = subst (RiseFrom 0) (sym c.in_ok-places_of.ensures) (members_rise (has c.in_ok-bits.bits) 0 c.in_ok-bits.bits.size)

pub returns-clause-there : goal.returns-clause-there
returns-clause-there c = λ documents split asked.
    let part = c.in_ok-view.ensures.only c.args.schema.now documents split.parts split.is_split split.bytes_are in
    let all = subst (λ (file : List ℕ). HaveAll file c.in_ok-view.view.pieces) split.bytes_are c.in_ok-view.ensures.all in
    is_drop_set c.args.schema.now c.args.spans.now c.args.tasks.now c.args.upto documents c.in_ok-bits.bits c.in_ok-places_of.field-0.items c.in_ok-places_of.ensures (c.in_ok-bits.ensures.there documents split.parts part all asked)
