use Rattle.std.proofs.Common.{◌≡◌, ◌||◌, ◌∙◌, sym, ap, take, ◌+◌, arith}
use Rattle.std.proofs.lemmas.List.Folds.{list_any_more}
use Rattle.std.specs.List.{list_any}
use Rattle.agg_model.specs.Counting.{slot_of}
use Rattle.doc_value.specs.declared.doc.Value.{Value}
use Rattle.agg_nested.specs.Buckets.{group_at}
use Rattle.agg_nested.specs.Spots.{Spot, value, same_spot}
use Rattle.agg_nested.proofs.Raised.{raised_both, can_again}
use Rattle.agg_nested.proofs.Spotted.{taken_all}
use Rattle.agg_nested.proofs.spotting.raise_values.Goals as goal

pub raise_value-requires-clause-known : goal.raise_value-requires-clause-known
raise_value-requires-clause-known c =
    can_again (λ (spot : Spot). list_any (λ (v : Value). same_spot (value (slot_of v)) spot) (take c.loop-found.found-index c.args.values.now)) c.args.nested.now c.args.doc.now c.args.number
    (group_at c.args.groups.now) (group_at c.loop-found.groups) (value (slot_of c.found-item.result)) c.loop-found.invariant (c.requires.known (value (slot_of c.found-item.result)))

pub loop-found-preserved : goal.loop-found-preserved
loop-found-preserved c =
    raised_both (λ (spot : Spot). list_any (λ (v : Value). same_spot (value (slot_of v)) spot) (take c.loop-found.found-index c.args.values.now)) (same_spot (value (slot_of c.found-item.result)))
    (λ (spot : Spot). list_any (λ (v : Value). same_spot (value (slot_of v)) spot) (take (c.loop-found.found-index + 1) c.args.values.now))
    c.args.nested.now c.args.doc.now c.args.number (group_at c.args.groups.now) (group_at c.loop-found.groups) (group_at c.raise_value.new.groups)
    (λ spot. list_any_more (λ (v : Value). same_spot (value (slot_of v)) spot) c.args.values.now c.loop-found.found-index c.found-item.result (omega arith)
    ∙ ap (λ (v : Value). (list_any (λ (v : Value). same_spot (value (slot_of v)) spot) (take c.loop-found.found-index c.args.values.now) || same_spot (value (slot_of v)) spot)) (sym c.found-item.is))
    c.loop-found.invariant c.in_ok-raise_value.ensures

pub returns : goal.returns
returns c =
    let all : take c.loop-found.found-index c.args.values.now ≡ c.args.values.now = taken_all c.loop-found.found-index c.args.values.now (omega arith) in
    rw all at c.loop-found.invariant
