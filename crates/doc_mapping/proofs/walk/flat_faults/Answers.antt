use Rattle.std.proofs.Common.{[], string_bytes, is_some, ap, sym, subst, arith}
use Rattle.serde_json.specs.Data.{members_depth}
use Rattle.serde_json.specs.View.{view, members_view}
use Rattle.doc_mapping.proofs.Gathering.{refused_not, MayLeave, none_left, StandsAt, begun, moved, distinct_by}
use Rattle.doc_mapping.proofs.walk.flat_faults.Goals as goal

pub loop-key-init : goal.loop-key-init
loop-key-init c =
    let gives = c.into_iter-key-iterator.ensures.into_iter_gives in
    subst (λ es. StandsAt c.args.config.now [] (members_view c.args.map.entries) (members_depth (members_view c.args.map.entries)) c.args.parts.now.items (members_view es) c.args.parts.now.items)
    (sym gives.0)
    (begun c.args.config.now [] (members_view c.args.map.entries) (members_depth (members_view c.args.map.entries)) c.args.parts.now.items (omega arith)
    (distinct_by c.args.map.entries gives.5))

pub loop-key-preserved : goal.loop-key-preserved
loop-key-preserved c =
    moved c.args.config.now [] (members_view c.args.map.entries) (members_depth (members_view c.args.map.entries)) c.args.parts.now.items (string_bytes c.in-Some.key) c.as_str.result.now
    (view c.in-Some.value) (members_view c.next.new.self) c.loop-key.parts.items c.flat_fault-fault.new.parts.items c.in-Ok-None.field-0 c.as_str.ensures.value
    (subst (λ es. StandsAt c.args.config.now [] (members_view c.args.map.entries) (members_depth (members_view c.args.map.entries)) c.args.parts.now.items (members_view es) c.loop-key.parts.items)
    c.in-Some.ensures.steps c.loop-key.invariant)
    c.in-Ok-None.ensures.fault (ap is_some c.in-Ok-None.field-0-is) c.flat_fault-fault.ensures.dotted c.in-Ok-None.ensures.gathers

pub returns-in-Ok-Some-clause-gathers : goal.returns-in-Ok-Some-clause-gathers
returns-in-Ok-Some-clause-gathers c = λ none. refused_not _ none

pub returns-clause-gathers : goal.returns-clause-gathers
returns-clause-gathers c = λ none.
    let h = c.in-None.ensures.steps in
    none_left c.args.config.now.schema [] (members_view c.args.map.entries) c.args.parts.now.items c.loop-key.parts.items
    (subst (λ es. MayLeave c.args.config.now.schema [] (members_view c.args.map.entries) c.args.parts.now.items (members_view es) c.loop-key.parts.items)
    h.0 c.loop-key.invariant.3)
