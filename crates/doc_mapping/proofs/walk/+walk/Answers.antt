use Rattle.std.proofs.Common.{length, string_bytes, is_some, ap, sym, ◌∙◌, subst, arith}
use Rattle.serde_json.specs.View.{view, members_view}
use Rattle.std.specs.Cmp.{unsigned_Decides}
use Rattle.doc_mapping.specs.Faults.{number_of_mapped}
use Rattle.doc_mapping.proofs.Gathering.{refused_not, MayLeave, none_left, StandsAt, begun, moved, nothing_there, empty_under, gathers_on, gathers_as, gathers_inner, number_within, field_gathers, distinct_by}
use Rattle.doc_mapping.proofs.walk.+walk.Goals as goal

pub key_fault-returns-then-is_empty-clause-gathers :
    goal.key_fault-returns-then-is_empty-clause-gathers
key_fault-returns-then-is_empty-clause-gathers t c = λ plain.
    gathers_on c.args.config.now.schema (view c.args.value) c.args.parts.now.items c.path_fault.new.parts.items c.path_fault.result c.args.key.now _
    (empty_under c.args.prefix.now c.args.key.now ((unsigned_Decides (length c.args.prefix.now) 0).0 (sym c.is_empty.ensures ∙ c.if-is_empty.true))) c.path_fault.ensures.gathers

pub key_fault-returns-in-Ok-clause-gathers : goal.key_fault-returns-in-Ok-clause-gathers
key_fault-returns-in-Ok-clause-gathers t c = λ plain.
    gathers_on c.args.config.now.schema (view c.args.value) c.args.parts.now.items c.path_fault-fault.new.parts.items c.path_fault-fault.result c.as_str.result.now _
    (c.as_str.ensures ∙ c.in-Ok.ensures) c.path_fault-fault.ensures.gathers

pub members_fault-loop-key-init : goal.members_fault-loop-key-init
members_fault-loop-key-init t c =
    let gives = c.into_iter-key-iterator.ensures.into_iter_gives in
    subst (λ es. StandsAt c.args.config.now c.args.prefix.now (members_view c.args.map.entries) c.args.levels c.args.parts.now.items (members_view es) c.args.parts.now.items)
    (sym gives.0)
    (begun c.args.config.now c.args.prefix.now (members_view c.args.map.entries) c.args.levels c.args.parts.now.items (omega arith)
    (distinct_by c.args.map.entries gives.5))

pub members_fault-loop-key-preserved : goal.members_fault-loop-key-preserved
members_fault-loop-key-preserved t c =
    moved c.args.config.now c.args.prefix.now (members_view c.args.map.entries) c.args.levels c.args.parts.now.items (string_bytes c.in-Some.key) c.as_str.result.now
    (view c.in-Some.value) (members_view c.next.new.self) c.loop-key.parts.items c.key_fault-fault.new.parts.items c.in-Ok-None.field-0 c.as_str.ensures.value
    (subst (λ es. StandsAt c.args.config.now c.args.prefix.now (members_view c.args.map.entries) c.args.levels c.args.parts.now.items (members_view es) c.loop-key.parts.items)
    c.in-Some.ensures.steps c.loop-key.invariant)
    c.in-Ok-None.ensures.fault (ap is_some c.in-Ok-None.field-0-is) c.key_fault-fault.ensures.dotted c.in-Ok-None.ensures.gathers

pub members_fault-returns-in-Ok-Some-clause-gathers : goal.members_fault-returns-in-Ok-Some-clause-gathers
members_fault-returns-in-Ok-Some-clause-gathers t c = λ none. refused_not _ none

pub members_fault-returns-clause-gathers : goal.members_fault-returns-clause-gathers
members_fault-returns-clause-gathers t c = λ none.
    let h = c.in-None.ensures.steps in
    none_left c.args.config.now.schema c.args.prefix.now (members_view c.args.map.entries) c.args.parts.now.items c.loop-key.parts.items
    (subst (λ es. MayLeave c.args.config.now.schema c.args.prefix.now (members_view c.args.map.entries) c.args.parts.now.items (members_view es) c.loop-key.parts.items)
    h.0 c.loop-key.invariant.3)

pub path_fault-field_fault-requires : goal.path_fault-field_fault-requires
path_fault-field_fault-requires t c = number_within c.args.config.now c.args.path.now (view c.args.value) c.in-Some.number (c.in-Some.ensures ∙ ap (number_of_mapped c.args.config.now.schema) c.as_bytes.ensures.value)

pub path_fault-returns-in-Some-clause-gathers : goal.path_fault-returns-in-Some-clause-gathers
path_fault-returns-in-Some-clause-gathers t c =
    field_gathers c.args.config.now c.args.path.now (view c.args.value) c.in-Some.number
    (c.in-Some.ensures ∙ ap (number_of_mapped c.args.config.now.schema) c.as_bytes.ensures.value) c.args.parts.now.items c.field_fault.new.parts.items c.field_fault.result
    c.field_fault.ensures.fault c.field_fault.ensures.enters

pub path_fault-returns-in-Ok-false-clause-gathers : goal.path_fault-returns-in-Ok-false-clause-gathers
path_fault-returns-in-Ok-false-clause-gathers t c =
    gathers_as c.args.config.now.schema (view c.args.value) c.args.parts.now.items c.args.parts.now.items c.unmapped_path.result c.args.path.now
    (nothing_there c.args.config.now.schema c.args.path.now (view c.args.value) c.args.parts.now.items (sym (c.in_default.ensures ∙ ap (number_of_mapped c.args.config.now.schema) c.as_bytes.ensures.value)) (sym c.in-Ok-false.ensures ∙ c.in-Ok-false.field-0-test))

pub path_fault-returns-in-Ok-true-clause-gathers : goal.path_fault-returns-in-Ok-true-clause-gathers
path_fault-returns-in-Ok-true-clause-gathers t c =
    gathers_inner c.args.config.now.schema (view c.args.value) c.args.parts.now.items c.inner_fault.new.parts.items c.inner_fault.result c.args.path.now
    (c.in_default.ensures ∙ ap (number_of_mapped c.args.config.now.schema) c.as_bytes.ensures.value) (sym c.in-Ok-true.ensures ∙ c.in-Ok-true.field-0-test) c.inner_fault.ensures.gathers
