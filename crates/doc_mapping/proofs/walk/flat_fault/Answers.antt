use Rattle.std.proofs.Common.{◌≡◌, true, false, ap, sym, ◌∙◌, subst}
use Rattle.std.specs.Result.{IfOk}
use Rattle.serde_json.specs.View.{view}
use Rattle.doc_mapping.specs.Faults.{number_of_mapped, inner_fault}
use Rattle.doc_mapping.proofs.Flat.{flat_key, flat_object, flat_hit, flat_miss}
use Rattle.doc_mapping.proofs.Gathering.{nothing_there, gathers_as, number_within, field_gathers}
use Rattle.doc_mapping.proofs.walk.flat_fault.Goals as goal

pub field_fault-requires : goal.field_fault-requires
field_fault-requires c = number_within c.args.config.now c.args.key.now (view c.args.value) c.in-Some.number (c.in-Some.ensures ∙ ap (number_of_mapped c.args.config.now.schema) c.as_bytes.ensures.value)

pub returns-in-Some-clause-fault : goal.returns-in-Some-clause-fault
returns-in-Some-clause-fault c =
    subst (λ x. IfOk c.field_fault.result (λ fault. fault ≡ x))
    (flat_hit c.args.config.now c.args.key.now (view c.args.value) (inner_fault c.args.config.now c.args.key.now (view c.args.value)) c.requires.flat c.in-Some.number
    (c.in-Some.ensures ∙ ap (number_of_mapped c.args.config.now.schema) c.as_bytes.ensures.value))
    c.field_fault.ensures.fault

pub returns-in-Some-clause-dotted : goal.returns-in-Some-clause-dotted
returns-in-Some-clause-dotted c = λ dotted.
    let plain = flat_key c.args.config.now.schema c.args.key.now c.in-Some.number c.requires.flat
    (c.in-Some.ensures ∙ ap (number_of_mapped c.args.config.now.schema) c.as_bytes.ensures.value) in
    absurd (let wrong : true ≡ false = sym dotted ∙ plain in cc)

pub returns-in-Some-clause-gathers : goal.returns-in-Some-clause-gathers
returns-in-Some-clause-gathers c = λ plain.
    field_gathers c.args.config.now c.args.key.now (view c.args.value) c.in-Some.number
    (c.in-Some.ensures ∙ ap (number_of_mapped c.args.config.now.schema) c.as_bytes.ensures.value) c.args.parts.now.items c.field_fault.new.parts.items c.field_fault.result
    c.field_fault.ensures.fault c.field_fault.ensures.enters

pub returns-in-None-clause-fault : goal.returns-in-None-clause-fault
returns-in-None-clause-fault c =
    subst (λ x. IfOk c.unmapped_path.result (λ fault. fault ≡ x))
    (flat_miss c.args.config.now c.args.key.now (view c.args.value) (inner_fault c.args.config.now c.args.key.now (view c.args.value)) c.requires.flat
    (c.in-None.ensures ∙ ap (number_of_mapped c.args.config.now.schema) c.as_bytes.ensures.value))
    c.unmapped_path.ensures

pub returns-in-None-clause-gathers : goal.returns-in-None-clause-gathers
returns-in-None-clause-gathers c = λ plain.
    gathers_as c.args.config.now.schema (view c.args.value) c.args.parts.now.items c.args.parts.now.items c.unmapped_path.result c.args.key.now
    (nothing_there c.args.config.now.schema c.args.key.now (view c.args.value) c.args.parts.now.items
    (sym (c.in-None.ensures ∙ ap (number_of_mapped c.args.config.now.schema) c.as_bytes.ensures.value)) (flat_object c.args.config.now.schema c.args.key.now c.requires.flat))
