use Rattle.std.proofs.Common.{◌≡◌, ◌+◌, ◌-◌, [], length, sym, ◌∙◌, arith}
use Rattle.std.proofs.lemmas.List.{append-nil}
use Rattle.split_bundle.specs.Pieces.{section_part, start_of}
use Rattle.split_bundle.specs.declared.pieces.Section.TheVariants.{Columns}
use Rattle.split_bundle.proofs.Lent.{column_lent, part_is, part_missing}
use Rattle.split_bundle.proofs.parts.column_between.Goals as goal

pub returns-in-Ok-read-clause-only : goal.returns-in-Ok-read-clause-only
returns-in-Ok-read-clause-only c p rows are same at =
    let part = section_part Columns c.args.sections.now c.args.pieces.now c.args.start (c.args.end - c.args.start) in
    let lent = column_lent p c.args.sections.now c.args.pieces.now are same c.args.field.now.kind rows c.args.start c.args.end at in
    let bytes = part_is c.args.pieces.now (start_of Columns c.args.sections.now + c.args.start) at.column c.in-Ok.bytes.now part lent c.in-Ok.ensures.exact in
    (c.in-Ok-read.ensures.only at.column [] rows at.is_column (bytes ∙ sym (append-nil at.column))).0

pub returns-in-Err-read-clause-only : goal.returns-in-Err-read-clause-only
returns-in-Err-read-clause-only c p rows are same at =
    let part = section_part Columns c.args.sections.now c.args.pieces.now c.args.start (c.args.end - c.args.start) in
    let lent = column_lent p c.args.sections.now c.args.pieces.now are same c.args.field.now.kind rows c.args.start c.args.end at in
    let bytes = part_is c.args.pieces.now (start_of Columns c.args.sections.now + c.args.start) at.column c.in-Ok.bytes.now part lent c.in-Ok.ensures.exact in
    absurd (c.in-Err-read.ensures.only at.column [] rows at.is_column (bytes ∙ sym (append-nil at.column)))

pub returns-in-Err-clause-only : goal.returns-in-Err-clause-only
returns-in-Err-clause-only c p rows are same at =
    let part = section_part Columns c.args.sections.now c.args.pieces.now c.args.start (c.args.end - c.args.start) in
    let lent = column_lent p c.args.sections.now c.args.pieces.now are same c.args.field.now.kind rows c.args.start c.args.end at in
    let long : length at.column ≡ c.args.end - c.args.start = omega (arith, at.end_is) in
    part_missing c.args.pieces.now (start_of Columns c.args.sections.now + c.args.start) (c.args.end - c.args.start) at.column c.in-Err.fault part lent c.in-Err.ensures.exact long
