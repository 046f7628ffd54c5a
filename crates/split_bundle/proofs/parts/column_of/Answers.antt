use Rattle.std.proofs.Common.{◌≡◌, ℕ, ◌+◌, ◌-◌, Option, Some, Result, Ok, subst, sym}
use Rattle.byte_fields.specs.declared.corrupt.Corrupt.{Corrupt}
use Rattle.split_bundle.specs.declared.pieces.Section.TheVariants.{Columns}
use Rattle.split_bundle.specs.Pieces.{start_of}
use Rattle.split_bundle.specs.Lending.{IsColumnAt, LendsColumn}
use Rattle.split_bundle.proofs.Lent.{place_is}
use Rattle.split_bundle.proofs.parts.column_of.Goals as goal

pub returns-in-Ok-Some-clause-only : goal.returns-in-Ok-Some-clause-only
returns-in-Ok-Some-clause-only c p rows start end are sec at found =
    let read : ◌≡◌ {A = Result (Option (ℕ × ℕ)) Corrupt} (Ok (Some (c.in-Ok-Some.start, c.in-Ok-Some.end))) (Ok (Some (start, end))) = cc (c.in-Ok-Some.field-0-is, c.in-Ok-Some.ensures, found) in
    let same = place_is (c.in-Ok-Some.start, c.in-Ok-Some.end) (start, end) read in
    let here = subst (λ (x : ℕ × ℕ). IsColumnAt p c.args.field.now.kind rows x.0 x.1) (sym same) at in
    subst (λ (x : ℕ × ℕ). LendsColumn c.args.pieces.now (start_of Columns c.args.sections.now + x.0) (x.1 - x.0) rows c.column_between.result) same (c.column_between.ensures.only p rows are sec here)
