use Rattle.std.proofs.Common.{◌<◌, ◌^◌, arith}
use Rattle.fast_fields.specs.declared.entries.Entry.{Entry}
use Rattle.fast_fields.proofs.Places.{all_at, least_le}
use Rattle.fast_fields.proofs.column.Column.value.Goals as goal

pub returns-clause-only : goal.returns-clause-only
returns-clause-only c texts es e h is =
    let least = least_le es c.args.place e is in
    let small = all_at (λ (f : Entry). f.number < 2 ^ 64) es c.args.place e h.fits.small_numbers is in
    let packed = c.packed_at.ensures.only texts es e h is in
    omega (arith, h.least_is)
