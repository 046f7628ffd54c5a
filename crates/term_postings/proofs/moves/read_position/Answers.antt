use Rattle.std.proofs.Common.{◌≡◌, ◌-◌, ◌+◌, ◌<◌, ◌^◌, ◌++◌, refl, arith}
use Rattle.byte_fields.specs.Spelling.{varint}
use Rattle.term_postings.specs.Postings.{varints, gaps, position_bytes}
use Rattle.term_postings.proofs.Numbers.{not_failed, number_read}
use Rattle.term_postings.proofs.Passes.{sum_refused}
use Rattle.term_postings.proofs.Walks.{position_parts, place_within, next_place}
use Rattle.term_postings.proofs.moves.read_position.Goals as goal

pub returns-in_err-at-clause-only : goal.returns-in_err-at-clause-only
returns-in_err-at-clause-only c n left after h =
    absurd (c.in_err-at.ensures.only h.skipped (varint (n - c.args.place.last) ++ (varints (gaps n left) ++ (position_bytes after ++ h.behind))) h.skipped_are h.skipped_fit
    (place_within c.args.positions.now c.args.place n left after h) (position_parts c.args.positions.now c.args.place n left after h))

pub returns-in_err-gap-clause-only : goal.returns-in_err-gap-clause-only
returns-in_err-gap-clause-only c n left after h =
    let rest = varints (gaps n left) ++ (position_bytes after ++ h.behind) in
    let at = c.in_ok-at.ensures.only h.skipped (varint (n - c.args.place.last) ++ rest) h.skipped_are h.skipped_fit
    (place_within c.args.positions.now c.args.place n left after h) (position_parts c.args.positions.now c.args.place n left after h) in
    absurd (not_failed _ _ (c.in_err-gap.ensures.only (n - c.args.place.last) rest (omega (arith, h.fits.0)) at))

pub returns-in_default-clause-only : goal.returns-in_default-clause-only
returns-in_default-clause-only c n left after h =
    let rest = varints (gaps n left) ++ (position_bytes after ++ h.behind) in
    let at = c.in_ok-at.ensures.only h.skipped (varint (n - c.args.place.last) ++ rest) h.skipped_are h.skipped_fit
    (place_within c.args.positions.now c.args.place n left after h) (position_parts c.args.positions.now c.args.place n left after h) in
    let a = number_read c.args.positions.now rest c.in_ok-at.at (n - c.args.place.last) c.in_ok-gap.gap c.in_ok-gap.next at (c.in_ok-gap.ensures.only (n - c.args.place.last) rest (omega (arith, h.fits.0)) at) in
    let small : c.args.place.last + c.in_ok-gap.gap < 2 ^ 64 = omega (arith, a.0, h.not_below.0, h.fits.0) in
    absurd (sum_refused c.checked_add.result _ _ c.checked_add.ensures small c.in_default.not-Some)

pub returns-clause-only : goal.returns-clause-only
returns-clause-only c n left after h =
    let rest = varints (gaps n left) ++ (position_bytes after ++ h.behind) in
    let at = c.in_ok-at.ensures.only h.skipped (varint (n - c.args.place.last) ++ rest) h.skipped_are h.skipped_fit
    (place_within c.args.positions.now c.args.place n left after h) (position_parts c.args.positions.now c.args.place n left after h) in
    let a = number_read c.args.positions.now rest c.in_ok-at.at (n - c.args.place.last) c.in_ok-gap.gap c.in_ok-gap.next at (c.in_ok-gap.ensures.only (n - c.args.place.last) rest (omega (arith, h.fits.0)) at) in
    let position : c.in-Some.position ≡ n = omega (arith, a.0, h.not_below.0, c.in-Some.ensures.1) in
    (position, next_place c.args.positions.now c.args.place _ n left after h refl (omega arith) position a.1)
