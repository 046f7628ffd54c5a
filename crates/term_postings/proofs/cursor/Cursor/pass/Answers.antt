use Rattle.std.proofs.Common.{◌≡◌, ◌++◌, ◌-◌, ◌+◌, ℕ, Ok, Result, ap, refl, arith}
use Rattle.byte_fields.specs.declared.corrupt.Corrupt.{Corrupt}
use Rattle.term_postings.specs.Postings.{count_bytes, document_bytes}
use Rattle.term_postings.proofs.Numbers.{not_failed, number_read}
use Rattle.term_postings.proofs.Passes.{has_front, pass_stands, pass_place, block_positions}
use Rattle.term_postings.proofs.cursor.Cursor.pass.Goals as goal

abbrev given : ℕ → Result ℕ Corrupt
given n = Ok n

pub returns-in_err-gap-clause-only : goal.returns-in_err-gap-clause-only
returns-in_err-gap-clause-only c told passed after p left s =
    let me = c.args.self.now in
    let f = has_front me passed after p s.stands in
    absurd (not_failed _ _ (c.in_err-gap.ensures.only (p.document - me.before) (count_bytes me.counted p.positions ++ (document_bytes me.counted p.document after ++ s.stands.behind_block)) (omega (arith, f.fits.document)) f.here))

pub returns-in_err-count-clause-only : goal.returns-in_err-count-clause-only
returns-in_err-count-clause-only c told passed after p left s =
    let me = c.args.self.now in
    let f = has_front me passed after p s.stands in
    let rest = count_bytes me.counted p.positions ++ (document_bytes me.counted p.document after ++ s.stands.behind_block) in
    let a = number_read me.postings.now rest me.at (p.document - me.before) c.in_ok-gap.gap c.in_ok-gap.behind_gap f.here (c.in_ok-gap.ensures.only (p.document - me.before) rest (omega (arith, f.fits.document)) f.here) in
    absurd (c.in_err-count.ensures.only p (document_bytes me.counted p.document after ++ s.stands.behind_block) f.fits f.few_positions a.1)

pub returns-then-gap-from-clause-only : goal.returns-then-gap-from-clause-only
returns-then-gap-from-clause-only c told passed after p left s =
    let me = c.args.self.now in
    let f = has_front me passed after p s.stands in
    let rest = count_bytes me.counted p.positions ++ (document_bytes me.counted p.document after ++ s.stands.behind_block) in
    let a = number_read me.postings.now rest me.at (p.document - me.before) c.in_ok-gap.gap c.in_ok-gap.behind_gap f.here (c.in_ok-gap.ensures.only (p.document - me.before) rest (omega (arith, f.fits.document)) f.here) in
    absurd (omega (arith, a.0, f.fits.document, f.not_below))

pub returns-clause-only : goal.returns-clause-only
returns-clause-only c told passed after p left s =
    let me = c.args.self.now in
    let f = has_front me passed after p s.stands in
    let rest = count_bytes me.counted p.positions ++ (document_bytes me.counted p.document after ++ s.stands.behind_block) in
    let a = number_read me.postings.now rest me.at (p.document - me.before) c.in_ok-gap.gap c.in_ok-gap.behind_gap f.here (c.in_ok-gap.ensures.only (p.document - me.before) rest (omega (arith, f.fits.document)) f.here) in
    let b = c.in_ok-count.ensures.only p (document_bytes me.counted p.document after ++ s.stands.behind_block) f.fits f.few_positions a.1 in
    let document : me.before + c.in_ok-gap.gap ≡ p.document = omega (arith, a.0, f.not_below) in
    let skipped : c.in-Some.skipped ≡ me.place.skipped + me.place.count = c.in-Some.ensures.1 in (
      ap given document,
      record {
        stands = pass_stands me _ _ _ _ _ _ _ _ _ _ passed after p s.stands (omega arith) refl document skipped b.0 b.1;
        positions = λ t.
            let h = s.positions t in
            record {
              at = pass_place me.positions.now me.place _ left after p h.at f.fits.numbers f.fits.rising refl skipped b.0 refl;
              behind_block = h.behind_block;
              block = block_positions me.positions.now me.positions_block passed after p h.behind_block h.block;
            };
      },
    )
