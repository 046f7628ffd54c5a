use Rattle.std.proofs.Common.{◌≡◌, ◌++◌, ◌+◌, ℕ, ap, refl, drop, arith, ◌∙◌, take}
use Rattle.term_postings.specs.Postings.{last_document}
use Rattle.term_postings.proofs.Passes.{leaves, leave_stands, leave_block_positions, leave_place, sum_refused}
use Rattle.term_postings.proofs.cursor.Cursor.leave_block.Goals as goal
use Rattle.term_postings.proofs.cursor.Cursor.leave_block.Goals.{then-last-from-via-then-last-from, then-last-from-via-else-last-from+then-head-self}

pub returns-in_default-clause-only : goal.returns-in_default-clause-only
returns-in_default-clause-only c told passed after left rest s w =
    let l = leaves c.args.self.now passed after c.args.head rest s.stands w in
    absurd (sum_refused c.checked_add.result _ _ c.checked_add.ensures l.positions_within c.in_default.not-Some)

pub returns-then-last-from-clause-only : goal.returns-then-last-from-clause-only
returns-then-last-from-clause-only c told passed after left rest s w =
    let l = leaves c.args.self.now passed after c.args.head rest s.stands w in
    let last = c.last-last.ensures in
    elim c.then-last-from.branch [
      | then-last-from-via-then-last-from w ↦ absurd (omega (arith, l.last_small))
      | then-last-from-via-else-last-from+then-head-self w ↦ absurd (omega (arith, l.len_within))
    ]

pub returns-clause-only : goal.returns-clause-only
returns-clause-only c told passed after left rest s w =
    let me = c.args.self.now in
    let l = leaves me passed after c.args.head rest s.stands w in
    let last : c.last-last.result ≡ last_document me.block_before (take 128 (passed ++ after)) = omega (arith, l.last_is, l.last_small, c.last-last.ensures) in
    let block : c.in-Some.positions_block ≡ me.positions_block + c.args.head.positions_len = c.in-Some.ensures.1 in (
      refl,
      record {
        stands = leave_stands me _ _ _ _ c.args.head _ _ _ _ _ passed after rest s.stands w (omega arith) refl last block refl refl;
        positions = λ t.
            let h = s.positions t in
            let place = leave_block_positions me.positions.now me.positions_block c.in-Some.positions_block (passed ++ after) h.behind_block h.block (block ∙ ap (λ (n : ℕ). me.positions_block + n) w.head.positions_len_is) in
            record {
              at = leave_place me.positions.now _ (drop 128 (passed ++ after)) h.behind_block place refl refl;
              behind_block = h.behind_block;
              block = place;
            };
      },
    )
