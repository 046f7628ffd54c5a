use Rattle.std.proofs.Common.{◌≡◌, ◌∙◌, ap, ◌-◌, ◌+◌, ℕ, arith, subst, refl, sym, rules}
use Rattle.term_postings.specs.Reading.{heads_behind}
use Rattle.term_postings.proofs.Heads.{HeadsAt, heads_start, heads_step, heads_read, heads_end}
use Rattle.term_postings.proofs.Exact.{heads_done, heads_next}
use Rattle.term_postings.proofs.moves.behind_heads.Goals as goal

pub loop-number-init : goal.loop-number-init
loop-number-init c = (omega arith, λ counted before ps rest behind count e. heads_start _ _ _ counted before ps rest behind count (omega arith) e, ap (λ (n : ℕ). heads_behind n c.args.postings.now 0) (omega arith))

pub loop-number-preserved : goal.loop-number-preserved
loop-number-preserved c = (
  c.in_ok-at.ensures.within,
  λ counted before ps rest behind count e.
      let next : c.args.count - c.loop-number._number - 1 ≡ c.args.count - (c.loop-number._number + 1) = omega arith in
      subst (λ (n : ℕ). HeadsAt c.args.postings.now c.in_ok-at.field-0.next n counted rest) next
      (heads_step c.args.postings.now c.loop-number.at (c.args.count - c.loop-number._number) counted rest c.in_ok-at.field-0 (c.loop-number.invariant.1 counted before ps rest behind count e)
      (omega arith) c.in_ok-at.ensures.only),
  sym (
      heads_next c.args.postings.now c.args.count c.loop-number._number c.loop-number.at (heads_behind c.args.count c.args.postings.now 0) c.loop-number.invariant.2 (omega arith)
      ∙ rw (sym c.in_ok-at.ensures.exact) refl
      ),
)

pub returns-in_err-at-clause-only : goal.returns-in_err-at-clause-only
returns-in_err-at-clause-only c counted before ps rest behind count e =
    absurd (heads_read c.args.postings.now c.loop-number.at (c.args.count - c.loop-number._number) counted rest (c.loop-number.invariant.1 counted before ps rest behind count e) (omega arith) c.in_err-at.ensures.only)

pub returns-clause-only : goal.returns-clause-only
returns-clause-only c counted before ps rest behind count e =
    heads_end c.args.postings.now c.loop-number.at (c.args.count - c.loop-number._number) counted rest (c.loop-number.invariant.1 counted before ps rest behind count e) (omega arith)

pub returns-in_err-at-clause-exact : goal.returns-in_err-at-clause-exact
returns-in_err-at-clause-exact c =
    rw (
      heads_next c.args.postings.now c.args.count c.loop-number._number c.loop-number.at (heads_behind c.args.count c.args.postings.now 0) c.loop-number.invariant.2 (omega arith),
      sym c.in_err-at.ensures.exact,
    ) (search rules)

pub returns-clause-exact : goal.returns-clause-exact
returns-clause-exact c =
    sym (heads_done c.args.postings.now c.args.count c.loop-number._number c.loop-number.at (heads_behind c.args.count c.args.postings.now 0) c.loop-number.invariant.2 (omega arith))
