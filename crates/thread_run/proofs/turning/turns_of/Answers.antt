use Rattle.std.proofs.Common.{◌≡◌, ◌∙◌, ◌+◌, ◌-◌, ◌++◌, ◌<◌, [], append-nil, ap, arith, refl, subst, sym, suc, zero, ℕ}
use Rattle.thread_run.specs.Sharing.{turns_of}
use Rattle.thread_run.proofs.Turns.{turn_more}
use Rattle.thread_run.proofs.turning.turns_of.Goals.{then-next-count, else-next-count}
use Rattle.thread_run.proofs.turning.turns_of.Goals as goal

pub loop-init : goal.loop-init
loop-init c = (c.args.long, omega arith, c.requires, ap (λ l. l ++ turns_of c.args.count 0 c.args.long) c.new-turns.ensures.items)

pub overflow_add-next : goal.overflow_add-next
overflow_add-next c = let inv = c.loop.invariant.2 in let fits = c.ranges.count in omega (arith, inv, fits)

pub loop-preserved : goal.loop-preserved
loop-preserved c =
    let inv = c.loop.invariant in
    let left = inv.1 in
    let less = inv.2 in
    let test = c.loop-test.true in
    let next = c.loop.next in
    let count = c.args.count in
    let coming = c.if-next-count.next in
    let within : coming < count = elim c.if-next-count.branch [
      | then-next-count w ↦ (let is = w.next-is in omega (arith, is, less))
      | else-next-count w ↦ subst (λ n. n < count) (sym w.next-is) (not_last next count less w.if-next-count.false)
    ] in
    let last : suc next ≡ count → coming ≡ 0 = elim c.if-next-count.branch [
      | then-next-count w ↦ (λ e. w.next-is)
      | else-next-count w ↦ (λ e. absurd (w.if-next-count.false (omega (arith, e))))
    ] in
    let more : (suc next ≡ count → ⊥) → coming ≡ suc next = elim c.if-next-count.branch [
      | then-next-count w ↦ (λ other. absurd (other (let t = w.if-next-count.true in omega (arith, t))))
      | else-next-count w ↦ (λ other. let is = w.next-is in omega (arith, is))
    ] in (
      inv.0 - 1,
      omega (arith, left, test),
      within,
      turn_more count next coming inv.0 c.loop.turns.items c.push.new.self.items last more (omega (arith, left, test)) c.in_ok-push.ensures.items ∙ inv.3,
    )
  where
    not_last : (n m : ℕ) → n < m → (n + 1 ≡ m → ⊥) → n + 1 < m
    not_last n m less other = search arith

pub returns : goal.returns
returns c =
    let inv = c.loop.invariant in
    let left = inv.1 in
    let test = c.loop-test.false in
    let none : inv.0 ≡ 0 = omega (arith, left, test) in
    sym (append-nil c.loop.turns.items) ∙ (ap (λ n. c.loop.turns.items ++ turns_of c.args.count c.loop.next n) (sym none) ∙ inv.3)
