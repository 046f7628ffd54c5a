use Rattle.std.proofs.Common.{◌+◌, ℕ, List, ap, ◌∙◌, sym, subst, inl, inr, arith}
use Rattle.meta_journal.specs.Places.{meta_key}
use Rattle.meta_journal.specs.Loading.{IsBelow}
use Rattle.meta_journal.proofs.KeyOrder.{order, same_key, above_key}
use Rattle.meta_journal.proofs.Pages.{one_judged, other_judged, gap_judged, all_judged}
use Rattle.meta_journal.proofs.loading.judge.Goals as goal

pub returns-then-number-ge-MAX_ENTRIES : goal.returns-then-number-ge-MAX_ENTRIES
returns-then-number-ge-MAX_ENTRIES c =
    let i = c.loop-key.invariant in
    other_judged c.args.keys.now c.args.start c.loop-key.key-index c.key-item.result i.front c.loop-key-test.true c.key-item.is (omega (arith, i.count, i.within)) (inl (omega (arith, i.count)))

pub returns-in-Less : goal.returns-in-Less
returns-in-Less c =
    let i = c.loop-key.invariant in
    let below : IsBelow c.key-item.result (meta_key (c.args.start + c.loop-key.key-index)) = subst (λ (k : List ℕ). IsBelow c.key-item.result k) (c.meta_key.ensures ∙ ap meta_key i.count) (sym c.in-Less.ensures) in
    other_judged c.args.keys.now c.args.start c.loop-key.key-index c.key-item.result i.front c.loop-key-test.true c.key-item.is (omega (arith, i.count, i.within)) (inr below)

pub returns-in-Greater : goal.returns-in-Greater
returns-in-Greater c =
    let i = c.loop-key.invariant in
    let above : IsBelow (meta_key c.loop-key.number) c.key-item.result = above_key c.key-item.result (meta_key c.loop-key.number) (ap (λ (k : List ℕ). order c.key-item.result k) (sym c.meta_key.ensures) ∙ sym c.in-Greater.ensures) in
    gap_judged c.args.keys.now c.args.start c.loop-key.key-index c.loop-key.number c.key-item.result i.front c.loop-key-test.true c.key-item.is i.count (omega arith) above

pub loop-key-preserved : goal.loop-key-preserved
loop-key-preserved c =
    let i = c.loop-key.invariant in
    let same = same_key c.key-item.result c.meta_key.result (sym c.in-Equal.ensures) ∙ c.meta_key.ensures ∙ ap meta_key i.count in
    record {
      front = one_judged c.args.keys.now c.args.start c.loop-key.key-index c.key-item.result i.front c.loop-key-test.true c.key-item.is same;
      count = omega (arith, i.count);
      within = omega arith;
    }

pub returns : goal.returns
returns c =
    let i = c.loop-key.invariant in
    (all_judged c.args.keys.now c.args.start c.loop-key.key-index i.front (omega arith), omega (arith, i.count), i.within)
