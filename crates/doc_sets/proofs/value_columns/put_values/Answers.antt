use Rattle.std.proofs.Common.{◌≡◌, ◌∙◌, ◌<◌, ◌≤◌, true, length, refl, sym, subst, arith}
use Rattle.doc_sets.specs.Bits.{has}
use Rattle.doc_sets.specs.Ranged.{document_if}
use Rattle.doc_sets.specs.Reads.{are_below}
use Rattle.doc_sets.proofs.Columned.{all_at, all_put, entry_at, entry_put}
use Rattle.doc_sets.proofs.ReadColumns.{value_below, value_put}
use Rattle.doc_sets.proofs.value_columns.put_values.Goals as goal

pub loop-place-preserved : goal.loop-place-preserved
loop-place-preserved c =
    let r = c.args.range in
    let column = c.args.column.now in
    let place = c.loop-place.place in
    let size = c.args.bits.now.size in
    let i = c.loop-place.invariant in
    let lt : place < column.count = omega (arith, c.loop-place-test.true, c.len-place-end.ensures) in
    let put = c.in_ok-put_place.ensures.exact in
    record {
      size = c.put_place.ensures.size ∙ i.size;
      only = λ texts entries holds below k.
          let at = entry_at entries place (omega (arith, lt, holds.count_is)) in
          let small : at.entry.document < c.loop-place.bits.size = subst (λ m. at.entry.document < m) (sym i.size) (all_at (λ e. e.document < size) entries place at.entry below at.here) in
          entry_put r k place entries at (has c.put_place.new.bits k) (has c.loop-place.bits k) _ ((c.in_ok-put_place.ensures.only texts entries at.entry holds at.here small).1 k) (i.only texts entries holds below k);
      below = value_below r column size place _ lt (subst (λ m. are_below m (document_if r column place) ≡ true) i.size put.0) i.below;
      exact = λ k. value_put r column k place (has c.put_place.new.bits k) (has c.loop-place.bits k) _ lt (put.1 k) (i.exact k);
    }

pub returns-in_err-put_place-clause-only : goal.returns-in_err-put_place-clause-only
returns-in_err-put_place-clause-only c = λ texts entries holds below.
    let place = c.loop-place.place in
    let i = c.loop-place.invariant in
    let lt : place < c.args.column.now.count = omega (arith, c.loop-place-test.true, c.len-place-end.ensures) in
    let at = entry_at entries place (omega (arith, lt, holds.count_is)) in
    let small : at.entry.document < c.loop-place.bits.size = subst (λ m. at.entry.document < m) (sym i.size) (all_at (λ e. e.document < c.args.bits.now.size) entries place at.entry below at.here) in
    let bad = (c.in_err-put_place.ensures.only texts entries at.entry holds at.here small).0 in
    absurd (cc)

pub returns-clause-only : goal.returns-clause-only
returns-clause-only c = λ texts entries holds below.
    let place = c.loop-place.place in
    let past : length entries ≤ place = omega (arith, c.loop-place-test.false, c.len-place-end.ensures, holds.count_is) in
    (refl, λ k. all_put c.args.range k place entries (has c.loop-place.bits k) _ past (c.loop-place.invariant.only texts entries holds below k))
