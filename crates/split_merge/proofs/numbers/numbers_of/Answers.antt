use Rattle.std.proofs.Common.{ℕ, ◌+◌, ◌∙◌, drop, length, refl, subst, sym, ap, arith}
use Rattle.std.proofs.lemmas.Option.{slice_get_read}
use Rattle.split_merge.specs.Keeping.{RiseFrom}
use Rattle.split_merge.specs.Numbering.{kept_count, table_of}
use Rattle.split_merge.proofs.KeptLemmas.{drop_view}
use Rattle.split_merge.proofs.TableLemmas.{kept_step, tables_step}
use Rattle.split_merge.proofs.numbers.numbers_of.Goals as goal

pub loop-view-preserved : goal.loop-view-preserved
loop-view-preserved c =
    let there = slice_get_read c.args.views.now (length c.args.views.now) c.loop-view.view-index c.view-item.result refl (omega (arith, c.loop-view-test.true)) c.view-item.is in
    let docs = c.from-first.ensures ∙ c.doc_count-docs.ensures.exact in
    let made = c.in_ok-numbers.field-0 in
    record {
      room = omega (arith, c.loop-view.invariant.room, c.from-first.ensures);
      rise = subst (λ (n : ℕ). RiseFrom (c.loop-view.first + n) made.places.now) (sym c.from-first.ensures) c.in_ok-numbers.ensures.rise;
      tables = tables_step c.loop-view.places.now made.places.now c.loop-view.first (c.loop-view.first + c.from-first.result) c.loop-view.next made.next _ c.view-item.result (drop (c.loop-view.view-index + 1) c.args.views.now)
          c.loop-view.tables.items c.push.new.self.items _ made.numbers (drop_view c.args.views.now c.loop-view.view-index c.view-item.result there) (omega (arith, docs))
          (c.in_ok-numbers.ensures.next ∙ ap (λ (n : ℕ). c.loop-view.next + kept_count c.loop-view.places.now c.loop-view.first n) c.doc_count-docs.ensures.exact)
          (c.in_ok-numbers.ensures.numbers ∙ ap (λ (n : ℕ). table_of c.loop-view.places.now c.loop-view.first c.loop-view.next n) c.doc_count-docs.ensures.exact)
          (λ m lt. c.in_ok-numbers.ensures.same m (omega (arith, lt, c.from-first.ensures)))
          c.in_ok-push.ensures.items c.loop-view.invariant.tables;
      small = c.in_ok-numbers.ensures.small;
      few = kept_step c.loop-view.places.now made.places.now c.loop-view.first (c.loop-view.first + c.from-first.result) c.loop-view.next made.next _ c.view-item.result (drop (c.loop-view.view-index + 1) c.args.views.now) _
          (drop_view c.args.views.now c.loop-view.view-index c.view-item.result there) (omega (arith, docs)) (c.in_ok-numbers.ensures.next ∙ ap (λ (n : ℕ). c.loop-view.next + kept_count c.loop-view.places.now c.loop-view.first n) c.doc_count-docs.ensures.exact)
          (λ m lt. c.in_ok-numbers.ensures.same m (omega (arith, lt, c.from-first.ensures))) c.loop-view.invariant.few;
    }
