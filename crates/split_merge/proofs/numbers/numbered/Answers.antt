use Rattle.std.proofs.Common.{◌≡◌, ℕ, suc, ◌+◌, ◌-◌, ◌<◌, ◌∙◌, ap, arith, subst, sym}
use Rattle.std.proofs.lemmas.Result.{IfOk-weaker}
use Rattle.split_merge.specs.declared.numbers.ViewNumbers.{ViewNumbers}
use Rattle.split_merge.specs.HeldNumbers.{rising}
use Rattle.split_merge.specs.Keeping.{is_named, RiseFrom}
use Rattle.split_merge.specs.Numbering.{kept_count, table_of}
use Rattle.split_merge.proofs.RisingLemmas.{count_rising, table_rising}
use Rattle.split_merge.proofs.TableLemmas.{table_step, count_step}
use Rattle.split_merge.proofs.numbers.numbered.Goals as goal

pub rise_from-requires : goal.rise_from-requires
rise_from-requires c = (c.args.first, c.requires.rise)

pub returns-then-rise_from : goal.returns-then-rise_from
returns-then-rise_from c =
    let docs = c.args.docs in
    let places = c.args.places.now in
    let first = c.args.first in
    let next = c.args.next in
    let made = c.all_numbered in
    let rise : RiseFrom (first + docs) places = subst (λ (n : ℕ). RiseFrom (first + n) places) c.from.ensures (c.rise_from.ensures.0 c.if-rise_from.true) in
    record {
      numbers = IfOk-weaker made.result (λ (n : ViewNumbers). n.numbers ≡ rising next docs) (λ (n : ViewNumbers). n.numbers ≡ table_of places first next docs) (λ n is. is ∙ sym (table_rising places first next docs rise)) made.ensures.numbers;
      rise = IfOk-weaker made.result (λ (n : ViewNumbers). n.places.now ≡ places) (λ (n : ViewNumbers). RiseFrom (first + docs) n.places.now) (λ n is. subst (RiseFrom (first + docs)) (sym is) rise) made.ensures.places;
      same = IfOk-weaker made.result (λ (n : ViewNumbers). n.places.now ≡ places) (λ (n : ViewNumbers). (m : ℕ) → first + docs < m + 1 → is_named m n.places.now ≡ is_named m places) (λ n is m lt. ap (is_named m) is) made.ensures.places;
      next = IfOk-weaker made.result (λ (n : ViewNumbers). n.next ≡ next + docs) (λ (n : ViewNumbers). n.next ≡ next + kept_count places first docs) (λ n is. is ∙ ap (λ (k : ℕ). next + k) (sym (count_rising places first docs rise))) made.ensures.next;
      small = made.ensures.small;
    }

pub loop-doc-preserved : goal.loop-doc-preserved
loop-doc-preserved c =
    let rest = c.loop-doc.rest.now in
    let behind = c.passed-dropped.result.1.now in
    let more = c.args.docs - (c.loop-doc.doc + 1) in
    let left : c.args.docs - c.loop-doc.doc ≡ suc (c.args.docs - (c.loop-doc.doc + 1)) = omega (arith, c.loop-doc-test.true) in
    record {
      place = omega (arith, c.loop-doc.invariant.place);
      rise = c.passed-dropped.ensures.rise;
      same = λ m lt. c.passed-dropped.ensures.same m (omega (arith, lt)) ∙ c.loop-doc.invariant.same m (omega (arith, lt));
      table = table_step rest behind c.loop-doc.place c.loop-doc.number (c.args.docs - c.loop-doc.doc) more left c.passed-dropped.ensures.same c.passed-dropped.result.0 c.in_ok-entry.entry c.in_ok-entry.above c.loop-doc.table.items _ _
          c.passed-dropped.ensures.named c.in_ok-entry.ensures.entry c.in_ok-entry.ensures.next c.in_ok-push.ensures.items c.loop-doc.invariant.table;
      small = c.in_ok-entry.ensures.small;
      count = count_step rest behind c.loop-doc.place c.loop-doc.number (c.args.docs - c.loop-doc.doc) more left c.passed-dropped.ensures.same c.passed-dropped.result.0 c.in_ok-entry.above _
          c.passed-dropped.ensures.named c.in_ok-entry.ensures.next c.loop-doc.invariant.count;
    }
