use Rattle.std.proofs.Common.{◌≡◌, ◌<◌, ◌+◌, ℕ, true, false, drop, length, get_or, ap, sym, arith, ◌∙◌}
use Rattle.doc_sets.specs.Asked.{is_among}
use Rattle.doc_sets.proofs.DistanceLaws.{front_step, others_stay, rising_order, seen_first}
use Rattle.doc_sets.proofs.distances.put_in_front.Goals as goal
use Rattle.doc_sets.proofs.distances.put_in_front.Goals.{then-stands_there, else-stands_there}

pub loop-number-preserved : goal.loop-number-preserved
loop-number-preserved c =
    let i = c.loop-number.number in
    let inv = c.loop-number.invariant in
    let starts = c.loop-number.starts in
    let orig = c.args.starts.now in
    let places = c.args.places.now in
    let far = c.args.distance in
    let len : length starts ≡ length orig = omega arith in
    let here : i < length orig = omega arith in
    let same : get_or starts i 0 ≡ get_or orig i 0 = inv.rest i (omega arith) in
    let m = get_or starts i 0 + far in
    elim c.if-stands_there.branch [
      | then-stands_there w ↦ record {
        kept = omega (arith, inv.kept, w.kept-is);
        at = c.first_behind-at.ensures.within;
        rest = λ j low. others_stay starts c.if-stands_there.starts orig c.loop-number.kept i j true inv.kept low w.starts-is (inv.rest j (omega arith));
        only = λ rising_starts rising_places.
            let before = inv.only rising_starts rising_places in
            let seen : is_among (get_or orig i 0 + far) places ≡ true =
            ap (λ (x : ℕ). is_among (x + far) places) (sym same)
            ∙ (seen_first m c.loop-number.at c.first_behind-at.result places c.stands_there.result rising_places (c.first_behind-at.ensures.others m (omega arith)) c.first_behind-at.ensures.first c.stands_there.ensures
            (ap (λ (x : ℕ). is_among (x + far) (drop c.loop-number.at places)) same ∙ (before.1 i (omega arith) here ∙ ap (λ (x : ℕ). is_among (x + far) places) (sym same)))
            ∙ w.if-stands_there.true) in (
              front_step (λ start. is_among (start + far) places) starts c.if-stands_there.starts orig c.loop-number.kept c.if-stands_there.kept i true inv.kept here len same seen w.starts-is w.kept-is before.0,
              λ j low lt. c.first_behind-at.ensures.others (get_or orig j 0 + far) (let order = rising_order i j orig rising_starts (omega arith) lt in omega (arith, order, same)) ∙ before.1 j (omega arith) lt,
            );
      }
      | else-stands_there w ↦ record {
        kept = omega (arith, inv.kept, w.kept-is);
        at = c.first_behind-at.ensures.within;
        rest = λ j low. others_stay starts c.if-stands_there.starts orig c.loop-number.kept i j false inv.kept low w.starts-is (inv.rest j (omega arith));
        only = λ rising_starts rising_places.
            let before = inv.only rising_starts rising_places in
            let seen : is_among (get_or orig i 0 + far) places ≡ false =
            ap (λ (x : ℕ). is_among (x + far) places) (sym same)
            ∙ (seen_first m c.loop-number.at c.first_behind-at.result places c.stands_there.result rising_places (c.first_behind-at.ensures.others m (omega arith)) c.first_behind-at.ensures.first c.stands_there.ensures
            (ap (λ (x : ℕ). is_among (x + far) (drop c.loop-number.at places)) same ∙ (before.1 i (omega arith) here ∙ ap (λ (x : ℕ). is_among (x + far) places) (sym same)))
            ∙ w.if-stands_there.false) in (
              front_step (λ start. is_among (start + far) places) starts c.if-stands_there.starts orig c.loop-number.kept c.if-stands_there.kept i false inv.kept here len same seen w.starts-is w.kept-is before.0,
              λ j low lt. c.first_behind-at.ensures.others (get_or orig j 0 + far) (let order = rising_order i j orig rising_starts (omega arith) lt in omega (arith, order, same)) ∙ before.1 j (omega arith) lt,
            );
      }
    ]
