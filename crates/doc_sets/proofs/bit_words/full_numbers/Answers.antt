use Rattle.std.proofs.Common.{◌≡◌, ◌+◌, true, refl, ap, sym, take, arith, ◌∙◌}
use Rattle.std.proofs.lemmas.List.{length-set, take_all, take_more_set}
use Rattle.doc_sets.specs.BitWords.{members}
use Rattle.doc_sets.proofs.FullWords.{full_more, full_word}
use Rattle.doc_sets.proofs.bit_words.full_numbers.Goals as goal

pub loop-at-init : goal.loop-at-init
unfolding members
loop-at-init c = record { room = c.told-found; only = refl }

pub loop-at-preserved : goal.loop-at-preserved
loop-at-preserved c =
    let i = c.loop-at.invariant in
    record {
      room = length-set c.loop-at.found c.loop-at.at _ ∙ i.room;
      only = full_more c.args.first c.loop-at.at (take c.loop-at.at c.loop-at.found) _ (take_more_set c.loop-at.found c.loop-at.at (c.args.first + c.loop-at.at) (omega (arith, i.room))) i.only;
    }

pub returns : goal.returns
returns c =
    let i = c.loop-at.invariant in
    let all : c.loop-at.at ≡ 64 = omega (arith, c.loop-at-test.false) in
    sym (take_all 64 c.loop-at.found (omega (arith, i.room)))
    ∙ (ap (λ n. take n c.loop-at.found) (sym all) ∙ (i.only ∙ (ap (λ n. members (λ k. true) c.args.first n) all ∙ full_word c.args.first)))
