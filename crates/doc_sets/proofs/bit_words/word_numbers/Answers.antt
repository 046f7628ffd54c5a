use Rattle.std.proofs.Common.{◌++◌, ◌+◌, ◌-◌, ap, sym, take, w64, arith, ◌∙◌, append-nil}
use Rattle.std.specs.Int.{trailing_zeros}
use Rattle.std.proofs.lemmas.Nat.{and_le_r}
use Rattle.std.proofs.lemmas.List.{length-set, take_more_set}
use Rattle.doc_sets.proofs.LowestBit.{word_more, word_none, word_room}
use Rattle.doc_sets.proofs.bit_words.word_numbers.Goals as goal

pub bounds-found-count : goal.bounds-found-count
bounds-found-count c =
    let i = c.loop-left.invariant in
    word_room c.args.word c.loop-left.left c.args.first c.loop-left.count c.loop-left.found i.room i.within (omega arith) i.fits i.only

pub loop-left-preserved : goal.loop-left-preserved
loop-left-preserved c =
    let i = c.loop-left.invariant in
    let room = word_room c.args.word c.loop-left.left c.args.first c.loop-left.count c.loop-left.found i.room i.within (omega arith) i.fits i.only in
    record {
      within = omega (arith, room);
      fits = omega (arith, i.fits, and_le_r c.loop-left.left (c.loop-left.left - 1));
      room = length-set c.loop-left.found c.loop-left.count _ ∙ i.room;
      only = word_more c.args.word c.loop-left.left c.args.first (take c.loop-left.count c.loop-left.found) _ (omega arith) i.fits
          (take_more_set c.loop-left.found c.loop-left.count (c.args.first + trailing_zeros w64 c.loop-left.left) (omega (arith, room, i.room))) i.only;
    }

pub returns-clause-only : goal.returns-clause-only
returns-clause-only c =
    sym (ap (λ l. take c.loop-left.count c.loop-left.found ++ l) (word_none c.loop-left.left c.args.first (omega arith)) ∙ append-nil (take c.loop-left.count c.loop-left.found)) ∙ c.loop-left.invariant.only
