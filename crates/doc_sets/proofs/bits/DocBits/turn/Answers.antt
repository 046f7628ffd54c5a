use Rattle.std.proofs.Common.{◌≡◌, ◌-◌, ◌∙◌, ap, nat_eq, length, arith}
use Rattle.std.proofs.lemmas.List.{with_items_is}
use Rattle.doc_sets.specs.BitWords.{bit_of}
use Rattle.doc_sets.proofs.WordBits.{bit_below}
use Rattle.doc_sets.proofs.BitTests.{test_not}
use Rattle.doc_sets.proofs.bits.DocBits.turn.Goals as goal

pub returns-clause-has : goal.returns-clause-has
returns-clause-has c = λ k lt.
    let h = c.turn_below.ensures.below k lt in
    let v = c.deref_mut.ensures.value in
    let e : bit_of c.turn_below.new.words k ≡ 1 - bit_of c.args.self.now.words.items k = cc in
    let len : length c.turn_below.new.words ≡ c.args.self.now.words.len = omega (arith, c.turn_below.auto.words, c.deref_mut.ensures.len) in
    ap (λ ws. nat_eq (bit_of ws k) 1) (with_items_is c.args.self.now.words c.turn_below.new.words len) ∙ test_not (bit_of c.args.self.now.words.items k) _ e (bit_below c.args.self.now.words.items k)
