use Rattle.std.proofs.Common.{◌≡◌, ap, ◌∙◌, nat_eq, length, arith, min}
use Rattle.std.proofs.lemmas.List.{with_items_is}
use Rattle.doc_sets.specs.BitWords.{bit_of}
use Rattle.doc_sets.proofs.WordBits.{bit_below}
use Rattle.doc_sets.proofs.BitTests.{test_and}
use Rattle.doc_sets.proofs.bits.DocBits.keep.Goals as goal

pub returns-clause-has : goal.returns-clause-has
returns-clause-has c = λ k.
    let h = c.and_words.ensures k in
    let v = c.deref_mut.ensures.value in
    let w = c.deref.ensures.value in
    let e : bit_of c.and_words.new.words k ≡ min (bit_of c.args.self.now.words.items k) (bit_of c.args.other.now.words.items k) = cc in
    let len : length c.and_words.new.words ≡ c.args.self.now.words.len = omega (arith, c.and_words.auto.words, c.deref_mut.ensures.len) in
    ap (λ ws. nat_eq (bit_of ws k) 1) (with_items_is c.args.self.now.words c.and_words.new.words len) ∙ test_and (bit_of c.args.self.now.words.items k) (bit_of c.args.other.now.words.items k) _ e (bit_below c.args.self.now.words.items k) (bit_below c.args.other.now.words.items k)
