use Rattle.std.proofs.Common.{◌≡◌, ap, ◌∙◌, nat_eq, length, arith, max}
use Rattle.std.proofs.lemmas.List.{with_items_is}
use Rattle.doc_sets.specs.BitWords.{bit_of}
use Rattle.doc_sets.proofs.WordBits.{bit_below}
use Rattle.doc_sets.proofs.BitTests.{test_or}
use Rattle.doc_sets.proofs.bits.DocBits.add.Goals as goal

pub returns-clause-has : goal.returns-clause-has
returns-clause-has c = λ k.
    let h = c.or_words.ensures k in
    let v = c.deref_mut.ensures.value in
    let w = c.deref.ensures.value in
    let e : bit_of c.or_words.new.words k ≡ max (bit_of c.args.self.now.words.items k) (bit_of c.args.other.now.words.items k) = cc in
    let len : length c.or_words.new.words ≡ c.args.self.now.words.len = omega (arith, c.or_words.auto.words, c.deref_mut.ensures.len) in
    ap (λ ws. nat_eq (bit_of ws k) 1) (with_items_is c.args.self.now.words c.or_words.new.words len) ∙ test_or (bit_of c.args.self.now.words.items k) (bit_of c.args.other.now.words.items k) _ e (bit_below c.args.self.now.words.items k) (bit_below c.args.other.now.words.items k)
