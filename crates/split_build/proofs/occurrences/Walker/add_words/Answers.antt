use Rattle.std.proofs.Common.{arith, refl}
use Rattle.split_build.proofs.WordWalks.{none_taken, byte_taken, all_taken}
use Rattle.split_build.proofs.occurrences.Walker.add_words.Goals as goal

pub loop-byte-init : goal.loop-byte-init
loop-byte-init c = none_taken c.args.terms.now c.args.kept c.args.number c.args.document c.args.value c.put_key.new.key.items c.args.text.now c.in_ok-put_key.ensures

pub take_byte-requires-clause-position : goal.take_byte-requires-clause-position
take_byte-requires-clause-position c = omega (arith, c.loop-byte.invariant.few, c.loop-byte-test.true, c.requires.short)

pub loop-byte-preserved : goal.loop-byte-preserved
loop-byte-preserved c =
    let h = c.loop-byte.invariant in
    byte_taken c.args.terms.now c.loop-byte.terms c.take_byte.new.terms c.args.kept c.args.number c.args.document c.args.value c.loop-byte.position _ c.loop-byte.byte-index _ c.loop-byte.self.key.items c.take_byte.new.self.key.items c.args.text.now
    c.loop-byte-test.true refl h (c.in_ok-position.ensures.key c.args.number h.word h.key_is) (c.in_ok-position.ensures.position c.args.number h.word h.key_is) (λ s kept. c.in_ok-position.ensures.added s c.args.number h.word kept h.key_is)

pub end_word-requires-clause-position : goal.end_word-requires-clause-position
end_word-requires-clause-position c = omega (arith, c.loop-byte.invariant.few, c.loop-byte.auto.byte-index-end, c.requires.short)

pub returns : goal.returns
returns c = λ s kept.
    let h = c.loop-byte.invariant in
    all_taken c.args.terms.now c.loop-byte.terms c.end_word.new.terms s c.args.kept c.args.number c.args.document c.args.value c.loop-byte.position c.loop-byte.byte-index c.loop-byte.self.key.items c.args.text.now
    (omega (arith, c.loop-byte-test.false)) c.requires.ascii kept h (c.in_ok-end_word.ensures.added s c.args.number h.word kept h.key_is)
