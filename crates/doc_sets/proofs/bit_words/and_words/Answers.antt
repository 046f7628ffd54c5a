use Rattle.std.proofs.Common.{◌≡◌, ℕ, ◌<◌, ◌≤◌, ◌⊎◌, inl, inr, get_or, bit_and, ap, sym, ◌∙◌, arith}
use Rattle.std.proofs.lemmas.Bool.{cases_lt}
use Rattle.std.proofs.lemmas.List.{get_or_past}
use Rattle.doc_sets.proofs.WordBits.{bits_and}
use Rattle.doc_sets.proofs.bit_words.and_words.Goals as goal

pub returns : goal.returns
returns c = bits_and c.loop-i.words c.args.words.now c.args.others.now (λ j. go j (cases_lt j c.loop-i.i))
  where
    go : (j : ℕ) → ((j < c.loop-i.i) ⊎ (c.loop-i.i ≤ j)) → get_or c.loop-i.words j 0 ≡ bit_and (get_or c.args.words.now j 0) (get_or c.args.others.now j 0)
    go j (inl lt) = c.loop-i.invariant.before j lt
    go j (inr le) =
        get_or_past c.loop-i.words j 0 (omega arith)
        ∙ sym (ap (λ x. bit_and x (get_or c.args.others.now j 0)) (get_or_past c.args.words.now j 0 (omega arith)) ∙ ap (λ y. bit_and 0 y) (get_or_past c.args.others.now j 0 (omega arith)))
