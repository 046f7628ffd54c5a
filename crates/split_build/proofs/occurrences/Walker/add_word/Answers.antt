use Rattle.std.proofs.Common.{◌≡◌, ◌∙◌, List, OnOk, sym, subst, arith}
use Rattle.split_bundle.specs.Keys.{Occurrence, field_key, value_place}
use Rattle.split_build.specs.Said.{in_document}
use Rattle.split_build.specs.Walks.{Adds}
use Rattle.split_build.proofs.WalkLemmas.{adds_said_ok}
use Rattle.split_build.proofs.WordWalks.{key_size, says_none, word_long, word_short}
use Rattle.split_build.proofs.occurrences.Walker.add_word.Goals as goal

pub returns-then-len : goal.returns-then-len
returns-then-len c = λ s number value position word kept is place some.
    says_none c.args.terms.now s c.args.document _ (word_long number value position word (omega (arith, c.if-len.true, c.len.ensures, c.args.self.now.key.ok.0, key_size c.args.self.now.key.items number word is)))

pub returns : goal.returns
returns c = λ s number value position word kept is place some.
    let key : c.deref.result.now ≡ field_key number word = c.deref.ensures.value ∙ is in
    let short = word_short number value position word some (omega (arith, c.if-len.false, c.len.ensures, c.args.self.now.key.ok.0, key_size c.args.self.now.key.items number word is)) in
    subst (λ (os : List Occurrence). OnOk c.add.result (Adds c.args.terms.now c.add.new.self s (in_document c.args.document os))) (sym short)
    (adds_said_ok c.args.terms.now c.add.new.self s c.args.kept c.deref.result.now (field_key number word) c.args.document c.args.place (value_place value position) c.add.result key place (kept word) (c.add.ensures s))
