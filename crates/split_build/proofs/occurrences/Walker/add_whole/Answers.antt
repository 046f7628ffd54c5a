use Rattle.std.proofs.Common.{◌≡◌, ◌∙◌, List, OnOk, sym, subst, arith}
use Rattle.split_bundle.specs.Keys.{Occurrence, field_key, value_place}
use Rattle.split_build.specs.Said.{in_document}
use Rattle.split_build.specs.Walks.{Adds}
use Rattle.split_build.proofs.WalkLemmas.{adds_said_ok}
use Rattle.split_build.proofs.WordWalks.{says_none, text_long, text_short}
use Rattle.split_build.proofs.occurrences.Walker.add_whole.Goals as goal

pub returns-then-text-gt-MAX_TOKEN : goal.returns-then-text-gt-MAX_TOKEN
returns-then-text-gt-MAX_TOKEN c = λ s kept. says_none c.args.terms.now s c.args.document _ (text_long c.args.number c.args.value c.args.text.now (omega (arith, c.if-text-gt-MAX_TOKEN.true)))

pub returns : goal.returns
returns c = λ s kept.
    let key : c.deref.result.now ≡ field_key c.args.number c.args.text.now = c.deref.ensures.value ∙ c.in_ok-put_key.ensures in
    let short = text_short c.args.number c.args.value c.args.text.now (omega (arith, c.if-text-gt-MAX_TOKEN.false)) in
    subst (λ (os : List Occurrence). OnOk c.add.result (Adds c.args.terms.now c.add.new.self s (in_document c.args.document os))) (sym short)
    (adds_said_ok c.args.terms.now c.add.new.self s c.args.kept c.deref.result.now (field_key c.args.number c.args.text.now) c.args.document c.place_of.result (value_place c.args.value 0) c.add.result key c.place_of.ensures (kept c.args.text.now)
    (c.add.ensures s))
