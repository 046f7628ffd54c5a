use Rattle.std.proofs.Common.{◌∙◌, ℕ, List, ap, arith}
use Rattle.split_bundle.specs.Keys.{field_key}
use Rattle.split_build.specs.Words.{of_word}
use Rattle.split_build.proofs.WordWalks.{behind_none, behind_some, key_cut, no_word, says_none, some_word}
use Rattle.split_build.proofs.occurrences.Walker.end_word.Goals as goal

pub returns-then-len-le-PREFIX-clause-key : goal.returns-then-len-le-PREFIX-clause-key
returns-then-len-le-PREFIX-clause-key c = λ number word is. is ∙ ap (λ (w : List ℕ). field_key number w) (no_word c.args.self.now.key.items number word is (omega (arith, c.if-len-le-PREFIX.true, c.len.ensures, c.args.self.now.key.ok.0)))

pub returns-then-len-le-PREFIX-clause-position : goal.returns-then-len-le-PREFIX-clause-position
returns-then-len-le-PREFIX-clause-position c = λ number word is. behind_none c.args.position word (no_word c.args.self.now.key.items number word is (omega (arith, c.if-len-le-PREFIX.true, c.len.ensures, c.args.self.now.key.ok.0)))

pub returns-then-len-le-PREFIX-clause-added : goal.returns-then-len-le-PREFIX-clause-added
returns-then-len-le-PREFIX-clause-added c = λ s number word kept is.
    let none = no_word c.args.self.now.key.items number word is (omega (arith, c.if-len-le-PREFIX.true, c.len.ensures, c.args.self.now.key.ok.0)) in
    says_none c.args.terms.now s c.args.document _ (ap (λ (w : List ℕ). of_word number c.args.value c.args.position w) none)

pub returns-clause-key : goal.returns-clause-key
returns-clause-key c = λ number word is. key_cut c.args.self.now.key.items c.truncate.new.self.items number word is c.truncate.ensures.items

pub returns-clause-position : goal.returns-clause-position
returns-clause-position c = λ number word is. behind_some c.args.position word (some_word c.args.self.now.key.items number word is (omega (arith, c.if-len-le-PREFIX.false, c.len.ensures, c.args.self.now.key.ok.0)))

pub returns-clause-added : goal.returns-clause-added
returns-clause-added c = λ s number word kept is.
    c.in_ok-add_word.ensures s number c.args.value c.args.position word kept is c.place_of.ensures (some_word c.args.self.now.key.items number word is (omega (arith, c.if-len-le-PREFIX.false, c.len.ensures, c.args.self.now.key.ok.0)))
