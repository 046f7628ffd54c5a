use Rattle.std.proofs.Common.{◌∙◌, [], refl, subst, sym}
use Rattle.doc_sets.specs.Bits.{has}
use Rattle.doc_sets.specs.Reads.{PutsRead}
use Rattle.doc_sets.proofs.ReadLists.{nothing_put}
use Rattle.doc_sets.proofs.ReadWalks.{unwanted_read, wanted_read}
use Rattle.doc_sets.proofs.WalkSteps.{wanted_added, unwanted_kept}
use Rattle.doc_sets.proofs.key_walks.add_if_wanted.Goals as goal

pub returns-then-takes-clause-only : goal.returns-then-takes-clause-only
returns-then-takes-clause-only c = λ s documents p test is found flag set.
    wanted_added c.args.part.now s documents p c.args.wanted c.add_term.result c.args.key.now test c.add_term.new.bits (sym c.takes.ensures ∙ c.if-takes.true) (c.add_term.ensures.only s documents p c.args.key.now test is found flag set)

pub returns-else-takes-clause-only : goal.returns-else-takes-clause-only
returns-else-takes-clause-only c = λ s documents p test is found flag set.
    unwanted_kept c.args.part.now s documents p c.args.wanted c.args.key.now test c.args.bits.now (sym c.takes.ensures ∙ c.if-takes.false) set

pub returns-then-takes-clause-exact : goal.returns-then-takes-clause-exact
returns-then-takes-clause-exact c = λ size.
    subst (λ r. PutsRead c.args.bits.now c.add_term.new.bits c.add_term.result r)
    (sym (wanted_read c.args.part.now c.args.positions c.args.wanted (record { key = c.args.key.now; info = c.args.info.now }) (sym c.takes.ensures ∙ c.if-takes.true))) (c.add_term.ensures.exact size)

pub returns-else-takes-clause-exact : goal.returns-else-takes-clause-exact
returns-else-takes-clause-exact c = λ size.
    let bits = c.args.bits.now in
    ([], unwanted_read c.args.part.now c.args.positions c.args.wanted (record { key = c.args.key.now; info = c.args.info.now }) (sym c.takes.ensures ∙ c.if-takes.false), λ k. nothing_put k (has bits k) (has bits k) refl)
