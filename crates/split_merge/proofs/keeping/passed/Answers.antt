use Rattle.std.proofs.Common.{◌∙◌}
use Rattle.split_merge.proofs.KeptLemmas.{other_named}
use Rattle.split_merge.proofs.keeping.passed.Goals as goal

pub returns-else-from-place-clause-named : goal.returns-else-from-place-clause-named
returns-else-from-place-clause-named c =
    other_named c.args.place c.in-Some.first.now c.args.places.now c.in-Some.behind.now c.in-Some.ensures.cases.0 c.requires (λ e. c.if-from-place.false (c.from.ensures ∙ e))
