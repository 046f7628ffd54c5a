use Rattle.std.proofs.Common.{◌∙◌, sym}
use Rattle.clap.proofs.WalkLemmas.{both}
use Rattle.command_words.proofs.parsing.parsed.Goals as goal

pub returns-in-Ok : goal.returns-in-Ok
returns-in-Ok c = λ simple.
    (sym c.has_dashes.ensures ∙ c.if-has_dashes.false, c.in-Ok.ensures.kinds simple, (c.in-Ok.ensures.matches (both _ _ simple).0).0)
