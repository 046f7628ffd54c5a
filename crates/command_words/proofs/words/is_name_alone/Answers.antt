use Rattle.std.proofs.Common.{◌∙◌, sym, subst}
use Rattle.command_words.specs.Parsing.{IsParse}
use Rattle.command_words.proofs.Alone.{is_alone}
use Rattle.command_words.proofs.words.is_name_alone.Goals as goal

pub returns : goal.returns
returns c =
    let alone = is_alone c.args.name.now c.args.words.now c.in_ok-matches.matches
    (subst (λ a. IsParse a c.args.words.now c.in_ok-matches.matches) c.new-command.ensures.app c.in_ok-matches.ensures) in
    (λ some. alone.0 (sym c.is_some.ensures ∙ some), λ few. c.is_some.ensures ∙ alone.1 few)
