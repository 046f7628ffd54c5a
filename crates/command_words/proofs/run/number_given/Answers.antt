use Rattle.std.proofs.Common.{ap, ◌∙◌, option_and_then}
use Rattle.std.specs.Str.Parse.{ParsesUnsigned, ExplainsUnsignedError, HasUnsignedDigitsIfOk}
use Rattle.clap.specs.Matches.{found_of, one_text}
use Rattle.clap.proofs.WalkLemmas.{one_text-rows}
use Rattle.command_words.specs.Options.{number_of}
use Rattle.command_words.proofs.Telling.{one_number}
use Rattle.command_words.proofs.run.number_given.Goals as goal

pub returns : goal.returns
returns c =
    let found = found_of c.args.matches.now in
    one_number _ (λ bs r. ParsesUnsigned 64 10 bs r × ExplainsUnsignedError 10 bs r × HasUnsignedDigitsIfOk bs r) (λ bs r g. g.0)
    (one_text found c.args.name.now) c.get_one.result c.get_one.ensures.none c.get_one.ensures.value
    ∙ ap (option_and_then number_of) (one_text-rows found c.args.name.now)
