use Rattle.std.proofs.Common.{ap, sym, Some, ◌∙◌}
use Rattle.clap.specs.Matches.{found_of}
use Rattle.command_words.specs.Parsing.{is_from_words}
use Rattle.command_words.proofs.Telling.{source_is}
use Rattle.command_words.proofs.run.is_given.Goals as goal

pub returns-in-Some-CommandLine : goal.returns-in-Some-CommandLine
returns-in-Some-CommandLine c =
    ap is_from_words (sym (c.in-Some-CommandLine.is ∙ ap Some c.in-Some-CommandLine.field-0-is))
    ∙ source_is (found_of c.args.matches.now) c.args.name.now c.value_source.result c.value_source.ensures

pub returns-in-Some-DefaultValue : goal.returns-in-Some-DefaultValue
returns-in-Some-DefaultValue c =
    ap is_from_words (sym (c.in-Some-DefaultValue.is ∙ ap Some c.in-Some-DefaultValue.field-0-is))
    ∙ source_is (found_of c.args.matches.now) c.args.name.now c.value_source.result c.value_source.ensures

pub returns-in-None : goal.returns-in-None
returns-in-None c =
    ap is_from_words (sym c.in-None.is) ∙ source_is (found_of c.args.matches.now) c.args.name.now c.value_source.result c.value_source.ensures
