-- The words of `run`: what its command of clap makes of them.
use Rattle.std.proofs.Common.{String, Global, string_bytes, ◌≡◌, true, List, [], ◌∷◌, map, drop, fold, Option, Some, None, refl, ap, ◌∙◌, codes, option_and_then}
use Rattle.clap.specs.Faults.{is_simple_and_free}
use Rattle.clap.specs.Matches.{found_of}
use Rattle.clap.specs.Simple.{built}
use Rattle.clap.specs.Walk.{Row, Rule, rows_of, with_default}
use Rattle.clap.specs.declared.parser.matches.ArgMatches.{ArgMatches}
use Rattle.command_words.specs.Options.{Given, given_by}
use Rattle.command_words.specs.Parsing.{IsParse, app_for, is_told, number_told}
use Rattle.command_words.specs.Words.{run_form, run_given, run_of, run_with}
use Rattle.command_words.specs.declared.run.RunOptions.{RunOptions}
use Rattle.command_words.proofs.Forms.{help_defaults, help_required, long_help, short_help}
use Rattle.command_words.proofs.Parse.{Sees, sees}
use Rattle.command_words.proofs.Telling.{flag_is, number_is}
use Rattle.command_words.proofs.Values.{help, rows}
use Rattle.command_words.proofs.Walk.{app, rules}

abbrev run_rules : List Rule
run_rules = rules (codes "run") run_form (help ∷ []) long_help short_help

run_built : built (app_for (codes "run") run_form) ≡ app (codes "run") run_form (help ∷ []) long_help short_help
run_built = refl

run_simple : is_simple_and_free (app_for (codes "run") run_form) ≡ true
run_simple = refl

abbrev RunSees : Option (List Given) → Option ArgMatches → Type 0
RunSees = Sees (codes "run") run_form (help ∷ []) long_help short_help help_defaults help_required refl run_built run_simple

-- what the matches tell of a run
abbrev pub run_told : List Row → Option RunOptions
run_told told = run_with (number_told (codes "indexers") told) (number_told (codes "searchers") told) (number_told (codes "turns") told)
    (is_told (codes "settle") told) (is_told (codes "progress") told)

told_given : (given : List Given) → run_told (fold with_default (rows given) run_rules) ≡ run_given given
told_given given =
    let indexers = number_is (codes "indexers") run_rules given refl in
    let searchers = number_is (codes "searchers") run_rules given refl in
    let turns = number_is (codes "turns") run_rules given refl in
    let settle = flag_is (codes "settle") run_rules given refl in
    let progress = flag_is (codes "progress") run_rules given refl in
    λ i. run_with (indexers i) (searchers i) (turns i) (settle i) (progress i)

module _ (words : List (String Global)) where
  pub run_refused : IsParse (app_for (codes "run") run_form) words None → None ≡ run_of (drop 1 (map string_bytes words))
  run_refused parse = go (given_by run_form (drop 1 (map string_bytes words))) (sees (codes "run") run_form (help ∷ []) long_help short_help help_defaults help_required refl run_built run_simple words None parse)
    where
      go : (r : Option (List Given)) → RunSees r None → None ≡ option_and_then run_given r
      go None seen = refl
      go (Some given) seen = absurd seen

  pub run_read : (matches : ArgMatches) → IsParse (app_for (codes "run") run_form) words (Some matches) → run_told (rows_of (found_of matches)) ≡ run_of (drop 1 (map string_bytes words))
  run_read matches parse = go (given_by run_form (drop 1 (map string_bytes words))) (sees (codes "run") run_form (help ∷ []) long_help short_help help_defaults help_required refl run_built run_simple words (Some matches) parse)
    where
      go : (r : Option (List Given)) → RunSees r (Some matches) → run_told (rows_of (found_of matches)) ≡ option_and_then run_given r
      go None seen = absurd seen
      go (Some given) seen = ap run_told seen ∙ told_given given
