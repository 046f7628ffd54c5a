use Rattle.std.specs.Prelude.{codes, ◌++◌}
use Rattle.node_run.proofs.Bad.{handed_on}
use Rattle.node_run.proofs.Begins.{assign_only}
use Rattle.node_run.proofs.Splitting.{has_names, number_is, names_are, rest_at_none, rest_at_some}
use Rattle.node_run.specs.Lines.{Spells}
use Rattle.node_run.specs.Seen.{seen}
use Rattle.node_run.proofs.line.assign_line.Goals as goal

pub returns-in_default : goal.returns-in_default
returns-in_default c = λ line s.
    let is = assign_only c.args.rest.now line s in
    has_names c.args.rest.now c.first_word.result.0.now c.first_word.ensures.word is
    (rest_at_none c.args.rest.now c.first_word.result.0.now c.first_word.result.1 c.in_default.is c.first_word.ensures.none)

pub returns-in_err-indexer : goal.returns-in_err-indexer
returns-in_err-indexer c =
    handed_on (λ line. Spells (codes "assign " ++ c.args.rest.now) (seen line)) c.from_residual.result c.in_err-indexer.field-0.0 c.from_residual.ensures.1
    (λ bad line s.
    let is = assign_only c.args.rest.now line s in
    bad is.indexer is.below
    (number_is c.args.rest.now c.first_word.result.0.now c.first_word.ensures.word is c.in-Some.names.now
    (rest_at_some (λ b. b.now) c.args.rest.now c.first_word.result.0.now c.first_word.result.1 c.in-Some.names c.in-Some.is c.first_word.ensures.some)))
    c.in_err-indexer.ensures

pub returns-in_err-partitions : goal.returns-in_err-partitions
returns-in_err-partitions c =
    handed_on (λ line. Spells (codes "assign " ++ c.args.rest.now) (seen line)) c.from_residual-in_err-partitions.result c.in_err-partitions.field-0.0
    c.from_residual-in_err-partitions.ensures.1
    (λ bad line s.
    let is = assign_only c.args.rest.now line s in
    bad is.names is.are
    (names_are c.args.rest.now c.first_word.result.0.now c.first_word.ensures.word is c.in-Some.names.now
    (rest_at_some (λ b. b.now) c.args.rest.now c.first_word.result.0.now c.first_word.result.1 c.in-Some.names c.in-Some.is c.first_word.ensures.some)))
    c.in_err-partitions.ensures
