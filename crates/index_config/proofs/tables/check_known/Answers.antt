use Rattle.std.proofs.Common.{◌++◌, append_assoc, sym, ap, ◌∙◌}
use Rattle.toml.specs.View.{members_view}
use Rattle.index_config.specs.Rules.{under}
use Rattle.index_config.specs.Tables.{is_known, unknown_unless, unknown_faults}
use Rattle.index_config.proofs.tables.check_known.Goals as goal

pub loop-key-preserved : goal.loop-key-preserved
loop-key-preserved c =
    let path = c.args.here.now.path in
    let rest = unknown_faults c.args.place path (members_view c.next.new.self) in
    ap (λ x. x ++ rest) c.in_ok-check_known_key.ensures ∙ append_assoc c.loop-key.faults _ rest
    ∙ ap (λ k. c.loop-key.faults ++ (unknown_unless (is_known c.args.place k) (under path k) ++ rest)) c.as_str.ensures.value
    ∙ ap (λ m. c.loop-key.faults ++ unknown_faults c.args.place path (members_view m)) (sym c.in-Some-2.ensures.steps) ∙ c.loop-key.invariant
