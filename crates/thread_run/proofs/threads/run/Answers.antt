use Rattle.std.proofs.Common.{◌≡◌, ◌≤◌, ◌<◌, arith, inl, inr}
use Rattle.std.specs.List.{AllByRecursion}
use Rattle.std.specs.Prelude.{Some, take}
use Rattle.byte_fields.specs.Causes.{last_count}
use Rattle.index_world.specs.Configuration.{config_or, configuration}
use Rattle.thread_run.proofs.AskedTexts.{asked_utf8}
use Rattle.thread_run.proofs.Did.{RanTo, none_ran, ran_to, settled_did, unsettled_did}
use Rattle.thread_run.proofs.RunCounts.{all_take, configured_so, run_says}
use Rattle.thread_run.proofs.threads.run.Goals as goal

pub returns-then-options-clause-ran : goal.returns-then-options-clause-ran
returns-then-options-clause-ran g c core log is_log stands tell =
    let t = g.L.SourceLog in
    let config = config_or (configuration core.history) in
    let configured = configured_so c.args.world core log stands in
    let texts = asked_utf8 config in
    let end = c.run_unsettled-end.result in
    let counted : end.world.store_faults ≤ last_count = (let count = c.faults-count.ensures in let low = c.faults-count.type_inv in omega (arith, count, low)) in
    let some : 0 < c.args.options.indexers = (let n = c.requires.indexers.0 in omega (arith, n)) in
    let searchers : 0 < c.args.options.searchers = (let n = c.requires.searchers.0 in omega (arith, n)) in
    let ran : RanTo t.fault_count c.args.options config log core c.args.logs.items c.args.requests.items end = elim c.run_unsettled-end.ensures.went [
      | inl none ↦ none_ran t.fault_count c.args.options config c.args.world log core c.args.logs.items c.args.requests.items end none stands
      | inr has ↦ ran_to t.told t.fault_count t.since c.args.options c.args.world c.args.logs.items c.args.requests.items end has log core stands (all_take (λ own. t.told own ≡ Some log) c.args.options.indexers c.args.logs.items tell) c.requires.indexers.2 some config is_log configured texts counted searchers
    ] in
    run_says t.fault_count c.args.options log core c.args.logs.items c.args.requests.items c.settled.result c.requires.indexers.2
    (settled_did t.fault_count c.args.options config log core c.args.logs.items c.args.requests.items end ran c.settled.result is_log c.if-options.true c.settled.ensures)

pub returns-else-options-clause-ran : goal.returns-else-options-clause-ran
returns-else-options-clause-ran g c core log is_log stands tell =
    let t = g.L.SourceLog in
    let config = config_or (configuration core.history) in
    let configured = configured_so c.args.world core log stands in
    let texts = asked_utf8 config in
    let end = c.run_unsettled-end.result in
    let counted : end.world.store_faults ≤ last_count = (let count = c.faults-count.ensures in let low = c.faults-count.type_inv in omega (arith, count, low)) in
    let some : 0 < c.args.options.indexers = (let n = c.requires.indexers.0 in omega (arith, n)) in
    let searchers : 0 < c.args.options.searchers = (let n = c.requires.searchers.0 in omega (arith, n)) in
    let ran : RanTo t.fault_count c.args.options config log core c.args.logs.items c.args.requests.items end = elim c.run_unsettled-end.ensures.went [
      | inl none ↦ none_ran t.fault_count c.args.options config c.args.world log core c.args.logs.items c.args.requests.items end none stands
      | inr has ↦ ran_to t.told t.fault_count t.since c.args.options c.args.world c.args.logs.items c.args.requests.items end has log core stands (all_take (λ own. t.told own ≡ Some log) c.args.options.indexers c.args.logs.items tell) c.requires.indexers.2 some config is_log configured texts counted searchers
    ] in
    run_says t.fault_count c.args.options log core c.args.logs.items c.args.requests.items end c.requires.indexers.2
    (unsettled_did t.fault_count c.args.options config log core c.args.logs.items c.args.requests.items end ran c.if-options.false)
