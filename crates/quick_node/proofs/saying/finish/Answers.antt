use Rattle.std.proofs.Common.{◌≡◌, ◌++◌, ◌∙◌, [], append-nil, ap, inl, inr, refl, sym, subst, ℕ, List, map}
use Rattle.std.specs.Prelude.{Option, Some}
use Rattle.index_config.specs.declared.config.IndexConfig.{IndexConfig}
use Rattle.index_world.specs.Configuration.{config_or, configuration}
use Rattle.index_world.specs.Core.{IsConfigured}
use Rattle.thread_run.proofs.RunCounts.{configured_so}
use Rattle.quick_node.proofs.SaidLines.{says_none, says_by}
use Rattle.quick_node.specs.Runs.{RunSays, Said}
use Rattle.quick_node.specs.Saying.{SaysSome, SaysUpTo}
use Rattle.quick_node.specs.declared.error_line.End.{End as Ended}
use Rattle.quick_node.proofs.saying.finish.Goals as goal
use Rattle.quick_node.proofs.saying.finish.Goals.{then-memory, else-memory}

pub returns-clause-ran : goal.returns-clause-ran
returns-clause-ran g c core log held is_log stands told at =
    let config = config_or (configuration core.history) in
    let count = g.L.SourceLog.fault_count in
    let did = c.run-world.ensures.ran core log is_log stands told in
    let Holds : Said → Type 0 = λ said.
    (config : IndexConfig) × IsConfigured config core
    × RunSays config log core did.exit c.args.options (map count c.args.logs.items) (map count c.run-world.result.logs.items) c.args.requests.items said in
    let wrote : (text : List ℕ) × (g.W.Sink.content c.if-memory.output ≡ Some (held ++ text)) × SaysSome Holds text c.if-memory.end =
    elim c.if-memory.branch [
      | then-memory w ↦ ([], ap g.W.Sink.content w.output-is ∙ at ∙ ap Some (sym (append-nil held)), says_none Holds c.if-memory.end w.end-is)
      | else-memory w ↦
          let s = w.say_run-end.ensures.writes held at in
          let said : Said = record { replies = c.run-world.result.replies.items; ends = c.run-world.result.ends.items; settled = c.run-world.result.settled } in (
            s.0,
            ap g.W.Sink.content w.output-is ∙ s.1,
            says_by Holds said s.0 w.say_run-end.result c.if-memory.end w.end-is (
              config,
              configured_so c.args.world core log stands,
              did.said w.if-memory.false,
            )
                (subst (λ es. SaysUpTo (record { replies = c.run-world.result.replies.items; ends = es; settled = c.run-world.result.settled }) s.0 w.say_run-end.result) w.as_slice-else-memory.ensures.value
                (subst (λ rs. SaysUpTo (record { replies = rs; ends = w.as_slice-else-memory.result.now; settled = c.run-world.result.settled }) s.0 w.say_run-end.result) w.as_slice.ensures.value s.2)),
          )
    ] in
    record {
      exit = did.exit;
      goes_on = did.goes_on;
      kept = did.stands.kept;
      tells = c.unload-store.ensures.told ∙ did.stands.told;
      world = did.stands.world;
      faults = c.unload-store.ensures.faults ∙ did.stands.store_faults;
      text = wrote.0;
      written = wrote.1;
      says = wrote.2;
    }
